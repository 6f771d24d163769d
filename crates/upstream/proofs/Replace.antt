-- `replace` of the store: S10, and when it succeeds.
-- Assumes nothing.
use Prim.Native.Nat.{ℕ, ◌+◌, ◌<◌}
use mathlib.Core.Path.{◌≡◌, refl, sym, ap, ◌∙◌}
use mathlib.Core.Bool.{Bool, true, cond}
use mathlib.Core.Logic.Iff
use mathlib.Core.Logic.{◌↔◌}
use mathlib.Core.Option.{none, some}
use native.Mathlib.Numerals.{add-one}
use lib.ListN.{length, set}
use borrow.Author.Tests.{leb-false, lt-leb, not-false}
use Rattle.rules.specs.Limits.{Limits}
use Rattle.rules.specs.Commands.{AnswerTo}
use Rattle.rules.specs.Table.{Registry, Store, publication_of, payload_of, revision_of}
use Rattle.rules.specs.Conditions.{owned_by}
use Rattle.rules.specs.Rows.{replace_row, tests, step}
use Rattle.rules.specs.Sound.{StoreSound}
use Rattle.rules.specs.VisibleTable.{visible_table, lookup, put}
use Rattle.rules.specs.declared.PublicationId.{PublicationId}
use Rattle.rules.specs.declared.Owner.{Owner}
use Rattle.rules.specs.declared.Port.{Port}
use Rattle.rules.specs.declared.Publication.{Publication}
use Rattle.rules.specs.declared.Command.{Command}
use Rattle.rules.specs.declared.Command.TheVariants.{Replace}
use Rattle.rules.proofs.Clear.{Clear, clear_passes}
use Rattle.rules.proofs.Refusals.{step_keeps}
use Rattle.rules.proofs.VisibleAfter.{replace_finds, replace_shows}
use Rattle.upstream.specs.Answers.{is_ok, IfOk, IfErr}
use Rattle.upstream.specs.Registry.{domain_id, Unchanged}
use Rattle.upstream.specs.Store.{registry_view, values, revisions, value_at, revision_at, StoreWf, Same}
use Rattle.upstream.proofs.Numbers.{owned_exactly}
use Rattle.upstream.proofs.Held.{held_payload}
use Rattle.upstream.proofs.Wf.{length-values, value_is}
use Rattle.upstream.proofs.Outcomes.{unchanged, command_ok, command_same, command_returns, command_wf, command_if_ok}

module _ (L : Limits) (id : PublicationId) (owner : Owner) (generation : ℕ) where
  -- what holds before, where it succeeds
  pub record Replaceable (old : Store) : Type 0 where
    pub S10_7 : id.0 < length (values old)
    pub S10_8 : (publication_of old id).visible ≡ true
    pub S10_9 : (publication_of old id).owner ≡ owner
    pub S10_10 : (publication_of old id).generation ≡ generation
    pub S10_13 : revision_at old id.0 < L.top

  pub record ReplaceOk (value : ℕ) (old : Store) (earlier : ℕ) (final : Store) : Type 0 where
    pub before : Replaceable old
    pub S10_11 : value_at old id.0 ≡ some earlier
    pub S10_12 : values final ≡ set (values old) id.0 (some value)
    pub S10_14 : revisions final ≡ set (revisions old) id.0 (revision_at old id.0 + 1)
    pub S10_15 : (q : Port) → visible_table final q ≡ put (visible_table old) (publication_of old id).port (some value) q
    pub S10_16 : lookup old (publication_of old id).port ≡ some earlier

  pub record ReplaceClauses (value : ℕ) (old final : Store) (out : AnswerTo (Replace id owner generation value)) : Type 0 where
    pub S10_2 : StoreWf final
    pub S10_3 : Unchanged (registry_view final) (registry_view old)
    pub S10_4 : domain_id (registry_view final) ≡ domain_id (registry_view old)
    pub S10_5 : IfErr out (λ back. Same final old)
    pub S10_6 : IfErr out (λ back. back ≡ value)
    pub ok : IfOk out (λ earlier. ReplaceOk value old earlier final)

module _ (L : Limits) (s : Store) (h : StoreSound L s) (p : PublicationId) (o : Owner) (g v : ℕ) where
  -- the row lets it pass exactly then

  replaceable_exactly : Clear (replace_row L s p o g) ↔ Replaceable L p o g s
  replaceable_exactly = (to, back)
    where
      e : Publication
      e = publication_of s p

      to : Clear (replace_row L s p o g) → Replaceable L p o g s
      to k =
          let owned = (owned_exactly o g e).0 (not-false (owned_by o g e) k.1.0) in
          record {
            S10_7 = rw (length-values L s h) (leb-false (length s.registry.publications) p.0 k.0);
            S10_8 = not-false e.visible k.1.1.0;
            S10_9 = owned.0;
            S10_10 = owned.1;
            S10_13 = leb-false L.top (revision_of s p) k.1.1.1.0;
          }

      back : Replaceable L p o g s → Clear (replace_row L s p o g)
      back r = (
        lt-leb (length s.registry.publications) p.0 (rw (length-values L s h) at r.S10_7),
        (
          rw ((owned_exactly o g e).1 (r.S10_9, r.S10_10)),
          (rw r.S10_8, (lt-leb L.top (revision_of s p) r.S10_13, tt)),
        ),
      )

  pub replace_S10 : ReplaceClauses L p o g v s (step L s (Replace p o g v)).table (step L s (Replace p o g v)).answer
  replace_S10 =
      record {
        S10_2 = command_wf L s c h;
        S10_3 = unchanged (step L s c).table.registry s.registry stays;
        S10_4 = ap (λ (t : Registry). t.domain) stays;
        S10_5 = command_same L s c;
        S10_6 = command_returns L s c;
        ok =
            command_if_ok L s c (ReplaceOk L p o g v s)
            (λ k.
            let r = replaceable_exactly.0 k in
            let kept = h.registry.s2 p r.S10_8 in
            let e = clear_passes (tests L s c) k in
            record {
              before = r;
              S10_11 = value_is L s h p.0 ∙ ap (λ (b : Bool). cond b (some (payload_of s p)) none) kept;
              S10_12 = held_payload s.registry.publications s.payloads p.0 v kept;
              S10_14 = ap (λ (n : ℕ). set s.revisions p.0 n) (sym (add-one (revision_of s p)));
              S10_15 = replace_shows L s h p o g v e;
              S10_16 = replace_finds L s h p o g v e;
            });
      }
    where
      c : Command
      c = Replace p o g v

      stays : (step L s c).table.registry ≡ s.registry
      stays = step_keeps L s c (λ u. u.registry ≡ s.registry) refl (λ e. refl)

  pub replace_exactly : (is_ok (step L s (Replace p o g v)).answer ≡ true) ↔ Replaceable L p o g s
  replace_exactly = Iff.trans (command_ok L s (Replace p o g v)) replaceable_exactly
