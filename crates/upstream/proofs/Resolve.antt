-- `resolve` of the registry, R10, and of the store, which upstream has not.
-- Assumes nothing.
use Prim.Native.Nat.{◌<◌}
use mathlib.Core.Path.{◌≡◌, sym, ◌∙◌}
use mathlib.Core.Bool.{true}
use mathlib.Core.Logic.{⊎_elim}
use lib.ListN.{length}
use borrow.Author.Tests.{not-false, not-true}
use Rattle.lists.proofs.Search.{first_passes}
use Rattle.rules.specs.Limits.{Limits}
use Rattle.rules.specs.Table.{Registry, Store, blank_publication, at}
use Rattle.rules.specs.Conditions.{visible_on, port_held, resolved}
use Rattle.rules.specs.Rows.{resolve_row, step}
use Rattle.rules.specs.RegistryRows.{CallAnswer, resolve, registry_step}
use Rattle.rules.specs.Sound.{RegistrySound}
use Rattle.rules.specs.declared.PublicationId.{PublicationId}
use Rattle.rules.specs.declared.Port.{Port}
use Rattle.rules.specs.declared.Refusal.{Refusal}
use Rattle.rules.specs.declared.Command.TheVariants.{Resolve}
use Rattle.rules.proofs.Clear.{Clear}
use Rattle.rules.proofs.Refusals.{First}
use Rattle.upstream.specs.Answers.{IfOk, IfErr}
use Rattle.upstream.specs.Registry.{publications}
use Rattle.upstream.specs.Store.{registry_view}
use Rattle.upstream.proofs.Conflicts.{PortFree, visible_there, port_free_exactly}
use Rattle.upstream.proofs.Outcomes.{call_if_ok, call_refusals, command_if_ok, command_refusals}

pub record ResolveOk (port : Port) (self : Registry) (id : PublicationId) : Type 0 where
  pub R10_1 : id.0 < length (publications self)
  pub R10_2 : (at (publications self) id).visible ≡ true
  pub R10_3 : (at (publications self) id).port ≡ port

pub record ResolveClauses (port : Port) (self : Registry) (out : CallAnswer (resolve port)) : Type 0 where
  pub ok : IfOk out (ResolveOk port self)
  pub R10_4 : IfErr out (λ b. PortFree self port)

module _ (L : Limits) (q : Port) where
  passes : (t : Registry) → Clear (resolve_row L t q) → ResolveOk q t (resolved t q)
  passes t k =
      let held = not-false (port_held t q) k.0 in
      let there = visible_there t q (resolved t q).0 (first_passes (visible_on q) t.publications blank_publication held) in
      record { R10_1 = there.0; R10_2 = there.1; R10_3 = there.2 }

  stops : (t : Registry) (r : Refusal) → First (resolve_row L t q) r → PortFree t q
  stops t r f = (port_free_exactly t q).0 (⊎_elim (λ m. not-true (port_held t q) m.0) (λ m. absurd m.1) f)

  pub resolve_R10 : (t : Registry) → ResolveClauses q t (registry_step L t (resolve q)).answer
  resolve_R10 t =
      record {
        ok = call_if_ok L t (resolve q) (λ x u. ResolveOk q t x) (passes t);
        R10_4 = λ r b e. stops t r ((call_refusals L t (resolve q) r).0 e);
      }

  pub store_resolve : (s : Store) → ResolveClauses q (registry_view s) (step L s (Resolve q)).answer
  store_resolve s =
      record {
        ok = command_if_ok L s (Resolve q) (λ x u. ResolveOk q s.registry x) (passes s.registry);
        R10_4 = λ r b e. stops s.registry r ((command_refusals L s (Resolve q) r).0 e);
      }

  -- in a sound registry it is the only one that is visible there
  pub resolve_only : (t : Registry) → RegistrySound L t
      → IfOk (registry_step L t (resolve q)).answer (λ x.
      (p : PublicationId) → (at (publications t) p).visible ≡ true → (at (publications t) p).port ≡ q → p ≡ x)
  resolve_only t s x e p v k = let found = (resolve_R10 t).ok x e in s.s3.ports p x v found.R10_2 (k ∙ sym found.R10_3)
