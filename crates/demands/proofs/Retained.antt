-- The handles that a table's store retains are those that the table keeps; and an observation shows them.
-- Assumes nothing.
use Prim.Native.Nat.{ℕ, zero, suc, ◌≤◌}
use mathlib.Core.Path.{◌≡◌, refl, sym, ap, ◌∙◌}
use mathlib.Core.Bool.{cond}
use mathlib.Core.List.{[], ◌∷◌}
use mathlib.Core.Logic.{⊎_elim}
use native.Mathlib.Nat.{eq-or-lt_of_le}
use native.Mathlib.Omega.{arith}
use lib.ListN.{length, get_or-eq_default}
use Rattle.lists.proofs.Bools.{either}
use Rattle.lists.proofs.Column.{get_or-padded}
use Rattle.lists.proofs.Total.{total, tally, tally-append}
use Rattle.rules.specs.Limits.{box}
use Rattle.rules.specs.Table.{Store, blank_publication, publication_of, payload_of}
use Rattle.rules.specs.Sound.{StoreSound}
use Rattle.rules.specs.declared.PublicationId.{PublicationId}
use Rattle.rules.specs.declared.Publication.{Publication}
use Rattle.rules.proofs.Linked.{weight, kept}
use Rattle.rules.proofs.Gone.{cell_list}
use Rattle.demands.specs.Calls.{stored}
use Rattle.demands.specs.Retained.{retained_at, retained_below, retained}

-- place by place
pub at_place : (u : Store) (p : PublicationId) → retained_at (stored u) p ≡ cell_list u p
at_place u p =
    rw (get_or-padded box.publications blank_publication u.registry.publications p.0, get_or-padded box.publications 0 u.payloads p.0)

-- past its end a table keeps nothing
beyond : (w : ℕ → ℕ) (u : Store) (n : ℕ) → length u.registry.publications ≤ n → weight w (publication_of u (record { 0 = n })) (payload_of u (record { 0 = n })) ≡ 0
beyond w u n h =
    ap (λ (e : Publication). weight w e (payload_of u (record { 0 = n }))) (get_or-eq_default u.registry.publications blank_publication h)

one : (w : ℕ → ℕ) (u : Store) (p : PublicationId) → tally w (cell_list u p) ≡ weight w (publication_of u p) (payload_of u p)
one w u p =
    either (λ b. tally w (cond b (payload_of u p ∷ []) []) ≡ cond b (w (payload_of u p)) 0) (omega arith) refl (publication_of u p).retained

below : (w : ℕ → ℕ) (u : Store) (n : ℕ) → tally w (retained_below (stored u) n) ≡ total n (λ i. weight w (publication_of u (record { 0 = i })) (payload_of u (record { 0 = i })))
unfolding retained_below
below w u zero = refl
below w u (suc n) =
    tally-append w (retained_below (stored u) n) (retained_at (stored u) (record { 0 = n }))
    ∙ rw (at_place u (record { 0 = n }), below w u n, one w u (record { 0 = n }))

-- a sum does not grow where nothing is added
still : (n m : ℕ) (f : ℕ → ℕ) → n ≤ m → ((i : ℕ) → n ≤ i → f i ≡ 0) → total m f ≡ total n f
still n zero f h z =
    let e : 0 ≡ n = omega arith in
    ap (λ (k : ℕ). total k f) e
still n (suc m) f h z =
    ⊎_elim (λ e. ap (λ (k : ℕ). total k f) (sym e)) (λ k. omega (arith, still n m f (omega arith) z, z m (omega arith))) (eq-or-lt_of_le h)

pub keeps : (w : ℕ → ℕ) (u : Store) → StoreSound box u → tally w (retained (stored u)) ≡ kept w u
keeps w u k =
    below w u box.publications
    ∙ still (length u.registry.publications) box.publications _ k.registry.s1.publication_room (beyond w u)
