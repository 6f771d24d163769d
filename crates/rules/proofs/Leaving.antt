-- Leaving out a lease is removing one place: identifiers rise, so at most one record has a given one.
-- Assumes nothing.
use Prim.Native.Nat.{suc, ◌<◌}
use mathlib.Core.Path.{◌≡◌, refl, ap}
use mathlib.Core.Bool.{Bool, true, false, ◌||◌, cond, false≢true}
use mathlib.Core.List.{List, [], ◌∷◌}
use native.Mathlib.Omega.{arith}
use borrow.Author.Tests.{eqb-true, ne_eqb}
use Rattle.lists.specs.Search.{some_pass, first_place, leave_out}
use Rattle.lists.specs.Removal.{remove}
use Rattle.lists.proofs.Every.{every_map}
use Rattle.lists.proofs.Removal.{leave_none}
use Rattle.rules.specs.Conditions.{is_lease}
use Rattle.rules.specs.Sound.{Rising}
use Rattle.rules.specs.declared.LeaseId.{LeaseId}
use Rattle.rules.specs.declared.Lease.{Lease}

pub leave_lease : (i : LeaseId) (ls : List Lease) → Rising ls → some_pass (is_lease i) ls ≡ true → leave_out (is_lease i) ls ≡ remove ls (first_place (is_lease i) ls)
unfolding remove
leave_lease i [] h e = absurd (false≢true e)
leave_lease i (l ∷ ls) h e = go (is_lease i l) refl (leave_lease i ls h.1) e
  where
    go : (b : Bool) → is_lease i l ≡ b → (some_pass (is_lease i) ls ≡ true → leave_out (is_lease i) ls ≡ remove ls (first_place (is_lease i) ls))
        → (b || some_pass (is_lease i) ls) ≡ true
        → cond b (leave_out (is_lease i) ls) (l ∷ leave_out (is_lease i) ls) ≡ remove (l ∷ ls) (cond b 0 (suc (first_place (is_lease i) ls)))
    go true f r k =
        let q = eqb-true l.id.0 i.0 f in
        leave_none (is_lease i) ls
        (every_map (λ m. l.id.0 < m.id.0) (λ m. is_lease i m ≡ false) (λ m lt. ne_eqb m.id.0 i.0 (λ z. omega arith)) ls h.0)
    go false f r k = ap (λ (xs : List Lease). l ∷ xs) (r k)
