-- A set with one task less asks no more.
use Rattle.std.specs.Prelude.{◌≡◌, ℕ, zero, suc, ◌+◌, ◌≤◌, List, [], ◌∷◌, map, sum_by, refl}
use Rattle.std.proofs.Common.{ap}
use mathlib.Core.List.Memᴰ
use mathlib.Core.List.{Memᴰ}
use native.Mathlib.Omega.{arith}
use Rattle.std.proofs.Math.Nat.{le_trans}
use Rattle.std.specs.List.{remove}
use Rattle.std.proofs.lemmas.List.Sums.{sum_by-cons}
use Rattle.demand.specs.Charges.{Charged}
use Rattle.demand.specs.Demand.{due_cycles, taken_cycles, demand, above, EdfFull, FpFull}

-- ---- the task at a place left out

pub map_removed : {X Y : Type 0} (f : X → Y) (xs : List X) (i : ℕ) → map f (remove xs i) ≡ remove (map f xs) i
map_removed f [] zero = refl
map_removed f [] (suc i) = refl
map_removed f (x ∷ xs) zero = refl
map_removed f (x ∷ xs) (suc i) = ap (λ ys. f x ∷ ys) (map_removed f xs i)

pub member_removed : {X : Type 0} (xs : List X) (i : ℕ) (x : X) → Memᴰ x (remove xs i) → Memᴰ x xs
member_removed [] zero x m = m
member_removed [] (suc i) x m = m
member_removed (y ∷ xs) zero x m = Memᴰ.tail m
member_removed (y ∷ xs) (suc i) x (Memᴰ.head e) = Memᴰ.head e
member_removed (y ∷ xs) (suc i) x (Memᴰ.tail m) = Memᴰ.tail (member_removed xs i x m)

pub sum_by_removed : (f : Charged → ℕ) (cs : List Charged) (i : ℕ) → sum_by f (remove cs i) ≤ sum_by f cs
sum_by_removed f [] zero = omega arith
sum_by_removed f [] (suc i) = omega arith
sum_by_removed f (c ∷ cs) zero = omega (arith, sum_by-cons f c cs)
sum_by_removed f (c ∷ cs) (suc i) = omega (arith, sum_by_removed f cs i, sum_by-cons f c cs, sum_by-cons f c (remove cs i))

module _ (Z : ℕ → ℕ) (cs : List Charged) (i : ℕ) where
  pub edf_removed : EdfFull cs Z → EdfFull (remove cs i) Z
  unfolding demand
  edf_removed f t b = le_trans (sum_by_removed (due_cycles t) cs i) (f t b)

  pub fp_removed : FpFull cs Z → FpFull (remove cs i) Z
  unfolding above
  fp_removed f d m = same (f d (member_removed cs i d m))
    where
      same : (t : ℕ) × ((1 ≤ t) × (t ≤ d.deadline) × (d.cycles + sum_by (taken_cycles d.rank t) cs ≤ Z t))
          → (t : ℕ) × ((1 ≤ t) × (t ≤ d.deadline) × (d.cycles + sum_by (taken_cycles d.rank t) (remove cs i) ≤ Z t))
      same (t, (b, e, h)) = (t, (b, e, omega (arith, h, sum_by_removed (taken_cycles d.rank t) cs i)))

-- ---- no task

module _ (Z : ℕ → ℕ) where
  pub edf_empty : EdfFull [] Z
  unfolding demand
  edf_empty t b = omega arith

  pub fp_empty : FpFull [] Z
  fp_empty c m = absurd (Memᴰ.not-nil m)
