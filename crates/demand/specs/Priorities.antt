-- Fixed priority: a time that holds can be moved to a release of a task above, or to the deadline.
use Rattle.std.specs.Prelude.{◌≡◌, ℕ, zero, suc, ◌+◌, ◌-◌, ◌*◌, ◌<◌, ◌≤◌, Bool, true, false, cond, ◌⊎◌, ◌↔◌, List, [], ◌∷◌, nat_lt, refl}
use Rattle.std.proofs.Common.{ap, inl, inr, arith}
use mathlib.Core.List.{Memᴰ}
use Rattle.std.proofs.lemmas.Bool.{ltb-true}
use Rattle.std.proofs.lemmas.List.Sums.{sum_by-cons}
use Rattle.demand.specs.Charges.{Charged}
use Rattle.supply.specs.Laws.{Lawful}
use Rattle.demand.specs.Demand.{taken_cycles, above, FpFull}
use Rattle.demand.specs.Points.{AllFit, Release, at, last, FpPoints, releases_of, first, rest}
use Rattle.demand.specs.Floors.{ceil_step}
use Rattle.demand.specs.Supplies.{monotone}

-- a task above rank of which t is a release
abbrev Released : ℕ → List Charged → ℕ → Type 0
Released rank cs t = (c : Charged) × Memᴰ c cs × (c.rank < rank) × ((k : ℕ) × (t ≡ k * c.period))

above_cons : (rank : ℕ) (c : Charged) (cs : List Charged) (t : ℕ) → above rank (c ∷ cs) t ≡ taken_cycles rank t c + above rank cs t
unfolding above
above_cons rank c cs t = sum_by-cons (taken_cycles rank t) c cs

-- what the tasks above take grows only after a release
pub above_step : (rank : ℕ) (cs : List Charged) → AllFit cs → (t : ℕ) → (above rank cs (suc t) ≤ above rank cs t) ⊎ Released rank cs t
above_step rank [] f t = unfold above in inl (omega arith)
above_step rank (c ∷ cs) f t =
    rw (above_cons rank c cs t, above_cons rank c cs (suc t)) (way (nat_lt c.rank rank) refl (ceil_step t c.period (first f).period) (above_step rank cs (rest f) t))
  where
    way : (b : Bool) → nat_lt c.rank rank ≡ b
        → (releases_of c (suc t) ≡ releases_of c t) ⊎ ((k : ℕ) × (t ≡ k * c.period))
        → (above rank cs (suc t) ≤ above rank cs t) ⊎ Released rank cs t
        → (cond b (releases_of c (suc t) * c.cycles) 0 + above rank cs (suc t) ≤ cond b (releases_of c t * c.cycles) 0 + above rank cs t)
        ⊎ Released rank (c ∷ cs) t
    way b e k (inr (d, m, r, s)) = inr (d, Memᴰ.tail m, r, s)
    way false e k (inl h) = inl (omega arith)
    way true e (inl g) (inl h) = inl (let j : releases_of c (suc t) * c.cycles ≡ releases_of c t * c.cycles = ap (λ x. x * c.cycles) g in omega arith)
    way true e (inr k) (inl h) = inr (c, Memᴰ.head refl, ltb-true c.rank rank e, k)

module _ {peak : ℕ} {Z : ℕ → ℕ} (laws : Lawful peak Z) (cs : List Charged) (fit : AllFit cs) where
  module _ (c : Charged) where
    -- from t, with fuel steps to the deadline
    climb : (fuel t : ℕ) → 1 ≤ t → t + fuel ≡ c.deadline → c.cycles + above c.rank cs t ≤ Z t
        → (p : ℕ) × (Release cs c p × (c.cycles + above c.rank cs p ≤ Z p))
    climb zero t b e h = (t, (last (omega arith), h))
    climb (suc fuel) t b e h = way (above_step c.rank cs fit t) (climb fuel (suc t) (omega arith) (omega arith))
      where
        way : (above c.rank cs (suc t) ≤ above c.rank cs t) ⊎ Released c.rank cs t
            → (c.cycles + above c.rank cs (suc t) ≤ Z (suc t) → (p : ℕ) × (Release cs c p × (c.cycles + above c.rank cs p ≤ Z p)))
            → (p : ℕ) × (Release cs c p × (c.cycles + above c.rank cs p ≤ Z p))
        way (inl g) next = next (omega (arith, g, h, monotone laws t (suc t) (omega arith)))
        way (inr (a, m, r, (k, s))) next = (t, (at a m r k s b (omega arith), h))

    release_within : (p : ℕ) → 1 ≤ c.deadline → Release cs c p → (1 ≤ p) × (p ≤ c.deadline)
    release_within p d (at a m r k s b e) = (b, e)
    release_within p d (last e) = (omega arith, omega arith)

  pub fp_exact : FpPoints cs Z ↔ FpFull cs Z
  fp_exact = (λ p c m. down c m (p c m), λ f c m. up c (f c m))
    where
      down : (c : Charged) → Memᴰ c cs
          → (p : ℕ) × (Release cs c p × (c.cycles + above c.rank cs p ≤ Z p))
          → (t : ℕ) × ((1 ≤ t) × (t ≤ c.deadline) × (c.cycles + above c.rank cs t ≤ Z t))
      down c m (p, (r, h)) = let w = release_within c p (fit c m).deadline r in (p, (w.0, w.1, h))

      up : (c : Charged)
          → (t : ℕ) × ((1 ≤ t) × (t ≤ c.deadline) × (c.cycles + above c.rank cs t ≤ Z t))
          → (p : ℕ) × (Release cs c p × (c.cycles + above c.rank cs p ≤ Z p))
      up c (t, (b, d, h)) = climb c (c.deadline - t) t b (omega arith) h
