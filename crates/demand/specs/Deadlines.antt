-- Earliest deadline first: the condition at every time follows from that at the deadlines.
use Rattle.std.specs.Prelude.{◌≡◌, ℕ, zero, suc, ◌+◌, ◌-◌, ◌*◌, ◌/◌, ◌<◌, ◌≤◌, ◌⊎◌, ◌↔◌, List, [], ◌∷◌, refl}
use Rattle.std.proofs.Common.{sym, ◌∙◌, ap, ap₂, subst, inl, inr, arith, le_trans, le-div_iff_mul-le}
use mathlib.Core.List.{Memᴰ}
use Rattle.std.proofs.Math.Nat.{div-eq_of_lt, add-mul-div_right}
use Rattle.std.proofs.lemmas.Bool.{cases_lt}
use Rattle.std.proofs.lemmas.List.Sums.{sum_by-cons}
use Rattle.demand.specs.Charges.{Charged}
use Rattle.supply.specs.Laws.{Lawful}
use Rattle.demand.specs.Demand.{demand, due_cycles, EdfFull}
use Rattle.demand.specs.Listings.{Deadline, due, end}
use Rattle.demand.specs.Points.{Fit, AllFit, Shared, EdfPoints, jobs_of, first, rest}
use Rattle.demand.specs.Floors.{jobs_floor, floor_step}
use Rattle.demand.specs.Supplies.{monotone}

jobs_is : (c : Charged) → Fit c → (t : ℕ) → jobs_of c t ≡ (t + (c.period - c.deadline)) / c.period
jobs_is c f t = jobs_floor t c.deadline c.period f.period f.constrained

jobs_none : (c : Charged) → Fit c → jobs_of c 0 ≡ 0
jobs_none c f = jobs_is c f 0 ∙ div-eq_of_lt (omega (arith, f.deadline, f.period))

jobs_step : (c : Charged) → Fit c → (t : ℕ) → (jobs_of c (suc t) ≡ jobs_of c t) ⊎ ((k : ℕ) × (suc t ≡ c.deadline + k * c.period))
jobs_step c f t = way (floor_step x p f.period)
  where
    p : ℕ
    p = c.period

    x : ℕ
    x = t + (c.period - c.deadline)

    e : suc x ≡ suc t + (c.period - c.deadline)
    e = omega arith

    cut : (q : ℕ) → suc x ≡ q * c.period → suc t ≡ c.deadline + (q - 1) * c.period
    cut zero g = absurd (omega arith)
    cut (suc q) g = let r : suc q - 1 ≡ q = omega arith in rw r (omega (arith, f.constrained))

    way : (suc x / p ≡ x / p) ⊎ (suc x ≡ suc x / p * p) → (jobs_of c (suc t) ≡ jobs_of c t) ⊎ ((k : ℕ) × (suc t ≡ c.deadline + k * c.period))
    way (inl h) = inl (jobs_is c f (suc t) ∙ ap (λ y. y / p) (sym e) ∙ h ∙ sym (jobs_is c f t))
    way (inr h) = inr (suc x / p - 1, cut (suc x / p) h)

-- the jobs of m periods
jobs_whole : (c : Charged) → Fit c → (m : ℕ) → jobs_of c (m * c.period) ≡ m
jobs_whole c f m =
    jobs_is c f (m * c.period)
    ∙ ap (λ y. y / c.period) swap
    ∙ add-mul-div_right (c.period - c.deadline) m f.period
    ∙ ap (λ y. y + m) (div-eq_of_lt (omega (arith, f.deadline, f.period)))
    ∙ none
  where
    swap : m * c.period + (c.period - c.deadline) ≡ (c.period - c.deadline) + m * c.period
    swap = omega arith

    none : 0 + m ≡ m
    none = omega arith

jobs_join : (c : Charged) → Fit c → (m t : ℕ) → jobs_of c (t + m * c.period) ≡ jobs_of c t + jobs_of c (m * c.period)
jobs_join c f m t =
    jobs_is c f (t + m * c.period)
    ∙ ap (λ y. y / c.period) swap
    ∙ add-mul-div_right (t + (c.period - c.deadline)) m f.period
    ∙ ap₂ (λ x y. x + y) (sym (jobs_is c f t)) (sym (jobs_whole c f m))
  where
    swap : t + m * c.period + (c.period - c.deadline) ≡ (t + (c.period - c.deadline)) + m * c.period
    swap = omega arith

-- the jobs within h are those whose deadline is
pub jobs_bound : (c : Charged) → Fit c → (h k : ℕ) → k < jobs_of c h → c.deadline + k * c.period ≤ h
jobs_bound c f h k b =
    let j : suc k ≤ (h + (c.period - c.deadline)) / c.period = subst (λ x. suc k ≤ x) (jobs_is c f h) b in
    let g : suc k * c.period ≤ h + (c.period - c.deadline) = (le-div_iff_mul-le f.period).0 j in
    omega (arith, g, f.constrained)

pub bound_jobs : (c : Charged) → Fit c → (h k : ℕ) → c.deadline + k * c.period ≤ h → k < jobs_of c h
bound_jobs c f h k b =
    let g : suc k * c.period ≤ h + (c.period - c.deadline) = omega (arith, b, f.constrained) in
    let j : suc k ≤ (h + (c.period - c.deadline)) / c.period = (le-div_iff_mul-le f.period).1 g in
    subst (λ x. suc k ≤ x) (sym (jobs_is c f h)) j

demand_cons : (c : Charged) (cs : List Charged) (t : ℕ) → demand (c ∷ cs) t ≡ jobs_of c t * c.cycles + demand cs t
unfolding demand
demand_cons c cs t = sum_by-cons (due_cycles t) c cs

pub demand_none : (cs : List Charged) → AllFit cs → demand cs 0 ≡ 0
demand_none [] f = unfold demand in refl
demand_none (c ∷ cs) f =
    let below : demand cs 0 ≡ 0 = demand_none cs (rest f) in
    demand_cons c cs 0 ∙ ap₂ (λ x y. x * c.cycles + y) (jobs_none c (first f)) below ∙ omega arith

-- the demand grows only at a deadline
pub demand_step : (cs : List Charged) → AllFit cs → (t : ℕ) →
    (demand cs (suc t) ≤ demand cs t) ⊎ ((c : Charged) × Memᴰ c cs × ((k : ℕ) × (suc t ≡ c.deadline + k * c.period)))
demand_step [] f t = unfold demand in inl (omega arith)
demand_step (c ∷ cs) f t = rw (demand_cons c cs t, demand_cons c cs (suc t)) (way (jobs_step c (first f) t) (demand_step cs (rest f) t))
  where
    way : (jobs_of c (suc t) ≡ jobs_of c t) ⊎ ((k : ℕ) × (suc t ≡ c.deadline + k * c.period))
        → (demand cs (suc t) ≤ demand cs t) ⊎ ((d : Charged) × Memᴰ d cs × ((k : ℕ) × (suc t ≡ d.deadline + k * d.period)))
        → (jobs_of c (suc t) * c.cycles + demand cs (suc t) ≤ jobs_of c t * c.cycles + demand cs t)
        ⊎ ((d : Charged) × Memᴰ d (c ∷ cs) × ((k : ℕ) × (suc t ≡ d.deadline + k * d.period)))
    way (inr k) below = inr (c, Memᴰ.head refl, k)
    way (inl e) (inr (d, m, k)) = inr (d, Memᴰ.tail m, k)
    way (inl e) (inl h) = inl (let g : jobs_of c (suc t) * c.cycles ≡ jobs_of c t * c.cycles = ap (λ x. x * c.cycles) e in omega arith)

-- the demand of a common multiple of the periods adds up
pub demand_join : (cs : List Charged) (h : ℕ) → AllFit cs → Shared cs h → (t : ℕ) → demand cs (t + h) ≡ demand cs t + demand cs h
demand_join [] h f m t = unfold demand in refl
demand_join (c ∷ cs) h f m t =
    let n : (k : ℕ) × (h ≡ k * c.period) = m c (Memᴰ.head refl) in
    let j : jobs_of c (t + h) ≡ jobs_of c t + jobs_of c h = subst (λ x. jobs_of c (t + x) ≡ jobs_of c t + jobs_of c x) (sym n.1) (jobs_join c (first f) n.0 t) in
    let below : demand cs (t + h) ≡ demand cs t + demand cs h = demand_join cs h (rest f) (λ d i. m d (Memᴰ.tail i)) t in
    demand_cons c cs (t + h) ∙ ap₂ (λ x y. x * c.cycles + y) j below ∙ omega (arith, demand_cons c cs t, demand_cons c cs h)

module _ {peak : ℕ} {Z : ℕ → ℕ} (laws : Lawful peak Z) (cs : List Charged) (fit : AllFit cs) (h : ℕ) (positive : 1 ≤ h) (common : Shared cs h) where
  -- up to h the demand is that of the last deadline
  within : EdfPoints cs h Z → (t : ℕ) → t ≤ h → demand cs t ≤ Z t
  within p zero b = omega (arith, demand_none cs fit)
  within p (suc t) b = way (within p t (omega arith)) (demand_step cs fit t)
    where
      way : demand cs t ≤ Z t
          → (demand cs (suc t) ≤ demand cs t) ⊎ ((c : Charged) × Memᴰ c cs × ((k : ℕ) × (suc t ≡ c.deadline + k * c.period)))
          → demand cs (suc t) ≤ Z (suc t)
      way below (inl g) = le_trans g (le_trans below (monotone laws t (suc t) (omega arith)))
      way below (inr (c, m, (k, e))) = p (suc t) (due c m k e b)

  beyond : EdfPoints cs h Z → (fuel t : ℕ) → t ≤ fuel → demand cs t ≤ Z t
  beyond p zero t b = within p t (omega arith)
  beyond p (suc fuel) t b = way (cases_lt h t) (beyond p fuel (t - h))
    where
      way : (h < t) ⊎ (t ≤ h) → (t - h ≤ fuel → demand cs (t - h) ≤ Z (t - h)) → demand cs t ≤ Z t
      way (inr g) below = within p t g
      way (inl g) below =
          let e : t - h + h ≡ t = omega arith in
          let d : demand cs (t - h + h) ≡ demand cs (t - h) + demand cs h = demand_join cs h fit common (t - h) in
          let one : demand cs (t - h) ≤ Z (t - h) = below (omega arith) in
          let two : demand cs h ≤ Z h = p h (end refl) in
          let sum : demand cs (t - h + h) ≤ Z (t - h + h) = omega (arith, d, one, two, laws.joins (t - h) h) in
          subst (λ x. demand cs x ≤ Z x) e sum

  point_positive : (p : ℕ) → Deadline cs h p → 1 ≤ p
  point_positive p (due c m k e b) = omega (arith, (fit c m).deadline, e)
  point_positive p (end e) = omega arith

  pub edf_exact : EdfPoints cs h Z ↔ EdfFull cs Z
  edf_exact = (λ p t b. beyond p t t (omega arith), λ f p d. f p (point_positive p d))
