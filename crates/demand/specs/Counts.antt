-- How many jobs of a task fall into a window, and when they do.
use Rattle.std.specs.Prelude.{◌≡◌, Bool, true, false, cond, get_or, nat_lt, ℕ, ◌+◌, ◌-◌, ◌*◌, ◌/◌, ◌<◌, ◌≤◌, List, length, sum_by}
use Rattle.std.proofs.Common.{arith, add-mul, mul-le-mul, mul-le-mul_left, mul-le-mul_right, div-mul-le_self, div-le_self}
use Rattle.std.proofs.lemmas.Nat.{div_below}
use Rattle.std.proofs.lemmas.Bool.Decides.{nat_tests}
use Rattle.processor.specs.Limits.{top_speed}
use Rattle.std.proofs.lemmas.List.Folds.{fold-map}
use Rattle.std.proofs.lemmas.List.Sums.{sum_by-le}
use Rattle.demand.specs.Limits.{longest_fixed, longest_period, most_charge}
use Rattle.demand.specs.declared.task.Task.{Task}
use Rattle.demand.specs.Charges.{Charged, charge, charges}
use Rattle.demand.specs.Demand.{jobs, releases, taken_cycles, above}

-- no more jobs arrive in a window than it has microseconds
pub releases_le : (T t : ℕ) → 1 ≤ T → releases T t ≤ t
releases_le T t h =
    let m : t * 1 ≤ t * T = mul-le-mul_left t h in
    let e = add-mul t 1 T in
    let b = div_below (t + T - 1) T (t + 1) h (omega arith) in
    omega arith

pub jobs_le : (D T t : ℕ) → 1 ≤ D → jobs D T t ≤ t
jobs_le D T t h = let d = div-le_self (t - D) T in grind (arith, nat_tests)

-- the job after k others of a window is due within it
pub due_within : (D T t k : ℕ) → k < jobs D T t → D + k * T ≤ t
due_within D T t k h =
    let a = div-mul-le_self (t - D) T in
    let q : (D ≤ t) × (k ≤ (t - D) / T) = grind (arith, nat_tests) in
    let m : k * T ≤ (t - D) / T * T = mul-le-mul_right T q.1 in
    let l = q.0 in
    omega arith

-- the end of the period after k others of a window is within it
pub turn_within : (T t k : ℕ) → k < t / T → (k + 1) * T ≤ t
turn_within T t k h =
    let a = div-mul-le_self t T in
    let m : (k + 1) * T ≤ t / T * T = mul-le-mul_right T (omega arith) in
    omega arith

-- a sum over charged tasks
pub sum_charged : (f : Charged → ℕ) (top : ℕ) (ts : List Task) → sum_by f (charges top ts) ≡ sum_by (λ t. f (charge top t)) ts
sum_charged f top ts = fold-map (λ a c. a + f c) (charge top) 0 ts

pub charge_le : (top : ℕ) (t : Task) → top ≤ top_speed → (charge top t).cycles ≤ most_charge
charge_le top t h = let m : t.fixed * top ≤ longest_fixed * top_speed = mul-le-mul t.brief h in omega (arith, t.light)

-- no task takes more cycles within a period
pub taken_le : (rank w top : ℕ) (t : Task) → w ≤ longest_period → top ≤ top_speed → taken_cycles rank w (charge top t) ≤ longest_period * most_charge
taken_le rank w top t h k = way (nat_lt t.rank rank)
  where
    most : releases t.period w * (charge top t).cycles ≤ longest_period * most_charge
    most =
        let few : releases t.period w ≤ longest_period = omega (arith, releases_le t.period w (omega (arith, t.due, t.constrained))) in
        mul-le-mul few (charge_le top t k)

    way : (b : Bool) → cond b (releases t.period w * (charge top t).cycles) 0 ≤ longest_period * most_charge
    way true = most
    way false = omega arith

pub above_le : (rank w top : ℕ) (ts : List Task) → w ≤ longest_period → top ≤ top_speed → above rank (charges top ts) w ≤ length ts * (longest_period * most_charge)
unfolding above
above_le rank w top ts h k =
    rw (sum_charged (taken_cycles rank w) top ts)
    (sum_by-le (λ t. taken_cycles rank w (charge top t)) (longest_period * most_charge) ts (λ i d l. taken_le rank w top (get_or ts i d) h k))
