-- What every task keeps, and the times at which a policy's condition is tested.
use Rattle.std.specs.Prelude.{◌≡◌, ℕ, ◌+◌, ◌*◌, ◌<◌, ◌≤◌, List, ◌∷◌, refl}
use Rattle.std.proofs.Common.{subst, arith}
use mathlib.Core.List.Memᴰ
use mathlib.Core.List.{Memᴰ}
use Rattle.demand.specs.declared.task.Task.{Task}
use Rattle.demand.specs.Charges.{Charged, charge, charges}
use Rattle.demand.specs.Demand.{jobs, releases, demand, above}
use Rattle.demand.specs.Listings.{Deadline}

pub record Fit (c : Charged) : Type 0 where
  pub period : 1 ≤ c.period
  pub deadline : 1 ≤ c.deadline
  pub constrained : c.deadline ≤ c.period

abbrev pub AllFit : List Charged → Type 0
AllFit cs = (c : Charged) → Memᴰ c cs → Fit c

pub first : {c : Charged} {cs : List Charged} → AllFit (c ∷ cs) → Fit c
first {c} f = f c (Memᴰ.head refl)

pub rest : {c : Charged} {cs : List Charged} → AllFit (c ∷ cs) → AllFit cs
rest f d m = f d (Memᴰ.tail m)

pub charge_fit : (top : ℕ) (t : Task) → Fit (charge top t)
charge_fit top t = record { period = omega (arith, t.due, t.constrained); deadline = t.due; constrained = t.constrained }

pub charges_fit : (top : ℕ) (ts : List Task) → AllFit (charges top ts)
charges_fit top ts c i = let r = Memᴰ.of_map (charge top) ts i in subst Fit r.2 (charge_fit top r.0)

-- the jobs and the releases of a task
abbrev pub jobs_of : Charged → ℕ → ℕ
jobs_of c t = jobs c.deadline c.period t

abbrev pub releases_of : Charged → ℕ → ℕ
releases_of c t = releases c.period t

-- h is a multiple of every period
abbrev pub Shared : List Charged → ℕ → Type 0
Shared cs h = (c : Charged) → Memᴰ c cs → (m : ℕ) × (h ≡ m * c.period)

-- earliest deadline first, tested at the deadlines alone
abbrev pub EdfPoints : List Charged → ℕ → (ℕ → ℕ) → Type 0
EdfPoints cs h Z = (p : ℕ) → Deadline cs h p → demand cs p ≤ Z p

-- p is a release of a task above, within 1 to the deadline, or the deadline
pub data Release (cs : List Charged) (c : Charged) : ℕ → Type 0 where
  at : {p : ℕ} (a : Charged) → Memᴰ a cs → a.rank < c.rank → (k : ℕ) → p ≡ k * a.period → 1 ≤ p → p ≤ c.deadline → Release cs c p
  last : {p : ℕ} → p ≡ c.deadline → Release cs c p

-- fixed priority, tested at the releases alone
abbrev pub FpPoints : List Charged → (ℕ → ℕ) → Type 0
FpPoints cs Z =
    (c : Charged) → Memᴰ c cs → (p : ℕ) × (Release cs c p × (c.cycles + above c.rank cs p ≤ Z p))
