-- What the two policies ask of a supply.
use Rattle.std.specs.Prelude.{ℕ, ◌+◌, ◌-◌, ◌*◌, ◌/◌, ◌≤◌, cond, List, nat_lt, sum_by}
use mathlib.Core.List.{Memᴰ}
use Rattle.demand.specs.Charges.{Charged}

-- the jobs of a deadline and a period that arrive and are due within t
abbrev pub jobs : ℕ → ℕ → ℕ → ℕ
jobs deadline period t = cond (nat_lt t deadline) 0 ((t - deadline) / period + 1)

-- the cycles of a task's jobs that arrive and are due within t
abbrev pub due_cycles : ℕ → Charged → ℕ
due_cycles t c = jobs c.deadline c.period t * c.cycles

-- the sum over all tasks
unfoldable pub demand : List Charged → ℕ → ℕ
demand cs t = sum_by (due_cycles t) cs

-- earliest deadline first: in every window the demand is supplied
abbrev pub EdfFull : List Charged → (ℕ → ℕ) → Type 0
EdfFull cs Z = (t : ℕ) → 1 ≤ t → demand cs t ≤ Z t

-- the jobs of a period that arrive within t
abbrev pub releases : ℕ → ℕ → ℕ
releases period t = (t + period - 1) / period

-- the cycles that a task takes from those of a rank within t, where its own is smaller
abbrev pub taken_cycles : ℕ → ℕ → Charged → ℕ
taken_cycles rank t c = cond (nat_lt c.rank rank) (releases c.period t * c.cycles) 0

-- the sum over all tasks
unfoldable pub above : ℕ → List Charged → ℕ → ℕ
above rank cs t = sum_by (taken_cycles rank t) cs

-- fixed priority: each task has a time by its deadline at which it and all above it are supplied
abbrev pub FpFull : List Charged → (ℕ → ℕ) → Type 0
FpFull cs Z =
    (c : Charged) → Memᴰ c cs → (t : ℕ) × ((1 ≤ t) × (t ≤ c.deadline) × (c.cycles + above c.rank cs t ≤ Z t))
