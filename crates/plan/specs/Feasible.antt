-- When a drive serves tasks, and which drive is cheapest.
use Rattle.std.specs.Prelude.{ℕ, ◌*◌, ◌≤◌, List}
use Rattle.processor.specs.Candidates.{Candidate}
use Rattle.processor.specs.Drives.{peak, energy_of, span_of}
use Rattle.processor.specs.declared.drive.Drive.{Drive}
use Rattle.processor.specs.declared.table.Processor.{Processor}
use Rattle.demand.specs.Charges.{Charged, charges}
use Rattle.demand.specs.declared.task.Task.{Task}

-- the tasks, charged at the drive's peak, meet the policy's full condition under the platform's supply for the drive
abbrev pub Feasible : (Drive → ℕ → ℕ) → (List Charged → (ℕ → ℕ) → Type 0) → List Task → Drive → Type 0
Feasible supply full ts d = full (charges (peak d) ts) (supply d)

-- the cost of one drive is at most that of another, as fractions
abbrev pub NoDearer : Drive → Drive → Type 0
NoDearer d e = energy_of d * span_of e ≤ energy_of e * span_of d

-- a candidate of least cost among those that meet a condition
pub record Cheapest (t : Processor) (meets : Drive → Type 0) (d : Drive) : Type 0 where
  pub candidate : Candidate t d
  pub feasible : meets d
  pub least : (e : Drive) → Candidate t e → meets e → NoDearer d e

-- no candidate meets a condition
abbrev pub NoCandidate : Processor → (Drive → Type 0) → Type 0
NoCandidate t meets = (d : Drive) → Candidate t d → meets d → ⊥
