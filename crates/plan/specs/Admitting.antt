-- What a plan keeps, and what it answers to a task.
use Rattle.std.specs.Prelude.{◌≡◌, ℕ, ◌+◌, ◌<◌, ◌≤◌, Bool, true, false, cond, ◌⊎◌, List, [], ◌∷◌, ◌++◌, length, Some, None, Option, Result, MatchResult, nat_lt}
use Rattle.processor.specs.Candidates.{Candidate}
use Rattle.processor.specs.declared.drive.Drive.{Drive}
use Rattle.processor.specs.declared.refusal.Refusal.{Refusal}
use Rattle.processor.specs.declared.refusal.Refusal.TheVariants.{TaskFigure, RankTaken, PlanFull, NoTickets, OutsideSpan, NoDrive}
use Rattle.processor.specs.declared.table.Processor.{Processor}
use Rattle.demand.specs.Figures.{Within, figures_of}
use Rattle.demand.specs.Limits.{most_tasks}
use Rattle.demand.specs.Ranks.{has_rank}
use Rattle.demand.specs.declared.task.Figures.{Figures}
use Rattle.demand.specs.declared.task.Task.{Task}
use Rattle.plan.specs.Feasible.{Cheapest, NoCandidate}

abbrev pub last_ticket : ℕ
last_ticket = 65535

-- The tasks are within the policy's span, and the drive is a cheapest of the candidates that are feasible for them. A
-- drive meets tasks when it is feasible for them.
pub record Sound (t : Processor) (span : List Task → Bool) (meets : List Task → Drive → Type 0) (ts : List Task) (d : Drive) : Type 0 where
  pub spanned : span ts ≡ true
  pub cheapest : Cheapest t (meets ts) d

-- the first of the checks before the search that a task fails, in their order
abbrev pub turned_away : (List Task → Bool) → List Task → ℕ → Task → Option Refusal
turned_away span ts given task =
    cond (has_rank task.rank ts) (Some RankTaken)
    (cond (nat_lt (length ts) most_tasks)
    (cond (nat_lt given last_ticket) (cond (span (ts ++ task ∷ [])) None (Some OutsideSpan)) (Some NoTickets))
    (Some PlanFull))

-- The right answer to the figures of a task. A ticket: the figures are within their limits, no check fails, some candidate
-- is feasible for the tasks with it, and it is the ticket after those that were given. A refusal: that of the first check
-- that fails, or that no candidate is feasible.
abbrev pub Admits : Processor → (List Task → Bool) → (List Task → Drive → Type 0) → List Task → ℕ → Figures → Result ℕ Refusal → Type 0
Admits t span meets ts given figures r =
    MatchResult r
    (λ ticket. (ticket ≡ given + 1)
    × ((task : Task) × (figures_of task ≡ figures) × (turned_away span ts given task ≡ None) × ((d : Drive) × Candidate t d × meets (ts ++ task ∷ []) d)))
    (λ refusal. ((refusal ≡ TaskFigure) × (Within figures → ⊥))
    ⊎ ((task : Task) × (figures_of task ≡ figures)
    × ((turned_away span ts given task ≡ Some refusal)
    ⊎ ((turned_away span ts given task ≡ None) × (refusal ≡ NoDrive) × NoCandidate t (meets (ts ++ task ∷ []))))))

-- the tasks after an answer: one more where it is a ticket
abbrev pub HoldsAfter : List Task → Figures → List Task → Result ℕ Refusal → Type 0
HoldsAfter ts figures us r =
    MatchResult r (λ _. (task : Task) × (figures_of task ≡ figures) × (us ≡ ts ++ task ∷ [])) (λ _. us ≡ ts)

-- what the search says of the tasks with the newest among them
abbrev pub Settles : Processor → (List Task → Bool) → (List Task → Drive → Type 0) → List Task → ℕ → Result Drive Refusal → Type 0
Settles t span meets ts ticket r =
    MatchResult r (λ d. (ticket ≤ last_ticket) × (span ts ≡ true) × Cheapest t (meets ts) d)
    (λ refusal. ((refusal ≡ NoTickets) × (last_ticket < ticket))
    ⊎ (((refusal ≡ OutsideSpan) × (ticket ≤ last_ticket) × (span ts ≡ false))
    ⊎ ((refusal ≡ NoDrive) × (ticket ≤ last_ticket) × (span ts ≡ true) × NoCandidate t (meets ts))))
