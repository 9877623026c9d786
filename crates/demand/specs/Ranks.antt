-- The ranks of a list of tasks.
use Rattle.std.specs.Prelude.{ℕ, ◌≤◌, Bool, List, length, ◌==◌, ◌≢◌, AllPairs}
use Rattle.std.specs.List.{list_any}
use Rattle.demand.specs.declared.task.Task.{Task}
use Rattle.demand.specs.Limits.{most_tasks}

abbrev pub OtherRank : Task → Task → Type 0
OtherRank t u = t.rank ≢ u.rank

-- no two tasks have one rank
abbrev pub Apart : List Task → Type 0
Apart ts = AllPairs OtherRank ts

-- whether a task has the rank
abbrev pub has_rank : ℕ → List Task → Bool
has_rank n ts = list_any (λ t. t.rank == n) ts

-- a set that a plan may hold: at most sixteen tasks, no two of one rank
pub record Set (ts : List Task) : Type 0 where
  pub few : length ts ≤ most_tasks
  pub apart : Apart ts
