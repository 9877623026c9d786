-- How a set of tasks is kept.
use Rattle.std.specs.Prelude.{◌≤◌, vec_len, vec_capacity}
use Rattle.demand.specs.declared.set.TaskSet.TheInside.{Inside}
use Rattle.demand.specs.Limits.{most_tasks}
use Rattle.demand.specs.Ranks.{Apart}

pub record IsTaskSet (s : Inside) : Type 0 where
  pub few : vec_len s.tasks ≤ most_tasks
  pub room : most_tasks ≤ vec_capacity s.tasks
  pub apart : Apart s.tasks.items
