-- Tasks charged at one peak speed.
use Rattle.std.specs.Prelude.{ℕ, ◌+◌, ◌*◌, List, map}
use Rattle.demand.specs.declared.task.Task.{Task}

-- a task by the cycles of a job, the fixed time at the peak speed included
pub record Charged : Type 0 where
  pub rank : ℕ
  pub cycles : ℕ
  pub period : ℕ
  pub deadline : ℕ

abbrev pub charge : ℕ → Task → Charged
charge peak t = record { rank = t.rank; cycles = t.cycles + t.fixed * peak; period = t.period; deadline = t.deadline }

abbrev pub charges : ℕ → List Task → List Charged
charges peak ts = map (charge peak) ts
