-- The figures of a task, and which of them a task may have.
use Rattle.std.specs.Prelude.{◌≡◌, ℕ, ◌≤◌, Result, MatchResult}
use Rattle.processor.specs.declared.refusal.Refusal.{Refusal}
use Rattle.processor.specs.declared.refusal.Refusal.TheVariants.{TaskFigure}
use Rattle.demand.specs.declared.task.Figures.{Figures}
use Rattle.demand.specs.declared.task.Task.{Task}
use Rattle.demand.specs.Limits.{last_rank, most_cycles, longest_fixed, longest_period}

-- each figure is within its limits
pub record Within (f : Figures) : Type 0 where
  pub ranked : 1 ≤ f.rank
  pub last : f.rank ≤ last_rank
  pub works : 1 ≤ f.cycles
  pub light : f.cycles ≤ most_cycles
  pub brief : f.fixed ≤ longest_fixed
  pub often : f.period ≤ longest_period
  pub due : 1 ≤ f.deadline
  pub constrained : f.deadline ≤ f.period

abbrev pub figures_of : Task → Figures
figures_of t = record { rank = t.rank; cycles = t.cycles; fixed = t.fixed; period = t.period; deadline = t.deadline }

-- the task of figures that are within their limits, and a refusal of others
abbrev pub TaskOf : Figures → Result Task Refusal → Type 0
TaskOf f r = MatchResult r (λ t. Within f × (figures_of t ≡ f)) (λ e. (e ≡ TaskFigure) × (Within f → ⊥))

-- other cycles and another fixed time, and all else the same
abbrev pub with_work : ℕ → ℕ → Figures → Figures
with_work n m f = record { rank = f.rank; cycles = n; fixed = m; period = f.period; deadline = f.deadline }

abbrev pub no_figures : Figures
no_figures = record { rank = 0; cycles = 0; fixed = 0; period = 0; deadline = 0 }

-- cycles and a fixed time that a task may have
pub record Work (n m : ℕ) : Type 0 where
  pub works : 1 ≤ n
  pub light : n ≤ most_cycles
  pub brief : m ≤ longest_fixed

-- the rank, the period and the deadline
abbrev pub times_of : Task → ℕ × ℕ × ℕ
times_of t = (t.rank, t.period, t.deadline)
