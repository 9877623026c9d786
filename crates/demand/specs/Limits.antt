-- The limits of a task's figures. Times are in microseconds.
use Rattle.std.specs.Prelude.{ℕ, ◌+◌, ◌*◌}
use Rattle.processor.specs.Limits.{top_speed}

abbrev pub last_rank : ℕ
last_rank = 255

abbrev pub most_cycles : ℕ
most_cycles = 100000000

abbrev pub longest_fixed : ℕ
longest_fixed = 1000000

abbrev pub longest_period : ℕ
longest_period = 1000000

abbrev pub most_tasks : ℕ
most_tasks = 16

-- no hyperperiod within the span of earliest deadline first is longer
abbrev pub longest_span : ℕ
longest_span = 1000000

-- no job is charged more cycles
abbrev pub most_charge : ℕ
most_charge = most_cycles + longest_fixed * top_speed
