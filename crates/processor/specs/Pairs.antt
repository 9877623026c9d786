-- When two modes in turn are a lawful drive.
use Rattle.std.specs.Prelude.{ℕ, ◌+◌, ◌-◌, ◌*◌, ◌<◌, ◌≤◌}
use Rattle.processor.specs.Limits.{longest_switch, longest_frame}
use Rattle.processor.specs.declared.mode.Mode.{Mode}

-- The high mode is faster, each mode runs after the switch to it, and in a frame the pair has more cycles than the low
-- mode alone would have.
pub record LawfulPair (low high : Mode) (up down low_time high_time : ℕ) : Type 0 where
  pub faster : low.speed < high.speed
  pub low_runs : down < low_time
  pub high_runs : up < high_time
  pub gains : low.speed * (low_time + high_time) < low.speed * (low_time - down) + high.speed * (high_time - up)

-- its figures are within their limits
pub record WithinLimits (up down low_time high_time : ℕ) : Type 0 where
  pub short_up : up ≤ longest_switch
  pub short_down : down ≤ longest_switch
  pub short_frame : low_time + high_time ≤ longest_frame
