-- The speed pattern of two modes in turn, and what a drive supplies.
use Rattle.std.specs.Prelude.{ℕ, ◌+◌, ◌-◌, ◌*◌, ◌%◌, cond, nat_lt}
use Rattle.processor.specs.declared.drive.Drive.{Drive}
use Rattle.processor.specs.declared.drive.Drive.TheVariants.{Fixed, Pair as Turns}
use Rattle.processor.specs.declared.drive.Pair.{Pair}
use Rattle.supply.specs.Windows.{window, Least, least_upto}

-- Each frame is low_time with a switch of length down at its start, then high_time with one of length up.
pub record Pattern : Type 0 where
  pub down : ℕ
  pub up : ℕ
  pub low_time : ℕ
  pub high_time : ℕ
  pub low_speed : ℕ
  pub high_speed : ℕ

abbrev pub frame : Pattern → ℕ
frame m = m.low_time + m.high_time

-- the speed in microsecond i of a frame
abbrev pub speed_in_frame : Pattern → ℕ → ℕ
speed_in_frame m i =
    cond (nat_lt i m.down) 0 (cond (nat_lt i m.low_time) m.low_speed (cond (nat_lt i (m.low_time + m.up)) 0 m.high_speed))

-- the speed in microsecond i: the frame repeats
abbrev pub speed : Pattern → ℕ → ℕ
speed m i = speed_in_frame m (i % frame m)

-- the least sum over t successive microseconds, over the starts of one frame
unfoldable pub least_sum : Pattern → ℕ → ℕ
least_sum m t = least_upto (λ s. window (speed m) s t) (frame m - 1)

abbrev pub pattern_of : Pair → Pattern
pattern_of p = record {
  down = p.down;
  up = p.up;
  low_time = p.low_time;
  high_time = p.high_time;
  low_speed = p.low.speed;
  high_speed = p.high.speed;
}

-- the least cycles that a drive supplies in any window of length t
abbrev pub supply_of : Drive → ℕ → ℕ
supply_of (Fixed m) t = m.speed * t
supply_of (Turns p) t = least_sum (pattern_of p) t

-- the speed of a drive in microsecond i
abbrev pub speed_of : Drive → ℕ → ℕ
speed_of (Fixed m) i = m.speed
speed_of (Turns p) i = speed (pattern_of p) i

-- in no window does a drive run fewer cycles than it supplies, wherever the window starts, and in some window no more
abbrev pub SupplyIsLeast : Type 0
SupplyIsLeast = (d : Drive) (t : ℕ) → Least (speed_of d) t (supply_of d t)
