-- The limits of a processor's figures. Time is in microseconds, speed in MHz, power in mW.
use Rattle.std.specs.Prelude.{ℕ}

abbrev pub last_mode : ℕ
last_mode = 16

abbrev pub top_speed : ℕ
top_speed = 10000

abbrev pub top_power : ℕ
top_power = 100000

abbrev pub longest_switch : ℕ
longest_switch = 20000

abbrev pub longest_frame : ℕ
longest_frame = 20000

-- room for the switches between all modes
abbrev pub most_switches : ℕ
most_switches = 256

abbrev pub most_frames : ℕ
most_frames = 8
