-- The peak speed of a drive, and its cost: its mean power as a fraction, the energy of a frame over the frame.
use Rattle.std.specs.Prelude.{ℕ, ◌+◌, ◌*◌}
use Rattle.processor.specs.declared.drive.Drive.{Drive}
use Rattle.processor.specs.declared.drive.Drive.TheVariants.{Fixed, Pair}

-- the highest speed
abbrev pub peak : Drive → ℕ
peak (Fixed m) = m.speed
peak (Pair p) = p.high.speed

-- the energy of a frame; a switch draws the power of the mode that it leads to
abbrev pub energy_of : Drive → ℕ
energy_of (Fixed m) = m.power
energy_of (Pair p) = p.low.power * p.low_time + p.high.power * p.high_time

-- the frame over which the energy is drawn
abbrev pub span_of : Drive → ℕ
span_of (Fixed m) = 1
span_of (Pair p) = p.frame
