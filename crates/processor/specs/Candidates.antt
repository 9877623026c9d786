-- The drives that a processor table offers.
use Rattle.std.specs.Prelude.{◌≡◌, ℕ, true, Some, vec_items}
use Rattle.processor.specs.Tables.{mode_of, time_of, has_frame}
use Rattle.processor.specs.declared.drive.Drive.{Drive}
use Rattle.processor.specs.declared.drive.Drive.TheVariants.{Fixed, Pair as Turns}
use Rattle.processor.specs.declared.drive.Pair.{Pair}
use Rattle.processor.specs.declared.table.Processor.{Processor}

-- A fixed drive of a listed mode, or a pair of listed modes with both switches listed, on a listed frame. (That a pair is
-- lawful is part of its type.)
abbrev pub Candidate : Processor → Drive → Type 0
Candidate t (Fixed m) = mode_of m.number (vec_items t.modes) ≡ Some m
Candidate t (Turns p) =
    (mode_of p.low.number (vec_items t.modes) ≡ Some p.low)
    × (mode_of p.high.number (vec_items t.modes) ≡ Some p.high)
    × (time_of p.low.number p.high.number (vec_items t.switches) ≡ Some p.up)
    × (time_of p.high.number p.low.number (vec_items t.switches) ≡ Some p.down)
    × (has_frame p.frame (vec_items t.frames) ≡ true)

-- a drive by two mode numbers and two times: of a fixed drive its mode twice, and the times 0
abbrev pub Named : ℕ → ℕ → ℕ → ℕ → Drive → Type 0
Named low high low_time high_time (Fixed m) = (m.number ≡ low) × (m.number ≡ high) × (low_time ≡ 0) × (high_time ≡ 0)
Named low high low_time high_time (Turns p) =
    (p.low.number ≡ low) × (p.high.number ≡ high) × (p.low_time ≡ low_time) × (p.high_time ≡ high_time)

-- a candidate pair of two mode numbers on a frame
abbrev pub OnFrame : Processor → ℕ → ℕ → ℕ → Pair → Type 0
OnFrame t frame low high p = Candidate t (Turns p) × (p.low.number ≡ low) × (p.high.number ≡ high) × (p.frame ≡ frame)
