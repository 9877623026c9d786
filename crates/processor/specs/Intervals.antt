-- The lawful splits of a frame between two modes: the high times of one interval.
use Rattle.std.specs.Prelude.{◌≡◌, ℕ, ◌+◌, ◌-◌, ◌≤◌, cond, nat_le}
use Rattle.processor.specs.Pairs.{LawfulPair, WithinLimits}
use Rattle.processor.specs.declared.drive.Pair.{Pair}
use Rattle.processor.specs.declared.mode.Mode.{Mode}
use Rattle.processor.specs.declared.splits.Splits.{Splits}

-- the high time q, and the rest of the frame as low time, make a lawful pair
abbrev pub LawfulSplit : Mode → Mode → ℕ → ℕ → ℕ → ℕ → Type 0
LawfulSplit low high up down frame q =
    (q ≤ frame) × WithinLimits up down (frame - q) q × LawfulPair low high up down (frame - q) q

abbrev pub SplitsOf : Mode → Mode → ℕ → ℕ → ℕ → Splits → Type 0
SplitsOf low high up down frame s = (s.low ≡ low) × (s.high ≡ high) × (s.up ≡ up) × (s.down ≡ down) × (s.frame ≡ frame)

-- a high time of the interval
abbrev pub Within : Splits → ℕ → Type 0
Within s q = (s.least ≤ q) × (q ≤ s.most)

-- the pair of a high time
abbrev pub SplitOf : Splits → ℕ → Pair → Type 0
SplitOf s q p =
    (p.low ≡ s.low) × (p.high ≡ s.high) × (p.up ≡ s.up) × (p.down ≡ s.down) × (p.frame ≡ s.frame)
    × (p.high_time ≡ q) × (p.low_time ≡ s.frame - q)

-- the high time of a number: from the cheaper end on
abbrev pub numbered_time : Splits → ℕ → ℕ
numbered_time s k = cond (nat_le s.low.power s.high.power) (s.least + k) (s.most - k)
