-- One pair, worked out: which of its splits are lawful, and what it supplies.
use Rattle.std.specs.Prelude.{◌≡◌, ℕ}
use Rattle.processor.specs.declared.drive.Drive.TheVariants.{Pair as Turns}
use Rattle.processor.specs.Intervals.{LawfulSplit}
use Rattle.processor.specs.declared.drive.Pair.{Pair}
use Rattle.processor.specs.declared.mode.Mode.{Mode}
use Rattle.supply.specs.Patterns.{supply_of}
use Rattle.supply.specs.Layers.{share_of, holdoff_of}

-- 20 and 40 MHz in turn, the low mode for 5,760 of each 9,600 microseconds
pub record Sample (p : Pair) : Type 0 where
  pub low_speed : p.low.speed ≡ 20
  pub low_power : p.low.power ≡ 480
  pub high_speed : p.high.speed ≡ 40
  pub high_power : p.high.power ≡ 810
  pub down : p.down ≡ 160
  pub up : p.up ≡ 240
  pub frame : p.frame ≡ 9600
  pub low_time : p.low_time ≡ 5760

-- the supplies of a sample at the ends of its pieces, a third of one, and two behind a holdoff
pub record Sampled (Z : ℕ → ℕ) : Type 0 where
  pub longer_switch : Z 240 ≡ 0
  pub low_begins : Z 241 ≡ 20
  pub low_ends : Z 5840 ≡ 112000
  pub high_waits : Z 6000 ≡ 112000
  pub high_begins : Z 6001 ≡ 112040
  pub whole_frame : Z 9600 ≡ 256000
  pub next_frame : Z 9841 ≡ 256020
  pub third : share_of 1 3 Z 241 ≡ 6
  pub held_off : holdoff_of 240 Z 480 ≡ 0
  pub held_on : holdoff_of 240 Z 481 ≡ 20

abbrev pub SamplesSupply : Type 0
SamplesSupply = (p : Pair) → Sample p → Sampled (supply_of (Turns p))

-- of a frame of 9,600 between modes of 20 and 40 MHz: the least and the longest high time that are lawful, and one beyond
pub record SplitSampled (low high : Mode) : Type 0 where
  pub high_enough : LawfulSplit low high 240 160 9600 641
  pub high_too_short : LawfulSplit low high 240 160 9600 640 → ⊥
  pub low_enough : LawfulSplit low high 240 160 9600 9439
  pub low_too_short : LawfulSplit low high 240 160 9600 9440 → ⊥

-- the worked cases, all of them
abbrev pub SamplesStand : Type 0
SamplesStand = SamplesSupply × ((low high : Mode) → low.speed ≡ 20 → high.speed ≡ 40 → SplitSampled low high)
