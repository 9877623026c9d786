-- The supplies of the sample by the closed formula.
use Rattle.std.proofs.Common.{◌≡◌, ℕ, refl, ap, ◌∙◌, ap₂, arith}
use Rattle.processor.specs.declared.drive.Pair.{Pair}
use Rattle.processor.specs.declared.mode.Mode.{Mode}
use Rattle.processor.proofs.Intervals.{least_time, lawful_inside, inside_lawful}
use Rattle.processor.specs.declared.drive.Drive.TheVariants.{Pair as Turns}
use Rattle.supply.specs.Patterns.{Pattern, pattern_of, supply_of}
use Rattle.supply.specs.Formulas.{piece, closed}
use Rattle.supply.specs.Layers.{share_of}
use Rattle.supply.specs.Samples.{Sample, SamplesSupply, SplitSampled, SamplesStand}
use Rattle.supply.specs.Supplies.{sum_is_closed}

abbrev sample : Pattern
sample = record { down = 160; up = 240; low_time = 5760; high_time = 3840; low_speed = 20; high_speed = 40 }

pattern_is : (p : Pair) → Sample p → pattern_of p ≡ sample
pattern_is p s = grind (arith, p.whole, s)

pub sampled : SamplesSupply
unfolding closed piece
sampled p s =
    let Z = supply_of (Turns p) in
    let at : (t z : ℕ) → closed sample t ≡ z → Z t ≡ z = λ t z e. sum_is_closed p t ∙ ap (λ m. closed m t) (pattern_is p s) ∙ e in
    record {
      longer_switch = at 240 0 refl;
      low_begins = at 241 20 refl;
      low_ends = at 5840 112000 refl;
      high_waits = at 6000 112000 refl;
      high_begins = at 6001 112040 refl;
      whole_frame = at 9600 256000 refl;
      next_frame = at 9841 256020 refl;
      third = ap (λ z. share_of 1 3 (λ _. z) 241) (at 241 20 refl);
      held_off = at 240 0 refl;
      held_on = at 241 20 refl;
    }

split_sampled : (low high : Mode) → low.speed ≡ 20 → high.speed ≡ 40 → SplitSampled low high
split_sampled low high e f =
    let least : least_time low.speed high.speed 160 240 ≡ 641 = ap₂ (λ l h. least_time l h 160 240) e f in
    record {
      high_enough = inside_lawful low high 240 160 9600 641 (omega arith) (omega arith) (omega arith) (omega arith) (omega arith) (omega arith);
      high_too_short = λ l. (let h = lawful_inside low high 240 160 9600 640 l in omega arith);
      low_enough = inside_lawful low high 240 160 9600 9439 (omega arith) (omega arith) (omega arith) (omega arith) (omega arith) (omega arith);
      low_too_short = λ l. (let h = lawful_inside low high 240 160 9600 9440 l in omega arith);
    }

pub samples_stand_lem : SamplesStand
samples_stand_lem = (sampled, split_sampled)
