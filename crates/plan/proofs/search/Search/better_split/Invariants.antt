use Rattle.std.proofs.Common.{ℕ, ◌<◌}
use Rattle.processor.specs.Intervals.{SplitOf, numbered_time}
use Rattle.processor.specs.declared.drive.Drive.TheVariants.{Pair as Turns}
use Rattle.processor.specs.declared.drive.Pair.{Pair}
use Rattle.plan.proofs.search.Search.better_split.Given as goal

-- no split before meets the condition
abbrev pub invariant-splits : goal.invariant-splits
invariant-splits g l =
    (k : ℕ) → k < l.number → (p : Pair) → SplitOf l.splits (numbered_time l.splits k) p → g.C.Condition.meets l.self.condition.now (Turns p) → ⊥
