-- What a part of the search does to the best drive so far.
use Rattle.std.specs.Prelude.{◌≡◌, ℕ, ◌<◌, ◌≤◌, ◌⊎◌, IfSome, Some, None, Option, MatchOption}
use Rattle.processor.specs.Candidates.{Candidate, OnFrame}
use Rattle.processor.specs.Intervals.{Within, SplitOf}
use Rattle.processor.specs.declared.drive.Drive.{Drive}
use Rattle.processor.specs.declared.drive.Drive.TheVariants.{Fixed, Pair as Turns}
use Rattle.processor.specs.declared.drive.Pair.{Pair}
use Rattle.processor.specs.declared.mode.Mode.{Mode}
use Rattle.processor.specs.declared.splits.Splits.{Splits}
use Rattle.processor.specs.declared.table.Processor.{Processor}
use Rattle.plan.specs.Feasible.{NoDearer}

-- Of the drives of a group that meet a condition, none is cheaper than the result; and the result is the best so far, or a
-- drive of the group that meets the condition and is no dearer.
abbrev pub Improves : (meets group : Drive → Type 0) → Option Drive → Option Drive → Type 0
Improves meets group old new =
    MatchOption new ((old ≡ None) × ((e : Drive) → group e → meets e → ⊥))
    (λ d. ((old ≡ Some d) ⊎ (group d × meets d × IfSome old (λ b. NoDearer d b)))
    × ((e : Drive) → group e → meets e → NoDearer d e))

-- the groups of an index below a bound, together
abbrev pub Below : (ℕ → Drive → Type 0) → ℕ → Drive → Type 0
Below groups n e = (k : ℕ) × (k < n) × groups k e

-- the fixed drive of a mode number
abbrev pub FixedAt : Processor → ℕ → Drive → Type 0
FixedAt t n e = (m : Mode) × (e ≡ Fixed m) × Candidate t (Fixed m) × (m.number ≡ n)

-- the splits of a frame between two modes
abbrev pub SplitIn : Splits → Drive → Type 0
SplitIn s e = (q : ℕ) × (p : Pair) × (e ≡ Turns p) × Within s q × SplitOf s q p

-- the pairs of a frame and two mode numbers
abbrev pub PairAt : Processor → ℕ → ℕ → ℕ → Drive → Type 0
PairAt t frame low high e = (p : Pair) × (e ≡ Turns p) × OnFrame t frame low high p

-- the drives of longer frames than a bound, and all fixed drives
abbrev pub Seen : Processor → ℕ → Drive → Type 0
Seen t bound e = Below (FixedAt t) 17 e ⊎ ((p : Pair) × (e ≡ Turns p) × Candidate t (Turns p) × (bound ≤ p.frame))
