use Rattle.std.proofs.Common.{None}
use Rattle.plan.specs.Searches.{Improves, Seen}
use Rattle.plan.proofs.search.cheapest.Given as goal

abbrev pub invariant-frames : goal.invariant-frames
invariant-frames g l = Improves (g.C.Condition.meets l.condition) (Seen l.processor l.bound) None l.best

abbrev pub decreases-frames : goal.decreases-frames
decreases-frames g l = l.bound
