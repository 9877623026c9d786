use Rattle.std.proofs.Common.{None}
use Rattle.plan.specs.Searches.{Improves, Below, FixedAt}
use Rattle.plan.proofs.search.Search.cheapest_fixed.Given as goal

abbrev pub invariant-modes : goal.invariant-modes
invariant-modes g l = Improves (g.C.Condition.meets l.self.condition.now) (Below (FixedAt l.self.processor.now) l.number) None l.best
