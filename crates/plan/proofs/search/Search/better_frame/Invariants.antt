use Rattle.plan.specs.Searches.{Improves, Below, PairAt}
use Rattle.plan.proofs.search.Search.better_frame.Given as goal

abbrev pub invariant-low : goal.invariant-low
invariant-low g l =
    Improves (g.C.Condition.meets l.self.condition.now) (Below (λ k. Below (PairAt l.self.processor.now l.frame k) 17) l.low) l.initial.found l.found

abbrev pub invariant-high : goal.invariant-high
invariant-high g l =
    Improves (g.C.Condition.meets l.self.condition.now) (Below (PairAt l.self.processor.now l.frame l.low) l.high) l.initial.found l.found
