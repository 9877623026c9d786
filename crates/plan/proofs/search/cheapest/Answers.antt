use Rattle.std.proofs.Common.{None}
use Rattle.plan.proofs.Visiting.{seen_next, seen_all}
use Rattle.plan.proofs.search.cheapest.Goals as goal

pub frames-preserved : goal.frames-preserved
frames-preserved g c =
    seen_next c.args.processor.now (g.C.Condition.meets c.args.condition.now) c.frames.bound c.in-Some.frame None c.frames.best c.better_frame-best.result
    c.in-Some.ensures c.frames.invariant c.better_frame-best.ensures

pub returns : goal.returns
returns g c =
    seen_all c.args.processor.now (g.C.Condition.meets c.args.condition.now) c.frames.bound c.frames.best c.in_default.ensures c.frames.invariant
