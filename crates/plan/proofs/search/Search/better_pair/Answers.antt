use Rattle.plan.specs.Searches.{PairAt, SplitIn}
use Rattle.plan.proofs.Improving.{improves_same}
use Rattle.plan.proofs.Visiting.{pair_to, pair_from}
use Rattle.plan.proofs.search.Search.better_pair.Goals as goal

pub returns-in-Some : goal.returns-in-Some
returns-in-Some g c =
    let t = c.args.self.now.processor.now in
    let s = c.in-Some.ensures in
    improves_same (g.C.Condition.meets c.args.self.now.condition.now) (SplitIn c.in-Some.splits) (PairAt t c.args.frame c.args.low c.args.high)
    (pair_to t c.args.frame c.args.low c.args.high c.in-Some.splits s.0 s.1)
    (pair_from t c.args.frame c.args.low c.args.high c.in-Some.splits s.0 s.1)
    c.args.best c.better_split.result c.better_split.ensures
