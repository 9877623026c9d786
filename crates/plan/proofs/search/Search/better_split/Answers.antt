use Rattle.std.proofs.Common.{refl, subst, arith, below_more}
use Rattle.processor.specs.declared.drive.Drive.TheVariants.{Pair as Turns}
use Rattle.processor.specs.declared.drive.Pair.{Pair}
use Rattle.plan.proofs.Along.{split_at, stays, takes, ends, dearer, cheaper, split_same}
use Rattle.plan.proofs.search.Search.better_split.Goals as goal

pub returns-then-not-is_cheaper : goal.returns-then-not-is_cheaper
returns-then-not-is_cheaper g c =
    let s = c.args.splits.now in
    let a = split_at s c.splits.number c.pair.result c.unwrap.result c.unwrap.ensures c.pair.ensures in
    stays s (g.C.Condition.meets c.args.self.now.condition.now) c.splits.number c.splits.invariant c.unwrap.result a c.args.best
    (dearer (Turns c.unwrap.result) c.args.best c.if-not-is_cheaper.ensures)

pub returns-then-meets : goal.returns-then-meets
returns-then-meets g c =
    let s = c.args.splits.now in
    let a = split_at s c.splits.number c.pair.result c.unwrap.result c.unwrap.ensures c.pair.ensures in
    takes s (g.C.Condition.meets c.args.self.now.condition.now) c.splits.number c.splits.invariant c.unwrap.result
    (omega (arith, c.count-number-end.ensures)) a (c.if-meets.ensures.0 refl) c.args.best
    (cheaper (Turns c.unwrap.result) c.args.best c.if-not-is_cheaper.ensures)

pub splits-preserved : goal.splits-preserved
splits-preserved g c =
    let s = c.args.splits.now in
    let a = split_at s c.splits.number c.pair.result c.unwrap.result c.unwrap.ensures c.pair.ensures in
    below_more _ _ c.splits.invariant
    (λ p b m.
    let M : Pair → Type 0 = λ v. g.C.Condition.meets c.args.self.now.condition.now (Turns v) in
    let e = split_same s _ p c.unwrap.result b a in
    let f = c.if-meets.ensures.1 (subst M e m) in
    cc)

pub returns : goal.returns
returns g c =
    ends c.args.splits.now (g.C.Condition.meets c.args.self.now.condition.now) c.splits.number c.splits.invariant (omega (arith, c.count-number-end.ensures)) c.args.best
