use Rattle.std.proofs.Common.{◌≡◌, ℕ, None, subst, arith}
use Rattle.plan.specs.Searches.{Improves, Below, FixedAt}
use Rattle.plan.proofs.Improving.{improves_next}
use Rattle.plan.proofs.search.Search.cheapest_fixed.Goals as goal

pub modes-preserved : goal.modes-preserved
modes-preserved g c =
    improves_next (g.C.Condition.meets c.args.self.now.condition.now) (FixedAt c.args.self.now.processor.now) c.modes.number None c.modes.best
    c.better_fixed-best.result c.modes.invariant c.better_fixed-best.ensures

pub returns : goal.returns
returns g c =
    let e : c.modes.number ≡ 17 = omega (arith, c.modes.auto.number-end (omega arith)) in
    let P : ℕ → Type 0 = λ n. Improves (g.C.Condition.meets c.args.self.now.condition.now) (Below (FixedAt c.args.self.now.processor.now) n) None c.modes.best in
    subst P e c.modes.invariant
