use Rattle.std.proofs.Common.{◌≡◌, ℕ, subst, arith}
use Rattle.plan.specs.Searches.{Improves, Below, PairAt}
use Rattle.plan.proofs.Improving.{improves_next}
use Rattle.plan.proofs.search.Search.better_frame.Goals as goal

pub high-preserved : goal.high-preserved
high-preserved g c =
    improves_next (g.C.Condition.meets c.args.self.now.condition.now) (PairAt c.args.self.now.processor.now c.args.frame c.low.low) c.high.high c.low.found c.high.found
    c.better_pair-found.result c.high.invariant c.better_pair-found.ensures

pub low-preserved : goal.low-preserved
low-preserved g c =
    let e : c.high.high ≡ 17 = omega (arith, c.high.auto.high-end (omega arith)) in
    let P : ℕ → Type 0 = λ n. Improves (g.C.Condition.meets c.args.self.now.condition.now) (Below (PairAt c.args.self.now.processor.now c.args.frame c.low.low) n) c.low.found c.high.found in
    improves_next (g.C.Condition.meets c.args.self.now.condition.now) (λ k. Below (PairAt c.args.self.now.processor.now c.args.frame k) 17) c.low.low c.args.best c.low.found
    c.high.found c.low.invariant (subst P e c.high.invariant)

pub returns : goal.returns
returns g c =
    let e : c.low.low ≡ 17 = omega (arith, c.low.auto.low-end (omega arith)) in
    let P : ℕ → Type 0 = λ n. Improves (g.C.Condition.meets c.args.self.now.condition.now) (Below (λ k. Below (PairAt c.args.self.now.processor.now c.args.frame k) 17) n) c.args.best c.low.found in
    subst P e c.low.invariant
