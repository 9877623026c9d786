use Rattle.std.proofs.Common.{◌≡◌, sym}
use Rattle.processor.specs.declared.drive.Drive.TheVariants.{Fixed}
use Rattle.plan.specs.Searches.{FixedAt}
use Rattle.plan.proofs.Improving.{improves_same}
use Rattle.plan.proofs.Visiting.{fixed_to, fixed_from}
use Rattle.plan.proofs.search.Search.better_fixed.Goals as goal

pub returns-in-Some : goal.returns-in-Some
returns-in-Some g c =
    let t = c.args.self.now.processor.now in
    improves_same (g.C.Condition.meets c.args.self.now.condition.now) (λ e. e ≡ Fixed c.in-Some.mode) (FixedAt t c.args.number)
    (fixed_to t c.args.number c.in-Some.mode (sym c.in-Some.ensures))
    (fixed_from t c.args.number c.in-Some.mode (sym c.in-Some.ensures))
    c.args.best c.better.result c.better.ensures
