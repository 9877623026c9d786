use Rattle.std.proofs.Common.{◌≡◌, ◌+◌, ap₂, arith, rules}
use Rattle.processor.specs.Drives.{peak}
use Rattle.demand.specs.Charges.{charges}
use Rattle.demand.specs.Demand.{above, taken_cycles}
use Rattle.demand.specs.Counts.{sum_charged, above_le}
use Rattle.supply.specs.LayersLemmas.{peak_limit}
use Rattle.demand.proofs.fp.taken_cycles.Goals as goal

summed : (c : goal.After-charge) → c.sum-above.result ≡ above c.args.task.now.rank (charges (peak c.args.drive.now) c.args.tasks.now) c.args.window
unfolding above
summed c = rw (sum_charged (taken_cycles c.args.task.now.rank c.args.window) (peak c.args.drive.now) c.args.tasks.now) (search rules)

pub overflow_add-result : goal.overflow_add-result
overflow_add-result c =
    let e = summed c in
    let l = above_le c.args.task.now.rank c.args.window (peak c.args.drive.now) c.args.tasks.now c.requires.short (peak_limit c.args.drive.now) in
    omega (arith, c.charge.ensures.bound)

pub returns : goal.returns
returns c = ap₂ (λ a b. a + b) c.charge.ensures.value (summed c)
