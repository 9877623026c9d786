use Rattle.std.proofs.Common.{rules}
use Rattle.processor.specs.Drives.{peak}
use Rattle.demand.specs.Demand.{demand, due_cycles}
use Rattle.demand.specs.Counts.{sum_charged}
use Rattle.demand.proofs.edf.due_cycles.Goals as goal

pub returns : goal.returns
unfolding demand
returns c = rw (sum_charged (due_cycles c.args.window) (peak c.args.drive.now) c.args.tasks.now) (search rules)
