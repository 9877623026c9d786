use Rattle.supply.specs.Supplies.{drive_least}
use Rattle.supply.proofs.window.supply_is_least.Goals as goal

pub returns : goal.returns
returns c = drive_least
