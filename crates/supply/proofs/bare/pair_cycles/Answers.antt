use Rattle.std.proofs.Common.{arith}
use Rattle.supply.specs.Supplies.{least_at, least_below}
use Rattle.supply.proofs.bare.pair_cycles.Goals as goal

pub overflow_mul-result : goal.overflow_mul-result
overflow_mul-result g c = let e = least_at c.args.pair.now c.args.window in let h = least_below c.args.pair.now c.args.window in grind arith

pub overflow_add-result : goal.overflow_add-result
overflow_add-result g c = let e = least_at c.args.pair.now c.args.window in let h = least_below c.args.pair.now c.args.window in grind arith

pub returns : goal.returns
returns g c = grind (arith, least_at c.args.pair.now c.args.window)
