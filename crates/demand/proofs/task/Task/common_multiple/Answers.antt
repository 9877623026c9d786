use Rattle.std.proofs.Common.{◌%◌, ◌≤◌, suc, Some, sym, ap, ◌∙◌, arith}
use Rattle.demand.specs.Hyper.{lcm}
use Rattle.demand.specs.HyperLemmas.{gcd_positive, gcd_next, lcm_is}
use Rattle.demand.specs.Spans.{within_some, within_none}
use Rattle.demand.proofs.task.Task.common_multiple.Goals as goal

pub nonzero_div-so_far : goal.nonzero_div-so_far
nonzero_div-so_far c =
    let a = c.args.so_far in
    let b = c.args.self.now.period in
    let h : 1 ≤ b = omega (arith, c.args.self.now.due, c.args.self.now.constrained) in
    omega (arith, c.common_divisor-divisor.ensures, gcd_next a b h, gcd_positive (suc (a % b)) b (a % b) h)

pub returns-then-multiple-from : goal.returns-then-multiple-from
returns-then-multiple-from c =
    let e = lcm_is c.args.so_far c.args.self.now.period c.common_divisor-divisor.result c.from.result c.from-2.result c.common_divisor-divisor.ensures c.from.ensures c.from-2.ensures in
    sym (within_none (lcm c.args.so_far c.args.self.now.period) (omega (arith, e)))

pub returns : goal.returns
returns c =
    let e = lcm_is c.args.so_far c.args.self.now.period c.common_divisor-divisor.result c.from.result c.from-2.result c.common_divisor-divisor.ensures c.from.ensures c.from-2.ensures in
    ap Some e ∙ sym (within_some (lcm c.args.so_far c.args.self.now.period) (omega (arith, e)))
