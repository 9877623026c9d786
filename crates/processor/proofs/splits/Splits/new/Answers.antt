use Rattle.std.proofs.Common.{ℕ, ◌≤◌, mul-le-mul, ◌+◌, ◌-◌, ◌*◌, refl, div-le_self, arith}
use Rattle.processor.proofs.Intervals.{lawful_inside, inside_lawful}
use Rattle.processor.specs.Limits.{top_speed, longest_switch}
use Rattle.processor.proofs.splits.Splits.new.Goals as goal

-- the cycles that a mode loses in a switch
loss_le : (speed switch : ℕ) → speed ≤ top_speed → switch ≤ longest_switch → speed * switch ≤ top_speed * longest_switch
loss_le speed switch h k = mul-le-mul h k

pub overflow_add-loss : goal.overflow_add-loss
overflow_add-loss c =
    let a = loss_le c.args.low.speed c.args.down c.args.low.slow (omega arith) in
    let b = loss_le c.args.high.speed c.args.up c.args.high.slow (omega arith) in
    omega arith

pub overflow_add-least : goal.overflow_add-least
overflow_add-least c =
    let a = loss_le c.args.low.speed c.args.down c.args.low.slow (omega arith) in
    let b = loss_le c.args.high.speed c.args.up c.args.high.slow (omega arith) in
    let d = div-le_self (c.args.low.speed * c.args.down + c.args.high.speed * c.args.up) (c.args.high.speed - c.args.low.speed) in
    omega arith

pub returns-then-least-most : goal.returns-then-least-most
returns-then-least-most c q l =
    let h = lawful_inside c.args.low c.args.high c.args.up c.args.down c.args.frame q l in omega arith

pub returns : goal.returns
returns c = (
  (refl, refl, refl, refl, refl),
  (λ q l. let h = lawful_inside c.args.low c.args.high c.args.up c.args.down c.args.frame q l in (h.0, omega arith)),
  (λ q w. inside_lawful c.args.low c.args.high c.args.up c.args.down c.args.frame q (omega arith) (omega arith) (omega arith) (omega arith) w.0 (omega arith)),
)
