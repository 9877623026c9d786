use Rattle.std.proofs.Common.{◌≡◌, ◌+◌, ◌-◌, ◌∙◌, ap, add-one, arith}
use Rattle.supply.specs.Windows.{window, least_upto}
use Rattle.supply.specs.Patterns.{speed, least_sum, frame, pattern_of}
use Rattle.supply.specs.WindowsLemmas.{window_slides}
use Rattle.supply.specs.Supplies.{speed_small, window_small}
use Rattle.supply.proofs.sliding.SlidingBare.rest_cycles.Goals as goal

pub loop-start-init : goal.loop-start-init
unfolding least_upto
loop-start-init c = record { at_start = c.first_cycles-cycles.ensures; least_so_far = c.first_cycles-cycles.ensures }

pub overflow_add-cycles : goal.overflow_add-cycles
overflow_add-cycles c =
    omega (arith, window_small c.args.pair.now c.loop-start.start c.args.rest, speed_small c.args.pair.now (c.loop-start.start + c.args.rest))

pub overflow_sub-cycles : goal.overflow_sub-cycles
overflow_sub-cycles c = omega (arith, window_slides (speed (pattern_of c.args.pair.now)) c.loop-start.start c.args.rest)

pub loop-start-preserved : goal.loop-start-preserved
unfolding least_upto
loop-start-preserved c =
    let w = window_slides (speed (pattern_of c.args.pair.now)) c.loop-start.start c.args.rest in
    let e : c.loop-start.cycles + c.speed_at.result - c.speed_at-in-loop-start.result ≡ window (speed (pattern_of c.args.pair.now)) (c.loop-start.start + 1) c.args.rest = omega arith in
    record { at_start = e; least_so_far = rw add-one (omega (arith, rw add-one at e)) }

pub returns : goal.returns
unfolding least_sum
returns c =
    let e : c.loop-start.start ≡ frame (pattern_of c.args.pair.now) - 1 = omega (arith, c.args.pair.now.whole) in
    c.loop-start.invariant.least_so_far ∙ ap (least_upto (λ s. window (speed (pattern_of c.args.pair.now)) s c.args.rest)) e
