use Rattle.std.proofs.Common.{◌-◌, ◌∙◌, sym, ap, Some, None, arith, refl}
use Rattle.std.specs.Fn.{FnReturnsAt}
use Rattle.demand.specs.Counts.{due_within}
use Rattle.demand.proofs.Places.{turn_here, turn_after, turn_none, at_next}
use Rattle.demand.proofs.listing.nth_listed.Goals as goal
use Rattle.demand.proofs.listing.nth_listed.Goals.{in-Some+else-left-count, in_default}

pub returns-then-left-count-clause-place : goal.returns-then-left-count-clause-place
returns-then-left-count-clause-place g c = λ lists h.
    let t = c.in-Some.times in
    let x = c.task-item.result in
    let called : FnReturnsAt g.F.Fn c.args.times x (Some t) = record { shown = _; shows = refl; says = record { met = c.in-Some.ensures } } in
    rw c.nth.ensures
    (sym (turn_here lists c.args.tasks.now c.tasks.task-index c.args.end c.tasks.left x (omega arith) c.task-item.is t.first t.step (h x (Some t) called) (omega (arith, c.count-count.ensures.value)))
    ∙ c.tasks.invariant lists h)

pub returns-then-left-count-clause-early : goal.returns-then-left-count-clause-early
returns-then-left-count-clause-early g c =
    let t = c.in-Some.times in
    omega (arith, c.nth.ensures, due_within t.first t.step c.args.end c.tasks.left (omega (arith, c.count-count.ensures.value)))

pub tasks-preserved : goal.tasks-preserved
tasks-preserved g c = λ lists h.
    let x = c.task-item.result in
    let ts = c.args.tasks.now in
    let i = c.tasks.task-index in
    let next = at_next lists ts i c.args.end c.tasks.left in
    elim c.match-times.branch [
      | in-Some+else-left-count w ↦
          let t = w.in-Some.times in
          let called : FnReturnsAt g.F.Fn c.args.times x (Some t) = record { shown = _; shows = refl; says = record { met = w.in-Some.ensures } } in
          ap next (w.left-is ∙ ap (λ n. c.tasks.left - n) w.count-count.ensures.value)
          ∙ sym (turn_after lists ts i c.args.end c.tasks.left x (omega arith) c.task-item.is t.first t.step (h x (Some t) called) (omega (arith, w.count-count.ensures.value)))
          ∙ c.tasks.invariant lists h
      | in_default w ↦
          let called : FnReturnsAt g.F.Fn c.args.times x None = record { shown = _; shows = refl; says = record { met = w.in_default.ensures } } in
          ap next w.left-is
          ∙ sym (turn_none lists ts i c.args.end c.tasks.left x (omega arith) c.task-item.is (h x None called))
          ∙ c.tasks.invariant lists h
    ]
