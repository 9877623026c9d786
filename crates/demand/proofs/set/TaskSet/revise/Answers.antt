use Rattle.std.proofs.Common.{ap, arith}
use Rattle.demand.proofs.Sets.{figures_set, set_apart}
use Rattle.demand.proofs.set.TaskSet.revise.Goals as goal

pub invariant_of-self : goal.invariant_of-self
invariant_of-self c =
    let s = c.self.invariant in
    let a = set_apart c.self.inside.tasks.items c.args.i c.index_mut.result.now c.change.new.self (omega arith) c.index_mut.ensures.value (ap (λ f. f.rank) c.change.ensures) s.apart in
    record { few = s.few; room = s.room; apart = a }

pub returns-clause-rows : goal.returns-clause-rows
returns-clause-rows c =
    rw (← c.self.view_is) (figures_set c.self.inside.tasks.items c.args.i c.index_mut.result.now c.change.new.self c.args.cycles c.args.fixed (omega arith) c.index_mut.ensures.value c.change.ensures)
