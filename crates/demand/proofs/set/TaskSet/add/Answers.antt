use Rattle.std.proofs.Common.{sym, ◌∙◌, arith}
use Rattle.demand.proofs.Sets.{push_apart}
use Rattle.demand.proofs.set.TaskSet.add.Goals as goal

pub invariant_of-self : goal.invariant_of-self
invariant_of-self c =
    let s = c.self.inside.tasks in
    record {
      few = omega (arith, c.push_reserved.ensures.len);
      room = omega (arith, c.push_reserved.ensures.capacity);
      apart = rw c.push_reserved.ensures.items (push_apart s.items c.args.task c.self.invariant.apart (rw c.self.view_is (sym c.has_rank.ensures ∙ c.if-has_rank.false)));
    }
