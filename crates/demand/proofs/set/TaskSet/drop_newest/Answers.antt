use Rattle.std.proofs.Common.{arith}
use Rattle.demand.proofs.Sets.{take_apart}
use Rattle.demand.proofs.set.TaskSet.drop_newest.Goals as goal

pub invariant_of-self : goal.invariant_of-self
invariant_of-self c =
    record {
      few = omega (arith, c.truncate.ensures.len);
      room = omega (arith, c.truncate.ensures.capacity);
      apart = rw c.truncate.ensures.items (take_apart c.saturating_sub-kept.result c.self.inside.tasks.items c.self.invariant.apart);
    }
