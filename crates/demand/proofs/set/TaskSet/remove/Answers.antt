use Rattle.std.proofs.Common.{arith}
use Rattle.std.proofs.lemmas.List.Quantifiers.{all_pairs_remove}
use Rattle.demand.specs.Ranks.{OtherRank}
use Rattle.demand.proofs.set.TaskSet.remove.Goals as goal

pub invariant_of-self : goal.invariant_of-self
invariant_of-self c =
    record {
      few = omega (arith, c.remove.ensures.len);
      room = omega (arith, c.remove.ensures.capacity);
      apart = rw c.remove.ensures.items (all_pairs_remove OtherRank c.self.inside.tasks.items c.args.i (omega arith) c.self.invariant.apart);
    }
