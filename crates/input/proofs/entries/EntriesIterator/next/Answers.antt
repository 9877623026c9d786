use Rattle.std.proofs.Common.{refl, arith, rules}
use Rattle.input.proofs.Walking.{step_read}
use Rattle.input.proofs.entries.EntriesIterator.next.Goals as goal

pub returns-clause-steps : goal.returns-clause-steps
returns-clause-steps c = step_read c.args.self.now _ c.read_entry-line.result (omega arith) c.read_entry-line.ensures.reads (refl, refl) refl (search rules)
