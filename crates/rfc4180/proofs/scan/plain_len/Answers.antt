use Rattle.std.proofs.Common.{arith}
use Rattle.std.proofs.lemmas.Grind.{common_steps}
use Rattle.rfc4180.proofs.Stops.{plain_front}
use Rattle.rfc4180.proofs.scan.plain_len.Goals as goal

pub returns-clause-plain : goal.returns-clause-plain
returns-clause-plain c = plain_front c.args.rest.now c.unwrap_or.result (λ k l m. grind (arith, common_steps))
