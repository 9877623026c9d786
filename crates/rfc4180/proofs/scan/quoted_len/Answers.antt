use Rattle.std.proofs.Common.{[], refl, arith}
use Rattle.rfc4180.specs.Grammar.{empty}
use Rattle.rfc4180.proofs.Stops.{passed_byte, passed_pair}
use Rattle.rfc4180.proofs.scan.quoted_len.Goals as goal

pub loop-left-init : goal.loop-left-init
loop-left-init c = ([], empty, refl)

pub loop-left-preserved-in-len1-up : goal.loop-left-preserved-in-len1-up
loop-left-preserved-in-len1-up c = passed_byte _ _ c.loop-left.invariant (omega arith) c.if-is_quotable.ensures

pub loop-left-preserved : goal.loop-left-preserved
loop-left-preserved c = passed_pair _ _ c.loop-left.invariant (omega arith) (omega arith) (omega arith)
