use Rattle.std.proofs.Common.{length}
use Rattle.rfc4180.proofs.Stops.{Passed}
use Rattle.rfc4180.proofs.scan.quoted_len.Given as goal

abbrev pub invariant-loop-left : goal.invariant-loop-left
invariant-loop-left l = Passed l.rest l.left

abbrev pub decreases-loop-left : goal.decreases-loop-left
decreases-loop-left l = length l.left
