use Rattle.std.proofs.Common.{◌≤◌, min, length}
use Rattle.rfc4180.specs.Records.{Before}
use Rattle.rfc4180.proofs.records.field.Given as goal

abbrev pub invariant-loop : goal.invariant-loop
invariant-loop l = (l.from ≤ length l.file) × Before l.file (min l.record.start (length l.file)) l.counter l.from
