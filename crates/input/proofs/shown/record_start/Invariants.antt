use Rattle.input.specs.Showing.{RecordStart}
use Rattle.input.proofs.shown.record_start.Given as goal

abbrev pub invariant-loop : goal.invariant-loop
invariant-loop l = RecordStart l.file l.counter l.at
