use Rattle.input.specs.ProcessorFiles.{listed}
use Rattle.input.proofs.Walking.{EntriesWalked}
use Rattle.input.proofs.processor_file.read_processor.Given as goal

abbrev pub invariant-loop-line : goal.invariant-loop-line
invariant-loop-line l = EntriesWalked l.file l.line-iterator (listed l.table)
