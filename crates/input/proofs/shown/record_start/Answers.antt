use Rattle.std.proofs.Common.{arith, rules}
use Rattle.input.specs.Showing.{first}
use Rattle.input.proofs.Showing.{none_whole, start_broken, start_ended, start_more}
use Rattle.input.proofs.shown.record_start.Goals as goal

pub loop-init : goal.loop-init
loop-init c = first

pub returns-in_err-at : goal.returns-in_err-at
returns-in_err-at c =
    rw c.from_residual.ensures
    (start_broken c.args.file.now c.loop.counter c.loop.at c.args.number c.loop.invariant
    (none_whole c.args.file.now _ c.next_record.result c.next_record.ensures.reads c.in_err-at.ensures.value)
    c.loop-test.true)

pub returns-then-at-file : goal.returns-then-at-file
returns-then-at-file c =
    start_ended c.args.file.now c.loop.counter c.loop.at c.args.number c.in_ok-at.field-0 c.loop.invariant (search rules) (omega arith) c.loop-test.true

pub loop-preserved : goal.loop-preserved
loop-preserved c = start_more c.args.file.now c.loop.counter c.loop.at c.in_ok-at.field-0 c.loop.invariant (search rules) (omega arith)
