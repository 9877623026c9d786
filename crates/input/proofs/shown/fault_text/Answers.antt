use Rattle.std.proofs.Common.{sym, subst}
use Rattle.input.specs.Showing.{FaultText, file_of}
use Rattle.input.proofs.Showing.{Shows}
use Rattle.input.proofs.shown.fault_text.Goals as goal

pub returns-in-Processor : goal.returns-in-Processor
returns-in-Processor c =
    subst (λ s. Shows (λ x. x.now) (FaultText (file_of s c.args.processor.now c.args.tasks.now) c.args.fault.now.cause c.args.fault.now.record c.args.fault.now.field) c.text_in.result)
    (sym c.in-Processor.is) c.text_in.ensures

pub returns-in-Tasks : goal.returns-in-Tasks
returns-in-Tasks c =
    subst (λ s. Shows (λ x. x.now) (FaultText (file_of s c.args.processor.now c.args.tasks.now) c.args.fault.now.cause c.args.fault.now.record c.args.fault.now.field) c.text_in-in-Tasks.result)
    (sym c.in-Tasks.is) c.text_in-in-Tasks.ensures
