use Rattle.std.proofs.Common.{rules}
use Rattle.input.proofs.Showing.{shows_broken, shows_field}
use Rattle.input.proofs.shown.text_in.Goals as goal

pub returns-in-NotCsv : goal.returns-in-NotCsv
returns-in-NotCsv c =
    shows_broken (λ x. x.now) c.args.file.now c.args.fault.now.cause c.args.fault.now.record c.in_ok-at.at c.args.fault.now.field c.broken_text.result c.in-NotCsv.is (search rules) c.broken_text.ensures

pub returns-in_default : goal.returns-in_default
returns-in_default c =
    shows_field (λ x. x.now) c.args.file.now c.args.fault.now.cause c.args.fault.now.record c.in_ok-at.at c.args.fault.now.field c.field_text.result c.in_default.not-NotCsv (search rules) c.field_text.ensures
