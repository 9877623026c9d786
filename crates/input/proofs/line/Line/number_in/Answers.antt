use Rattle.std.proofs.Common.{rules}
use Rattle.input.proofs.Cells.{number_read, where_some}
use Rattle.input.proofs.line.Line.number_in.Goals as goal

pub returns : goal.returns
returns c =
    number_read (λ t. t.now) c.args.self.now c.args.field c.text.result c.and_then.result _ _ c.text.ensures
    (where_some c.text.result _ _ _ c.and_then.ensures (λ t h. search rules))
    c.fault-fault.ensures c.ok_or.ensures.value
