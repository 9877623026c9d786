use Rattle.std.proofs.Common.{min, length, sym, ◌∙◌, rules}
use Rattle.rfc4180.specs.Records.{RecordAt}
use Rattle.input.proofs.Showing.{cell_moved, none_whole}
use Rattle.input.proofs.shown.field_text.Goals as goal

pub returns-in_err-record : goal.returns-in_err-record
returns-in_err-record c =
    rw c.from_residual.ensures
    (λ t h. none_whole c.args.file.now _ c.next_record.result c.next_record.ensures.reads c.in_err-record.ensures.value h.whole h.here)

pub returns-in_err-field : goal.returns-in_err-field
returns-in_err-field c =
    rw c.from_residual-in_err-field.ensures
    (λ t h.
    let r : RecordAt c.args.file.now (min c.args.at (length c.args.file.now)) c.in_ok-record.record = search rules in
    let k = cell_moved c.args.file.now h.whole c.in_ok-record.record c.args.number t (h.here.begins ∙ sym r.begins) h.cell in
    c.in_err-field.ensures.finds k.part k.numbered)
