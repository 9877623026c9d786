use Rattle.std.proofs.Common.{rules}
use Rattle.std.proofs.lemmas.Bool.Decides.{Decides-eqb}
use Rattle.std.proofs.lemmas.Slice.Eq.{slice_eq-Decides}
use Rattle.input.proofs.Cells.{text_read, where_some}
use Rattle.input.proofs.line.Line.reads.Goals as goal

pub returns : goal.returns
returns c =
    text_read (λ t. t.now) c.args.self.now.file.now c.args.self.now.record c.args.number c.args.name.now c.text.result _ c.text.ensures
    (where_some c.text.result _ _ _ c.is_some_and.ensures (λ t h. slice_eq-Decides Decides-eqb t.now c.args.name.now c.is_some_and.result (search rules)))
