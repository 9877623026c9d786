use Rattle.input.proofs.line.Line.text.Goals as goal

pub returns-in_err-field : goal.returns-in_err-field
returns-in_err-field c = rw c.from_residual.ensures (λ t h. c.in_err-field.ensures.finds h.part h.numbered)
