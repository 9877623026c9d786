use Rattle.std.proofs.Common.{◌∙◌, rules}
use Rattle.std.proofs.lemmas.Iterator.{cases_from_all, YieldsList-from_slice}
use borrow.Author.Tests.{tests}
use Rattle.input.specs.Cells.{Cell}
use Rattle.input.proofs.Columns.{heads_decided}
use Rattle.input.proofs.line.Line.is_header.Goals as goal

pub returns-then-self-width : goal.returns-then-self-width
returns-then-self-width c =
    heads_decided c.args.self.now.source c.args.self.now.file.now c.args.self.now.record c.columns.result.now c.all.result
    c.columns.ensures
    (c.if-self-width.true ∙ c.width.ensures)
    (cases_from_all _ _ _
    (λ k. Cell c.args.self.now.file.now c.args.self.now.record k.0 k.1.now)
    (λ k. Cell c.args.self.now.file.now c.args.self.now.record k.0 k.1.now → ⊥)
    c.all.ensures.ran
    (YieldsList-from_slice c.columns.result.now (cc))
    (λ x q k. search (rules, tests))
    (λ x q k. search (rules, tests)))
