use Rattle.std.proofs.Common.{sym, ◌∙◌}
use Rattle.input.specs.Headers.{miscounted}
use Rattle.input.proofs.line.read_entry.Goals as goal

pub returns-then-line-width-clause-reads : goal.returns-then-line-width-clause-reads
returns-then-line-width-clause-reads c =
    miscounted c.in_ok-line.line c.in_ok-line.ensures.reads (λ k. c.if-line-width.true (k ∙ sym c.width.ensures)) c.fault.ensures
