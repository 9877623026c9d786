use Rattle.std.proofs.Common.{sym, subst, arith}
use Rattle.input.specs.Headers.{Heads, differs}
use Rattle.input.proofs.line.read_header.Goals as goal

pub returns-then-not-is_header-clause-reads : goal.returns-then-not-is_header-clause-reads
returns-then-not-is_header-clause-reads c =
    let h = c.in_ok-line.ensures.reads in
    differs c.in_ok-line.line (omega arith) h
    (λ k. c.if-not-is_header.ensures (subst (λ s. Heads s c.in_ok-line.line.file.now c.in_ok-line.line.record) (sym h.1) (subst (λ F. Heads c.args.source F c.in_ok-line.line.record) (sym h.0) k)))
    c.fault.ensures
