use Rattle.std.proofs.Common.{vec_items, Option, sym, ap, ◌∙◌, subst, arith, MatchOption}
use Rattle.processor.specs.Candidates.{Candidate, Named}
use Rattle.processor.specs.Tables.{mode_of}
use Rattle.processor.specs.declared.drive.Drive.{Drive}
use Rattle.processor.proofs.Streams.{found_number, none_named}
use Rattle.processor.proofs.table.Processor.candidate.Goals as goal

pub returns-then-low-high : goal.returns-then-low-high
returns-then-low-high c =
    let t = c.args.self.now in
    let e = sym c.in_ok-mode.ensures in
    let n = found_number t c.args.low c.in_ok-mode.mode e in
    (ap (λ k. mode_of k (vec_items t.modes)) n ∙ e, (n, n ∙ c.if-low-high.true, omega arith, omega arith))

pub returns-in_err-pair : goal.returns-in_err-pair
returns-in_err-pair c =
    let t = c.args.self.now in
    let s = c.in_ok-splits.ensures in
    let C : Option Drive → Type 0 = λ r. MatchOption r
    ((d : Drive) → Candidate t d → Named c.args.low c.args.high c.args.low_time c.args.high_time d → ⊥)
    (λ d. Candidate t d × Named c.args.low c.args.high c.args.low_time c.args.high_time d) in
    subst C (sym c.from_residual-in_err-pair.ensures)
    (none_named t c.args.low c.args.high c.args.low_time c.args.high_time c.in_ok-frame.frame c.if-low-high.false c.in_ok-frame.ensures.1
    (λ p o e. c.in_err-pair.ensures (let w = (s.0 p o).0 in (omega (arith, w.0), omega (arith, w.1)))))
