use Rattle.std.proofs.Common.{min, length, ◌∙◌, rules}
use Rattle.rfc4180.proofs.Once.{broken_field_once}
use Rattle.input.proofs.Showing.{none_broken}
use Rattle.input.proofs.shown.broken_text.Goals as goal

pub returns-in_err-broken : goal.returns-in_err-broken
returns-in_err-broken c =
    rw c.from_residual.ensures
    (λ t h. none_broken c.args.file.now _ c.next_record.result c.next_record.ensures.reads c.in_err-broken.ensures.value h.broken h.here)

pub returns-then-broken-number : goal.returns-then-broken-number
returns-then-broken-number c t h =
    c.if-broken-number.true (broken_field_once c.args.file.now (min c.args.at (length c.args.file.now)) c.in_ok-broken.broken h.broken (search rules) h.here ∙ h.numbered)
