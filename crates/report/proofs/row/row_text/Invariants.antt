use Rattle.std.proofs.Common.{◌≡◌, ◌+◌, ◌*◌, ◌≤◌, ◌++◌, length, take, decimal}
use Rattle.report.specs.Texts.{after_commas}
use Rattle.report.proofs.row.row_text.Given as goal

abbrev pub invariant-numbers : goal.invariant-numbers
invariant-numbers l =
    (l.text.bytes ≡ (l.head ++ decimal l.first) ++ after_commas (take l.n-index l.more))
    × (length l.text.bytes ≤ length l.head + 10 + 11 * l.n-index)
