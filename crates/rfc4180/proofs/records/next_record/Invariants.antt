use Rattle.std.proofs.Common.{◌≡◌, ℕ, ◌+◌, ◌-◌, ◌≤◌, min, length}
use Rattle.rfc4180.specs.Records.{Before, most_fields}
use Rattle.rfc4180.proofs.records.next_record.Given as goal

abbrev pub invariant-loop-end : goal.invariant-loop-end
invariant-loop-end l =
    (l.start ≡ min l.at (length l.file)) × (l.start ≤ l.from) × (l.from ≤ length l.file)
    × ((n : ℕ) × Before l.file l.start n l.from × (l.fields ≡ min (n + 1) most_fields))

abbrev pub decreases-loop-end : goal.decreases-loop-end
decreases-loop-end l = length l.file - l.from
