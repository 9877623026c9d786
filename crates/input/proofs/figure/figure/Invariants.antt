use Rattle.std.proofs.Common.{◌≡◌, ◌^◌, ◌<◌, drop}
use Rattle.input.specs.Numbers.{Digits, spelled_on, spelled}
use Rattle.input.proofs.figure.figure.Given as goal

abbrev pub invariant-loop-byte : goal.invariant-loop-byte
invariant-loop-byte l =
    (l.value < 10 ^ l.byte-index) × (spelled_on l.value (drop l.byte-index l.text) ≡ spelled l.text)
    × (Digits (drop l.byte-index l.text) → Digits l.text)
