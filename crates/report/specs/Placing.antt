-- What it is to write a text at a place of a buffer.
use Rattle.std.specs.Prelude.{◌≡◌, ℕ, ◌+◌, ◌<◌, ◌≤◌, List, ◌++◌, length, take, drop, Result, MatchResult}
use Rattle.processor.specs.declared.refusal.Refusal.{Refusal}
use Rattle.processor.specs.declared.refusal.Refusal.TheVariants.{NoRoom}

-- a text at a place, and before and after it what the buffer held
abbrev pub placed : List ℕ → ℕ → List ℕ → List ℕ
placed old at text = (take at old ++ text) ++ drop (at + length text) old

-- a text was put at a place, and ends inside of the buffer
abbrev pub Put : List ℕ → List ℕ → ℕ → List ℕ → ℕ → Type 0
Put old new at text end = (end ≡ at + length text) × (end ≤ length old) × (new ≡ placed old at text)

-- a text is put at a place and its end is answered, or it has no room and the buffer is as it was
abbrev pub Puts : List ℕ → List ℕ → ℕ → List ℕ → Result ℕ Refusal → Type 0
Puts old new at text r =
    MatchResult r (λ end. Put old new at text end)
    (λ refusal. (refusal ≡ NoRoom) × (length old < at + length text) × (new ≡ old))
