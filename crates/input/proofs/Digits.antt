-- The digits of a number.
use Rattle.std.proofs.Common.{ℕ, zero, suc, ◌<◌, ◌≤◌, List, [], ◌∷◌, length, get_or, arith}
use Rattle.input.specs.Numbers.{Digits}

-- each of the digits is one
pub digit_at : (cs : List ℕ) (i : ℕ) → Digits cs → i < length cs → (48 ≤ get_or cs i 0) × (get_or cs i 0 ≤ 57)
digit_at [] i d h = absurd (omega arith)
digit_at (c ∷ cs) zero d h = d.0
digit_at (c ∷ cs) (suc i) d h = digit_at cs i d.1 (omega arith)
