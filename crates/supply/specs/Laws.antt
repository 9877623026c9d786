-- What every platform keeps.
use Rattle.std.specs.Prelude.{◌≡◌, ℕ, ◌+◌, ◌*◌, ◌≤◌, cond, Ok, Err, Result, nat_lt}
use Rattle.processor.specs.declared.refusal.Refusal.{Refusal}
use Rattle.processor.specs.declared.refusal.Refusal.TheVariants.{WindowLimit}

-- what every supply of cycles keeps, under a peak speed
pub record Lawful (peak : ℕ) (Z : ℕ → ℕ) : Type 0 where
  pub zero : Z 0 ≡ 0
  pub rises : (t : ℕ) → Z t ≤ Z (t + 1)
  pub joins : (a b : ℕ) → Z a + Z b ≤ Z (a + b)
  pub below : (t : ℕ) → Z t ≤ peak * t

-- the longest window that may be asked for
abbrev pub longest_window : ℕ
longest_window = 1000000

-- the answer to a window
abbrev pub answer_of : (ℕ → ℕ) → ℕ → Result ℕ Refusal
answer_of Z t = cond (nat_lt longest_window t) (Err WindowLimit) (Ok (Z t))
