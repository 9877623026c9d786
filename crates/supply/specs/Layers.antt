-- What the layers supply, by the supply Z of the platform below.
use Rattle.std.specs.Prelude.{ℕ, ◌-◌, ◌*◌, ◌/◌, ◌≤◌, cond, nat_lt}

-- the most parts that a share takes its own from
abbrev pub most_parts : ℕ
most_parts = 1000

-- the numbers that a share may have
abbrev pub Parts : ℕ → ℕ → Type 0
Parts num den = (1 ≤ num) × (num ≤ den) × (den ≤ most_parts)

-- num of each den cycles, rounded down
abbrev pub share_of : ℕ → ℕ → (ℕ → ℕ) → ℕ → ℕ
share_of num den Z t = Z t * num / den

abbrev pub longest_holdoff : ℕ
longest_holdoff = 1000000

-- nothing for the length of the holdoff, then the supply below
abbrev pub holdoff_of : ℕ → (ℕ → ℕ) → ℕ → ℕ
holdoff_of delay Z t = cond (nat_lt t delay) 0 (Z (t - delay))
