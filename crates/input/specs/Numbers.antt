-- The numbers that are written in a file.
use Rattle.std.specs.Prelude.{◌≡◌, ℕ, ◌+◌, ◌-◌, ◌*◌, ◌≤◌, List, [], ◌∷◌, length}

-- decimal digits
abbrev pub Digits : List ℕ → Type 0
Digits [] = Unit {0}
Digits (c ∷ cs) = ((48 ≤ c) × (c ≤ 57)) × Digits cs

-- the number that digits spell after others
abbrev pub spelled_on : ℕ → List ℕ → ℕ
spelled_on n [] = n
spelled_on n (c ∷ cs) = spelled_on (10 * n + (c - 48)) cs

abbrev pub spelled : List ℕ → ℕ
spelled cs = spelled_on 0 cs

-- one to ten digits that spell a number of 32 bits
pub record Spells (text : List ℕ) (value : ℕ) : Type 0 where
  pub some : 1 ≤ length text
  pub few : length text ≤ 10
  pub digits : Digits text
  pub value_is : value ≡ spelled text
  pub fits : value ≤ 4294967295
