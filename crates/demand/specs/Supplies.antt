-- What follows from the laws of a supply.
use Rattle.std.specs.Prelude.{◌≡◌, ℕ, ◌+◌, ◌-◌, ◌≤◌}
use Rattle.std.proofs.Common.{arith, le_trans}
use Rattle.supply.specs.Laws.{Lawful}

module _ {peak : ℕ} {Z : ℕ → ℕ} (laws : Lawful peak Z) where
  -- a longer window supplies no less
  pub rises_by : (a k : ℕ) → Z a ≤ Z (a + k)
  rises_by a k = le_trans (omega arith) (laws.joins a k)

  pub monotone : (a b : ℕ) → a ≤ b → Z a ≤ Z b
  monotone a b h = let e : a + (b - a) ≡ b = omega arith in rw e at (rises_by a (b - a))
