-- The layers keep the laws of the supply below.
use Rattle.std.specs.Prelude.{◌≡◌, ℕ, ◌+◌, ◌-◌, ◌*◌, ◌/◌, ◌<◌, ◌≤◌, Ok}
use Rattle.std.proofs.Common.{sym, arith, le_trans, zero-mul, add-mul, mul_comm, mul-le-mul_left, mul-le-mul_right, div-mul-le_self}
use Rattle.std.proofs.Math.Nat.{zero-div, div-le_of_le-mul}
use Rattle.std.proofs.lemmas.Nat.{le-div}
use Rattle.std.proofs.lemmas.Bool.Decides.{nat_tests}
use Rattle.processor.specs.declared.drive.Drive.{Drive}
use Rattle.processor.specs.declared.drive.Drive.TheVariants.{Fixed, Pair as Turns}
use Rattle.processor.specs.Drives.{peak}
use Rattle.processor.specs.Limits.{top_speed}
use Rattle.supply.specs.Laws.{Lawful, longest_window, answer_of}
use Rattle.supply.specs.Layers.{share_of, holdoff_of}

-- division by one divisor keeps an order
div_rises : (d x y : ℕ) → 0 < d → x ≤ y → x / d ≤ y / d
div_rises d x y pos h = le-div (x / d) y d pos (le_trans (div-mul-le_self x d) h)

-- two quotients together are no more than the quotient of the sum
div_joins : (d x y : ℕ) → 0 < d → x / d + y / d ≤ (x + y) / d
div_joins d x y pos =
    le-div (x / d + y / d) (x + y) d pos (rw (add-mul (x / d) (y / d) d) (omega (arith, div-mul-le_self x d, div-mul-le_self y d)))

-- a part of x is no more than x
part_le : (x n d : ℕ) → 0 < d → n ≤ d → x * n / d ≤ x
part_le x n d pos h = div-le_of_le-mul d (rw (mul_comm d x) (mul-le-mul_left x h))

module _ {top : ℕ} {Z : ℕ → ℕ} (laws : Lawful top Z) where
  pub share_lawful : (n d : ℕ) → 1 ≤ n → n ≤ d → Lawful top (share_of n d Z)
  share_lawful n d some part =
      let pos : 0 < d = omega arith in
      record {
        zero = rw (laws.zero, zero-mul) (zero-div d);
        rises = λ t. div_rises d (Z t * n) (Z (t + 1) * n) pos (mul-le-mul_right n (laws.rises t));
        joins = λ a b. le_trans (div_joins d (Z a * n) (Z b * n) pos)
            (div_rises d (Z a * n + Z b * n) (Z (a + b) * n) pos
            (rw (sym (add-mul (Z a) (Z b) n)) (mul-le-mul_right n (laws.joins a b))));
        below = λ t. le_trans (part_le (Z t) n d pos part) (laws.below t);
      }

  -- a longer window supplies no less
  monotone : (a b : ℕ) → a ≤ b → Z a ≤ Z b
  monotone a b h = grind (arith, laws.joins a (b - a))

  -- a holdoff without cases, since there is no supply at 0
  held : (d t : ℕ) → holdoff_of d Z t ≡ Z (t - d)
  held d t = grind (arith, nat_tests, laws.zero)

  pub holdoff_lawful : (d : ℕ) → Lawful top (holdoff_of d Z)
  holdoff_lawful d = record {
    zero = grind (arith, held d 0, laws.zero);
    rises = λ t. omega (arith, monotone (t - d) (t + 1 - d) (omega arith), held d t, held d (t + 1));
    joins = λ a b. omega (arith, laws.joins (a - d) (b - d), monotone ((a - d) + (b - d)) (a + b - d) (omega arith), held d a, held d b, held d (a + b));
    below = λ t. rw (held d t) (le_trans (laws.below (t - d)) (mul-le-mul_left top (omega arith)));
  }

-- no drive is faster than the fastest mode may be
pub peak_limit : (d : Drive) → peak d ≤ top_speed
peak_limit (Fixed m) = m.slow
peak_limit (Turns p) = p.high.slow

-- what a platform answers is no more than the top speed over the longest window
pub answer_small : (d : Drive) (Z : ℕ → ℕ) → Lawful (peak d) Z → (t x : ℕ) → Ok x ≡ answer_of Z t → x ≤ top_speed * longest_window
answer_small d Z laws t x e = grind (arith, nat_tests, laws.below t, mul-le-mul_right t (peak_limit d))
