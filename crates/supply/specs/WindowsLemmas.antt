-- Window sums of any pattern.
use Rattle.std.specs.Prelude.{◌≡◌, ℕ, zero, suc, ◌+◌, ◌-◌, ◌*◌, ◌%◌, ◌<◌, ◌≤◌}
use Rattle.std.proofs.Math.Path.{refl, sym, ap}
use Rattle.std.proofs.Common.{◌∙◌, add-one, mod-lt}
use native.Mathlib.Omega.{arith}
use Rattle.std.proofs.Math.Nat.{suc-mod, mod-mod}
use Rattle.std.proofs.lemmas.List.Sums.{sum_by-cons}
use Rattle.std.specs.List.{range_with_len}
use Rattle.supply.specs.Windows.{window, Least, least_upto}
use Rattle.supply.specs.Laws.{Lawful}

-- a window of no places, and the first place of a longer one
pub window_none : (f : ℕ → ℕ) (s : ℕ) → window f s 0 ≡ 0
unfolding window
window_none f s = refl

pub window_from : (f : ℕ → ℕ) (s t : ℕ) → window f s (suc t) ≡ f s + window f (suc s) t
unfolding window
window_from f s t = rw add-one (sum_by-cons f s (range_with_len (suc s) t))

pub window_joins : (f : ℕ → ℕ) (s a b : ℕ) → window f s (a + b) ≡ window f s a + window f (s + a) b
window_joins f s zero b = grind (arith, window_none f s)
window_joins f s (suc a) b = grind (arith, window_from f s (a + b), window_from f s a, window_joins f (suc s) a b)

-- one more place, and the window one place on
pub window_more : (f : ℕ → ℕ) (s t : ℕ) → window f s (t + 1) ≡ window f s t + f (s + t)
window_more f s t = omega (arith, window_joins f s t 1, window_from f (s + t) 0, window_none f (suc (s + t)))

pub window_slides : (f : ℕ → ℕ) (s t : ℕ) → window f (s + 1) t + f s ≡ window f s t + f (s + t)
window_slides f s t = grind (arith, window_from f s t, window_more f s t)

-- a pattern of one speed
pub window_steady : (v s t : ℕ) → window (λ _. v) s t ≡ v * t
window_steady v s zero = omega (arith, window_none (λ _. v) s)
window_steady v s (suc t) = grind (arith, window_from (λ _. v) s t, window_steady v (suc s) t)

-- sums as differences of a running total
pub window_total : (f F : ℕ → ℕ) → ((x : ℕ) → F (suc x) ≡ F x + f x) → (s t : ℕ) → F s + window f s t ≡ F (s + t)
window_total f F step s zero = grind (arith, window_none f s)
window_total f F step s (suc t) = grind (arith, window_from f s t, step s, window_total f F step (suc s) t)

pub window_below : (f : ℕ → ℕ) (peak : ℕ) → ((i : ℕ) → f i ≤ peak) → (s t : ℕ) → window f s t ≤ peak * t
window_below f peak h s zero = omega (arith, window_none f s)
window_below f peak h s (suc t) = grind (arith, window_from f s t, h s, window_below f peak h (suc s) t)

-- a supply that is the least of all windows keeps the laws
module _ (f Z : ℕ → ℕ) (peak : ℕ) (top : (i : ℕ) → f i ≤ peak) (least : (t : ℕ) → Least f t (Z t)) where
  least_zero : Z 0 ≡ 0
  least_zero = omega (arith, window_none f (least 0).reached.0, (least 0).reached.1)

  least_joins : (a b : ℕ) → Z a + Z b ≤ Z (a + b)
  least_joins a b =
      let (s, e) = (least (a + b)).reached in
      omega (arith, window_joins f s a b, (least a).bound s, (least b).bound (s + a))

  pub least_lawful : Lawful peak Z
  least_lawful = record {
    zero = least_zero;
    rises = λ t. omega (arith, least_joins t 1);
    joins = least_joins;
    below = λ t. omega (arith, (least t).bound 0, window_below f peak top 0 t);
  }

pub least_upto_le : (f : ℕ → ℕ) (n k : ℕ) → k ≤ n → least_upto f n ≤ f k
unfolding least_upto
least_upto_le f zero k h = grind arith
least_upto_le f (suc n) k h = grind (arith, least_upto_le f n k)

pub le_least_upto : (f : ℕ → ℕ) (n z : ℕ) → ((k : ℕ) → z ≤ f k) → z ≤ least_upto f n
unfolding least_upto
le_least_upto f zero z h = h 0
le_least_upto f (suc n) z h = omega (arith, h (suc n), le_least_upto f n z h)

-- the least of a sum with a constant
pub least_upto_plus : (f g : ℕ → ℕ) (c n : ℕ) → ((k : ℕ) → f k ≡ c + g k) → least_upto f n ≡ c + least_upto g n
unfolding least_upto
least_upto_plus f g c zero h = h 0
least_upto_plus f g c (suc n) h = omega (arith, h (suc n), least_upto_plus f g c n h)

-- a pattern that repeats
module _ (g : ℕ → ℕ) (P : ℕ) where
  pub window_repeats : (s s' t : ℕ) → s % P ≡ s' % P → window (λ i. g (i % P)) s t ≡ window (λ i. g (i % P)) s' t
  window_repeats s s' zero e = omega (arith, window_none (λ i. g (i % P)) s, window_none (λ i. g (i % P)) s')
  window_repeats s s' (suc t) e =
      let d : suc s % P ≡ suc s' % P = suc-mod s P ∙ ap (λ x. suc x % P) e ∙ sym (suc-mod s' P) in
      omega (arith, window_from (λ i. g (i % P)) s t, window_from (λ i. g (i % P)) s' t, ap g e, window_repeats (suc s) (suc s') t d)

  -- so the starts in one period suffice
  pub least_in_period : (t z : ℕ) → 0 < P → Least (λ i. g (i % P)) t z → least_upto (λ s. window (λ i. g (i % P)) s t) (P - 1) ≡ z
  least_in_period t z pos least =
      let (s, e) = least.reached in
      let l = mod-lt s pos in
      let d = window_repeats (s % P) s t (mod-mod s P) in
      let a = least_upto_le (λ s. window (λ i. g (i % P)) s t) (P - 1) (s % P) (omega arith) in
      let b = le_least_upto (λ s. window (λ i. g (i % P)) s t) (P - 1) z least.bound in
      omega arith
