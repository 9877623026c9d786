-- Quotients: how many jobs and releases a window has, and when one more comes.
use Rattle.std.specs.Prelude.{◌≡◌, ℕ, zero, suc, ◌+◌, ◌-◌, ◌*◌, ◌/◌, ◌%◌, ◌<◌, ◌≤◌, cond, ◌⊎◌, nat_lt, refl}
use Rattle.std.proofs.Common.{sym, ◌∙◌, ap, inl, inr, arith, div-add-mod', mod-lt}
use Rattle.std.proofs.Math.Nat.{div-eq_of_lt, add-div_right}
use Rattle.std.proofs.lemmas.Bool.{cases_lt, cond_below, cond_above}
use Rattle.std.proofs.lemmas.Nat.{div-mul-add}

-- the jobs of a task, as one floor
pub jobs_floor : (t d p : ℕ) → 1 ≤ p → d ≤ p → cond (nat_lt t d) 0 ((t - d) / p + 1) ≡ (t + (p - d)) / p
jobs_floor t d p hp hd = way (cases_lt t d)
  where
    way : (t < d) ⊎ (d ≤ t) → cond (nat_lt t d) 0 ((t - d) / p + 1) ≡ (t + (p - d)) / p
    way (inl h) = sym (cond_below t d 0 ((t - d) / p + 1) h) ∙ sym (div-eq_of_lt (omega arith))
    way (inr h) =
        sym (cond_above t d 0 ((t - d) / p + 1) ((t + (p - d)) / p) h
        (let e : t + (p - d) ≡ (t - d) + p = omega arith in rw e (add-div_right (t - d) hp)))

-- a floor grows only at a multiple
pub floor_step : (x p : ℕ) → 1 ≤ p → (suc x / p ≡ x / p) ⊎ (suc x ≡ suc x / p * p)
floor_step x p hp = way (suc x % p) refl
  where
    split : suc x / p * p + suc x % p ≡ suc x
    split = div-add-mod' (suc x) p

    way : (r : ℕ) → suc x % p ≡ r → (suc x / p ≡ x / p) ⊎ (suc x ≡ suc x / p * p)
    way zero e = inr (omega (arith, split, e))
    way (suc r) e =
        let b : suc r ≤ p = omega (arith, mod-lt (suc x) hp, e) in
        let s : x ≡ suc x / p * p + r = omega (arith, split, e) in
        inl (sym (ap (λ y. y / p) s ∙ div-mul-add (suc x / p) p r (omega arith)))

-- a ceiling grows only after a multiple
pub ceil_step : (t p : ℕ) → 1 ≤ p → ((suc t + p - 1) / p ≡ (t + p - 1) / p) ⊎ ((k : ℕ) × (t ≡ k * p))
ceil_step t p hp = way (floor_step (t + p - 1) p hp)
  where
    e : suc (t + p - 1) ≡ suc t + p - 1
    e = omega arith

    way : (suc (t + p - 1) / p ≡ (t + p - 1) / p) ⊎ (suc (t + p - 1) ≡ suc (t + p - 1) / p * p) → ((suc t + p - 1) / p ≡ (t + p - 1) / p) ⊎ ((k : ℕ) × (t ≡ k * p))
    way (inl h) = inl (rw e at h)
    way (inr h) = inr (suc (t + p - 1) / p - 1, cut (suc (t + p - 1) / p) h)
      where
        cut : (q : ℕ) → suc (t + p - 1) ≡ q * p → t ≡ (q - 1) * p
        cut zero g = absurd (omega arith)
        cut (suc q) g = let r : suc q - 1 ≡ q = omega arith in rw r (omega arith)
