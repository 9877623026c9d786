-- When a split of a frame gains over its low mode.
use Rattle.std.proofs.Common.{◌≡◌, ℕ, ◌+◌, ◌-◌, ◌*◌, ◌<◌, ◌≤◌, ap, ◌∙◌, add-mul, mul-le-mul_left, mul-add, arith}
use native.Mathlib.Nat.{lt_of_mul-lt-mul_left}

-- low speed l, high speed h, switches d and u, frame P, high time q
module _ (l h d u P q : ℕ) (faster : l < h) (runs : q + d < P) where
  high_is : (x : ℕ) → h * x ≡ l * x + (h - l) * x
  high_is x = let e : h ≡ l + (h - l) = omega arith in ap (λ v. v * x) e ∙ add-mul l (h - l) x

  frame_is : l * P ≡ l * (P - q - d) + (l * q + l * d)
  frame_is =
      let e : P ≡ P - q - d + (q + d) = omega arith in
      ap (λ v. l * v) e ∙ mul-add l (P - q - d) (q + d) ∙ ap (λ v. l * (P - q - d) + v) (mul-add l q d)

  rest_is : u ≤ q → h * q ≡ h * u + h * (q - u)
  rest_is i = let e : q ≡ u + (q - u) = omega arith in ap (λ v. h * v) e ∙ mul-add h u (q - u)

  -- what the switches lose is made good
  pub gains : l * d + h * u < (h - l) * q → (u < q) × (l * P < l * (P - q - d) + h * (q - u))
  gains g =
      let a = high_is u in
      let i : u < q = lt_of_mul-lt-mul_left (h - l) (omega arith) in
      let b = high_is q in
      let c = rest_is (omega arith) in
      let f = frame_is in
      (i, omega arith)

  pub gains_only : u < q → l * P < l * (P - q - d) + h * (q - u) → l * d + h * u < (h - l) * q
  gains_only i g = let b = high_is q in let c = rest_is (omega arith) in let f = frame_is in omega arith

-- a longer high time makes good what a shorter one does
pub longer : (loss gain least q : ℕ) → loss < gain * least → least ≤ q → loss < gain * q
longer loss gain least q h i = let m : gain * least ≤ gain * q = mul-le-mul_left gain i in omega arith
