-- A pattern g that repeats with period P, by the totals G of one period.
use Rattle.std.specs.Prelude.{◌≡◌, ℕ, suc, ◌+◌, ◌*◌, ◌/◌, ◌%◌, ◌<◌}
use Rattle.std.proofs.Common.{sym, ap, ap₂, ◌∙◌, arith, mod-lt, div-add-mod', add-mul}
use Rattle.std.proofs.Math.Arith.{digits_div, digits_mod}
use Rattle.supply.specs.Windows.{window}
use Rattle.supply.specs.WindowsLemmas.{window_total}

module _ (g G : ℕ → ℕ) (P : ℕ) (pos : 0 < P) (start : G 0 ≡ 0) (step : (r : ℕ) → r < P → G (suc r) ≡ G r + g r) where
  -- the total of the first x places
  total : ℕ → ℕ
  total x = x / P * G P + G (x % P)

  total_at : (x q r : ℕ) → x ≡ q * P + r → r < P → total x ≡ q * G P + G r
  unfolding total
  total_at x q r e h = rw e (ap₂ (λ a b. a * G P + G b) (digits_div q h) (digits_mod q h))

  total_step : (x : ℕ) → total (suc x) ≡ total x + g (x % P)
  total_step x =
      let q = x / P in
      let r = x % P in
      let l : r < P = mod-lt x pos in
      let d : q * P + r ≡ x = div-add-mod' x P in
      grind (arith, start, step r l, add-mul q 1 P, add-mul q 1 (G P), total_at x q r, total_at (suc x) q (suc r), total_at (suc x) (q + 1) 0)

  total_frames : (q x : ℕ) → total (q * P + x) ≡ q * G P + total x
  total_frames q x =
      grind (arith, div-add-mod' x P, mod-lt x pos, add-mul q (x / P) P, add-mul q (x / P) (G P), total_at x (x / P) (x % P), total_at (q * P + x) (q + x / P) (x % P))

  abbrev pub repeated : ℕ → ℕ
  repeated i = g (i % P)

  -- a window within a frame, and one into the next
  pub window_inside : (s r : ℕ) → s + r < P → G s + window repeated s r ≡ G (s + r)
  window_inside s r h =
      grind (arith, window_total repeated total total_step s r, total_at s 0 s, total_at (s + r) 0 (s + r))

  pub window_across : (s r x : ℕ) → s < P → x < P → s + r ≡ P + x → G s + window repeated s r ≡ G P + G x
  window_across s r x h l e =
      grind (arith, window_total repeated total total_step s r, total_at s 0 s, total_at (s + r) 1 x)

  -- whole frames come out of a window
  pub window_frames : (s t : ℕ) → window repeated s t ≡ t / P * G P + window repeated (s % P) (t % P)
  window_frames s t =
      let q = s / P in
      let k = t / P in
      let d : q * P + s % P ≡ s = div-add-mod' s P in
      let c : k * P + t % P ≡ t = div-add-mod' t P in
      let f : s + t ≡ (q + k) * P + (s % P + t % P) = omega (arith, add-mul q k P) in
      let x = ap total (sym d) ∙ total_frames q (s % P) in
      let y = ap total f ∙ total_frames (q + k) (s % P + t % P) in
      omega (arith, add-mul q k (G P), window_total repeated total total_step s t, window_total repeated total total_step (s % P) (t % P))
