-- Points that are asked one by one, and the test over all of them.
use Rattle.std.proofs.Common.{◌≡◌, ℕ, ◌<◌, ◌≤◌, Bool, true, false, cond, ltb, leb, List, [], length, get_or, Some, None, Option, sym, ap, ◌∙◌, subst, ⊎_elim, arith, le-ltb, le-leb, leb-true}
use Rattle.std.proofs.lemmas.Bool.{cases_lt, cases_Bool}
use Rattle.std.proofs.lemmas.List.{get_or_past}
use Rattle.supply.specs.Laws.{longest_window}
use Rattle.demand.specs.Tests.{point, Covered, Passes}

-- an index that answered a point lies within the group
pub within : (n i : ℕ) (p : ℕ × ℕ) → (n ≤ i → Some p ≡ None) → i < n
within n i p past =
    ⊎_elim (λ h. h) (λ h. let e : Some p ≡ None = past h in let z : ◌≡◌ {A = ℕ} 0 1 = cc in omega arith) (cases_lt i n)

-- one that answered none lies past its end
pub beyond : (n i : ℕ) (p : ℕ × ℕ) (o : Option (ℕ × ℕ)) → o ≡ None → (i < n → o ≡ Some p) → n ≤ i
beyond n i p o e here =
    ⊎_elim (λ h. let f : o ≡ Some p = here h in let z : ◌≡◌ {A = ℕ} 0 1 = cc in omega arith) (λ h. h) (cases_lt i n)

-- a group that has a point is one of the groups
pub among : (gs : List (List (ℕ × ℕ))) (g i : ℕ) → i < length (get_or gs g []) → g < length gs
among gs g i h =
    ⊎_elim (λ l. l) (λ l. let e = ap length (get_or_past gs g [] l) in omega arith) (cases_lt g (length gs))

-- what the answer to a point says
module _ (Z : ℕ → ℕ) (q : ℕ × ℕ) (t w : ℕ) (b : Bool) (e : Some (t, w) ≡ Some q)
    (a : b ≡ cond (ltb longest_window t) false (leb w (Z t))) where
  same : (t, w) ≡ q
  same = cc

  pub covered : b ≡ true → Covered Z q
  covered y =
      let P : ℕ × ℕ → Type 0 = λ x. x.1 ≤ Z x.0 in
      subst P same
      (⊎_elim (λ (l : ltb longest_window t ≡ true).
      let f : b ≡ false = a ∙ ap (λ v. cond v false (leb w (Z t))) l in let z : ◌≡◌ {A = ℕ} 0 1 = cc in absurd (omega arith))
      (λ (l : ltb longest_window t ≡ false).
      let f : b ≡ leb w (Z t) = a ∙ ap (λ v. cond v false (leb w (Z t))) l in leb-true w (Z t) (sym f ∙ y)) (cases_Bool (ltb longest_window t)))

  pub uncovered : b ≡ false → q.0 ≤ longest_window → Covered Z q → ⊥
  uncovered n early c =
      let P : ℕ × ℕ → Type 0 = λ x. (x.0 ≤ longest_window) × (x.1 ≤ Z x.0) in
      let h = subst P (sym same) (early, c) in
      let l = le-ltb longest_window t h.0 in
      let f : b ≡ leb w (Z t) = a ∙ ap (λ v. cond v false (leb w (Z t))) l in
      let k = le-leb w (Z t) h.1 in
      let z : ◌≡◌ {A = ℕ} 0 1 = cc in omega arith

module _ (Z : ℕ → ℕ) (gs : List (List (ℕ × ℕ))) (g n : ℕ) where
  -- a group of which no point is covered
  pub failing : ((k : ℕ) → k < n → (k < length (get_or gs g [])) × (Covered Z (point gs g k) → ⊥))
      → 0 < n → length (get_or gs g []) ≤ n → Passes Z gs → ⊥
  failing none some all pass =
      let m = (none 0 some).0 in
      let (i, l, c) = pass g (among gs g 0 m) in
      (none i (omega arith)).1 c
