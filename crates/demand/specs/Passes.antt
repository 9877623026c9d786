-- A test over listed points, by the things that the groups are listed for.
use Rattle.std.specs.Prelude.{◌≡◌, ℕ, zero, suc, ◌+◌, ◌<◌, ◌≤◌, ◌⊎◌, List, [], ◌∷◌, map, length, slice_index_or, refl}
use Rattle.std.proofs.Common.{sym, subst, inl, inr, arith}
use mathlib.Core.List.Memᴰ
use mathlib.Core.List.{Memᴰ}
use Rattle.std.specs.List.{range_with_len}
use Rattle.std.proofs.lemmas.Bool.{cases_lt}
use Rattle.demand.specs.Tests.{Covered, Passes}

-- some point of a group is covered
abbrev pub Held : (ℕ → ℕ) → List (ℕ × ℕ) → Type 0
Held Z G = (i : ℕ) × (i < length G) × Covered Z (slice_index_or G i (0, 0))

module _ {X : Type 0} (Z : ℕ → ℕ) (g : X → List (ℕ × ℕ)) where
  pub passes_each : (xs : List X) → Passes Z (map g xs) → (x : X) → Memᴰ x xs → Held Z (g x)
  passes_each [] h x i = absurd (Memᴰ.not-nil i)
  passes_each (y ∷ xs) h x i = way (Memᴰ.cases_cons i) (passes_each xs (λ k l. h (suc k) (omega arith)) x)
    where
      way : (x ≡ y) ⊎ Memᴰ x xs → (Memᴰ x xs → Held Z (g x)) → Held Z (g x)
      way (inl e) next = subst (λ z. Held Z (g z)) (sym e) (h 0 (omega arith))
      way (inr j) next = next j

  pub each_passes : (xs : List X) → ((x : X) → Memᴰ x xs → Held Z (g x)) → Passes Z (map g xs)
  each_passes [] h k l = absurd (omega arith)
  each_passes (y ∷ xs) h zero l = h y (Memᴰ.head refl)
  each_passes (y ∷ xs) h (suc k) l = each_passes xs (λ x i. h x (Memᴰ.tail i)) k (omega arith)

module _ (Z w : ℕ → ℕ) where
  pub held_at : (ts : List ℕ) (t : ℕ) → Memᴰ t ts → w t ≤ Z t → Held Z (map (λ t. (t, w t)) ts)
  held_at [] t i h = absurd (Memᴰ.not-nil i)
  held_at (x ∷ ts) t i h = way (Memᴰ.cases_cons i) (λ j. held_at ts t j h)
    where
      way : (t ≡ x) ⊎ Memᴰ t ts → (Memᴰ t ts → Held Z (map (λ t. (t, w t)) ts)) → Held Z ((x, w x) ∷ map (λ t. (t, w t)) ts)
      way (inl e) next = (0, omega arith, subst (λ y. w y ≤ Z y) e h)
      way (inr j) next = let r = next j in (suc r.0, omega (arith, r.1), r.2)

  pub at_held : (ts : List ℕ) → Held Z (map (λ t. (t, w t)) ts) → (t : ℕ) × Memᴰ t ts × (w t ≤ Z t)
  at_held [] (i, l, h) = absurd (omega arith)
  at_held (x ∷ ts) (zero, l, h) = (x, Memᴰ.head refl, h)
  at_held (x ∷ ts) (suc i, l, h) = let r = at_held ts (i, omega arith, h) in (r.0, Memᴰ.tail r.1, r.2)

-- ---- counting

pub member_counting : (n a k : ℕ) → a ≤ k → k < a + n → Memᴰ k (range_with_len a n)
member_counting zero a k l h = absurd (omega arith)
member_counting (suc n) a k l h = way (cases_lt a k) (λ g. member_counting n (a + 1) k g (omega arith))
  where
    way : (a < k) ⊎ (k ≤ a) → (a + 1 ≤ k → Memᴰ k (range_with_len (a + 1) n)) → Memᴰ k (a ∷ range_with_len (a + 1) n)
    way (inl g) next = Memᴰ.tail (next (omega arith))
    way (inr g) next = Memᴰ.head (omega arith)

pub counting_member : (n a k : ℕ) → Memᴰ k (range_with_len a n) → (a ≤ k) × (k < a + n)
counting_member zero a k i = absurd (Memᴰ.not-nil i)
counting_member (suc n) a k i = way (Memᴰ.cases_cons i) (counting_member n (a + 1) k)
  where
    way : (k ≡ a) ⊎ Memᴰ k (range_with_len (a + 1) n) → (Memᴰ k (range_with_len (a + 1) n) → (a + 1 ≤ k) × (k < a + 1 + n)) → (a ≤ k) × (k < a + suc n)
    way (inl e) next = (omega arith, omega arith)
    way (inr j) next = let r = next j in (omega (arith, r.0), omega (arith, r.1))

module _ (f : ℕ → ℕ) (n : ℕ) where
  pub member_listed : (p k : ℕ) → k < n → p ≡ f k → Memᴰ p (map f (range_with_len 0 n))
  member_listed p k h e = Memᴰ.cast e (Memᴰ.map f (member_counting n 0 k (omega arith) (omega arith)))

  pub listed_member : (p : ℕ) → Memᴰ p (map f (range_with_len 0 n)) → (k : ℕ) × (k < n) × (p ≡ f k)
  listed_member p i =
      let r = Memᴰ.of_map f (range_with_len 0 n) i in
      (r.0, omega (arith, (counting_member n 0 r.0 r.1).1), sym r.2)
