-- The longest frame below a bound.
use Rattle.std.proofs.Common.{◌≡◌, ℕ, ◌<◌, ◌≤◌, true, false, eqb, ltb, ◌⊎◌, List, [], ◌∷◌, Option, sym, refl, Some, None, inl, inr, ⊎_elim, arith, ltb-false, ltb-true, eq-eqb, eqb-true}
use Rattle.std.specs.Prelude.{filter, fold, max}
use Rattle.std.specs.List.{reduce}
use Rattle.std.proofs.lemmas.Bool.{cases_Bool, cases_lt}
use Rattle.processor.specs.Tables.{has_frame, LongestBelow}

has_cons : (q x : ℕ) (ps : List ℕ) → has_frame q (x ∷ ps) ≡ true → (q ≡ x) ⊎ (has_frame q ps ≡ true)
has_cons q x ps e =
    ⊎_elim (λ (t : eqb x q ≡ true). inl (sym (eqb-true x q t))) (λ (t : eqb x q ≡ false). inr (rw t at e)) (cases_Bool (eqb x q))

has_later : (q x : ℕ) (ps : List ℕ) → has_frame q ps ≡ true → has_frame q (x ∷ ps) ≡ true
has_later q x ps e = ⊎_elim (λ (t : eqb x q ≡ true). rw t) (λ (t : eqb x q ≡ false). rw t e) (cases_Bool (eqb x q))

has_first : (q x : ℕ) (ps : List ℕ) → q ≡ x → has_frame q (x ∷ ps) ≡ true
has_first q x ps e = rw (eq-eqb x q (sym e))

-- the larger of two is one of them
listed_max : (a x m : ℕ) (ps : List ℕ) → m ≡ max a x → (m ≡ a) ⊎ (has_frame m (x ∷ ps) ≡ true)
listed_max a x m ps e =
    ⊎_elim (λ (f : a < x). inr (has_first m x ps (omega arith))) (λ (f : x ≤ a). inl (omega arith)) (cases_lt a x)

-- m is the longest of a and the frames below the bound
record Longest (bound a : ℕ) (ps : List ℕ) (m : ℕ) : Type 0 where
  below : m < bound
  listed : (m ≡ a) ⊎ (has_frame m ps ≡ true)
  first : a ≤ m
  others : (q : ℕ) → has_frame q ps ≡ true → q < bound → q ≤ m

module _ (bound : ℕ) where
  longest_from : (a : ℕ) (ps : List ℕ) → a < bound → Longest bound a ps (fold max a (filter (λ p. ltb p bound) ps))
  longest_from a [] l = record { below = l; listed = inl refl; first = omega arith; others = λ q e k. cc }
  longest_from a (x ∷ ps) l =
      ⊎_elim
      (λ (t : ltb x bound ≡ true).
      let k = ltb-true x bound t in
      let h = longest_from (max a x) ps (omega arith) in
      rw t (record {
        below = h.below;
        listed = ⊎_elim (λ e. listed_max a x _ ps e) (λ e. inr (has_later _ x ps e)) h.listed;
        first = let i = h.first in omega arith;
        others = λ q e j. ⊎_elim (λ f. let i = h.first in omega arith) (λ f. h.others q f j) (has_cons q x ps e);
      }))
      (λ (t : ltb x bound ≡ false).
      let k = ltb-false x bound t in
      let h = longest_from a ps l in
      rw t (record {
        below = h.below;
        listed = ⊎_elim (λ e. inl e) (λ e. inr (has_later _ x ps e)) h.listed;
        first = h.first;
        others = λ q e j. ⊎_elim (λ f. omega arith) (λ f. h.others q f j) (has_cons q x ps e);
      }))
      (cases_Bool (ltb x bound))

  -- one frame more that is not below the bound
  later : (x : ℕ) (ps : List ℕ) (r : Option ℕ) → bound ≤ x → LongestBelow bound ps r → LongestBelow bound (x ∷ ps) r
  later x ps None k h = λ q f. ⊎_elim (λ g. omega arith) (λ g. h q g) (has_cons q x ps f)
  later x ps (Some y) k h =
      (h.0, has_later y x ps h.1, (λ q f l. ⊎_elim (λ g. omega arith) (λ g. h.2 q g l) (has_cons q x ps f)))

  -- the longest of those that are kept is the longest below the bound
  pub longest_kept : (ps : List ℕ) (r : Option ℕ) → r ≡ reduce max (filter (λ p. ltb p bound) ps) → LongestBelow bound ps r
  longest_kept [] r e = rw e (λ q f. cc)
  longest_kept (x ∷ ps) r e =
      ⊎_elim
      (λ (t : ltb x bound ≡ true).
      let h = longest_from x ps (ltb-true x bound t) in
      rw (e, t) (
        h.below,
        ⊎_elim (λ f. has_first _ x ps f) (λ f. has_later _ x ps f) h.listed,
        (λ q f l. ⊎_elim (λ g. let i = h.first in omega arith) (λ g. h.others q g l) (has_cons q x ps f)),
      ))
      (λ (t : ltb x bound ≡ false).
      let k = ltb-false x bound t in
      later x ps r k (longest_kept ps r (rw t at e)))
      (cases_Bool (ltb x bound))
