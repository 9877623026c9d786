-- What `find_map` finds where its closure gives the items that pass a test.
use Rattle.std.proofs.Common.{◌≡◌, ℕ, ◌+◌, ◌<◌, Bool, true, false, cond, List, [], ◌∷◌, length, Option, Some, None, refl, sym, ap, ◌∙◌, subst, suc, zero, ⊎_elim, arith}
use Rattle.std.specs.Prelude.{find, All, IfSome, IsSomeAnd, MatchOption, IsTrue}
use Rattle.std.specs.List.{AllWithin, HoldsAt}
use Rattle.std.specs.Option.{option_map}
use Rattle.std.specs.Fn.{Called}
use Rattle.std.specs.Iterator.Runs.{Run, SomeRun, EveryRun, ItemsMapTo, AllItemsGive, IsFirstToGive}
use Rattle.std.proofs.lemmas.Bool.{cases_Bool}
use denote.Param.Members.{Mut}

module _ {X : Type 0} (p : X → Bool) where
  none_found : (xs : List X) → All (λ y. p y ≡ false) xs → None ≡ find p xs
  none_found [] h = refl
  none_found (x ∷ xs) h = rw (h 0 x (omega arith)) (none_found xs (λ k d l. h (suc k) d (omega arith)))

  first_found : (xs : List X) (i : ℕ) (y : X) → i < length xs → HoldsAt (λ z. z ≡ y) xs i → p y ≡ true → AllWithin (λ z. p z ≡ false) xs 0 i → Some y ≡ find p xs
  first_found [] i y l a t e = absurd (omega arith)
  first_found (x ∷ xs) zero y l a t e = let b : x ≡ y = a x in let c : p x ≡ true = ap p b ∙ t in rw c (cc)
  first_found (x ∷ xs) (suc i) y l a t e =
      rw (e 0 x (omega arith) (omega arith)) (first_found xs i y (omega arith) a t (λ k d m n. e (suc k) d (omega arith) (omega arith)))

module _ {A X F : Type 0} (v : A → X) {g : Mut F (A × Unit {0}) (Option X)} (test : X → Bool) (f : F)
    (told : (x : A) (o : Option X) (q : F) → Called g f (x, tt) o q → (q ≡ f) × (o ≡ cond (test (v x)) (Some (v x)) None)) where
  misses : (x : A) → Called g f (x, tt) None f → test (v x) ≡ false
  misses x h =
      let e = (told x None f h).1 in
      ⊎_elim (λ (b : test (v x) ≡ true). let n : None ≡ Some (v x) = rw b at e in cc) (λ (b : test (v x) ≡ false). b) (cases_Bool (test (v x)))

  hits : (x : A) (y : X) → Called g f (x, tt) (Some y) f → (test y ≡ true) × (v x ≡ y)
  hits x y h =
      let e = (told x (Some y) f h).1 in
      ⊎_elim (λ (b : test (v x) ≡ true). let s : Some y ≡ Some (v x) = rw b at e in let i : y ≡ v x = cc in (ap test i ∙ b, sym i))
      (λ (b : test (v x) ≡ false). let n : Some y ≡ None = rw b at e in cc) (cases_Bool (test (v x)))

  missed : (o : Option A) (z : X) → option_map v o ≡ Some z → IfSome o (λ x. Called g f (x, tt) None f) → test z ≡ false
  missed None z e h = cc
  missed (Some x) z e h = let i : z ≡ v x = cc in ap test i ∙ misses x h

  missed_one : (o : Option A) (z : X) → option_map v o ≡ Some z → IsSomeAnd o (λ x. Called g f (x, tt) None f) → test z ≡ false
  missed_one None z e h = cc
  missed_one (Some x) z e h = let i : z ≡ v x = cc in ap test i ∙ misses x h

  hit : (o : Option A) (y z : X) → option_map v o ≡ Some z → IsSomeAnd o (λ x. Called g f (x, tt) (Some y) f) → (test y ≡ true) × (z ≡ y)
  hit None y z e h = cc
  hit (Some x) y z e h = let k = hits x y h in (k.0, cc)

  module _ {S : Type 0} {steps : S → Option A → S → Type 0} where
    in_run : (r : Option X) (all : List X) (p : Run steps) → ItemsMapTo p v all
        → MatchOption r (IsTrue p.whole × AllItemsGive p g f None) (λ y. (i : ℕ) × (i < p.len) × (p.len ≡ i + 1) × IsFirstToGive p g f (Some y) None i) → r ≡ find test all
    in_run None all p m h =
        let gave = h.1 (λ a r q k. (told a.0 r q k).0) in
        none_found test all (λ k d l. missed (p.at k) _ (m.2 k d (omega (arith, m.1 h.0))) (gave k))
    in_run (Some y) all p m h =
        let gave = h.3 (λ a r q k. (told a.0 r q k).0) in
        first_found test all h.0 y (omega (arith, m.0, h.1)) (λ d. (hit (p.at h.0) y _ (m.2 h.0 d h.1) gave.0).1)
        (hit (p.at h.0) y _ (m.2 h.0 y h.1) gave.0).0 (λ k d a b. missed_one (p.at k) _ (m.2 k d (omega (arith, h.1))) (gave.1 k b))

    pub find_mapped : (rest : S → List X) (s : S) (r : Option X) (all : List X) → EveryRun steps (λ p. ItemsMapTo p v (rest p.from)) → rest s ≡ all
        → SomeRun steps s (λ p. MatchOption r (IsTrue p.whole × AllItemsGive p g f None) (λ y. (i : ℕ) × (i < p.len) × (p.len ≡ i + 1) × IsFirstToGive p g f (Some y) None i))
        → r ≡ find test all
    find_mapped rest s r all runs e d =
        let p : Run steps = d.0 in
        in_run r all p (subst (λ xs. ItemsMapTo p v xs) (ap rest d.1 ∙ e) (runs p p.seen)) d.2
