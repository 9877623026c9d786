-- What is found in a list, and how long a list without repetition can be.
use Rattle.std.proofs.Common.{◌≡◌, ℕ, ◌<◌, ◌≤◌, Bool, true, false, eqb, List, [], ◌∷◌, ◌++◌, map, length, get_or, is_some, Some, None, Option, sym, refl, ap, ◌∙◌, ⊎_elim, arith, ne_eqb, eqb-true}
use Rattle.std.specs.Prelude.{find, All, AllPairs, ◌≢◌}
use Rattle.std.specs.Option.{option_map}
use Rattle.std.proofs.lemmas.Bool.{cases_Bool}
use Rattle.std.proofs.lemmas.List.{length-map, get_or-map}
use Rattle.std.proofs.lemmas.List.Elements.{All-nil, All-cons, All-map}
use Rattle.std.proofs.lemmas.List.Folds.{Any-from_list_any}
use Rattle.std.proofs.lemmas.Map.Keys.{IsDistinct-from_apart}
use Rattle.std.proofs.lemmas.Map.Steps.{length-le_from_distinct_below}

module _ {X : Type 0} (p : X → Bool) where
  -- what is found passes
  pub found_passes : (xs : List X) (x : X) → find p xs ≡ Some x → p x ≡ true
  found_passes [] x e = cc
  found_passes (y ∷ xs) x e =
      ⊎_elim (λ (t : p y ≡ true). let m : Some y ≡ Some x = rw t at e in let n : y ≡ x = cc in ap p (sym n) ∙ t)
      (λ (t : p y ≡ false). found_passes xs x (rw t at e)) (cases_Bool (p y))

  -- where nothing is found, nothing passes
  pub none_passes : (xs : List X) → is_some (find p xs) ≡ false → All (λ x. p x ≡ false) xs
  none_passes [] e = All-nil (λ x. p x ≡ false)
  none_passes (y ∷ xs) e =
      ⊎_elim (λ (t : p y ≡ true). let m : true ≡ false = rw t at e in cc)
      (λ (t : p y ≡ false). All-cons (λ x. p x ≡ false) y xs t (none_passes xs (rw t at e))) (cases_Bool (p y))

  -- what is found in a list is found in a longer one
  pub found_more : (xs ys : List X) → is_some (find p xs) ≡ true → is_some (find p (xs ++ ys)) ≡ true
  found_more [] ys e = cc
  found_more (y ∷ xs) ys e =
      ⊎_elim (λ (t : p y ≡ true). rw t) (λ (t : p y ≡ false). rw t (found_more xs ys (rw t at e))) (cases_Bool (p y))

pub found : {X : Type 0} (o : Option X) → is_some o ≡ true → (x : X) × (o ≡ Some x)
found None e = cc
found (Some x) e = (x, refl)

pub some_mapped : {X Y : Type 0} (f : X → Y) (o : Option X) → is_some (option_map f o) ≡ is_some o
some_mapped f None = refl
some_mapped f (Some x) = refl

-- elements that are told apart by numbers below n are at most n
pub few : {X : Type 0} (code : X → ℕ) (n : ℕ) (xs : List X) → ((x : X) → code x < n) → AllPairs (λ x y. code x ≢ code y) xs → length xs ≤ n
few code n [] below differ = omega arith
few code n (x ∷ xs) below differ =
    let ks = map code (x ∷ xs) in
    let e = length-map (x ∷ xs) code in
    let apart = IsDistinct-from_apart eqb ks (λ i j d h l.
    let a = get_or-map code (x ∷ xs) i x d (omega arith) in
    let b = get_or-map code (x ∷ xs) j x d (omega arith) in
    ne_eqb (get_or ks i d) (get_or ks j d) (λ q. differ i j x h (omega arith) (sym a ∙ q ∙ b))) in
    let small = All-map (λ k. k < n) code (x ∷ xs) (λ k d l. below (get_or (x ∷ xs) k d)) in
    let h = length-le_from_distinct_below ks n apart (λ q t.
    let (k, y, l, is, passes) = Any-from_list_any (eqb q) ks t in
    let s = small k y l in
    let z = eqb-true q y passes in
    omega arith) in
    omega arith
