-- What `try_fold` answers where its closure answers an `Option`.
use Rattle.std.proofs.Common.{◌≡◌, ◌+◌, List, [], ◌∷◌, ◌++◌, map, length, drop, Option, Some, None, MatchOption, sym, refl, ap, ◌∙◌, subst}
use Rattle.std.specs.Fn.{Called, Mut}
use Rattle.std.specs.Option.{option_and_then}
use Rattle.std.specs.List.{FoldsTo}
use Rattle.std.specs.Iterator.{TryFoldsItems, TryFoldTurn}
use Rattle.std.specs.ControlFlow.{continue_value}
use Rattle.std.specs.declared.ops.ControlFlow.{ControlFlow}
use Rattle.std.specs.declared.ops.ControlFlow.TheVariants.{Continue, Break}
use Rattle.std.proofs.lemmas.List.{append-nil, take-append-drop, drop_more}
use Rattle.std.proofs.lemmas.Iterator.{YieldsList}
use Rattle.std.proofs.lemmas.Iterator.Consumers.{YieldsList-so_far, YieldsList-turn, YieldsList-end}

abbrev pub try_fold : {C X : Type 0} → (C → X → Option C) → C → List X → Option C
try_fold h a [] = Some a
try_fold h a (x ∷ xs) = option_and_then (λ b. try_fold h b xs) (h a x)

abbrev pub goes_on : {C E : Type 0} → Option C → ControlFlow E C → Type 0
goes_on r b = r ≡ continue_value b

module _ {A X C F : Type 0} (v : A → X) (g : Mut F (C × (A × Unit {0})) (Option C)) (h : C → X → Option C) (f : F)
    (calls : (a : C) (x : A) (r : Option C) (q : F) → Called g f (a, (x, tt)) r q → (q ≡ f) × (r ≡ h a (v x))) where
  -- the turns that went on
  gone : (E : Type 0) (xs : List A) (p q : F × C) → p.0 ≡ f → FoldsTo (TryFoldTurn g (goes_on {E = E})) p xs q → (rest : List X)
      → (q.0 ≡ f) × (try_fold h p.1 (map v xs ++ rest) ≡ try_fold h q.1 rest)
  gone E [] p q e d rest = (sym (ap (λ s. s.0) d) ∙ e, ap (λ s. try_fold h s.1 rest) d)
  gone E (x ∷ xs) p q e (j, (r, called, on), d) rest =
      let t = calls p.1 x r j.0 (subst (λ s. Called g s (p.1, (x, tt)) r j.0) e called) in
      let z = gone E xs j q t.0 d rest in
      (z.0, ap (option_and_then (λ b. try_fold h b (map v xs ++ rest))) (sym t.1 ∙ on) ∙ z.1)

  pub try_fold_from_yields_List : {S E : Type 0} {steps : S → Option A → S → Type 0} (s u : S) (all : List X) (init : C) (r : Option C)
      → TryFoldsItems steps g (goes_on {E = E}) (λ _ r. r ≡ None) s f init r u → YieldsList steps v s all → r ≡ try_fold h init all
  try_fold_from_yields_List {S} {E} {steps} s u all init r (xs, o, f', a, (t, y, st), d, m) e = way o st m
    where
      way : (o : Option A) → steps t o u
          → MatchOption o (goes_on {E = E} r (Continue a)) (λ x. (w : Option C) × (k : F) × (b : E) × Called g f' (a, (x, tt)) w k × goes_on w (Break b) × (r ≡ None))
          → r ≡ try_fold h init all
      way None st m =
          let z = (gone E xs (f, init) (f', a) refl d []).1 in
          m ∙ sym (ap (try_fold h init) (sym (append-nil (map v xs) ∙ (YieldsList-end e xs t y None u refl st).0)) ∙ z)
      way (Some x) st (w, k, b, called, broke, none) =
          let n = YieldsList-turn e xs t y (Some x) u x refl st in
          let z = gone E xs (f, init) (f', a) refl d (drop (length xs) all) in
          let c = calls a x w k (subst (λ s. Called g s (a, (x, tt)) w k) z.0 called) in
          let front = ap (λ ys. ys ++ drop (length xs) all) (YieldsList-so_far e xs t y) ∙ take-append-drop (length xs) all in
          let next = drop_more all (length xs) (v x) n.0 ∙ ap (λ y. y ∷ drop (length xs + 1) all) (sym n.1) in
          none
          ∙ sym (ap (try_fold h init) (sym front) ∙ z.1 ∙ ap (try_fold h a) next ∙ ap (option_and_then (λ b. try_fold h b (drop (length xs + 1) all))) (sym c.1 ∙ broke))
