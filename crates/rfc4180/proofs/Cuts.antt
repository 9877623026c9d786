-- A part of a file, and what comes after it.
use Rattle.std.proofs.Common.{◌≡◌, ℕ, suc, ◌+◌, ◌-◌, ◌<◌, ◌≤◌, Bool, true, false, eqb, List, [], ◌∷◌, ◌++◌, length, get_or, take, drop, sym, ap, ◌∙◌, arith}
use Rattle.std.proofs.lemmas.Bool.{false≢true}
use Rattle.std.proofs.lemmas.Bool.Decides.{Decides-eqb}
use Rattle.std.proofs.lemmas.Slice.Eq.{starts_is}
use Rattle.std.proofs.lemmas.List.Edits.{between_more}
use Rattle.std.proofs.lemmas.List.{take-append-drop, drop-drop, append_assoc, drop_more, get_or-drop, take_all, length-drop}
use Rattle.std.specs.List.{between, starts_with}

-- the first byte of a part
pub cut_first : (F : List ℕ) (i j : ℕ) → i < j → i < length F → between i j F ≡ get_or F i 0 ∷ between (i + 1) j F
cut_first F i j h k =
    let n : j - i ≡ suc (j - (i + 1)) = omega arith in
    let e : drop i F ≡ get_or F i 0 ∷ drop (i + 1) F = drop_more F i 0 k in
    ap (λ r. take (j - i) r) e ∙ ap (λ m. take m (get_or F i 0 ∷ drop (i + 1) F)) n

-- the last two bytes of a part
pub cut_two : (F : List ℕ) (i j : ℕ) → i ≤ j → j + 1 < length F → between i (j + 2) F ≡ between i j F ++ get_or F j 0 ∷ get_or F (j + 1) 0 ∷ []
cut_two F i j h k =
    let n : j + 2 ≡ j + 1 + 1 = omega arith in
    let l : j < length F = omega arith in
    let o : i ≤ j + 1 = omega arith in
    ap (λ m. between i m F) n ∙ between_more F i (j + 1) 0 o k ∙ ap (λ r. r ++ get_or F (j + 1) 0 ∷ []) (between_more F i j 0 h l) ∙ append_assoc (between i j F) (get_or F j 0 ∷ []) (get_or F (j + 1) 0 ∷ [])

-- the rest of a file is a part and what comes after it
pub cut_rest : (F : List ℕ) (i j : ℕ) → i ≤ j → drop i F ≡ between i j F ++ drop j F
cut_rest F i j h =
    let b : i + (j - i) ≡ j = omega arith in
    sym (take-append-drop (j - i) (drop i F)) ∙ ap (λ r. between i j F ++ r) (drop-drop (j - i) i F ∙ ap (λ m. drop m F) b)

-- the front of the rest of a file is a part of it
pub front_between : (F : List ℕ) (s n : ℕ) → take n (drop s F) ≡ between s (s + n) F
front_between F s n = let e : n ≡ s + n - s = omega arith in ap (λ m. take m (drop s F)) e

-- a byte of the rest of a file
pub rest_at : (F rest : List ℕ) (s i j : ℕ) → rest ≡ drop s F → s + i ≡ j → get_or rest i 0 ≡ get_or F j 0
rest_at F rest s i j r e = ap (λ x. get_or x i 0) r ∙ get_or-drop s F i 0 ∙ ap (λ k. get_or F k 0) e

-- the rest of a file, as a slice to its end
pub rest_is : (F : List ℕ) (s : ℕ) → take (length F - s) (drop s F) ≡ drop s F
rest_is F s = take_all (length F - s) (drop s F) (omega (arith, length-drop s F))

-- the rest of a file after the first byte of a rest
pub inside_is : (F rest : List ℕ) (s : ℕ) → rest ≡ drop s F → take (length rest - 1) (drop 1 rest) ≡ drop (s + 1) F
inside_is F rest s r = rest_is rest 1 ∙ ap (drop 1) r ∙ drop-drop 1 s F

-- whether a byte comes first
pub first_is : (rest : List ℕ) (b : ℕ) (r : Bool) → r ≡ starts_with eqb rest (b ∷ []) → (r ≡ true → (0 < length rest) × (get_or rest 0 0 ≡ b)) × (r ≡ false → 0 < length rest → get_or rest 0 0 ≡ b → ⊥)
first_is [] b r e = let k = starts_is Decides-eqb [] (b ∷ []) r e in ((λ t. let l = ap length (k.0 t) in absurd (omega arith)), (λ f l. absurd (omega arith)))
first_is (x ∷ rest) b r e =
    let k = starts_is Decides-eqb (x ∷ rest) (b ∷ []) r e in
    ((λ t. (omega arith, ap (λ l. get_or l 0 0) (k.0 t))), (λ f l i. false≢true (sym f ∙ k.1 rest (ap (λ y. y ∷ rest) i))))
