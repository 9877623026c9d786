-- Where a field's text stops is settled by what follows it.
use Rattle.std.proofs.Common.{◌≡◌, ℕ, zero, suc, ◌-◌, ◌<◌, ◌≤◌, ◌≢◌, List, [], ◌∷◌, ◌++◌, length, get_or, take, drop, sym, refl, ◌∙◌, inl, inr, arith, append_assoc}
use Rattle.std.proofs.lemmas.List.{take_all}
use Rattle.rfc4180.specs.Grammar.{Text, Quotable, Plain, none, text, Quoted, empty, byte, pair}

-- no text byte comes first
abbrev pub PlainStop : List ℕ → Type 0
PlainStop [] = Unit {0}
PlainStop (b ∷ bs) = Text b → ⊥

-- neither a byte that may stand between quotes nor two quotes come first
abbrev pub QuotedStop : List ℕ → Type 0
QuotedStop [] = Unit {0}
QuotedStop (b ∷ []) = Quotable b → ⊥
QuotedStop (b ∷ c ∷ bs) = (Quotable b → ⊥) × (b ≡ 34 → c ≢ 34)

pub head_is : {a b : ℕ} {xs bs : List ℕ} → a ∷ xs ≡ b ∷ bs → a ≡ b
head_is e = cc

pub tail_is : {a b : ℕ} {xs bs : List ℕ} → a ∷ xs ≡ b ∷ bs → xs ≡ bs
tail_is e = cc

plain_not : {b : ℕ} (us vs : List ℕ) → Text b → us ≡ b ∷ vs → PlainStop us → ⊥
plain_not us vs t e s = let f : PlainStop (_ ∷ vs) = rw e at s in f t

-- a plain text is settled
pub plain_same : (xs ys us vs : List ℕ) → Plain xs → Plain ys → xs ++ us ≡ ys ++ vs → PlainStop us → PlainStop vs → xs ≡ ys
plain_same [] [] us vs p q e s t = refl
plain_same [] (y ∷ ys) us vs p (text h q) e s t = absurd (plain_not us (ys ++ vs) h e s)
plain_same (x ∷ xs) [] us vs (text h p) q e s t = absurd (plain_not vs (xs ++ us) h (sym e) t)
plain_same (x ∷ xs) (y ∷ ys) us vs (text h p) (text k q) e s t =
    let r : xs ≡ ys = plain_same xs ys us vs p q (tail_is e) s t in
    let z : x ≡ y = head_is e in
    cc

-- a quote may not stand alone between quotes
pub quote_quotable : (b : ℕ) → b ≡ 34 → Quotable b → ⊥
quote_quotable b e (inl (l, h, q, c)) = q e
quote_quotable b e (inr (inl h)) = omega arith
quote_quotable b e (inr (inr (inl h))) = omega arith
quote_quotable b e (inr (inr (inr h))) = omega arith

stop_byte : (us : List ℕ) (b : ℕ) (vs : List ℕ) → us ≡ b ∷ vs → QuotedStop us → Quotable b → ⊥
stop_byte us b [] e s h = let f : QuotedStop (b ∷ []) = rw e at s in f h
stop_byte us b (c ∷ vs) e s h = let f : QuotedStop (b ∷ c ∷ vs) = rw e at s in f.0 h

stop_pair : (us : List ℕ) (b c : ℕ) (vs : List ℕ) → us ≡ b ∷ c ∷ vs → QuotedStop us → b ≡ 34 → c ≡ 34 → ⊥
stop_pair us b c vs e s h k = let f : QuotedStop (b ∷ c ∷ vs) = rw e at s in f.1 h k

-- a text between quotes is settled
pub quoted_same : {xs ys : List ℕ} (us vs : List ℕ) → Quoted xs → Quoted ys → xs ++ us ≡ ys ++ vs → QuotedStop us → QuotedStop vs → xs ≡ ys
quoted_same us vs empty empty e s t = refl
quoted_same us vs empty (byte {b = b} {bs = bs} h q) e s t = absurd (stop_byte us b (bs ++ vs) e s h)
quoted_same us vs empty (pair {b = b} {c = c} {bs = bs} h k q) e s t = absurd (stop_pair us b c (bs ++ vs) e s h k)
quoted_same us vs (byte {b = b} {bs = bs} h p) empty e s t = absurd (stop_byte vs b (bs ++ us) (sym e) t h)
quoted_same us vs (pair {b = b} {c = c} {bs = bs} h k p) empty e s t = absurd (stop_pair vs b c (bs ++ us) (sym e) t h k)
quoted_same us vs (byte {b = b} {bs = bs} h p) (byte {b = d} {bs = ds} k q) e s t =
    let r : bs ≡ ds = quoted_same us vs p q (tail_is e) s t in
    let z : b ≡ d = head_is e in
    cc
quoted_same us vs (byte {b = b} h p) (pair {b = d} k l q) e s t = absurd (quote_quotable b (head_is e ∙ k) h)
quoted_same us vs (pair {b = b} k l p) (byte {b = d} h q) e s t = absurd (quote_quotable d (sym (head_is e) ∙ k) h)
quoted_same us vs (pair {b = b} {c = c} {bs = bs} h k p) (pair {b = d} {c = f} {bs = ds} i j q) e s t =
    let r : bs ≡ ds = quoted_same us vs p q (tail_is (tail_is e)) s t in
    let y : b ≡ d = head_is e in
    let z : c ≡ f = head_is (tail_is e) in
    cc

-- text bytes in front make a plain text
pub plain_front : (xs : List ℕ) (n : ℕ) → ((k : ℕ) → k < n → k < length xs → Text (get_or xs k 0)) → Plain (take n xs)
plain_front xs zero h = none
plain_front [] (suc n) h = none
plain_front (x ∷ xs) (suc n) h = text (h 0 (omega arith) (omega arith)) (plain_front xs n (λ k l m. h (suc k) (omega arith) (omega arith)))

-- one byte more between quotes
pub quoted_push : {xs : List ℕ} (b : ℕ) → Quoted xs → Quotable b → Quoted (xs ++ b ∷ [])
quoted_push b empty h = byte h empty
quoted_push b (byte k p) h = byte k (quoted_push b p h)
quoted_push b (pair k l p) h = pair k l (quoted_push b p h)

-- two quotes more
pub quoted_pair : {xs : List ℕ} (b c : ℕ) → Quoted xs → b ≡ 34 → c ≡ 34 → Quoted (xs ++ b ∷ c ∷ [])
quoted_pair b c empty h i = pair h i empty
quoted_pair b c (byte k p) h i = byte k (quoted_pair b c p h i)
quoted_pair b c (pair k l p) h i = pair k l (quoted_pair b c p h i)

-- what is left of a text after bytes that stand between quotes
abbrev pub Passed : List ℕ → List ℕ → Type 0
Passed rest left = (front : List ℕ) × Quoted front × (rest ≡ front ++ left)

-- two quotes are passed
pub passed_pair : (rest left : List ℕ) → Passed rest left → 2 ≤ length left → get_or left 0 0 ≡ 34 → get_or left 1 0 ≡ 34 → Passed rest (take (length left - 2) (drop 2 left))
passed_pair rest [] p l h k = absurd (omega arith)
passed_pair rest (b ∷ []) p l h k = absurd (omega arith)
passed_pair rest (b ∷ c ∷ left) (front, q, e) l h k =
    rw (take_all (length (b ∷ c ∷ left) - 2) left (omega arith))
    (front ++ b ∷ c ∷ [], quoted_pair b c q h k, e ∙ sym (append_assoc front (b ∷ c ∷ []) left))

-- a byte is passed
pub passed_byte : (rest left : List ℕ) → Passed rest left → 1 ≤ length left → Quotable (get_or left 0 0) → Passed rest (take (length left - 1) (drop 1 left))
passed_byte rest [] p l h = absurd (omega arith)
passed_byte rest (b ∷ left) (front, q, e) l h =
    rw (take_all (length (b ∷ left) - 1) left (omega arith))
    (front ++ b ∷ [], quoted_push b q h, e ∙ sym (append_assoc front (b ∷ []) left))
