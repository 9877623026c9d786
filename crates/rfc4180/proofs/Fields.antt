-- The field that starts at a place, and that there is no other.
use Rattle.std.proofs.Common.{◌≡◌, ℕ, ◌+◌, ◌-◌, ◌<◌, ◌≤◌, ◌⊎◌, List, [], ◌∷◌, length, get_or, drop, sym, refl, ap, ◌∙◌, inl, inr, ⊎_elim, arith}
use Rattle.std.proofs.lemmas.List.Edits.{length-between}
use Rattle.std.proofs.lemmas.List.{drop_more, drop_all}
use Rattle.std.proofs.lemmas.Bool.{cases_lt}
use Rattle.std.specs.List.{between}
use Rattle.rfc4180.specs.Grammar.{Text, Quotable, Plain, text, Quoted}
use Rattle.rfc4180.specs.Places.{Follows, PlainAt, QuotedAt, FieldAt}
use Rattle.rfc4180.specs.declared.scan.After.{After}
use Rattle.rfc4180.specs.declared.scan.After.TheVariants.{Comma, LineEnd, FileEnd}
use Rattle.rfc4180.specs.declared.scan.Found.{Found}
use Rattle.rfc4180.proofs.Cuts.{cut_first, cut_rest}
use Rattle.rfc4180.proofs.Stops.{PlainStop, QuotedStop, quote_quotable, plain_same, quoted_same}

pub plain_stop : (F : List ℕ) (e : ℕ) → (e < length F → Text (get_or F e 0) → ⊥) → PlainStop (drop e F)
plain_stop F e h =
    ⊎_elim
    (λ l. let d : drop e F ≡ get_or F e 0 ∷ drop (e + 1) F = drop_more F e 0 l in rw d (h l))
    (λ l. let d : drop e F ≡ [] = drop_all e F l in rw d tt)
    (cases_lt e (length F))

pub quoted_stop : (F : List ℕ) (e : ℕ) → (e < length F → Quotable (get_or F e 0) → ⊥) → (e + 1 < length F → get_or F e 0 ≡ 34 → get_or F (e + 1) 0 ≡ 34 → ⊥) → QuotedStop (drop e F)
quoted_stop F e h k =
    ⊎_elim
    (λ l.
    let d : drop e F ≡ get_or F e 0 ∷ drop (e + 1) F = drop_more F e 0 l in
    ⊎_elim
    (λ m. let f : drop (e + 1) F ≡ get_or F (e + 1) 0 ∷ drop (e + 1 + 1) F = drop_more F (e + 1) 0 m in rw (d, f) (h l, k m))
    (λ m. let f : drop (e + 1) F ≡ [] = drop_all (e + 1) F m in rw (d, f) (h l))
    (cases_lt (e + 1) (length F)))
    (λ l. let d : drop e F ≡ [] = drop_all e F l in rw d tt)
    (cases_lt e (length F))

-- what follows a field is no text
pub after_plain : (F : List ℕ) (a : After) (e : ℕ) → Follows a F e → e < length F → Text (get_or F e 0) → ⊥
after_plain F Comma e h l t = omega arith
after_plain F LineEnd e h l t = omega arith
after_plain F FileEnd e h l t = omega arith

-- nor is it a quote
pub after_quote : (F : List ℕ) (a : After) (e : ℕ) → Follows a F e → e < length F → get_or F e 0 ≡ 34 → ⊥
after_quote F Comma e h l t = omega arith
after_quote F LineEnd e h l t = omega arith
after_quote F FileEnd e h l t = omega arith

pub after_within : (F : List ℕ) (a : After) (e : ℕ) → Follows a F e → e ≤ length F
after_within F Comma e h = omega arith
after_within F LineEnd e h = omega arith
after_within F FileEnd e h = omega arith

-- one thing follows
pub after_once : (F : List ℕ) (a b : After) (e : ℕ) → Follows a F e → Follows b F e → a ≡ b
after_once F Comma Comma e h k = refl
after_once F Comma LineEnd e h k = absurd (omega arith)
after_once F Comma FileEnd e h k = absurd (omega arith)
after_once F LineEnd Comma e h k = absurd (omega arith)
after_once F LineEnd LineEnd e h k = refl
after_once F LineEnd FileEnd e h k = absurd (omega arith)
after_once F FileEnd Comma e h k = absurd (omega arith)
after_once F FileEnd LineEnd e h k = absurd (omega arith)
after_once F FileEnd FileEnd e h k = refl

-- a closing quote ends what stands between quotes
pub closing_stop : (F : List ℕ) (a : After) (e : ℕ) → get_or F e 0 ≡ 34 → Follows a F (e + 1) → QuotedStop (drop e F)
closing_stop F a e q h = quoted_stop F e (λ l. quote_quotable (get_or F e 0) q) (λ l _ r. after_quote F a (e + 1) h l r)

-- where two plain texts from one place end
pub plain_ends : (F : List ℕ) (s d e : ℕ) → s ≤ d → d ≤ length F → s ≤ e → e ≤ length F → Plain (between s d F) → Plain (between s e F) → PlainStop (drop d F) → PlainStop (drop e F) → d ≡ e
plain_ends F s d e h i j k p q t u =
    let z : between s d F ≡ between s e F = plain_same (between s d F) (between s e F) (drop d F) (drop e F) p q (sym (cut_rest F s d h) ∙ cut_rest F s e j) t u in
    let l : d - s ≡ e - s = sym (length-between F s d i) ∙ ap length z ∙ length-between F s e k in
    omega arith

-- where two texts between quotes from one place end
pub quoted_ends : (F : List ℕ) (s d e : ℕ) → s ≤ d → d ≤ length F → s ≤ e → e ≤ length F → Quoted (between s d F) → Quoted (between s e F) → QuotedStop (drop d F) → QuotedStop (drop e F) → d ≡ e
quoted_ends F s d e h i j k p q t u =
    let z : between s d F ≡ between s e F = quoted_same (drop d F) (drop e F) p q (sym (cut_rest F s d h) ∙ cut_rest F s e j) t u in
    let l : d - s ≡ e - s = sym (length-between F s d i) ∙ ap length z ∙ length-between F s e k in
    omega arith

pub first_text : {b : ℕ} {bs : List ℕ} → Plain (b ∷ bs) → Text b
first_text (text h p) = h

-- no plain field starts with a quote
pub quote_plain : (F : List ℕ) (s e : ℕ) (a : After) → s ≤ e → s < length F → get_or F s 0 ≡ 34 → Plain (between s e F) → Follows a F e → ⊥
quote_plain F s e a h l q p f =
    ⊎_elim
    (λ m.
    let d : between s e F ≡ get_or F s 0 ∷ between (s + 1) e F = cut_first F s e m l in
    let p' : Plain (get_or F s 0 ∷ between (s + 1) e F) = rw d at p in
    (first_text p').2 q)
    (λ m. let z : e ≡ s = omega arith in after_quote F a e f (omega arith) (ap (λ k. get_or F k 0) z ∙ q))
    (cases_lt s e)

-- where a quoted field's text ends
pub quoted_part_ends : (F : List ℕ) (s e : ℕ) (f : Found) → s + 1 ≤ e → e ≤ length F → Quoted (between (s + 1) e F) → QuotedStop (drop e F) → QuotedAt F s f → Follows f.after F f.end → e ≡ f.part.end
quoted_part_ends F s e f h l q t (first, start, le, quoted, last, end) a =
    let w : f.end ≤ length F = after_within F f.after f.end a in
    let a' : Follows f.after F (f.part.end + 1) = rw end at a in
    quoted_ends F (s + 1) e f.part.end h l (omega arith) (omega arith) q quoted t (closing_stop F f.after f.part.end last a')

abbrev found : ℕ → ℕ → ℕ → After → Found
found s e n a = record { part = record { start = s; end = e }; end = n; after = a }

found_is : (f g : Found) → f.part.start ≡ g.part.start → f.part.end ≡ g.part.end → f.end ≡ g.end → f.after ≡ g.after → f ≡ g
found_is f g h i j k =
    ap (λ x. found x f.part.end f.end f.after) h ∙ ap (λ x. found g.part.start x f.end f.after) i
    ∙ ap (λ x. found g.part.start g.part.end x f.after) j ∙ ap (λ x. found g.part.start g.part.end g.end x) k

same_after : (F : List ℕ) (f g : Found) → f.end ≡ g.end → Follows f.after F f.end → Follows g.after F g.end → f.after ≡ g.after
same_after F f g e a b = let a' : Follows f.after F g.end = rw e at a in after_once F f.after g.after g.end a' b

pub closed : (F : List ℕ) (s : ℕ) (f : Found) → QuotedAt F s f → Follows f.after F f.end → QuotedStop (drop f.part.end F)
closed F s f (first, start, le, quoted, last, end) a =
    let a' : Follows f.after F (f.part.end + 1) = rw end at a in closing_stop F f.after f.part.end last a'

once : (F : List ℕ) (s : ℕ) (f g : Found) → s ≤ f.end → s ≤ g.end → Follows f.after F f.end → Follows g.after F g.end → f.end ≤ length F → g.end ≤ length F → PlainAt F s f ⊎ QuotedAt F s f → PlainAt F s g ⊎ QuotedAt F s g → f ≡ g
once F s f g h k a b l m (inl (p, x, y)) (inl (q, z, w)) =
    let e : f.end ≡ g.end = plain_ends F s f.end g.end h l k m p q (plain_stop F f.end (after_plain F f.after f.end a)) (plain_stop F g.end (after_plain F g.after g.end b)) in
    found_is f g (x ∙ sym z) (y ∙ e ∙ sym w) e (same_after F f g e a b)
once F s f g h k a b l m (inl (p, x, y)) (inr (q, z, w, d, c, e)) = absurd (quote_plain F s f.end f.after h (omega arith) q p a)
once F s f g h k a b l m (inr (q, z, w, d, c, e)) (inl (p, x, y)) = absurd (quote_plain F s g.end g.after k (omega arith) q p b)
once F s f g h k a b l m (inr p) (inr q) =
    let e : f.part.end ≡ g.part.end = quoted_part_ends F s f.part.end g (omega (arith, p.1, p.2)) (omega (arith, p.5)) p.3 (closed F s f p a) q b in
    let n : f.end ≡ g.end = omega (arith, p.5, q.5) in
    found_is f g (p.1 ∙ sym q.1) e n (same_after F f g n a b)

-- one field starts at a place
pub field_once : (F : List ℕ) (s : ℕ) (f g : Found) → FieldAt F s f → FieldAt F s g → f ≡ g
field_once F s f g h k =
    once F s f g h.forward k.forward h.followed k.followed
    (after_within F f.after f.end h.followed)
    (after_within F g.after g.end k.followed)
    h.shape
    k.shape
