-- Where a field breaks.
use Rattle.std.proofs.Common.{◌≡◌, ℕ, ◌+◌, ◌<◌, ◌≤◌, List, [], ◌∷◌, ◌++◌, length, get_or, sym, refl, ap, ◌∙◌, inl, inr, ⊎_elim, arith}
use Rattle.std.proofs.lemmas.List.Edits.{between_more}
use Rattle.std.proofs.lemmas.List.{append-nil, append_assoc, append_cancel_left}
use Rattle.std.specs.List.{between}
use Rattle.rfc4180.specs.Grammar.{Text, Quotable, Plain, text}
use Rattle.rfc4180.specs.Places.{Follows, PlainAt, QuotedAt, FieldAt, BrokenAt}
use Rattle.rfc4180.specs.declared.scan.After.{After}
use Rattle.rfc4180.specs.declared.scan.Found.{Found}
use Rattle.rfc4180.proofs.Cuts.{cut_first, cut_two}
use Rattle.rfc4180.proofs.Ends.{PlainEnd, QuotedEnd}
use Rattle.rfc4180.proofs.Fields.{plain_stop, quoted_stop, plain_ends, quoted_part_ends, quote_plain, first_text, after_plain, after_within}
use Rattle.rfc4180.proofs.Stops.{QuotedStop, quote_quotable, quoted_same, head_is, tail_is}

last_text : (xs : List ℕ) (c : ℕ) (more : List ℕ) → Plain ((xs ++ c ∷ []) ++ more) → Text c
last_text [] c more (text h p) = h
last_text (x ∷ xs) c more (text h p) = last_text xs c more p

-- no field starts where a plain text is not followed by what may follow it
plain_none : (F : List ℕ) (s e : ℕ) → PlainEnd F s e → ((a : After) → Follows a F e → ⊥) → (f : Found) → FieldAt F s f → ⊥
plain_none F s e p u f k =
    let w : f.end ≤ length F = after_within F f.after f.end k.followed in
    ⊎_elim
    (λ (q : PlainAt F s f).
    let z : e ≡ f.end = plain_ends F s e f.end p.forward p.within k.forward w p.plain q.0 (plain_stop F e p.stops) (plain_stop F f.end (after_plain F f.after f.end k.followed)) in
    u f.after (rw z k.followed))
    (λ (q : QuotedAt F s f). p.unquoted (omega (arith, q.1, q.2, q.5)) q.0)
    k.shape

pub plain_broken : (F : List ℕ) (s e : ℕ) → PlainEnd F s e → ((a : After) → Follows a F e → ⊥) → BrokenAt F s e
plain_broken F s e p u = record {
  forward = p.forward;
  within = p.within;
  none = plain_none F s e p u;
  begins = ([], inl (rw append-nil p.plain));
  longest = λ m b.
      let x : between s (e + 1) F ≡ between s e F ++ get_or F e 0 ∷ [] = between_more F s e 0 p.forward m in
      let y : between s (e + 1) F ≡ get_or F s 0 ∷ between (s + 1) (e + 1) F = cut_first F s (e + 1) (omega arith) (omega arith) in
      ⊎_elim
      (λ q. p.stops m (last_text (between s e F) (get_or F e 0) b.0 (rw x at q)))
      (λ q. p.unquoted (omega arith) (head_is (sym (ap (λ r. r ++ b.0) y) ∙ q.2)))
      b.1;
}

stop_cons : (c : ℕ) (more : List ℕ) → (Quotable c → ⊥) → (c ≡ 34 → ⊥) → QuotedStop (c ∷ more)
stop_cons c [] h k = h
stop_cons c (d ∷ more) h k = (h, λ e. absurd (k e))

-- what begins with a quote is no plain text
quote_begins : (F : List ℕ) (s e : ℕ) (more : List ℕ) → s < e → s < length F → get_or F s 0 ≡ 34 → Plain (between s e F ++ more) → ⊥
quote_begins F s e more h l q p =
    let y : between s e F ≡ get_or F s 0 ∷ between (s + 1) e F = cut_first F s e h l in
    let p' : Plain (get_or F s 0 ∷ (between (s + 1) e F ++ more)) = rw y at p in
    (first_text p').2 q

-- what follows the opening quote of a field that begins so
opened : (F : List ℕ) (s e : ℕ) (more inner : List ℕ) → s < e → s < length F → between s e F ++ more ≡ 34 ∷ inner ++ 34 ∷ [] → between (s + 1) e F ++ more ≡ inner ++ 34 ∷ []
opened F s e more inner h l q = tail_is (sym (ap (λ r. r ++ more) (cut_first F s e h l)) ∙ q)

quoted_none : (F : List ℕ) (s e : ℕ) → QuotedEnd F s e → ((f : Found) → e ≡ f.part.end → f.end ≡ f.part.end + 1 → get_or F f.part.end 0 ≡ 34 → Follows f.after F f.end → ⊥) → (f : Found) → FieldAt F s f → ⊥
quoted_none F s e q u f k =
    ⊎_elim
    (λ (x : PlainAt F s f). quote_plain F s f.end f.after k.forward q.opens q.opened x.0 k.followed)
    (λ (x : QuotedAt F s f). u f (quoted_part_ends F s e f q.forward q.within q.quoted (quoted_stop F e q.stops q.unpaired) x k.followed) x.5 x.4 k.followed)
    k.shape

-- a field whose text between quotes ends at no closing quote
pub unclosed_broken : (F : List ℕ) (s e : ℕ) → QuotedEnd F s e → (e < length F → get_or F e 0 ≡ 34 → ⊥) → BrokenAt F s e
unclosed_broken F s e q u = record {
  forward = omega arith;
  within = q.within;
  none = quoted_none F s e q (λ f x y z w.
      let v : f.end ≤ length F = after_within F f.after f.end w in u (omega arith) (ap (λ k. get_or F k 0) x ∙ z));
  begins = (34 ∷ [], inr (between (s + 1) e F, q.quoted, ap (λ r. r ++ 34 ∷ []) (cut_first F s e (omega arith) q.opens ∙ ap (λ b. b ∷ between (s + 1) e F) q.opened)));
  longest = λ i b.
      ⊎_elim
      (λ x. quote_begins F s (e + 1) b.0 (omega arith) q.opens q.opened x)
      (λ x.
      let y : between (s + 1) (e + 1) F ++ b.0 ≡ x.0 ++ 34 ∷ [] = opened F s (e + 1) b.0 x.0 (omega arith) q.opens x.2 in
      let z : between (s + 1) e F ++ get_or F e 0 ∷ b.0 ≡ x.0 ++ 34 ∷ [] = sym (ap (λ r. r ++ b.0) (between_more F (s + 1) e 0 q.forward i) ∙ append_assoc (between (s + 1) e F) (get_or F e 0 ∷ []) b.0) ∙ y in
      let w : between (s + 1) e F ≡ x.0 = quoted_same (get_or F e 0 ∷ b.0) (34 ∷ []) q.quoted x.1 z (stop_cons (get_or F e 0) b.0 (q.stops i) (u i)) (quote_quotable 34 refl) in
      u i (head_is (append_cancel_left x.0 (get_or F e 0 ∷ b.0) (34 ∷ []) (sym (ap (λ r. r ++ get_or F e 0 ∷ b.0) w) ∙ z))))
      b.1;
}

not_nil : {a : ℕ} {xs : List ℕ} → a ∷ xs ≡ [] → ⊥
not_nil e = let z : ◌≡◌ {A = ℕ} 0 1 = cc in omega arith

-- a field in quotes that nothing may follow where it ends
pub closed_broken : (F : List ℕ) (s e : ℕ) → QuotedEnd F s e → e < length F → get_or F e 0 ≡ 34 → ((a : After) → Follows a F (e + 1) → ⊥) → BrokenAt F s (e + 1)
closed_broken F s e q m c u = record {
  forward = omega arith;
  within = omega arith;
  none = quoted_none F s e q (λ f x y z w.
      let v : f.end ≡ e + 1 = omega arith in u f.after (rw v at w));
  begins = (
    [],
    inr (
      between (s + 1) e F,
      q.quoted,
      append-nil (between s (e + 1) F) ∙ cut_first F s (e + 1) (omega arith) q.opens ∙ ap (λ b. b ∷ between (s + 1) (e + 1) F) q.opened
          ∙ ap (λ r. 34 ∷ r) (between_more F (s + 1) e 0 q.forward m ∙ ap (λ b. between (s + 1) e F ++ b ∷ []) c),
    ),
  );
  longest = λ i b.
      let n : e + 1 + 1 ≡ e + 2 = omega arith in
      ⊎_elim
      (λ x. quote_begins F s (e + 1 + 1) b.0 (omega arith) q.opens q.opened x)
      (λ x.
      let y : between (s + 1) (e + 1 + 1) F ++ b.0 ≡ x.0 ++ 34 ∷ [] = opened F s (e + 1 + 1) b.0 x.0 (omega arith) q.opens x.2 in
      let k : between (s + 1) (e + 1 + 1) F ≡ between (s + 1) e F ++ get_or F e 0 ∷ get_or F (e + 1) 0 ∷ [] = ap (λ j. between (s + 1) j F) n ∙ cut_two F (s + 1) e q.forward i in
      let z : between (s + 1) e F ++ get_or F e 0 ∷ get_or F (e + 1) 0 ∷ b.0 ≡ x.0 ++ 34 ∷ [] = sym (ap (λ r. r ++ b.0) k ∙ append_assoc (between (s + 1) e F) (get_or F e 0 ∷ get_or F (e + 1) 0 ∷ []) b.0) ∙ y in
      let w : between (s + 1) e F ≡ x.0 = quoted_same (get_or F e 0 ∷ get_or F (e + 1) 0 ∷ b.0) (34 ∷ []) q.quoted x.1 z (quote_quotable (get_or F e 0) c, q.unpaired i) (quote_quotable 34 refl) in
      not_nil (tail_is (append_cancel_left x.0 (get_or F e 0 ∷ get_or F (e + 1) 0 ∷ b.0) (34 ∷ []) (sym (ap (λ r. r ++ get_or F e 0 ∷ get_or F (e + 1) 0 ∷ b.0) w) ∙ z))))
      b.1;
}
