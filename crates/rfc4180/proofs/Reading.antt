-- What the reader of one field answers, on each of its ways.
use Rattle.std.proofs.Common.{◌≡◌, ℕ, ◌+◌, ◌-◌, ◌<◌, ◌≤◌, ◌≢◌, ◌⊎◌, Bool, true, false, eqb, List, [], ◌∷◌, length, get_or, take, drop, sym, refl, ap, ◌∙◌, subst, inl, inr, arith}
use Rattle.std.proofs.lemmas.List.{length-drop}
use Rattle.std.specs.List.{starts_with}
use Rattle.rfc4180.specs.Grammar.{Text, Quotable, Plain, Quoted}
use Rattle.rfc4180.specs.Places.{Follows, FieldAt, BrokenAt}
use Rattle.rfc4180.specs.declared.part.Part.{Part}
use Rattle.rfc4180.specs.declared.scan.After.{After}
use Rattle.rfc4180.specs.declared.scan.After.TheVariants.{Comma, LineEnd, FileEnd}
use Rattle.rfc4180.proofs.Broken.{plain_broken, closed_broken}
use Rattle.rfc4180.proofs.Cuts.{front_between, rest_is, rest_at, inside_is, first_is}
use Rattle.rfc4180.proofs.Ends.{PlainEnd, QuotedEnd}

-- a text with no quotes around it, as it was found in the rest of a file
pub plain_end : (F : List ℕ) (s n : ℕ) (rest : List ℕ) → rest ≡ drop s F → s ≤ length F → (0 < length rest → get_or rest 0 0 ≢ 34) → n ≤ length rest → Plain (take n rest) → (n < length rest → Text (get_or rest n 0) → ⊥) → PlainEnd F s (s + n)
plain_end F s n rest r l u h p t =
    let k : length rest ≡ length F - s = ap length r ∙ length-drop s F in
    record {
      forward = omega arith;
      within = omega arith;
      unquoted = λ m e. u (omega arith) (rest_at F rest s 0 s r (omega arith) ∙ e);
      plain = subst Plain (ap (take n) r ∙ front_between F s n) p;
      stops = λ m x. t (omega arith) (subst Text (sym (rest_at F rest s n (s + n) r refl)) x);
    }

-- a text between quotes, as it was found in the rest of a file after the opening quote
pub quoted_end : (F : List ℕ) (s n : ℕ) (rest inside : List ℕ) → rest ≡ drop s F → inside ≡ take (length rest - 1) (drop 1 rest) → 1 ≤ length rest → get_or rest 0 0 ≡ 34 → n ≤ length inside → Quoted (take n inside) → (n < length inside → Quotable (get_or inside n 0) → ⊥) → (n + 1 < length inside → get_or inside n 0 ≡ 34 → get_or inside (n + 1) 0 ≢ 34) → QuotedEnd F s (s + 1 + n)
quoted_end F s n rest inside d i l o h p t u =
    let r : inside ≡ drop (s + 1) F = i ∙ inside_is F rest s d in
    let j : length rest ≡ length F - s = ap length d ∙ length-drop s F in
    let k : length inside ≡ length F - (s + 1) = ap length r ∙ length-drop (s + 1) F in
    record {
      opens = omega arith;
      opened = sym (rest_at F rest s 0 s d (omega arith)) ∙ o;
      forward = omega arith;
      within = omega arith;
      quoted = subst Quoted (ap (take n) r ∙ front_between F (s + 1) n) p;
      stops = λ m x. t (omega arith) (subst Quotable (sym (rest_at F inside (s + 1) n (s + 1 + n) r refl)) x);
      unpaired = λ m x y. u (omega arith) (rest_at F inside (s + 1) n (s + 1 + n) r refl ∙ x) (rest_at F inside (s + 1) (n + 1) (s + 1 + n + 1) r (omega arith) ∙ y);
    }

-- whether a closing quote ends it
pub closed_end : (F : List ℕ) (e : ℕ) (r : Bool) → r ≡ starts_with eqb (take (length F - e) (drop e F)) (34 ∷ []) → (r ≡ true → (e < length F) × (get_or F e 0 ≡ 34)) × (r ≡ false → e < length F → get_or F e 0 ≡ 34 → ⊥)
closed_end F e r h =
    let rest = take (length F - e) (drop e F) in
    let d : rest ≡ drop e F = rest_is F e in
    let k : length rest ≡ length F - e = ap length d ∙ length-drop e F in
    let at : get_or rest 0 0 ≡ get_or F e 0 = rest_at F rest e 0 e d (omega arith) in
    let f = first_is rest 34 r h in
    ((λ t. (omega (arith, (f.0 t).0), sym at ∙ (f.0 t).1)), (λ t l q. f.1 t (omega arith) (at ∙ q)))

-- the text of a field ends at a place, its closing quote included
abbrev pub Ended : List ℕ → ℕ → Part → ℕ → Type 0
Ended F s p e =
    (PlainEnd F s e × (p.start ≡ s) × (p.end ≡ e))
    ⊎ (QuotedEnd F s p.end × (p.start ≡ s + 1) × (p.end < length F) × (get_or F p.end 0 ≡ 34) × (e ≡ p.end + 1))

pub plain_ended : (F : List ℕ) (s n : ℕ) (rest : List ℕ) → rest ≡ drop s F → s ≤ length F → (0 < length rest → get_or rest 0 0 ≢ 34) → n ≤ length rest → Plain (take n rest) → (n < length rest → Text (get_or rest n 0) → ⊥) → Ended F s (record { start = s; end = s + n }) (s + n)
plain_ended F s n rest r l u h p t = inl (plain_end F s n rest r l u h p t, refl, refl)

pub quoted_ended : (F : List ℕ) (s n : ℕ) (rest inside : List ℕ) → rest ≡ drop s F → inside ≡ take (length rest - 1) (drop 1 rest) → 1 ≤ length rest → get_or rest 0 0 ≡ 34 → n ≤ length inside → Quoted (take n inside) → (n < length inside → Quotable (get_or inside n 0) → ⊥) → (n + 1 < length inside → get_or inside n 0 ≡ 34 → get_or inside (n + 1) 0 ≢ 34) → (s + 1 + n < length F) × (get_or F (s + 1 + n) 0 ≡ 34) → Ended F s (record { start = s + 1; end = s + 1 + n }) (s + 1 + n + 1)
quoted_ended F s n rest inside d i l o h p t u q = inr (quoted_end F s n rest inside d i l o h p t u, refl, q.0, q.1, refl)

-- what follows where the rest of a file starts
follows_here : (F rest : List ℕ) (e : ℕ) (a : After) → rest ≡ drop e F → e ≤ length F → Follows a rest 0 → Follows a F e
follows_here F rest e Comma r l h = (
  omega (arith, ap length r, length-drop e F, h.0),
  sym (rest_at F rest e 0 e r (omega arith)) ∙ h.1,
)
follows_here F rest e LineEnd r l h = (
  omega (arith, ap length r, length-drop e F, h.0),
  sym (rest_at F rest e 0 e r (omega arith)) ∙ h.1,
  sym (rest_at F rest e 1 (e + 1) r refl) ∙ h.2,
)
follows_here F rest e FileEnd r l h = omega (arith, ap length r, length-drop e F)

follows_rest : (F rest : List ℕ) (e : ℕ) (a : After) → rest ≡ drop e F → Follows a F e → Follows a rest 0
follows_rest F rest e Comma r h = (
  omega (arith, ap length r, length-drop e F, h.0),
  rest_at F rest e 0 e r (omega arith) ∙ h.1,
)
follows_rest F rest e LineEnd r h = (
  omega (arith, ap length r, length-drop e F, h.0),
  rest_at F rest e 0 e r (omega arith) ∙ h.1,
  rest_at F rest e 1 (e + 1) r refl ∙ h.2,
)
follows_rest F rest e FileEnd r h = omega (arith, ap length r, length-drop e F)

ended_within : (F : List ℕ) (s e : ℕ) (p : Part) → Ended F s p e → e ≤ length F
ended_within F s e p (inl (h, _, _)) = h.within
ended_within F s e p (inr (h, i, l, c, j)) = omega arith

-- a whole field
field_read : (F : List ℕ) (s e : ℕ) (p : Part) (a : After) → Ended F s p e → Follows a F e → FieldAt F s (record { part = p; end = e; after = a })
field_read F s e p a (inl (h, i, j)) f = record {
  forward = h.forward;
  shape = inl (h.plain, i, j);
  followed = f;
}
field_read F s e p a (inr (h, i, l, c, j)) f = record {
  forward = omega (arith, h.forward);
  shape = inr (h.opened, i, omega (arith, h.forward), h.quoted, c, j);
  followed = f;
}

-- a field that nothing may follow
field_broken : (F : List ℕ) (s e : ℕ) (p : Part) → Ended F s p e → ((a : After) → Follows a F e → ⊥) → BrokenAt F s e
field_broken F s e p (inl (h, _, _)) u = plain_broken F s e h u
field_broken F s e p (inr (h, i, l, c, j)) u =
    let v : (a : After) → Follows a F (p.end + 1) → ⊥ = rw j at u in
    rw j (closed_broken F s p.end h l c v)

-- what the reader answers where the text of a field ends, by what follows there
pub field_followed : (F rest : List ℕ) (s e : ℕ) (p : Part) (a : After) → rest ≡ drop e F → Ended F s p e → Follows a rest 0 → FieldAt F s (record { part = p; end = e; after = a })
field_followed F rest s e p a d h u = field_read F s e p a h (follows_here F rest e a d (ended_within F s e p h) u)

pub field_stuck : (F rest : List ℕ) (s e : ℕ) (p : Part) → rest ≡ drop e F → Ended F s p e → ((a : After) → Follows a rest 0 → ⊥) → BrokenAt F s e
field_stuck F rest s e p d h u = field_broken F s e p h (λ a k. u a (follows_rest F rest e a d k))
