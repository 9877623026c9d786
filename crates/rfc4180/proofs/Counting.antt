-- The fields of a record, counted from its first.
use Rattle.std.proofs.Common.{◌≡◌, ℕ, ◌+◌, ◌<◌, ◌≤◌, min, List, length, Some, None, Ok, Err, Option, Result, MatchResult, sym, refl, ap, ◌∙◌, subst, ⊎_elim, add-one, arith}
use Rattle.std.proofs.lemmas.Bool.{cases_lt}
use Rattle.std.specs.Result.{result_ok}
use Rattle.rfc4180.specs.Places.{FieldAt, BrokenAt}
use Rattle.rfc4180.specs.Records.{Before, start, more, Numbered, most_fields}
use Rattle.rfc4180.specs.declared.part.Part.{Part}
use Rattle.rfc4180.specs.declared.scan.After.TheVariants.{Comma}
use Rattle.rfc4180.specs.declared.scan.Found.{Found}
use Rattle.rfc4180.proofs.Fields.{field_once}

-- a place within the file is the place that is read
pub here_field : (F : List ℕ) (from : ℕ) (f : Found) → from ≤ length F → FieldAt F (min from (length F)) f → FieldAt F from f
here_field F from f l h = let e : min from (length F) ≡ from = omega arith in subst (λ s. FieldAt F s f) e h

pub here_broken : (F : List ℕ) (from e : ℕ) → from ≤ length F → BrokenAt F (min from (length F)) e → BrokenAt F from e
here_broken F from e l h = let i : min from (length F) ≡ from = omega arith in subst (λ s. BrokenAt F s e) i h

-- one field more, with its comma
pub before_more : (F : List ℕ) (s n from : ℕ) (f : Found) → from ≤ length F → Before F s n from → FieldAt F (min from (length F)) f → f.after ≡ Comma → Before F s (n + 1) (f.end + 1)
before_more F s n from f l b h c = rw (add-one n) (more f b (here_field F from f l h) c)

pub count_more : (n fields r : ℕ) → fields ≡ min (n + 1) most_fields → r ≡ min (fields + 1) 4294967295 → r ≡ min (n + 1 + 1) most_fields
count_more n fields r h k = omega arith

-- so many fields lead to one place
pub before_once : (F : List ℕ) (s n x y : ℕ) → Before F s n x → Before F s n y → x ≡ y
before_once F s _ _ _ start start = refl
before_once F s _ _ _ (more {n = n} {from = x} f b h c) (more {from = y} g d k e) =
    let i : x ≡ y = before_once F s n x y b d in
    let j : FieldAt F y f = subst (λ z. FieldAt F z f) i h in
    ap (λ z. z.end + 1) (field_once F y f g j k)

-- fields on the way to a place
pub before_through : (F : List ℕ) (s k n x : ℕ) → Before F s n x → k < n → (mid : ℕ) × (f : Found) × Before F s k mid × FieldAt F mid f × (f.after ≡ Comma)
before_through F s k _ _ start l = absurd (omega arith)
before_through F s k _ _ (more {n = n} {from = from} f b h c) l =
    ⊎_elim
    (λ m. before_through F s k n from b m)
    (λ m. let e : n ≡ k = omega arith in (from, f, subst (λ z. Before F s z from) e b, h, c))
    (cases_lt k n)

-- where no comma comes, there is no later field
pub stuck : (F : List ℕ) (s k x number : ℕ) → Before F s k x → ((f : Found) → FieldAt F x f → f.after ≡ Comma → ⊥) → k + 1 < number → (p : Part) → Numbered F s number p → ⊥
stuck F s k x number b u l p h =
    let t : (mid : ℕ) × (f : Found) × Before F s k mid × FieldAt F mid f × (f.after ≡ Comma) = before_through F s k h.others h.from h.before (omega (arith, h.counted)) in
    let e : t.0 ≡ x = before_once F s k t.0 x t.2 b in
    u t.1 (subst (λ z. FieldAt F z t.1) e t.3) t.4

-- where no field starts, there is none of that number
pub missing : (F : List ℕ) (s k x number : ℕ) → Before F s k x → ((f : Found) → FieldAt F x f → ⊥) → number ≡ k + 1 → (p : Part) → Numbered F s number p → ⊥
missing F s k x number b u n p h =
    let i : h.others ≡ k = omega (arith, h.counted) in
    let d : Before F s k h.from = subst (λ z. Before F s z h.from) i h.before in
    let e : h.from ≡ x = before_once F s k h.from x d b in
    u h.field (subst (λ z. FieldAt F z h.field) e h.here)

-- another comma does not follow a field
pub other_after : (F : List ℕ) (x : ℕ) (f : Found) → FieldAt F x f → (f.after ≡ Comma → ⊥) → (g : Found) → FieldAt F x g → g.after ≡ Comma → ⊥
other_after F x f h u g k c = u (ap (λ z. z.after) (field_once F x f g h k) ∙ c)

some_none : {f : Found} → ◌≡◌ {A = Option Found} (Some f) None → ⊥
some_none e = cc

-- what the reader of a field answers at a place of the file
abbrev pub Read : List ℕ → ℕ → Result Found ℕ → Type 0
Read F x r = MatchResult r (λ f. FieldAt F (min x (length F)) f) (λ e. BrokenAt F (min x (length F)) e)

pub found_here : (F : List ℕ) (x : ℕ) (r : Result Found ℕ) (f : Found) → x ≤ length F → Read F x r → Some f ≡ result_ok r → FieldAt F x f
found_here F x (Ok g) f l h e = let i : g ≡ f = cc in here_field F x f l (subst (λ z. FieldAt F (min x (length F)) z) i h)
found_here F x (Err i) f l h e = absurd (some_none e)

pub none_here : (F : List ℕ) (x : ℕ) (r : Result Found ℕ) → x ≤ length F → Read F x r → None ≡ result_ok r → (f : Found) → FieldAt F x f → ⊥
none_here F x (Ok g) l h e = absurd (some_none (sym e))
none_here F x (Err i) l h e = (here_broken F x i l h).none

-- one field has a number
pub numbered_once : (F : List ℕ) (s number : ℕ) (p q : Part) → Numbered F s number p → Numbered F s number q → p ≡ q
numbered_once F s number p q h k =
    let i : k.others ≡ h.others = omega (arith, h.counted, k.counted) in
    let d : Before F s h.others k.from = subst (λ z. Before F s z k.from) i k.before in
    let e : k.from ≡ h.from = before_once F s h.others k.from h.from d h.before in
    sym h.is ∙ ap (λ z. z.part) (field_once F h.from h.field k.field h.here (subst (λ z. FieldAt F z k.field) e k.here)) ∙ k.is
