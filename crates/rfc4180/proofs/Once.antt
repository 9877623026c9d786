-- One record starts at a place, whole or broken.
use Rattle.std.proofs.Common.{◌≡◌, ℕ, ◌≤◌, List, sym, ap, ◌∙◌, subst, ⊎_elim, arith}
use Rattle.std.proofs.lemmas.Bool.{cases_lt}
use Rattle.rfc4180.specs.Places.{FieldAt, BrokenAt}
use Rattle.rfc4180.specs.Records.{Before, LastField, RecordAt, BrokenRecord, past}
use Rattle.rfc4180.specs.declared.part.Broken.{Broken}
use Rattle.rfc4180.specs.declared.part.Record.{Record}
use Rattle.rfc4180.specs.declared.scan.After.TheVariants.{Comma}
use Rattle.rfc4180.specs.declared.scan.Found.{Found}
use Rattle.rfc4180.proofs.Counting.{before_once, before_through, other_after}
use Rattle.rfc4180.proofs.Fields.{field_once}

-- where no comma comes, no more fields lead on
no_further : (F : List ℕ) (s n x m y : ℕ) → Before F s n x → ((f : Found) → FieldAt F x f → f.after ≡ Comma → ⊥) → Before F s m y → m ≤ n
no_further F s n x m y b u d =
    ⊎_elim
    (λ l.
    let t : (mid : ℕ) × (f : Found) × Before F s n mid × FieldAt F mid f × (f.after ≡ Comma) = before_through F s n m y d l in
    let e : t.0 ≡ x = before_once F s n t.0 x t.2 b in
    absurd (u t.1 (subst (λ z. FieldAt F z t.1) e t.3) t.4))
    (λ l. l)
    (cases_lt n m)

last_stops : (F : List ℕ) (s n e k : ℕ) (h : LastField F s n e k) → (f : Found) → FieldAt F h.from f → f.after ≡ Comma → ⊥
last_stops F s n e k h = other_after F h.from h.field h.here h.last

-- the next record starts at one place
pub next_once : (F : List ℕ) (s : ℕ) (r q : Record) → RecordAt F s r → RecordAt F s q → r.next ≡ q.next
next_once F s r q h k =
    let a : k.others ≤ h.others = no_further F s h.others h.last.from k.others k.last.from h.last.before (last_stops F s h.others r.end r.next h.last) k.last.before in
    let b : h.others ≤ k.others = no_further F s k.others k.last.from h.others h.last.from k.last.before (last_stops F s k.others q.end q.next k.last) h.last.before in
    let c : k.others ≡ h.others = omega arith in
    let d : Before F s h.others k.last.from = subst (λ z. Before F s z k.last.from) c k.last.before in
    let e : k.last.from ≡ h.last.from = before_once F s h.others k.last.from h.last.from d h.last.before in
    let g : k.last.field ≡ h.last.field = field_once F h.last.from k.last.field h.last.field (subst (λ z. FieldAt F z k.last.field) e k.last.here) h.last.here in
    h.last.goes ∙ sym (ap (λ z. past z.after z.end) g) ∙ sym k.last.goes

broken_stops : (F : List ℕ) (s e : ℕ) → BrokenAt F s e → (f : Found) → FieldAt F s f → f.after ≡ Comma → ⊥
broken_stops F s e h f k _ = h.none f k

-- a record is not both whole and broken
pub whole_broken : (F : List ℕ) (s : ℕ) (r : Record) (b : Broken) → RecordAt F s r → BrokenRecord F s b → ⊥
whole_broken F s r b h k =
    let a : k.others ≤ h.others = no_further F s h.others h.last.from k.others b.start h.last.before (last_stops F s h.others r.end r.next h.last) k.before in
    let d : h.others ≤ k.others = no_further F s k.others b.start h.others h.last.from k.before (broken_stops F b.start b.end k.broken) h.last.before in
    let c : h.others ≡ k.others = omega arith in
    let g : Before F s k.others h.last.from = subst (λ z. Before F s z h.last.from) c h.last.before in
    let e : h.last.from ≡ b.start = before_once F s k.others h.last.from b.start g k.before in
    k.broken.none h.last.field (subst (λ z. FieldAt F z h.last.field) e h.last.here)

-- a record breaks in one field
pub broken_field_once : (F : List ℕ) (s : ℕ) (b d : Broken) → BrokenRecord F s b → BrokenRecord F s d → b.field ≡ d.field
broken_field_once F s b d h k =
    let a : k.others ≤ h.others = no_further F s h.others b.start k.others d.start h.before (broken_stops F b.start b.end h.broken) k.before in
    let c : h.others ≤ k.others = no_further F s k.others d.start h.others b.start k.before (broken_stops F d.start d.end k.broken) h.before in
    omega (arith, h.counted, k.counted)
