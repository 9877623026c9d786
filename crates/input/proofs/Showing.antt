-- Where a record starts, and that it starts nowhere else.
use Rattle.std.proofs.Common.{◌≡◌, ℕ, ◌+◌, ◌<◌, ◌≤◌, min, List, length, Some, None, Ok, Err, Option, Result, refl, subst, ⊎_elim, add-one, arith, MatchOption, MatchResult}
use Rattle.std.specs.Result.{result_ok, result_err}
use Rattle.std.proofs.lemmas.Bool.{cases_lt}
use Rattle.rfc4180.proofs.Once.{next_once, whole_broken}
use Rattle.rfc4180.specs.Records.{Numbered, RecordAt, BrokenRecord}
use Rattle.rfc4180.specs.declared.part.Broken.{Broken}
use Rattle.rfc4180.specs.declared.part.Record.{Record}
use Rattle.input.specs.Cells.{Cell}
use Rattle.input.specs.Showing.{RecordStart, first, later, BrokenText, FieldText, FaultText, of_broken, of_field}
use Rattle.processor.specs.declared.refusal.Refusal.{Refusal}
use Rattle.processor.specs.declared.refusal.Refusal.TheVariants.{NotCsv}

-- a field depends on where its record starts
pub cell_moved : (F : List ℕ) (r q : Record) (n : ℕ) (t : List ℕ) → r.start ≡ q.start → Cell F r n t → Cell F q n t
cell_moved F r q n t e h = record {
  part = h.part;
  numbered = subst (λ s. Numbered F (min s (length F)) n h.part) e h.numbered;
  reads = h.reads;
}

pub start_once : (F : List ℕ) (n x y : ℕ) → RecordStart F n x → RecordStart F n y → x ≡ y
start_once F _ _ _ first first = refl
start_once F _ _ _ (later {n = n} {at = x} r a h l) (later {at = y} q b k m) =
    let i : x ≡ y = start_once F n x y a b in
    let j : RecordAt F (min y (length F)) r = subst (λ z. RecordAt F (min z (length F)) r) i h in
    next_once F (min y (length F)) r q j k

-- records on the way to another
pub start_through : (F : List ℕ) (k n x : ℕ) → RecordStart F n x → k < n → (at : ℕ) × (r : Record) × RecordStart F k at × RecordAt F (min at (length F)) r × (r.next < length F)
start_through F k _ _ first l = absurd (omega arith)
start_through F k _ _ (later {n = n} {at = at} r b h m) l =
    ⊎_elim
    (λ i. start_through F k n at b i)
    (λ i. let e : n ≡ k = omega arith in (at, r, subst (λ z. RecordStart F z at) e b, h, m))
    (cases_lt k n)

-- where no whole record is, no later one starts
pub start_broken : (F : List ℕ) (k at n : ℕ) → RecordStart F k at → ((r : Record) → RecordAt F (min at (length F)) r → ⊥) → k < n → (x : ℕ) → RecordStart F n x → ⊥
start_broken F k at n h u l x d =
    let t : (a : ℕ) × (r : Record) × RecordStart F k a × RecordAt F (min a (length F)) r × (r.next < length F) = start_through F k n x d l in
    let e : t.0 ≡ at = start_once F k t.0 at t.2 h in
    u t.1 (subst (λ z. RecordAt F (min z (length F)) t.1) e t.3)

-- where the file ends, no later one starts
pub start_ended : (F : List ℕ) (k at n : ℕ) (r : Record) → RecordStart F k at → RecordAt F (min at (length F)) r → length F ≤ r.next → k < n → (x : ℕ) → RecordStart F n x → ⊥
start_ended F k at n r h u m l x d =
    let t : (a : ℕ) × (r : Record) × RecordStart F k a × RecordAt F (min a (length F)) r × (r.next < length F) = start_through F k n x d l in
    let e : t.0 ≡ at = start_once F k t.0 at t.2 h in
    let i : t.1.next ≡ r.next = next_once F (min at (length F)) t.1 r (subst (λ z. RecordAt F (min z (length F)) t.1) e t.3) u in
    let j : t.1.next < length F = t.4 in
    omega arith

pub start_more : (F : List ℕ) (n at : ℕ) (r : Record) → RecordStart F n at → RecordAt F (min at (length F)) r → r.next < length F → RecordStart F (n + 1) r.next
start_more F n at r h u l = rw (add-one n) (later r h u l)

-- what is said of the text of a field at fault
abbrev pub Shows : {X : Type 0} (val : X → List ℕ) → (List ℕ → Type 0) → Option X → Type 0
Shows val P r = MatchOption r ((t : List ℕ) → P t → ⊥) (λ x. P (val x))

pub shows_broken : {X : Type 0} (val : X → List ℕ) (F : List ℕ) (cause : Refusal) (n at number : ℕ) (r : Option X) → cause ≡ NotCsv → RecordStart F n at → Shows val (BrokenText F at number) r → Shows val (FaultText F cause n number) r
shows_broken val F cause n at number None e s u = λ t h. elim h [
  | of_broken {at = a} x y z ↦ u t (subst (λ k. BrokenText F k number t) (start_once F n a at y s) z)
  | of_field {at = a} x y z ↦ x e
]
shows_broken val F cause n at number (Some x) e s u = of_broken e s u

pub shows_field : {X : Type 0} (val : X → List ℕ) (F : List ℕ) (cause : Refusal) (n at number : ℕ) (r : Option X) → (cause ≡ NotCsv → ⊥) → RecordStart F n at → Shows val (FieldText F at number) r → Shows val (FaultText F cause n number) r
shows_field val F cause n at number None e s u = λ t h. elim h [
  | of_broken {at = a} x y z ↦ e x
  | of_field {at = a} x y z ↦ u t (subst (λ k. FieldText F k number t) (start_once F n a at y s) z)
]
shows_field val F cause n at number (Some x) e s u = of_field e s u

-- what the reader of a record answers
abbrev pub Read : List ℕ → ℕ → Result Record Broken → Type 0
Read F m r = MatchResult r (λ rec. RecordAt F m rec) (λ b. BrokenRecord F m b)

pub none_whole : (F : List ℕ) (m : ℕ) (r : Result Record Broken) → Read F m r → None ≡ result_ok r → (rec : Record) → RecordAt F m rec → ⊥
none_whole F m (Ok x) h e rec k = let z : ◌≡◌ {A = ℕ} 0 1 = cc in omega arith
none_whole F m (Err b) h e rec k = whole_broken F m rec b k h

pub none_broken : (F : List ℕ) (m : ℕ) (r : Result Record Broken) → Read F m r → None ≡ result_err r → (b : Broken) → BrokenRecord F m b → ⊥
none_broken F m (Ok x) h e b k = whole_broken F m x b h k
none_broken F m (Err x) h e b k = let z : ◌≡◌ {A = ℕ} 0 1 = cc in omega arith
