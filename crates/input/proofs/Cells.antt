-- One text stands in a field.
use Rattle.std.proofs.Common.{◌≡◌, ℕ, min, Bool, true, false, List, length, Some, None, Option, Result, Decides, MatchBool, MatchOption, sym, refl, ap, ◌∙◌, subst}
use Rattle.std.proofs.lemmas.Bool.{false≢true}
use Rattle.std.specs.List.{between}
use Rattle.rfc4180.specs.declared.part.Record.{Record}
use Rattle.rfc4180.proofs.Counting.{numbered_once}
use Rattle.std.specs.Option.{ok_or}
use Rattle.processor.specs.declared.refusal.Refusal.TheVariants.{NotANumber}
use Rattle.input.specs.declared.fault.Fault.{Fault}
use Rattle.input.specs.declared.fault.Layer.TheVariants.{Numbers}
use Rattle.input.specs.declared.line.Line.{Line}
use Rattle.input.specs.Cells.{Cell, fault_of, NumberIn}
use Rattle.input.specs.Numbers.{Spells}

pub cell_once : (F : List ℕ) (r : Record) (n : ℕ) (t u : List ℕ) → Cell F r n t → Cell F r n u → t ≡ u
cell_once F r n t u h k =
    h.reads ∙ ap (λ p. between p.start p.end F) (numbered_once F (min r.start (length F)) n h.part k.part h.numbered k.numbered) ∙ sym k.reads

pub no_number : (F : List ℕ) (r : Record) (n : ℕ) (t : List ℕ) → Cell F r n t → ((v : ℕ) → Spells t v → ⊥) → (u : List ℕ) (v : ℕ) → Cell F r n u → Spells u v → ⊥
no_number F r n t h f u v k s = f v (subst (λ x. Spells x v) (cell_once F r n u t k h) s)

-- a field has a text where the text found there is that one
pub same_cell : (F : List ℕ) (r : Record) (n : ℕ) (t name : List ℕ) (b : Bool) → Decides b (t ≡ name) → Cell F r n t → MatchBool b (Cell F r n name) (Cell F r n name → ⊥)
same_cell F r n t name true d h = subst (λ x. Cell F r n x) (d.0 refl) h
same_cell F r n t name false d h = λ k. false≢true (d.1 (cell_once F r n t name h k))

-- what stands in a field, where its text was looked for
abbrev pub Looked : {X : Type 0} (val : X → List ℕ) → List ℕ → Record → ℕ → Option X → Type 0
Looked val F r n o = MatchOption o ((t : List ℕ) → Cell F r n t → ⊥) (λ x. Cell F r n (val x))

-- the number in a field, or the fault of one that has none
pub number_read : {X : Type 0} (val : X → List ℕ) (line : Line) (n : ℕ) (o : Option X) (v : Option ℕ) (e : Fault) (r : Result ℕ Fault) → Looked val line.file.now line.record n o → MatchOption o (v ≡ None) (λ x. MatchOption v ((m : ℕ) → Spells (val x) m → ⊥) (λ m. Spells (val x) m)) → e ≡ fault_of line Numbers NotANumber n → r ≡ ok_or v e → NumberIn line n r
number_read val line n None v e r h k f i = rw (i, k) (f, λ t m c _. h t c)
number_read val line n (Some x) None e r h k f i = rw i (f, no_number line.file.now line.record n (val x) h k)
number_read val line n (Some x) (Some v) e r h k f i = rw i (val x, h, k)

-- whether a field has a text
pub text_read : {X : Type 0} (val : X → List ℕ) (F : List ℕ) (r : Record) (n : ℕ) (name : List ℕ) (o : Option X) (b : Bool) → Looked val F r n o → MatchOption o (b ≡ false) (λ x. Decides b (val x ≡ name)) → MatchBool b (Cell F r n name) (Cell F r n name → ⊥)
text_read val F r n name None b h k = rw k (h name)
text_read val F r n name (Some x) b h k = same_cell F r n (val x) name b k h

-- what follows of a value, if there is one
pub where_some : {X : Type 0} (o : Option X) (P : Type 0) (Q R : X → Type 0) → MatchOption o P Q → ((x : X) → Q x → R x) → MatchOption o P R
where_some None P Q R h k = h
where_some (Some x) P Q R h k = k x h
