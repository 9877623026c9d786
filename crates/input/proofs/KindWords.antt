-- The kind of a record, by its word.
use Rattle.std.proofs.Common.{◌≡◌, Bor, List, [], ◌∷◌, Some, None, Option, Result, MatchOption, arith}
use Rattle.std.specs.List.{AllWithin}
use Rattle.std.specs.Option.{ok_or, option_copied}
use Rattle.processor.specs.declared.refusal.Refusal.TheVariants.{UnknownKind}
use Rattle.input.specs.Cells.{Cell, fault_of}
use Rattle.input.specs.Entries.{word, KindIn}
use Rattle.input.specs.declared.entry.Kind.{Kind}
use Rattle.input.specs.declared.entry.Kind.TheVariants.{Mode, Switch, Frame}
use Rattle.input.specs.declared.fault.Fault.{Fault}
use Rattle.input.specs.declared.fault.Layer.TheVariants.{Numbers}
use Rattle.input.specs.declared.line.Line.{Line}

-- all kinds there are
abbrev pub kinds : List Kind
kinds = Mode ∷ Switch ∷ Frame ∷ []

every_kind : (P : Kind → Type 0) → AllWithin P kinds 0 3 → (k : Kind) → P k
every_kind P h Mode = h 0 Mode (omega arith) (omega arith)
every_kind P h Switch = h 1 Mode (omega arith) (omega arith)
every_kind P h Frame = h 2 Mode (omega arith) (omega arith)

-- the first field is a kind's word
abbrev pub Names : Line → Kind → Type 0
Names line k = Cell line.file.now line.«record» 1 (word k)

-- the kind that was found by its word, or the fault of a record that has none
pub kind_found : (line : Line) (o : Option (Bor Kind)) (k : Option Kind) (e : Fault) (r : Result Kind Fault) → MatchOption o (AllWithin (λ k. Names line k → ⊥) kinds 0 3) (λ x. Names line x.now) → k ≡ option_copied o → e ≡ fault_of line Numbers UnknownKind 1 → r ≡ ok_or k e → KindIn line r
kind_found line None k e r h c f i = rw (i, c) (f, every_kind (λ k. Names line k → ⊥) h)
kind_found line (Some x) k e r h c f i = rw (i, c) h
