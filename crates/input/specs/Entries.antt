-- The records of the processor's file: modes, switches and frames.
use Rattle.std.specs.Prelude.{◌≡◌, ℕ, List, [], Ok, Err, codes, Result}
use Rattle.processor.specs.declared.refusal.Refusal.TheVariants.{UnknownKind, FrameFieldFilled}
use Rattle.input.specs.Cells.{Cell, fault_of, NumberIn}
use Rattle.input.specs.TaskFiles.{Leftmost}
use Rattle.input.specs.declared.entry.Entry.{Entry}
use Rattle.input.specs.declared.entry.Entry.TheVariants.{Mode, Switch, Frame}
use Rattle.input.specs.declared.entry.Kind.{Kind}
use Rattle.input.specs.declared.entry.Kind.TheVariants.{Mode as KindMode, Switch as KindSwitch, Frame as KindFrame}
use Rattle.input.specs.declared.fault.Fault.{Fault}
use Rattle.input.specs.declared.fault.Layer.TheVariants.{Numbers}
use Rattle.input.specs.declared.line.Line.{Line}

-- the word of each kind
abbrev pub word : Kind → List ℕ
word KindMode = codes "mode"
word KindSwitch = codes "switch"
word KindFrame = codes "frame"

-- the kind of a record
abbrev pub KindIn : Line → Result Kind Fault → Type 0
KindIn line (Ok k) = Cell line.file.now line.«record» 1 (word k)
KindIn line (Err e) = (e ≡ fault_of line Numbers UnknownKind 1) × ((k : Kind) → Cell line.file.now line.«record» 1 (word k) → ⊥)

-- a field that is left empty
abbrev pub EmptyIn : Line → ℕ → Result (Unit {0}) Fault → Type 0
EmptyIn line n (Ok _) = Cell line.file.now line.«record» n []
EmptyIn line n (Err e) = (e ≡ fault_of line Numbers FrameFieldFilled n) × (Cell line.file.now line.«record» n [] → ⊥)

-- what is wrong with the fields of a record
pub data FieldFault (line : Line) (e : Fault) : Type 0 where
  unknown : KindIn line (Err e) → FieldFault line e
  in_mode : KindIn line (Ok KindMode) → Leftmost line 2 4 e → FieldFault line e
  in_switch : KindIn line (Ok KindSwitch) → Leftmost line 2 4 e → FieldFault line e
  third_filled : KindIn line (Ok KindFrame) → EmptyIn line 3 (Err e) → FieldFault line e
  fourth_filled : KindIn line (Ok KindFrame) → EmptyIn line 3 (Ok tt) → EmptyIn line 4 (Err e) → FieldFault line e
  in_frame : KindIn line (Ok KindFrame) → EmptyIn line 3 (Ok tt) → EmptyIn line 4 (Ok tt) → NumberIn line 2 (Err e) → FieldFault line e

-- the entry of a record
abbrev pub EntryIn : Line → Result Entry Fault → Type 0
EntryIn line (Ok (Mode number speed power)) =
    KindIn line (Ok KindMode) × NumberIn line 2 (Ok number) × NumberIn line 3 (Ok speed) × NumberIn line 4 (Ok power)
EntryIn line (Ok (Switch from to time)) =
    KindIn line (Ok KindSwitch) × NumberIn line 2 (Ok from) × NumberIn line 3 (Ok to) × NumberIn line 4 (Ok time)
EntryIn line (Ok (Frame length)) =
    KindIn line (Ok KindFrame) × EmptyIn line 3 (Ok tt) × EmptyIn line 4 (Ok tt) × NumberIn line 2 (Ok length)
EntryIn line (Err e) = FieldFault line e
