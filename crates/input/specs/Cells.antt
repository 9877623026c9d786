-- The fields of a record, and the numbers in them.
use Rattle.std.specs.Prelude.{◌≡◌, ℕ, min, List, length, Ok, Err, Result}
use Rattle.std.specs.List.{between}
use Rattle.rfc4180.specs.Records.{Numbered}
use Rattle.rfc4180.specs.declared.part.Part.{Part}
use Rattle.rfc4180.specs.declared.part.Record.{Record}
use Rattle.processor.specs.declared.refusal.Refusal.{Refusal}
use Rattle.processor.specs.declared.refusal.Refusal.TheVariants.{NotANumber}
use Rattle.input.specs.declared.fault.Fault.{Fault}
use Rattle.input.specs.declared.fault.Layer.{Layer}
use Rattle.input.specs.declared.fault.Layer.TheVariants.{Numbers}
use Rattle.input.specs.declared.line.Line.{Line}
use Rattle.input.specs.Numbers.{Spells}

-- the text of a record's field, without the quotes around it
pub record Cell (file : List ℕ) (r : Record) (number : ℕ) (text : List ℕ) : Type 0 where
  pub part : Part
  pub numbered : Numbered file (min r.start (length file)) number part
  pub reads : text ≡ between part.start part.end file

-- a fault in a field of a record
abbrev pub fault_of : Line → Layer → Refusal → ℕ → Fault
fault_of line l c n = record { layer = l; cause = c; file = line.source; «record» = line.number; field = n }

-- the number in a field, or the fault of a field that has none
abbrev pub NumberIn : Line → ℕ → Result ℕ Fault → Type 0
NumberIn line n (Ok v) = (text : List ℕ) × Cell line.file.now line.«record» n text × Spells text v
NumberIn line n (Err e) =
    (e ≡ fault_of line Numbers NotANumber n)
    × ((text : List ℕ) (v : ℕ) → Cell line.file.now line.«record» n text → Spells text v → ⊥)
