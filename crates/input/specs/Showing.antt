-- The text of a field at fault.
use Rattle.std.specs.Prelude.{◌≡◌, ℕ, suc, ◌<◌, min, ◌≢◌, List, length}
use Rattle.std.specs.List.{between}
use Rattle.rfc4180.specs.Records.{RecordAt, BrokenRecord}
use Rattle.rfc4180.specs.declared.part.Broken.{Broken}
use Rattle.rfc4180.specs.declared.part.Record.{Record}
use Rattle.processor.specs.declared.refusal.Refusal.{Refusal}
use Rattle.processor.specs.declared.refusal.Refusal.TheVariants.{NotCsv}
use Rattle.input.specs.Cells.{Cell}
use Rattle.input.specs.declared.fault.Source.{Source}
use Rattle.input.specs.declared.fault.Source.TheVariants.{Processor, Tasks}

-- the file of a source
abbrev pub file_of : Source → List ℕ → List ℕ → List ℕ
file_of Processor p t = p
file_of Tasks p t = t

-- the number that is printed
abbrev pub source_number : Source → ℕ
source_number Processor = 1
source_number Tasks = 2

-- where the record of a number starts; the header is 0
pub data RecordStart (file : List ℕ) : ℕ → ℕ → Type 0 where
  first : RecordStart file 0 0
  later : {n at : ℕ} (r : Record) → RecordStart file n at → RecordAt file (min at (length file)) r → r.next < length file → RecordStart file (suc n) r.next

-- the text of the field in which the record that starts at a place breaks
pub record BrokenText (file : List ℕ) (at number : ℕ) (text : List ℕ) : Type 0 where
  pub broken : Broken
  pub here : BrokenRecord file (min at (length file)) broken
  pub numbered : broken.field ≡ number
  pub reads : text ≡ between broken.start broken.end file

-- the text of a field of the record that starts at a place
pub record FieldText (file : List ℕ) (at number : ℕ) (text : List ℕ) : Type 0 where
  pub whole : Record
  pub here : RecordAt file (min at (length file)) whole
  pub cell : Cell file whole number text

-- the text of the field at fault
pub data FaultText (file : List ℕ) (cause : Refusal) (n number : ℕ) (text : List ℕ) : Type 0 where
  of_broken : {at : ℕ} → cause ≡ NotCsv → RecordStart file n at → BrokenText file at number text → FaultText file cause n number text
  of_field : {at : ℕ} → cause ≢ NotCsv → RecordStart file n at → FieldText file at number text → FaultText file cause n number text
