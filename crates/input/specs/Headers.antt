-- The columns of the two files, and their records.
use Rattle.std.specs.Prelude.{◌≡◌, ℕ, ◌<◌, ◌≤◌, min, ◌≢◌, List, [], ◌∷◌, length, All, Ok, Err, codes, Result}
use Rattle.rfc4180.specs.Records.{RecordAt, BrokenRecord}
use Rattle.rfc4180.specs.declared.part.Broken.{Broken}
use Rattle.rfc4180.specs.declared.part.Record.{Record}
use Rattle.processor.specs.declared.refusal.Refusal.TheVariants.{FileTooLong, NotCsv, HeaderDiffers, FieldCount}
use Rattle.input.specs.Cells.{Cell, fault_of}
use Rattle.input.specs.declared.fault.Fault.{Fault}
use Rattle.input.specs.declared.fault.Layer.TheVariants.{Bytes, Records}
use Rattle.input.specs.declared.fault.Source.{Source}
use Rattle.input.specs.declared.fault.Source.TheVariants.{Processor, Tasks}
use Rattle.input.specs.declared.line.Line.{Line}

-- the columns of a file: the number of each, and the name that heads it
abbrev pub columns_of : Source → List (ℕ × List ℕ)
columns_of Processor = (1, codes "kind") ∷ (2, codes "a") ∷ (3, codes "b") ∷ (4, codes "c") ∷ []
columns_of Tasks = (1, codes "rank") ∷ (2, codes "cycles") ∷ (3, codes "fixed") ∷ (4, codes "period") ∷ (5, codes "deadline") ∷ []

-- how many fields the records of a file have
abbrev pub width_of : Source → ℕ
width_of s = length (columns_of s)

-- the record that heads a file: each field has the name of its column
abbrev pub Heads : Source → List ℕ → Record → Type 0
Heads s file r = (r.fields ≡ width_of s) × All (λ column. Cell file r column.0 column.1) (columns_of s)

-- the record of a number that starts at a place, by the grammar alone
abbrev pub LineAt : List ℕ → Source → ℕ → ℕ → Result Line Fault → Type 0
LineAt file s n at (Ok line) = (line.file.now ≡ file) × (line.source ≡ s) × (line.number ≡ n) × RecordAt file (min at (length file)) line.«record»
LineAt file s n at (Err e) =
    (b : Broken) × BrokenRecord file (min at (length file)) b
    × (e ≡ record { layer = Records; cause = NotCsv; file = s; «record» = n; field = b.field })

-- where a header is at fault
pub data HeaderFault (file : List ℕ) (s : Source) (e : Fault) : Type 0 where
  too_long : 65536 < length file → e ≡ record { layer = Bytes; cause = FileTooLong; file = s; «record» = 0; field = 0 } → HeaderFault file s e
  broken : length file ≤ 65536 → LineAt file s 0 0 (Err e) → HeaderFault file s e
  differs : (line : Line) → length file ≤ 65536 → LineAt file s 0 0 (Ok line) → (Heads s file line.«record» → ⊥) → e ≡ fault_of line Records HeaderDiffers 0 → HeaderFault file s e

-- a file that is not too long, with its header, and where the first record after that starts
abbrev pub HeaderIn : List ℕ → Source → Result ℕ Fault → Type 0
HeaderIn file s (Ok next) =
    (length file ≤ 65536) × ((line : Line) × LineAt file s 0 0 (Ok line) × Heads s file line.«record» × (next ≡ line.«record».next))
HeaderIn file s (Err e) = HeaderFault file s e

-- where a record after the header is at fault as a whole
pub data EntryFault (file : List ℕ) (s : Source) (n at : ℕ) (e : Fault) : Type 0 where
  broken_entry : LineAt file s n at (Err e) → EntryFault file s n at e
  miscounted : (line : Line) → LineAt file s n at (Ok line) → line.«record».fields ≢ width_of s → e ≡ fault_of line Records FieldCount 0 → EntryFault file s n at e

-- a record after the header, with as many fields as its file has columns
abbrev pub EntryAt : List ℕ → Source → ℕ → ℕ → Result Line Fault → Type 0
EntryAt file s n at (Ok line) = LineAt file s n at (Ok line) × (line.«record».fields ≡ width_of s)
EntryAt file s n at (Err e) = EntryFault file s n at e
