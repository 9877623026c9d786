-- A record: one or more fields with commas between them.
use Rattle.std.specs.Prelude.{◌≡◌, ℕ, suc, ◌+◌, min, ◌≢◌, List}
use Rattle.rfc4180.specs.Places.{FieldAt, BrokenAt}
use Rattle.rfc4180.specs.declared.part.Broken.{Broken}
use Rattle.rfc4180.specs.declared.part.Part.{Part}
use Rattle.rfc4180.specs.declared.part.Record.{Record}
use Rattle.rfc4180.specs.declared.scan.After.{After}
use Rattle.rfc4180.specs.declared.scan.After.TheVariants.{Comma, LineEnd, FileEnd}
use Rattle.rfc4180.specs.declared.scan.Found.{Found}

-- so many fields, each with a comma after it, lead from one place to another
pub data Before (file : List ℕ) (at : ℕ) : ℕ → ℕ → Type 0 where
  start : Before file at 0 at
  more : {n from : ℕ} (f : Found) → Before file at n from → FieldAt file from f → f.after ≡ Comma → Before file at (suc n) (f.end + 1)

-- the last number of fields that is told apart
abbrev pub most_fields : ℕ
most_fields = 4294967295

-- where the next record starts
abbrev pub past : After → ℕ → ℕ
past Comma end = end
past LineEnd end = end + 2
past FileEnd end = end

-- the last field of a record
pub record LastField (file : List ℕ) (at : ℕ) (n end next : ℕ) : Type 0 where
  pub from : ℕ
  pub field : Found
  pub before : Before file at n from
  pub here : FieldAt file from field
  pub last : field.after ≢ Comma
  pub ends : end ≡ field.end
  pub goes : next ≡ past field.after field.end

-- the record that starts at a place
pub record RecordAt (file : List ℕ) (at : ℕ) (r : Record) : Type 0 where
  pub others : ℕ
  pub begins : r.start ≡ at
  pub last : LastField file at others r.end r.next
  pub counted : r.fields ≡ min (others + 1) most_fields

-- the record that starts at a place breaks the grammar in a field
pub record BrokenRecord (file : List ℕ) (at : ℕ) (b : Broken) : Type 0 where
  pub others : ℕ
  pub before : Before file at others b.start
  pub broken : BrokenAt file b.start b.end
  pub counted : b.field ≡ min (others + 1) most_fields

-- the field of a number, from 1, in the record that starts at a place
pub record Numbered (file : List ℕ) (at number : ℕ) (p : Part) : Type 0 where
  pub others : ℕ
  pub from : ℕ
  pub field : Found
  pub counted : number ≡ others + 1
  pub before : Before file at others from
  pub here : FieldAt file from field
  pub is : field.part ≡ p
