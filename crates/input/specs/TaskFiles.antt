-- The file of tasks: a header, then the figures of a task in each record.
use Rattle.std.specs.Prelude.{ℕ, ◌+◌, ◌<◌, ◌≤◌, List, [], ◌∷◌, ◌++◌, length, Ok, Err, Result}
use Rattle.demand.specs.declared.task.Figures.{Figures}
use Rattle.input.specs.Cells.{NumberIn}
use Rattle.input.specs.Headers.{HeaderIn, EntryAt}
use Rattle.input.specs.declared.fault.Fault.{Fault}
use Rattle.input.specs.declared.fault.Source.TheVariants.{Tasks}
use Rattle.input.specs.declared.fault.Unread.{Unread}
use Rattle.input.specs.declared.fault.Unread.TheVariants.{Faulty, Memory}
use Rattle.input.specs.declared.line.Line.{Line}

-- each field from one place to before another holds a number
abbrev pub NumbersIn : Line → ℕ → ℕ → Type 0
NumbersIn line first n = (k : ℕ) → first ≤ k → k < n → (v : ℕ) × NumberIn line k (Ok v)

-- the leftmost field of some that holds no number
pub record Leftmost (line : Line) (first last : ℕ) (e : Fault) : Type 0 where
  pub at : ℕ
  pub low : first ≤ at
  pub high : at ≤ last
  pub wrong : NumberIn line at (Err e)
  pub earlier : NumbersIn line first at

-- the figures of a record, in the order of its fields
abbrev pub FiguresIn : Line → Result Figures Fault → Type 0
FiguresIn line (Ok f) =
    NumberIn line 1 (Ok f.rank) × NumberIn line 2 (Ok f.cycles) × NumberIn line 3 (Ok f.fixed)
    × NumberIn line 4 (Ok f.period) × NumberIn line 5 (Ok f.deadline)
FiguresIn line (Err e) = Leftmost line 1 5 e

-- so many records after the header are read, as these figures, up to a place
pub data TasksUpTo (file : List ℕ) : ℕ → ℕ → List Figures → Type 0 where
  header : {at : ℕ} → HeaderIn file Tasks (Ok at) → TasksUpTo file 0 at []
  entry : {n at : ℕ} {ts : List Figures} (line : Line) (f : Figures) → TasksUpTo file n at ts → at < length file → EntryAt file Tasks (n + 1) at (Ok line) → FiguresIn line (Ok f) → TasksUpTo file (n + 1) line.«record».next (ts ++ f ∷ [])

-- the first fault of the file
pub data TaskFault (file : List ℕ) (e : Fault) : Type 0 where
  in_header : HeaderIn file Tasks (Err e) → TaskFault file e
  in_entry : {n at : ℕ} {ts : List Figures} → TasksUpTo file n at ts → at < length file → EntryAt file Tasks (n + 1) at (Err e) → TaskFault file e
  in_figure : {n at : ℕ} {ts : List Figures} (line : Line) → TasksUpTo file n at ts → at < length file → EntryAt file Tasks (n + 1) at (Ok line) → FiguresIn line (Err e) → TaskFault file e

-- what the reading of the file answers
abbrev pub TasksRead : List ℕ → Result (List Figures) Unread → Type 0
TasksRead file (Ok ts) = (n : ℕ) × (at : ℕ) × TasksUpTo file n at ts × (length file ≤ at)
TasksRead file (Err (Faulty e)) = TaskFault file e
TasksRead file (Err Memory) = Unit {0}
