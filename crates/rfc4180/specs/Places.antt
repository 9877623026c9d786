-- Where a field lies in its file, and what follows it.
use Rattle.std.specs.Prelude.{◌≡◌, ℕ, ◌+◌, ◌<◌, ◌≤◌, ◌⊎◌, List, length, slice_index}
use Rattle.std.specs.List.{between}
use Rattle.rfc4180.specs.Grammar.{Plain, Quoted, Begins}
use Rattle.rfc4180.specs.declared.scan.After.{After}
use Rattle.rfc4180.specs.declared.scan.After.TheVariants.{Comma, LineEnd, FileEnd}
use Rattle.rfc4180.specs.declared.scan.Found.{Found}

-- what follows a place: a comma, CR and LF, or nothing
abbrev pub Follows : After → List ℕ → ℕ → Type 0
Follows Comma file end = (end < length file) × (slice_index file end ≡ 44)
Follows LineEnd file end = (end + 2 ≤ length file) × (slice_index file end ≡ 13) × (slice_index file (end + 1) ≡ 10)
Follows FileEnd file end = end ≡ length file

-- a field with no quotes: its part is all of it
abbrev pub PlainAt : List ℕ → ℕ → Found → Type 0
PlainAt file at f = Plain (between at f.end file) × (f.part.start ≡ at) × (f.part.end ≡ f.end)

-- a field in quotes: its part is what stands between them
abbrev pub QuotedAt : List ℕ → ℕ → Found → Type 0
QuotedAt file at f =
    (slice_index file at ≡ 34) × (f.part.start ≡ at + 1) × (f.part.start ≤ f.part.end)
    × Quoted (between (at + 1) f.part.end file)
    × (slice_index file f.part.end ≡ 34) × (f.end ≡ f.part.end + 1)

-- a whole field that starts at a place
pub record FieldAt (file : List ℕ) (at : ℕ) (f : Found) : Type 0 where
  pub forward : at ≤ f.end
  pub shape : PlainAt file at f ⊎ QuotedAt file at f
  pub followed : Follows f.after file f.end

-- no field starts at a place; what stands there up to e is the longest beginning of one
pub record BrokenAt (file : List ℕ) (at e : ℕ) : Type 0 where
  pub forward : at ≤ e
  pub within : e ≤ length file
  pub none : (f : Found) → FieldAt file at f → ⊥
  pub begins : Begins (between at e file)
  pub longest : e < length file → Begins (between at (e + 1) file) → ⊥
