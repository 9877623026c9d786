-- The grammar of a file of records, on the bytes of a field.
use Rattle.std.specs.Prelude.{◌≡◌, ℕ, ◌≤◌, ◌≢◌, ◌⊎◌, List, [], ◌∷◌, ◌++◌}

-- TEXTDATA: a visible character or a space, but for the quote and the comma
abbrev pub Text : ℕ → Type 0
Text b = (32 ≤ b) × (b ≤ 126) × (b ≢ 34) × (b ≢ 44)

-- what may stand alone between quotes: TEXTDATA, a comma, CR or LF
abbrev pub Quotable : ℕ → Type 0
Quotable b = Text b ⊎ ((b ≡ 44) ⊎ ((b ≡ 13) ⊎ (b ≡ 10)))

-- a field with no quotes around it
pub data Plain : List ℕ → Type 0 where
  none : Plain []
  text : {b : ℕ} {bs : List ℕ} → Text b → Plain bs → Plain (b ∷ bs)

-- what stands between the quotes of a field: a quote in it is written twice
pub data Quoted : List ℕ → Type 0 where
  empty : Quoted []
  byte : {b : ℕ} {bs : List ℕ} → Quotable b → Quoted bs → Quoted (b ∷ bs)
  pair : {b c : ℕ} {bs : List ℕ} → b ≡ 34 → c ≡ 34 → Quoted bs → Quoted (b ∷ c ∷ bs)

-- a field, with its quotes if it has any
abbrev pub Field : List ℕ → Type 0
Field bytes = Plain bytes ⊎ ((inner : List ℕ) × Quoted inner × (bytes ≡ 34 ∷ inner ++ 34 ∷ []))

-- bytes with which a field begins
abbrev pub Begins : List ℕ → Type 0
Begins bytes = (more : List ℕ) × Field (bytes ++ more)
