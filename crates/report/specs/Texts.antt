-- The text of a row of numbers.
use Rattle.std.specs.Prelude.{ℕ, List, ◌∷◌, ◌++◌, [], codes, decimal}
use Rattle.std.specs.List.{flat_map}

-- CR LF
abbrev pub line_end : List ℕ
line_end = 13 ∷ 10 ∷ []

-- each number after a comma
abbrev pub after_commas : List ℕ → List ℕ
after_commas ns = flat_map (λ n. codes "," ++ decimal n) ns

-- a text, then numbers with commas between them, and the line end
abbrev pub row_text : List ℕ → ℕ → List ℕ → List ℕ
row_text head first more = ((head ++ decimal first) ++ after_commas more) ++ line_end
