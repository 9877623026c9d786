-- Points (time, work) in groups, and when a supply passes them.
use Rattle.std.specs.Prelude.{ℕ, ◌<◌, ◌≤◌, List, [], length, slice_index_or}

-- the point at an index of a group
abbrev pub point : List (List (ℕ × ℕ)) → ℕ → ℕ → ℕ × ℕ
point gs g i = slice_index_or (slice_index_or gs g []) i (0, 0)

-- the work of a point is supplied by its time
abbrev pub Covered : (ℕ → ℕ) → ℕ × ℕ → Type 0
Covered Z p = p.1 ≤ Z p.0

-- each group has a point that is covered
abbrev pub Passes : (ℕ → ℕ) → List (List (ℕ × ℕ)) → Type 0
Passes Z gs = (g : ℕ) → g < length gs → (i : ℕ) × (i < length (slice_index_or gs g [])) × Covered Z (point gs g i)
