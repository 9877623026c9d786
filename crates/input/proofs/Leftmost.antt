-- The fields before the one that holds no number.
use Rattle.std.proofs.Common.{◌≡◌, ℕ, ◌+◌, ◌≤◌, Ok, Err, subst, ⊎_elim, arith}
use Rattle.std.proofs.lemmas.Bool.{cases_lt}
use Rattle.input.specs.Cells.{NumberIn}
use Rattle.input.specs.TaskFiles.{NumbersIn, Leftmost}
use Rattle.input.specs.declared.fault.Fault.{Fault}
use Rattle.input.specs.declared.line.Line.{Line}

pub numbers_none : (line : Line) (first : ℕ) → NumbersIn line first first
numbers_none line first k l h = absurd (omega arith)

pub numbers_more : (line : Line) (first n v : ℕ) → NumbersIn line first n → NumberIn line n (Ok v) → NumbersIn line first (n + 1)
numbers_more line first n v h x k l m =
    ⊎_elim
    (λ i. h k l i)
    (λ i. let e : n ≡ k = omega arith in (v, subst (λ z. NumberIn line z (Ok v)) e x))
    (cases_lt k n)

-- a field that holds no number, after fields that do
pub leftmost_at : (line : Line) (first n last : ℕ) (e : Fault) → first ≤ n → n ≤ last → NumbersIn line first n → NumberIn line n (Err e) → Leftmost line first last e
leftmost_at line first n last e l h x w = record { at = n; low = l; high = h; wrong = w; earlier = x }
