-- The hyperperiod: the least common multiple of the periods.
use Rattle.std.specs.Prelude.{◌≡◌, ℕ, zero, suc, ◌*◌, ◌/◌, ◌%◌, ◌≤◌, Bool, cond, List, [], ◌∷◌, map, Some, None, Option, nat_le}
use mathlib.Core.List.{Memᴰ}
use Rattle.demand.specs.declared.task.Task.{Task}
use Rattle.demand.specs.Limits.{longest_span}

-- Euclid, in at most so many steps
unfoldable pub gcd_in : ℕ → ℕ → ℕ → ℕ
gcd_in zero a b = a
gcd_in (suc n) a zero = a
gcd_in (suc n) a (suc b) = gcd_in n (suc b) (a % suc b)

abbrev pub gcd : ℕ → ℕ → ℕ
gcd a b = gcd_in (suc b) a b

unfoldable pub lcm : ℕ → ℕ → ℕ
lcm a b = a / gcd a b * b

unfoldable pub hyper : List ℕ → ℕ
hyper [] = 1
hyper (n ∷ ns) = lcm n (hyper ns)

-- h is a multiple of a
abbrev pub Multiple : ℕ → ℕ → Type 0
Multiple a h = (m : ℕ) × (h ≡ m * a)

-- h is a multiple of each number
abbrev pub Common : List ℕ → ℕ → Type 0
Common ns h = (n : ℕ) → Memᴰ n ns → Multiple n h

-- h is the least positive common multiple
pub record Least (ns : List ℕ) (h : ℕ) : Type 0 where
  pub positive : 1 ≤ h
  pub common : Common ns h
  pub least : (k : ℕ) → 1 ≤ k → Common ns k → h ≤ k

abbrev pub periods : List Task → List ℕ
periods ts = map (λ t. t.period) ts

-- whether earliest deadline first can decide a set
abbrev pub edf_span : List Task → Bool
edf_span ts = nat_le (hyper (periods ts)) longest_span

-- a hyperperiod, unless it is too long
abbrev pub within_span : ℕ → Option ℕ
within_span h = cond (nat_le h longest_span) (Some h) None
