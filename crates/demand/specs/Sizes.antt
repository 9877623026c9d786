-- How many groups and points are listed, and how late they are.
use Rattle.std.specs.Prelude.{◌≡◌, ℕ, zero, suc, ◌+◌, ◌*◌, ◌/◌, ◌<◌, ◌≤◌, Bool, true, false, cond, List, [], ◌∷◌, map, length, get_or, nat_lt, slice_index_or, refl}
use Rattle.std.proofs.Common.{subst, arith, div-le_self, length-append}
use mathlib.Core.List.Memᴰ
use mathlib.Core.List.{Memᴰ}
use Rattle.std.proofs.lemmas.List.{length-map}
use Rattle.std.proofs.lemmas.List.FromFn.{length-map-range_with_len}
use Rattle.demand.specs.declared.task.Task.{Task}
use Rattle.demand.specs.Limits.{longest_period}
use Rattle.demand.specs.Charges.{Charged, charge, charges}
use Rattle.demand.specs.Demand.{jobs, above}
use Rattle.demand.specs.Listings.{listed, dues, edf_times, turns, fp_times, fp_group}
use Rattle.demand.specs.Counts.{jobs_le}
use Rattle.demand.specs.Points.{AllFit}

-- what holds of the group of each thing holds of each group
module _ {X : Type 0} (P : List (ℕ × ℕ) → Type 0) (g : X → List (ℕ × ℕ)) where
  pub group_in : (xs : List X) → ((x : X) → Memᴰ x xs → P (g x)) → (k : ℕ) → k < length (map g xs) → P (slice_index_or (map g xs) k [])
  group_in [] h k l = absurd (omega arith)
  group_in (x ∷ xs) h zero l = h x (Memᴰ.head refl)
  group_in (x ∷ xs) h (suc k) l = group_in xs (λ y i. h y (Memᴰ.tail i)) k (omega arith)

  pub group_any : (xs : List X) → ((x : X) → Memᴰ x xs → P (g x)) → P [] → (k : ℕ) → P (slice_index_or (map g xs) k [])
  group_any [] h e k = e
  group_any (x ∷ xs) h e zero = h x (Memᴰ.head refl)
  group_any (x ∷ xs) h e (suc k) = group_any xs (λ y i. h y (Memᴰ.tail i)) e k

-- each time of a group is at most w
abbrev pub Early : ℕ → List (ℕ × ℕ) → Type 0
Early w G = (i : ℕ) → i < length G → (get_or G i (0, 0)).0 ≤ w

pub early_none : (w : ℕ) → Early w []
early_none w i h = absurd (omega arith)

pub early_map : (w : ℕ) (f : ℕ → ℕ) (ts : List ℕ) → ((t : ℕ) → Memᴰ t ts → t ≤ w) → Early w (map (λ t. (t, f t)) ts)
early_map w f [] h i l = absurd (omega arith)
early_map w f (t ∷ ts) h zero l = h t (Memᴰ.head refl)
early_map w f (t ∷ ts) h (suc i) l = early_map w f ts (λ u j. h u (Memᴰ.tail j)) i (omega arith)

-- ---- how many times are listed

module _ {X : Type 0} (lists : X → List ℕ) (h : ℕ) where
  length_listed : (m : ℕ) (xs : List X) → ((x : X) → Memᴰ x xs → length (lists x) ≤ m) → length (listed lists xs h) ≤ length xs * m + 1
  length_listed m [] f = omega arith
  length_listed m (x ∷ xs) f =
      let below = length_listed m xs (λ y i. f y (Memᴰ.tail i)) in
      omega (arith, f x (Memᴰ.head refl), length-append (lists x) (listed lists xs h))

  some_listed : (xs : List X) → 0 < length (listed lists xs h)
  some_listed [] = omega arith
  some_listed (x ∷ xs) = omega (arith, some_listed xs, length-append (lists x) (listed lists xs h))

pub edf_length : (cs : List Charged) → AllFit cs → (h : ℕ) → length (edf_times cs h) ≤ length cs * h + 1
unfolding edf_times
edf_length cs f h = length_listed (λ c. dues c h) h h cs few
  where
    few : (c : Charged) → Memᴰ c cs → length (dues c h) ≤ h
    few c i = omega (arith, length-map-range_with_len (λ k. c.deadline + k * c.period) 0 (jobs c.deadline c.period h), jobs_le c.deadline c.period h (f c i).deadline)

-- ---- fixed priority

pub fp_length : (rank d : ℕ) (cs : List Charged) → length (fp_times rank d cs) ≤ length cs * d + 1
unfolding fp_times
fp_length rank d cs = length_listed (λ a. cond (nat_lt a.rank rank) (turns a d) []) d d cs (λ a i. few a (nat_lt a.rank rank))
  where
    few : (a : Charged) (b : Bool) → length (cond b (turns a d) []) ≤ d
    few a true = omega (arith, length-map-range_with_len (λ k. (k + 1) * a.period) 0 (d / a.period), div-le_self d a.period)
    few a false = omega arith

pub fp_some : (rank d : ℕ) (cs : List Charged) → 0 < length (fp_times rank d cs)
unfolding fp_times
fp_some rank d cs = some_listed (λ a. cond (nat_lt a.rank rank) (turns a d) []) d cs

pub fp_group_length : (cs : List Charged) (c : Charged) → length (fp_group cs c) ≡ length (fp_times c.rank c.deadline cs)
fp_group_length cs c = length-map (fp_times c.rank c.deadline cs) (λ t. (t, c.cycles + above c.rank cs t))

pub charges_early : (top : ℕ) (ts : List Task) (c : Charged) → Memᴰ c (charges top ts) → c.deadline ≤ longest_period
charges_early top ts c i =
    let r = Memᴰ.of_map (charge top) ts i in
    let t = r.0 in
    let P : Charged → Type 0 = λ d. d.deadline ≤ longest_period in
    subst P r.2 (omega (arith, t.often, t.constrained))
