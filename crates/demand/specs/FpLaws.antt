-- The laws of a policy, of fixed priority.
use Rattle.std.specs.Prelude.{ℕ, ◌+◌, ◌*◌, ◌^◌, ◌<◌, ◌≤◌, ◌↔◌, List, [], length, slice_index_or}
use Rattle.std.proofs.Common.{sym, subst, arith, mul-le-mul}
use mathlib.Core.List.{Memᴰ}
use Rattle.std.specs.List.{remove}
use Rattle.std.proofs.lemmas.List.{length-map}
use Rattle.supply.specs.Laws.{Lawful, longest_window}
use Rattle.demand.specs.declared.task.Task.{Task}
use Rattle.demand.specs.Limits.{longest_period, most_tasks}
use Rattle.demand.specs.Ranks.{Set}
use Rattle.demand.specs.Charges.{Charged, charge, charges}
use Rattle.demand.specs.Demand.{above, FpFull}
use Rattle.demand.specs.Listings.{fp_times, fp_group, fp_groups}
use Rattle.demand.specs.Tests.{Passes, point}
use Rattle.demand.specs.Points.{charges_fit}
use Rattle.demand.specs.ListingsLemmas.{fp_test, turns_within}
use Rattle.demand.specs.Fewer.{map_removed, fp_removed}
use Rattle.demand.specs.Sizes.{group_any, group_in, fp_group_length, fp_length, fp_some, charges_early, Early, early_none, early_map}

pub fp_lighter : (ts : List Task) (i : ℕ) → i < length ts → (top : ℕ) (Z : ℕ → ℕ) → FpFull (charges top ts) Z → FpFull (charges top (remove ts i)) Z
fp_lighter ts i h top Z f = subst (λ cs. FpFull cs Z) (sym (map_removed (charge top) ts i)) (fp_removed Z (charges top ts) i f)

module _ (ts : List Task) (s : Set ts) (top : ℕ) where
  abbrev cs : List Charged
  cs = charges top ts

  pub fp_decides : (Z : ℕ → ℕ) → Lawful top Z → Passes Z (fp_groups cs) ↔ FpFull cs Z
  fp_decides Z laws = fp_test laws cs (charges_fit top ts)

  few : length cs ≤ most_tasks
  few = omega (arith, s.few, length-map ts (charge top))

  pub fp_few : length (fp_groups cs) < 2 ^ 32
  fp_few = omega (arith, few, length-map cs (fp_group cs))

  pub fp_short : (g : ℕ) → length (slice_index_or (fp_groups cs) g []) < 2 ^ 32
  fp_short = group_any (λ G. length G < 2 ^ 32) (fp_group cs) cs below (omega arith)
    where
      below : (c : Charged) → Memᴰ c cs → length (fp_group cs c) < 2 ^ 32
      below c i =
          let m : length cs * c.deadline ≤ most_tasks * longest_period = mul-le-mul few (charges_early top ts c i) in
          omega (arith, fp_group_length cs c, fp_length c.rank c.deadline cs)

  pub fp_filled : (g : ℕ) → g < length (fp_groups cs) → 0 < length (slice_index_or (fp_groups cs) g [])
  fp_filled = group_in (λ G. 0 < length G) (fp_group cs) cs (λ c i. omega (arith, fp_group_length cs c, fp_some c.rank c.deadline cs))

  pub fp_early : (g i : ℕ) → i < length (slice_index_or (fp_groups cs) g []) → (point (fp_groups cs) g i).0 ≤ longest_window
  fp_early = group_any (Early longest_window) (fp_group cs) cs early (early_none longest_window)
    where
      early : (c : Charged) → Memᴰ c cs → Early longest_window (fp_group cs c)
      early c j =
          early_map longest_window (λ t. c.cycles + above c.rank cs t) (fp_times c.rank c.deadline cs)
          (λ t k. omega (arith, (turns_within c.rank c.deadline (charges_fit top ts c j).deadline cs (charges_fit top ts) t k).1, charges_early top ts c j))
