-- The laws of a policy, of earliest deadline first.
use Rattle.std.specs.Prelude.{◌≡◌, ℕ, ◌*◌, ◌^◌, ◌<◌, ◌≤◌, true, ◌↔◌, List, [], map, length, nat_le, slice_index_or, refl}
use Rattle.std.proofs.Common.{sym, subst, ap, arith, leb-true, le-leb, mul-le-mul}
use mathlib.Core.List.{Memᴰ}
use Rattle.std.specs.List.{remove}
use Rattle.std.proofs.lemmas.List.{length-map}
use Rattle.supply.specs.Laws.{Lawful, longest_window}
use Rattle.demand.specs.declared.task.Task.{Task}
use Rattle.demand.specs.Limits.{longest_span, most_tasks}
use Rattle.demand.specs.Figures.{times_of}
use Rattle.demand.specs.Ranks.{Set}
use Rattle.demand.specs.Charges.{Charged, charge, charges}
use Rattle.demand.specs.Demand.{EdfFull}
use Rattle.demand.specs.Hyper.{hyper, periods, edf_span}
use Rattle.demand.specs.Listings.{edf_times, edf_group, edf_groups, hyper_of}
use Rattle.demand.specs.Tests.{Passes, point}
use Rattle.demand.specs.Points.{charges_fit}
use Rattle.demand.specs.Spans.{hyper_of_positive, hyper_of_shared, groups_within, periods_positive, periods_times, span_of}
use Rattle.demand.specs.HyperLemmas.{hyper_part}
use Rattle.demand.specs.ListingsLemmas.{edf_test, listed_deadline, deadline_within}
use Rattle.demand.specs.Fewer.{map_removed, member_removed, edf_removed}
use Rattle.demand.specs.Sizes.{edf_length, group_any, group_in, Early, early_none}

pub edf_narrower : (ts : List Task) (i : ℕ) → i < length ts → edf_span ts ≡ true → edf_span (remove ts i) ≡ true
edf_narrower ts i h w =
    let part = hyper_part (periods ts) (remove (periods ts) i) (periods_positive ts) (member_removed (periods ts) i) in
    let e : hyper (periods (remove ts i)) ≡ hyper (remove (periods ts) i) = ap hyper (map_removed (λ t. t.period) ts i) in
    le-leb (hyper (periods (remove ts i))) longest_span (omega (arith, e, part, leb-true (hyper (periods ts)) longest_span w))

pub edf_lighter : (ts : List Task) (i : ℕ) → i < length ts → (top : ℕ) (Z : ℕ → ℕ) → EdfFull (charges top ts) Z → EdfFull (charges top (remove ts i)) Z
edf_lighter ts i h top Z f = subst (λ cs. EdfFull cs Z) (sym (map_removed (charge top) ts i)) (edf_removed Z (charges top ts) i f)

pub edf_bare : edf_span [] ≡ true
unfolding hyper
edf_bare = refl

pub edf_timed : (ts us : List Task) → map times_of ts ≡ map times_of us → edf_span ts ≡ edf_span us
edf_timed ts us e = ap (λ ns. nat_le (hyper ns) longest_span) (periods_times ts us e)

module _ (ts : List Task) (w : edf_span ts ≡ true) (top : ℕ) where
  abbrev cs : List Charged
  cs = charges top ts

  abbrev times : List ℕ
  times = edf_times cs (hyper_of cs)

  -- what holds of the listed groups holds of those of the policy
  within : (P : List (List (ℕ × ℕ)) → Type 0) → P (map (edf_group cs) times) → P (edf_groups cs)
  within P h = subst P (sym (groups_within top ts w)) h

  pub edf_decides : (Z : ℕ → ℕ) → Lawful top Z → Passes Z (edf_groups cs) ↔ EdfFull cs Z
  edf_decides Z laws =
      within (λ gs. Passes Z gs ↔ EdfFull cs Z) (edf_test laws cs (charges_fit top ts) (hyper_of cs) (hyper_of_positive top ts) (hyper_of_shared top ts))

  pub edf_short : (g : ℕ) → length (slice_index_or (edf_groups cs) g []) < 2 ^ 32
  edf_short g =
      within (λ gs. length (slice_index_or gs g []) < 2 ^ 32)
      (group_any (λ G. length G < 2 ^ 32) (edf_group cs) times (λ t i. omega arith) (omega arith) g)

  pub edf_filled : (g : ℕ) → g < length (edf_groups cs) → 0 < length (slice_index_or (edf_groups cs) g [])
  edf_filled g =
      within (λ gs. g < length gs → 0 < length (slice_index_or gs g []))
      (group_in (λ G. 0 < length G) (edf_group cs) times (λ t i. omega arith) g)

  pub edf_early : (g i : ℕ) → i < length (slice_index_or (edf_groups cs) g []) → (point (edf_groups cs) g i).0 ≤ longest_window
  edf_early g =
      within (λ gs. Early longest_window (slice_index_or gs g []))
      (group_any (Early longest_window) (edf_group cs) times early (early_none longest_window) g)
    where
      early : (t : ℕ) → Memᴰ t times → Early longest_window (edf_group cs t)
      early t j k l =
          let z : k ≡ 0 = omega arith in
          let b = (deadline_within cs (charges_fit top ts) (hyper_of cs) (hyper_of_positive top ts) t (listed_deadline cs (charges_fit top ts) (hyper_of cs) t j)).1 in
          rw z (omega (arith, b, span_of top ts w))

  pub edf_few : Set ts → length (edf_groups cs) < 2 ^ 32
  edf_few s =
      within (λ gs. length gs < 2 ^ 32)
      (let m : length cs * hyper_of cs ≤ most_tasks * longest_span = mul-le-mul few (span_of top ts w) in
      omega (arith, length-map times (edf_group cs), edf_length cs (charges_fit top ts) (hyper_of cs)))
    where
      few : length cs ≤ most_tasks
      few = omega (arith, s.few, length-map ts (charge top))
