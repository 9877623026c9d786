-- What stands at a place of a policy's groups, by what the code found on the way.
use Rattle.std.proofs.Common.{◌≡◌, ℕ, zero, suc, ◌+◌, ◌<◌, ◌≤◌, Bool, true, false, cond, leb, List, [], ◌∷◌, map, length, get_or, Some, None, Option, sym, refl, ap, ◌∙◌, arith, le-leb}
use Rattle.std.proofs.lemmas.Bool.{lt-leb}
use Rattle.std.specs.List.{slice_get}
use Rattle.std.specs.Option.{option_map, option_and_then}
use Rattle.std.proofs.lemmas.Option.{slice_get_past, slice_get-get_or, slice_get-map}
use Rattle.demand.specs.declared.task.Task.{Task}
use Rattle.demand.specs.Limits.{longest_span}
use Rattle.demand.specs.Charges.{Charged, charge, charges}
use Rattle.demand.specs.Demand.{demand, above}
use Rattle.demand.specs.Hyper.{hyper, periods, within_span}
use Rattle.demand.specs.Listings.{edf_times, edf_group, edf_groups, hyper_of, fp_times, fp_group, fp_groups}
use Rattle.demand.specs.Sizes.{group_any}
use Rattle.demand.specs.Spans.{hyper_same, groups_within, groups_outside, some_within, none_within}

-- the groups of a list of things
group_nth : {X : Type 0} (f : X → List (ℕ × ℕ)) (xs : List X) (g i : ℕ) → slice_get (get_or (map f xs) g []) i ≡ option_and_then (λ x. slice_get (f x) i) (slice_get xs g)
group_nth f [] g i = refl
group_nth f (x ∷ xs) zero i = refl
group_nth f (x ∷ xs) (suc g) i = group_nth f xs g i

-- ---- fixed priority

module _ (top : ℕ) (ts : List Task) (g i : ℕ) where
  abbrev fp_place : Option (ℕ × ℕ)
  fp_place = slice_get (get_or (fp_groups (charges top ts)) g []) i

  at_task : (o : Option Task) → slice_get ts g ≡ o → fp_place ≡ option_and_then (λ c. slice_get (fp_group (charges top ts) c) i) (option_map (charge top) o)
  at_task o e =
      group_nth (fp_group (charges top ts)) (charges top ts) g i
      ∙ ap (option_and_then (λ c. slice_get (fp_group (charges top ts) c) i)) (slice_get-map (charge top) ts g ∙ ap (option_map (charge top)) e)

  pub fp_no_task : length ts ≤ g → None ≡ fp_place
  fp_no_task h = sym (at_task None (slice_get_past ts g h))

  module _ (t : Task) (h : g < length ts) (e : t ≡ get_or ts g t) where
    abbrev point : ℕ → ℕ × ℕ
    point u = (u, (charge top t).cycles + above t.rank (charges top ts) u)

    at_time : (o : Option ℕ) → o ≡ slice_get (fp_times t.rank t.deadline (charges top ts)) i → option_map point o ≡ fp_place
    at_time o n =
        ap (option_map point) n
        ∙ sym (at_task (Some t) (slice_get-get_or ts g t h ∙ ap Some (sym e)) ∙ slice_get-map point (fp_times t.rank t.deadline (charges top ts)) i)

    pub fp_no_time : None ≡ slice_get (fp_times t.rank t.deadline (charges top ts)) i → None ≡ fp_place
    fp_no_time n = at_time None n

    pub fp_point : (u w : ℕ) → Some u ≡ slice_get (fp_times t.rank t.deadline (charges top ts)) i
        → w ≡ (charge top t).cycles + above t.rank (charges top ts) u → Some (u, w) ≡ fp_place
    fp_point u w n f = ap (λ v. Some (u, v)) f ∙ at_time (Some u) n

-- ---- earliest deadline first

-- no group has a second point
pub edf_one : (cs : List Charged) (g i : ℕ) → 0 < i → None ≡ slice_get (get_or (edf_groups cs) g []) i
edf_one cs g i h = sym (slice_get_past (get_or (edf_groups cs) g []) i (way (leb (hyper_of cs) longest_span)))
  where
    way : (b : Bool) → length (get_or (cond b (map (edf_group cs) (edf_times cs (hyper_of cs))) []) g []) ≤ i
    way true = group_any (λ G. length G ≤ i) (edf_group cs) (edf_times cs (hyper_of cs)) (λ t j. omega arith) (omega arith) g
    way false = omega arith

module _ (top : ℕ) (ts : List Task) (g i : ℕ) where
  abbrev edf_place : Option (ℕ × ℕ)
  edf_place = slice_get (get_or (edf_groups (charges top ts)) g []) i

  pub edf_outside : None ≡ within_span (hyper (periods ts)) → None ≡ edf_place
  edf_outside n =
      let w = lt-leb (hyper (periods ts)) longest_span (none_within (hyper (periods ts)) n) in
      sym (ap (λ gs. slice_get (get_or gs g []) i) (groups_outside top ts w))

  module _ (h : ℕ) (s : Some h ≡ within_span (hyper (periods ts))) where
    abbrev cs : List Charged
    cs = charges top ts

    times_are : edf_groups cs ≡ map (edf_group cs) (edf_times cs h)
    times_are =
        let w = some_within (hyper (periods ts)) h s in
        groups_within top ts (le-leb (hyper (periods ts)) longest_span w.1)
        ∙ ap (λ k. map (edf_group cs) (edf_times cs k)) (hyper_same top ts ∙ sym w.0)

    at_group : (o : Option ℕ) → o ≡ slice_get (edf_times cs h) g → option_and_then (λ t. slice_get (edf_group cs t) i) o ≡ edf_place
    at_group o n =
        ap (option_and_then (λ t. slice_get (edf_group cs t) i)) n
        ∙ sym (ap (λ gs. slice_get (get_or gs g []) i) times_are ∙ group_nth (edf_group cs) (edf_times cs h) g i)

    pub edf_no_time : None ≡ slice_get (edf_times cs h) g → None ≡ edf_place
    edf_no_time n = at_group None n

    pub edf_point : (t w : ℕ) → Some t ≡ slice_get (edf_times cs h) g → w ≡ demand cs t → i ≡ 0 → Some (t, w) ≡ edf_place
    edf_point t w n f z = ap (λ v. Some (t, v)) f ∙ sym (ap (slice_get (edf_group cs t)) z) ∙ at_group (Some t) n
