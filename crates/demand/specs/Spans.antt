-- The hyperperiod of tasks, charged or not, and the groups within the span.
use Rattle.std.specs.Prelude.{◌≡◌, ℕ, zero, suc, ◌+◌, ◌<◌, ◌≤◌, true, false, leb, ◌⊎◌, List, [], ◌∷◌, ◌++◌, map, length, take, Some, None, nat_le, slice_index_or, refl}
use Rattle.std.proofs.Common.{sym, ap, subst, ◌∙◌, inl, inr, arith, leb-true, le-leb}
use mathlib.Core.List.Memᴰ
use mathlib.Core.List.{Memᴰ}
use Rattle.std.proofs.lemmas.Bool.{cases_lt, lt-leb}
use Rattle.std.proofs.lemmas.List.{map_more, take-map, take_all}
use Rattle.demand.specs.declared.task.Task.{Task}
use Rattle.demand.specs.Limits.{longest_span}
use Rattle.demand.specs.Figures.{times_of}
use Rattle.demand.specs.Charges.{Charged, charges}
use Rattle.demand.specs.Hyper.{lcm, hyper, periods, edf_span, within_span}
use Rattle.demand.specs.Listings.{edf_times, edf_group, edf_groups, hyper_of}
use Rattle.demand.specs.Points.{Shared, charges_fit}
use Rattle.demand.specs.HyperLemmas.{Positive, hyper_positive, hyper_common, hyper_push, hyper_part}

pub periods_positive : (ts : List Task) → Positive (periods ts)
periods_positive ts n i =
    let r = Memᴰ.of_map (λ (t : Task). t.period) ts i in
    let t = r.0 in
    let P : ℕ → Type 0 = λ m. 1 ≤ m in
    subst P r.2 (omega (arith, t.due, t.constrained))

charged_positive : (top : ℕ) (ts : List Task) → Positive (map (λ c. c.period) (charges top ts))
charged_positive top ts n i =
    let r = Memᴰ.of_map (λ (c : Charged). c.period) (charges top ts) i in
    let P : ℕ → Type 0 = λ m. 1 ≤ m in
    subst P r.2 (charges_fit top ts r.0 r.1).period

pub hyper_of_positive : (top : ℕ) (ts : List Task) → 1 ≤ hyper_of (charges top ts)
hyper_of_positive top ts = hyper_positive (map (λ c. c.period) (charges top ts)) (charged_positive top ts)

pub hyper_of_shared : (top : ℕ) (ts : List Task) → Shared (charges top ts) (hyper_of (charges top ts))
hyper_of_shared top ts c i =
    hyper_common (map (λ c. c.period) (charges top ts)) (charged_positive top ts) c.period (Memᴰ.map (λ (c : Charged). c.period) i)

-- charging leaves the periods
pub hyper_same : (top : ℕ) (ts : List Task) → hyper_of (charges top ts) ≡ hyper (periods ts)
hyper_same top ts = ap hyper (same ts)
  where
    same : (us : List Task) → map (λ (c : Charged). c.period) (charges top us) ≡ periods us
    same [] = refl
    same (u ∷ us) = ap (λ ns. u.period ∷ ns) (same us)

pub span_charged : (top : ℕ) (ts : List Task) → nat_le (hyper_of (charges top ts)) longest_span ≡ edf_span ts
span_charged top ts = ap (λ h. leb h longest_span) (hyper_same top ts)

pub span_of : (top : ℕ) (ts : List Task) → edf_span ts ≡ true → hyper_of (charges top ts) ≤ longest_span
span_of top ts w = leb-true (hyper_of (charges top ts)) longest_span (span_charged top ts ∙ w)

pub groups_within : (top : ℕ) (ts : List Task) → edf_span ts ≡ true
    → edf_groups (charges top ts) ≡ map (edf_group (charges top ts)) (edf_times (charges top ts) (hyper_of (charges top ts)))
groups_within top ts w = rw (span_charged top ts ∙ w)

pub groups_outside : (top : ℕ) (ts : List Task) → edf_span ts ≡ false → edf_groups (charges top ts) ≡ []
groups_outside top ts w = rw (span_charged top ts ∙ w)

pub periods_times : (ts us : List Task) → map times_of ts ≡ map times_of us → periods ts ≡ periods us
periods_times ts us e = sym (through ts) ∙ ap (λ xs. map (λ x. x.1) xs) e ∙ through us
  where
    through : (vs : List Task) → map (λ (x : ℕ × ℕ × ℕ). x.1) (map times_of vs) ≡ periods vs
    through [] = refl
    through (v ∷ vs) = ap (λ ns. v.period ∷ ns) (through vs)

-- ---- a hyperperiod, unless it is too long

pub within_some : (h : ℕ) → h ≤ longest_span → within_span h ≡ Some h
within_some h l = rw (le-leb h longest_span l)

pub within_none : (h : ℕ) → longest_span < h → within_span h ≡ None
within_none h l = rw (lt-leb h longest_span l)

pub some_within : (h v : ℕ) → Some v ≡ within_span h → (v ≡ h) × (h ≤ longest_span)
some_within h v e = way (cases_lt longest_span h)
  where
    way : (longest_span < h) ⊎ (h ≤ longest_span) → (v ≡ h) × (h ≤ longest_span)
    way (inl l) = let f : Some v ≡ None = e ∙ within_none h l in let z : ◌≡◌ {A = ℕ} 0 1 = cc in absurd (omega arith)
    way (inr l) = let f : Some v ≡ Some h = e ∙ within_some h l in (cc, l)

pub none_within : (h : ℕ) → None ≡ within_span h → longest_span < h
none_within h e = way (cases_lt longest_span h)
  where
    way : (longest_span < h) ⊎ (h ≤ longest_span) → longest_span < h
    way (inl l) = l
    way (inr l) = let f : None ≡ Some h = e ∙ within_some h l in let z : ◌≡◌ {A = ℕ} 0 1 = cc in absurd (omega arith)

-- ---- the tasks from the front on

pub hyper_next : (ts : List Task) (i : ℕ) (x : Task) → i < length ts → x ≡ slice_index_or ts i x
    → hyper (periods (take (i + 1) ts)) ≡ lcm (hyper (periods (take i ts))) x.period
hyper_next ts i x h e =
    let n : periods (take (i + 1) ts) ≡ periods (take i ts) ++ x.period ∷ [] =
    map_more (λ t. t.period) ts i x h ∙ ap (λ (y : Task). periods (take i ts) ++ y.period ∷ []) (sym e) in
    ap hyper n ∙ hyper_push (periods (take i ts)) x.period (subst Positive n (periods_positive (take (i + 1) ts)))

pub hyper_front : (ts : List Task) (i : ℕ) → hyper (periods (take i ts)) ≤ hyper (periods ts)
hyper_front ts i =
    let e : hyper (periods (take i ts)) ≡ hyper (take i (periods ts)) = ap hyper (sym (take-map (λ t. t.period) i ts)) in
    omega (arith, e, hyper_part (periods ts) (take i (periods ts)) (periods_positive ts) (member_front (periods ts) i))
  where
    member_front : (ns : List ℕ) (k n : ℕ) → Memᴰ n (take k ns) → Memᴰ n ns
    member_front ns zero n m = absurd (Memᴰ.not-nil m)
    member_front [] (suc k) n m = m
    member_front (a ∷ ns) (suc k) n (Memᴰ.head f) = Memᴰ.head f
    member_front (a ∷ ns) (suc k) n (Memᴰ.tail m) = Memᴰ.tail (member_front ns k n m)

pub hyper_all : (ts : List Task) (i : ℕ) → length ts ≤ i → hyper (periods (take i ts)) ≡ hyper (periods ts)
hyper_all ts i h = ap (λ us. hyper (periods us)) (take_all i ts h)
