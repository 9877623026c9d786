-- Which times the policies list, and that the test at them decides.
use Rattle.std.specs.Prelude.{◌≡◌, ℕ, zero, suc, ◌+◌, ◌*◌, ◌/◌, ◌≤◌, Bool, true, false, cond, ◌⊎◌, ◌↔◌, List, [], ◌∷◌, ◌++◌, map, nat_lt, refl}
use Rattle.std.proofs.Common.{subst, inl, inr, arith, mul-le-mul_right, div-mul-le_self, le-div_iff_mul-le, lt-ltb}
use mathlib.Core.List.Memᴰ
use mathlib.Core.List.{Memᴰ}
use Rattle.supply.specs.Laws.{Lawful}
use Rattle.demand.specs.Charges.{Charged}
use Rattle.demand.specs.Demand.{demand, above, EdfFull, FpFull}
use Rattle.demand.specs.Tests.{Passes}
use Rattle.demand.specs.Listings.{listed, dues, edf_times, edf_group, Deadline, due, end, turns, fp_times, fp_group, fp_groups}
use Rattle.demand.specs.Points.{AllFit, Shared, Release, at, last, jobs_of}
use Rattle.demand.specs.Deadlines.{edf_exact, jobs_bound, bound_jobs}
use Rattle.demand.specs.Priorities.{fp_exact}
use Rattle.demand.specs.Passes.{Held, passes_each, each_passes, held_at, at_held, member_listed, listed_member}

-- ---- what each lists, then the end

module _ {X : Type 0} (lists : X → List ℕ) (h p : ℕ) where
  end_listed : (xs : List X) → p ≡ h → Memᴰ p (listed lists xs h)
  end_listed [] e = Memᴰ.head e
  end_listed (x ∷ xs) e = Memᴰ.append_right (lists x) (end_listed xs e)

  own_listed : (xs : List X) (x : X) → Memᴰ x xs → Memᴰ p (lists x) → Memᴰ p (listed lists xs h)
  own_listed [] x i m = absurd (Memᴰ.not-nil i)
  own_listed (y ∷ xs) x i m = way (Memᴰ.cases_cons i) (λ j. own_listed xs x j m)
    where
      way : (x ≡ y) ⊎ Memᴰ x xs → (Memᴰ x xs → Memᴰ p (listed lists xs h)) → Memᴰ p (lists y ++ listed lists xs h)
      way (inl e) next = Memᴰ.append_left (listed lists xs h) (subst (λ z. Memᴰ p (lists z)) e m)
      way (inr j) next = Memᴰ.append_right (lists y) (next j)

  listed_own : (xs : List X) → Memᴰ p (listed lists xs h) → (p ≡ h) ⊎ ((x : X) × Memᴰ x xs × Memᴰ p (lists x))
  listed_own [] i = inl (Memᴰ.eq_of_singleton i)
  listed_own (y ∷ xs) i = way (Memᴰ.append_cases (lists y) i) (listed_own xs)
    where
      further : (p ≡ h) ⊎ ((x : X) × Memᴰ x xs × Memᴰ p (lists x)) → (p ≡ h) ⊎ ((x : X) × Memᴰ x (y ∷ xs) × Memᴰ p (lists x))
      further (inl e) = inl e
      further (inr (x, j, m)) = inr (x, Memᴰ.tail j, m)

      way : Memᴰ p (lists y) ⊎ Memᴰ p (listed lists xs h) → (Memᴰ p (listed lists xs h) → (p ≡ h) ⊎ ((x : X) × Memᴰ x xs × Memᴰ p (lists x)))
          → (p ≡ h) ⊎ ((x : X) × Memᴰ x (y ∷ xs) × Memᴰ p (lists x))
      way (inl m) next = inr (y, Memᴰ.head refl, m)
      way (inr j) next = further (next j)

-- ---- earliest deadline first

pub listed_deadline : (cs : List Charged) → AllFit cs → (h p : ℕ) → Memᴰ p (edf_times cs h) → Deadline cs h p
unfolding edf_times
listed_deadline cs f h p i = way (listed_own (λ c. dues c h) h p cs i)
  where
    way : (p ≡ h) ⊎ ((c : Charged) × Memᴰ c cs × Memᴰ p (dues c h)) → Deadline cs h p
    way (inl e) = end e
    way (inr (c, j, m)) =
        let (k, b, e) = listed_member (λ k. c.deadline + k * c.period) (jobs_of c h) p m in
        due c j k e (omega (arith, e, jobs_bound c (f c j) h k b))

pub deadline_listed : (cs : List Charged) → AllFit cs → (h p : ℕ) → Deadline cs h p → Memᴰ p (edf_times cs h)
unfolding edf_times
deadline_listed cs f h p (due c i k e b) =
    own_listed (λ c. dues c h) h p cs c i (member_listed (λ k. c.deadline + k * c.period) (jobs_of c h) p k (bound_jobs c (f c i) h k (omega arith)) e)
deadline_listed cs f h p (end e) = end_listed (λ c. dues c h) h p cs e

pub deadline_within : (cs : List Charged) → AllFit cs → (h : ℕ) → 1 ≤ h → (p : ℕ) → Deadline cs h p → (1 ≤ p) × (p ≤ h)
deadline_within cs f h b p (due c i k e u) = (omega (arith, e, (f c i).deadline), u)
deadline_within cs f h b p (end e) = (omega arith, omega arith)

module _ {top : ℕ} {Z : ℕ → ℕ} (laws : Lawful top Z) (cs : List Charged) (fit : AllFit cs) (h : ℕ) (positive : 1 ≤ h) (shared : Shared cs h) where
  one : (p : ℕ) → (t : ℕ) × Memᴰ t (p ∷ []) × (demand cs t ≤ Z t) → demand cs p ≤ Z p
  one p (t, i, b) = subst (λ x. demand cs x ≤ Z x) (Memᴰ.eq_of_singleton i) b

  pub edf_test : Passes Z (map (edf_group cs) (edf_times cs h)) ↔ EdfFull cs Z
  edf_test = (
    λ g. (edf_exact laws cs fit h positive shared).0
        (λ p d. one p (at_held Z (demand cs) (p ∷ []) (passes_each Z (edf_group cs) (edf_times cs h) g p (deadline_listed cs fit h p d)))),
    λ f. each_passes Z (edf_group cs) (edf_times cs h)
        (λ t i. held_at Z (demand cs) (t ∷ []) t (Memᴰ.head refl) (f t (deadline_within cs fit h positive t (listed_deadline cs fit h t i)).0)),
  )

-- ---- fixed priority

-- the releases of a task of smaller rank
abbrev turns_above : ℕ → ℕ → Charged → List ℕ
turns_above rank d a = cond (nat_lt a.rank rank) (turns a d) []

pub turns_within : (rank d : ℕ) → 1 ≤ d → (cs : List Charged) → AllFit cs → (p : ℕ) → Memᴰ p (fp_times rank d cs) → (1 ≤ p) × (p ≤ d)
unfolding fp_times
turns_within rank d l cs f p i = way (listed_own (turns_above rank d) d p cs i)
  where
    own : (a : Charged) → Memᴰ a cs → Memᴰ p (turns a d) → (1 ≤ p) × (p ≤ d)
    own a j m =
        let (k, b, e) = listed_member (λ k. (k + 1) * a.period) (d / a.period) p m in
        let u : (k + 1) * a.period ≤ d / a.period * a.period = mul-le-mul_right a.period (omega arith) in
        (omega (arith, (f a j).period, e), omega (arith, e, u, div-mul-le_self d a.period))

    pick : (b : Bool) (a : Charged) → Memᴰ a cs → Memᴰ p (cond b (turns a d) []) → (1 ≤ p) × (p ≤ d)
    pick true a j m = own a j m
    pick false a j m = absurd (Memᴰ.not-nil m)

    way : (p ≡ d) ⊎ ((a : Charged) × Memᴰ a cs × Memᴰ p (turns_above rank d a)) → (1 ≤ p) × (p ≤ d)
    way (inl e) = (omega arith, omega arith)
    way (inr (a, j, m)) = pick (nat_lt a.rank rank) a j m

pub release_listed : (cs : List Charged) → AllFit cs → (c : Charged) (p : ℕ) → Release cs c p → Memᴰ p (fp_times c.rank c.deadline cs)
unfolding fp_times
release_listed cs f c p (at a i h k e b u) =
    own_listed (turns_above c.rank c.deadline) c.deadline p cs a i (rw (lt-ltb a.rank c.rank h) (turn k e))
  where
    turn : (k : ℕ) → p ≡ k * a.period → Memᴰ p (turns a c.deadline)
    turn zero g = absurd (omega arith)
    turn (suc k) g =
        let few : suc k ≤ c.deadline / a.period = (le-div_iff_mul-le (f a i).period).1 (omega arith) in
        member_listed (λ k. (k + 1) * a.period) (c.deadline / a.period) p k few (omega arith)
release_listed cs f c p (last e) = end_listed (turns_above c.rank c.deadline) c.deadline p cs e

module _ {top : ℕ} {Z : ℕ → ℕ} (laws : Lawful top Z) (cs : List Charged) (fit : AllFit cs) where
  abbrev asked : Charged → ℕ → ℕ
  asked c t = c.cycles + above c.rank cs t

  found : (c : Charged) → Memᴰ c cs → (t : ℕ) × Memᴰ t (fp_times c.rank c.deadline cs) × (asked c t ≤ Z t)
      → (t : ℕ) × ((1 ≤ t) × (t ≤ c.deadline) × (asked c t ≤ Z t))
  found c i (t, j, h) = let w = turns_within c.rank c.deadline (fit c i).deadline cs fit t j in (t, (w.0, w.1, h))

  held : (c : Charged) → (p : ℕ) × (Release cs c p × (asked c p ≤ Z p)) → Held Z (fp_group cs c)
  held c (p, (r, h)) = held_at Z (asked c) (fp_times c.rank c.deadline cs) p (release_listed cs fit c p r) h

  pub fp_test : Passes Z (fp_groups cs) ↔ FpFull cs Z
  fp_test = (
    λ g c i. found c i (at_held Z (asked c) (fp_times c.rank c.deadline cs) (passes_each Z (fp_group cs) cs g c i)),
    λ f. each_passes Z (fp_group cs) cs (λ c i. held c ((fp_exact laws cs fit).1 f c i)),
  )
