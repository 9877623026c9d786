-- The points that the two policies list.
use Rattle.std.specs.Prelude.{◌≡◌, ℕ, ◌+◌, ◌*◌, ◌/◌, ◌≤◌, cond, List, [], ◌∷◌, ◌++◌, map, nat_le, nat_lt}
use mathlib.Core.List.{Memᴰ}
use Rattle.std.specs.List.{range_with_len}
use Rattle.demand.specs.Limits.{longest_span}
use Rattle.demand.specs.Charges.{Charged}
use Rattle.demand.specs.Demand.{jobs, demand, above}
use Rattle.demand.specs.Hyper.{hyper}

-- the times up to h that come a step apart, from a first one on
abbrev pub terms : ℕ → ℕ → ℕ → List ℕ
terms first step h = map (λ k. first + k * step) (range_with_len 0 (jobs first step h))

-- what each lists, one after another, then h
abbrev pub listed : {X : Type 0} → (X → List ℕ) → List X → ℕ → List ℕ
listed lists [] h = h ∷ []
listed lists (x ∷ xs) h = lists x ++ listed lists xs h

-- ---- earliest deadline first: a group of one point for each time

-- the deadlines up to h
abbrev pub dues : Charged → ℕ → List ℕ
dues c h = terms c.deadline c.period h

-- the deadlines up to h, task by task, then h
unfoldable pub edf_times : List Charged → ℕ → List ℕ
edf_times cs h = listed (λ c. dues c h) cs h

abbrev pub edf_group : List Charged → ℕ → List (ℕ × ℕ)
edf_group cs t = (t, demand cs t) ∷ []

abbrev pub hyper_of : List Charged → ℕ
hyper_of cs = hyper (map (λ c. c.period) cs)

-- none where the hyperperiod is too long
abbrev pub edf_groups : List Charged → List (List (ℕ × ℕ))
edf_groups cs = cond (nat_le (hyper_of cs) longest_span) (map (edf_group cs) (edf_times cs (hyper_of cs))) []

-- p is a deadline of a task, no later than h, or h
pub data Deadline (cs : List Charged) (h : ℕ) : ℕ → Type 0 where
  due : {p : ℕ} (c : Charged) → Memᴰ c cs → (k : ℕ) → p ≡ c.deadline + k * c.period → p ≤ h → Deadline cs h p
  end : {p : ℕ} → p ≡ h → Deadline cs h p

-- ---- fixed priority: a group for each task

-- the releases from the first period's end up to d
abbrev pub turns : Charged → ℕ → List ℕ
turns a d = map (λ k. (k + 1) * a.period) (range_with_len 0 (d / a.period))

-- the releases of the tasks of smaller rank, task by task, then d
unfoldable pub fp_times : ℕ → ℕ → List Charged → List ℕ
fp_times rank d cs = listed (λ a. cond (nat_lt a.rank rank) (turns a d) []) cs d

abbrev pub fp_group : List Charged → Charged → List (ℕ × ℕ)
fp_group cs c = map (λ t. (t, c.cycles + above c.rank cs t)) (fp_times c.rank c.deadline cs)

abbrev pub fp_groups : List Charged → List (List (ℕ × ℕ))
fp_groups cs = map (fp_group cs) cs
