-- What stands at a place of a list, and of what tasks list.
use Rattle.std.proofs.Common.{◌≡◌, ℕ, cond, nat_lt, zero, suc, ◌+◌, ◌-◌, ◌*◌, ◌/◌, ◌<◌, ◌≤◌, List, [], ◌∷◌, ◌++◌, map, length, get_or, drop, Some, None, Option, sym, refl, ap, ◌∙◌, arith, le-ltb, lt-ltb, MatchOption}
use Rattle.std.specs.List.{range_with_len, slice_get}
use Rattle.std.proofs.lemmas.List.{drop_more}
use Rattle.std.proofs.lemmas.Option.{slice_get-get_or, slice_get_past}
use Rattle.std.proofs.lemmas.List.FromFn.{length-map-range_with_len, get_or-map-range_with_len}
use Rattle.demand.specs.declared.task.Task.{Task}
use Rattle.demand.specs.declared.times.Times.{Times}
use Rattle.demand.specs.Demand.{jobs}
use Rattle.demand.specs.Floors.{jobs_floor}
use Rattle.demand.specs.Listings.{listed, terms}

-- ---- any list

pub nth_front : {X : Type 0} (xs ys : List X) (i : ℕ) → i < length xs → slice_get (xs ++ ys) i ≡ slice_get xs i
nth_front [] ys i h = absurd (omega arith)
nth_front (x ∷ xs) ys zero h = refl
nth_front (x ∷ xs) ys (suc i) h = nth_front xs ys i (omega arith)

pub nth_after : {X : Type 0} (xs ys : List X) (n i : ℕ) → length xs ≡ n → n ≤ i → slice_get (xs ++ ys) i ≡ slice_get ys (i - n)
nth_after [] ys n i e h = let z : i ≡ i - n = omega arith in ap (slice_get ys) z
nth_after (x ∷ xs) ys n zero e h = absurd (omega arith)
nth_after (x ∷ xs) ys zero (suc i) e h = absurd (omega arith)
nth_after (x ∷ xs) ys (suc n) (suc i) e h =
    let z : suc i - suc n ≡ i - n = omega arith in
    nth_after xs ys n i (omega arith) (omega arith) ∙ ap (slice_get ys) (sym z)

-- an answer that is what stands at a place
module _ (G : List (ℕ × ℕ)) (i : ℕ) (r : Option (ℕ × ℕ)) (e : r ≡ slice_get G i) where
  pub place_within : i < length G → r ≡ Some (get_or G i (0, 0))
  place_within h = e ∙ slice_get-get_or G i (0, 0) h

  pub place_beyond : length G ≤ i → r ≡ None
  place_beyond h = e ∙ slice_get_past G i h

-- ---- what tasks list

pub listed_map : {X Y : Type 0} (lists : Y → List ℕ) (v : X → Y) (xs : List X) (h : ℕ) → listed lists (map v xs) h ≡ listed (λ x. lists (v x)) xs h
listed_map lists v [] h = refl
listed_map lists v (x ∷ xs) h = ap (λ ys. lists (v x) ++ ys) (listed_map lists v xs h)

-- a period apart from its own first time on, a task lists the ends of its periods
pub turns_terms : (T d : ℕ) → 1 ≤ T → map (λ k. (k + 1) * T) (range_with_len 0 (d / T)) ≡ terms T T d
turns_terms T d h = same (d / T) 0 ∙ ap (λ n. map (λ k. T + k * T) (range_with_len 0 n)) (sym count)
  where
    same : (n a : ℕ) → map (λ k. (k + 1) * T) (range_with_len a n) ≡ map (λ k. T + k * T) (range_with_len a n)
    same zero a = refl
    same (suc n) a = let e : (a + 1) * T ≡ T + a * T = omega arith in rw e (ap (λ ns. (T + a * T) ∷ ns) (same n (a + 1)))

    count : jobs T T d ≡ d / T
    count = let z : d + (T - T) ≡ d = omega arith in jobs_floor d T T h (omega arith) ∙ ap (λ n. n / T) z

-- what a task lists, if it lists times
pub turns_listed : (t : Task) (rank d : ℕ) (r : Option Times) → MatchOption r (rank ≤ t.rank) (λ p. (t.rank < rank) × (p.first ≡ t.period) × (p.step ≡ t.period))
    → MatchOption r (cond (nat_lt t.rank rank) (map (λ k. (k + 1) * t.period) (range_with_len 0 (d / t.period))) [] ≡ [])
    (λ p. cond (nat_lt t.rank rank) (map (λ k. (k + 1) * t.period) (range_with_len 0 (d / t.period))) [] ≡ terms p.first p.step d)
turns_listed t rank d None l = rw (le-ltb t.rank rank l)
turns_listed t rank d (Some p) (l, e, f) = rw (lt-ltb t.rank rank l, e, f) (turns_terms t.period d (omega (arith, t.due, t.constrained)))

-- the k-th of n listed by a function, in front of others
module _ (f : ℕ → ℕ) (n : ℕ) (ys : List ℕ) (k : ℕ) where
  pub listed_here : k < n → slice_get (map f (range_with_len 0 n) ++ ys) k ≡ Some (f k)
  listed_here h =
      let l = length-map-range_with_len f 0 n in
      nth_front (map f (range_with_len 0 n)) ys k (omega arith) ∙ slice_get-get_or (map f (range_with_len 0 n)) k 0 (omega arith)
      ∙ ap Some (get_or-map-range_with_len f 0 n k k 0 h (omega arith))

  pub listed_after : n ≤ k → slice_get (map f (range_with_len 0 n) ++ ys) k ≡ slice_get ys (k - n)
  listed_after h = nth_after (map f (range_with_len 0 n)) ys n k (length-map-range_with_len f 0 n) h

-- at a turn of the walk: left are k places, and the tasks from i on
module _ {X : Type 0} (lists : X → List ℕ) (xs : List X) (i h k : ℕ) where
  abbrev pub at_turn : Option ℕ
  at_turn = slice_get (listed lists (drop i xs) h) k

  abbrev pub at_next : ℕ → Option ℕ
  at_next n = slice_get (listed lists (drop (i + 1) xs) h) n

  module _ (x : X) (l : i < length xs) (e : x ≡ get_or xs i x) where
    turn : (ys : List ℕ) → lists x ≡ ys → at_turn ≡ slice_get (ys ++ listed lists (drop (i + 1) xs) h) k
    turn ys g =
        ap (λ us. slice_get (listed lists us h) k) (drop_more xs i x l)
        ∙ ap (λ y. slice_get (lists y ++ listed lists (drop (i + 1) xs) h) k) (sym e)
        ∙ ap (λ zs. slice_get (zs ++ listed lists (drop (i + 1) xs) h) k) g

    pub turn_none : lists x ≡ [] → at_turn ≡ at_next k
    turn_none g = turn [] g

    module _ (first step : ℕ) (g : lists x ≡ terms first step h) where
      pub turn_here : k < jobs first step h → at_turn ≡ Some (first + k * step)
      turn_here b = turn (terms first step h) g ∙ listed_here (λ n. first + n * step) (jobs first step h) (listed lists (drop (i + 1) xs) h) k b

      pub turn_after : jobs first step h ≤ k → at_turn ≡ at_next (k - jobs first step h)
      turn_after b = turn (terms first step h) g ∙ listed_after (λ n. first + n * step) (jobs first step h) (listed lists (drop (i + 1) xs) h) k b
