-- What an edit leaves of a set of tasks: its ranks, and its figures.
use Rattle.std.proofs.Common.{◌≡◌, ◌==◌, ℕ, zero, suc, ◌+◌, ◌*◌, ◌<◌, false, List, [], ◌∷◌, ◌++◌, map, length, get_or, take, set, vec_items, sym, refl, ap, ◌∙◌, arith, length-take, get_or-take, eq-eqb}
use Rattle.std.proofs.Math.ListN.{length-set}
use Rattle.std.proofs.Math.Seq.{map-set_same}
use Rattle.std.proofs.lemmas.Simd.{map-map}
use Rattle.std.proofs.lemmas.List.Folds.{list_any_at}
use Rattle.std.proofs.lemmas.List.Quantifiers.{all_pairs_push}
use Rattle.demand.specs.declared.set.TaskSet.TheInside.{Inside}
use Rattle.demand.specs.declared.task.Figures.{Figures}
use Rattle.demand.specs.declared.task.Task.{Task}
use Rattle.demand.specs.Charges.{charges}
use Rattle.demand.specs.Figures.{figures_of, with_work, no_figures, times_of}
use Rattle.demand.specs.Ranks.{OtherRank, Apart, Set, has_rank}
use Rattle.demand.specs.TaskSet.{IsTaskSet}

pub take_apart : (n : ℕ) (ts : List Task) → Apart ts → Apart (take n ts)
take_apart n ts a i j d l h =
    let m = length-take n ts in
    rw (get_or-take n ts i d (omega arith), get_or-take n ts j d (omega arith)) (a i j d l (omega arith))

pub push_apart : (ts : List Task) (x : Task) → Apart ts → has_rank x.rank ts ≡ false → Apart (ts ++ x ∷ [])
push_apart ts x a e = all_pairs_push OtherRank ts x a new
  where
    new : (k : ℕ) (d : Task) → k < length ts → (get_or ts k d).rank ≡ x.rank → ⊥
    new k d h g = cc (e, list_any_at (λ t. t.rank == x.rank) ts k d h (eq-eqb (get_or ts k d).rank x.rank g))

-- ---- a row changed

pub figures_set : (ts : List Task) (i : ℕ) (x y : Task) (n m : ℕ) → i < length ts → x ≡ get_or ts i x → figures_of y ≡ with_work n m (figures_of x)
    → map figures_of (set ts i y) ≡ set (map figures_of ts) i (with_work n m (get_or (map figures_of ts) i no_figures))
figures_set [] i x y n m h e f = absurd (omega arith)
figures_set (t ∷ ts) zero x y n m h e f = ap (λ z. z ∷ map figures_of ts) (f ∙ ap (λ z. with_work n m (figures_of z)) e)
figures_set (t ∷ ts) (suc i) x y n m h e f = ap (λ zs. figures_of t ∷ zs) (figures_set ts i x y n m (omega arith) e f)

rank_set : (ts : List Task) (i k : ℕ) (x y d : Task) → i < length ts → x ≡ get_or ts i x → y.rank ≡ x.rank → (get_or (set ts i y) k d).rank ≡ (get_or ts k d).rank
rank_set [] i k x y d h e f = absurd (omega arith)
rank_set (t ∷ ts) zero zero x y d h e f = f ∙ ap (λ z. z.rank) e
rank_set (t ∷ ts) zero (suc k) x y d h e f = refl
rank_set (t ∷ ts) (suc i) zero x y d h e f = refl
rank_set (t ∷ ts) (suc i) (suc k) x y d h e f = rank_set ts i k x y d (omega arith) e f

pub set_apart : (ts : List Task) (i : ℕ) (x y : Task) → i < length ts → x ≡ get_or ts i x → y.rank ≡ x.rank → Apart ts → Apart (set ts i y)
set_apart ts i x y h e f a j k d l b g =
    let m = length-set ts i y in
    a j k d l (omega arith) (sym (rank_set ts i j x y d h e f) ∙ g ∙ rank_set ts i k x y d h e f)

-- ---- a set as it is kept

pub set_is : (s : Inside) → IsTaskSet s → Set (vec_items s.tasks)
set_is s k = record { few = omega (arith, k.few, s.tasks.ok.0); apart = k.apart }

-- ---- what reads only the figures

pub by_figures : {X : Type 0} (f : Figures → X) (ts us : List Task) → map figures_of ts ≡ map figures_of us
    → map (λ t. f (figures_of t)) ts ≡ map (λ t. f (figures_of t)) us
by_figures f ts us e = sym (map-map f figures_of ts) ∙ ap (map f) e ∙ map-map f figures_of us

pub charges_figures : (top : ℕ) (ts us : List Task) → map figures_of ts ≡ map figures_of us → charges top ts ≡ charges top us
charges_figures top ts us e =
    by_figures (λ f. record { rank = f.rank; cycles = f.cycles + f.fixed * top; period = f.period; deadline = f.deadline }) ts us e

abbrev times : Figures → ℕ × ℕ × ℕ
times f = (f.rank, f.period, f.deadline)

-- other work leaves ranks, periods and deadlines
pub revised_times : (ts us : List Task) (i n m : ℕ) → map figures_of us ≡ set (map figures_of ts) i (with_work n m (get_or (map figures_of ts) i no_figures))
    → map times_of us ≡ map times_of ts
revised_times ts us i n m e =
    let fs = map figures_of ts in
    sym (map-map times figures_of us) ∙ ap (map times) e ∙ map-set_same times fs i (with_work n m (get_or fs i no_figures)) no_figures refl ∙ map-map times figures_of ts
