-- The answers of an admission, by what the table and the search say.
use Rattle.std.proofs.Common.{is_some, MatchOption, ◌≡◌, ℕ, ◌+◌, ◌<◌, ◌≤◌, Bool, true, false, cond, ltb, List, [], ◌∷◌, ◌++◌, length, Some, None, Ok, Err, vec_items, Option, Result, sym, refl, ap, ◌∙◌, subst, inl, inr, arith, le-ltb, lt-ltb, eq-eqb}
use Rattle.processor.specs.Candidates.{Candidate}
use Rattle.processor.specs.Tables.{mode_of}
use Rattle.processor.specs.declared.mode.Mode.{Mode}
use Rattle.processor.specs.declared.drive.Drive.TheVariants.{Fixed}
use Rattle.processor.specs.declared.drive.Drive.{Drive}
use Rattle.processor.specs.declared.refusal.Refusal.{Refusal}
use Rattle.processor.specs.declared.refusal.Refusal.TheVariants.{RankTaken, PlanFull, NoTickets, OutsideSpan}
use Rattle.processor.specs.declared.table.Processor.{Processor}
use Rattle.demand.specs.Figures.{figures_of}
use Rattle.demand.specs.Limits.{most_tasks}
use Rattle.demand.specs.Ranks.{has_rank}
use Rattle.demand.specs.declared.task.Figures.{Figures}
use Rattle.demand.specs.declared.task.Task.{Task}
use Rattle.plan.specs.Feasible.{NoCandidate}
use Rattle.plan.specs.Admitting.{last_ticket, turned_away, Admits, Settles}

-- what the table looks at comes first
abbrev table_answer : Bool → Bool → Result (Unit {0}) Refusal
table_answer taken room = cond taken (Err RankTaken) (cond room (Ok tt) (Err PlanFull))

refused_first : (b l : Bool) (rest : Option Refusal) (e : Refusal) → Err e ≡ table_answer b l → cond b (Some RankTaken) (cond l rest (Some PlanFull)) ≡ Some e
refused_first true l rest e f = cc
refused_first false true rest e f = cc
refused_first false false rest e f = cc

taken_first : (b l : Bool) (rest : Option Refusal) → Ok tt ≡ table_answer b l → cond b (Some RankTaken) (cond l rest (Some PlanFull)) ≡ rest
taken_first true l rest f = cc
taken_first false true rest f = refl
taken_first false false rest f = cc

-- what the table answers to one task more
abbrev added : List Task → Task → Result (Unit {0}) Refusal
added ts task = table_answer (has_rank task.rank ts) (ltb (length ts) most_tasks)

module _ (t : Processor) (span : List Task → Bool) (meets : List Task → Drive → Type 0) (ts : List Task) (given : ℕ) (figures : Figures) (task : Task)
    (fig : figures_of task ≡ figures) where
  -- the table turns it away
  table_refuses : (e : Refusal) → Err e ≡ added ts task → turned_away span ts given task ≡ Some e
  table_refuses e f =
      refused_first (has_rank task.rank ts) (ltb (length ts) most_tasks) (cond (ltb given last_ticket) (cond (span (ts ++ task ∷ [])) None (Some OutsideSpan)) (Some NoTickets)) e f

  pub refused_by_table : (e : Refusal) → Err e ≡ added ts task → Admits t span meets ts given figures (Err e)
  refused_by_table e f = inr (task, fig, inl (table_refuses e f))

  module _ (ok : Ok tt ≡ added ts task) where
    -- the table takes it, and the ticket and the span are left to look at
    taken : turned_away span ts given task ≡ cond (ltb given last_ticket) (cond (span (ts ++ task ∷ [])) None (Some OutsideSpan)) (Some NoTickets)
    taken =
        taken_first (has_rank task.rank ts) (ltb (length ts) most_tasks) (cond (ltb given last_ticket) (cond (span (ts ++ task ∷ [])) None (Some OutsideSpan)) (Some NoTickets)) ok

    numbered : given + 1 ≤ last_ticket → turned_away span ts given task ≡ cond (span (ts ++ task ∷ [])) None (Some OutsideSpan)
    numbered h = let l = lt-ltb given last_ticket (omega arith) in taken ∙ ap (λ v. cond v (cond (span (ts ++ task ∷ [])) None (Some OutsideSpan)) (Some NoTickets)) l

    spanned : given + 1 ≤ last_ticket → span (ts ++ task ∷ []) ≡ true → turned_away span ts given task ≡ None
    spanned h s = numbered h ∙ ap (λ v. cond v None (Some OutsideSpan)) s

    module _ (us : List Task) (is : us ≡ ts ++ task ∷ []) where
      pub admitted : (d : Drive) → Settles t span meets us (given + 1) (Ok d) → Admits t span meets ts given figures (Ok (given + 1))
      admitted d (h, s, c) =
          let M : List Task → Type 0 = λ v. meets v d in
          (refl, (task, fig, spanned h (ap span (sym is) ∙ s), (d, c.candidate, subst M is c.feasible)))

      pub refused_by_search : (e : Refusal) → Settles t span meets us (given + 1) (Err e) → Admits t span meets ts given figures (Err e)
      refused_by_search e (inl (f, h)) =
          let l = le-ltb given last_ticket (omega arith) in
          inr (task, fig, inl (taken ∙ ap (λ v. cond v (cond (span (ts ++ task ∷ [])) None (Some OutsideSpan)) (Some NoTickets)) l ∙ ap Some (sym f)))
      refused_by_search e (inr (inl (f, h, s))) =
          inr (task, fig, inl (numbered h ∙ ap (λ v. cond v None (Some OutsideSpan)) (ap span (sym is) ∙ s) ∙ ap Some (sym f)))
      refused_by_search e (inr (inr (f, h, s, n))) =
          let N : List Task → Type 0 = λ v. NoCandidate t (meets v) in
          inr (task, fig, inr (spanned h (ap span (sym is) ∙ s), f, subst N is n))

-- a table that lists a mode has a candidate
pub some_candidate : (t : Processor) → 0 < length (vec_items t.modes) → (m : Mode) × Candidate t (Fixed m)
some_candidate t h = front (vec_items t.modes) h
  where
    front : (ms : List Mode) → 0 < length ms → (m : Mode) × (mode_of m.number ms ≡ Some m)
    front [] l = absurd (omega arith)
    front (m ∷ ms) l = (m, let e = eq-eqb m.number m.number refl in rw e)

-- there is a value where the case without one can't be
pub some_unless : {X : Type 0} (o : Option X) (P : Type 0) (Q : X → Type 0) → MatchOption o P Q → (P → ⊥) → is_some o ≡ true
some_unless None P Q m never = absurd (never m)
some_unless (Some x) P Q m never = refl
