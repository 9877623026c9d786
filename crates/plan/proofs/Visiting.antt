-- Which drives the parts of the search go through.
use Rattle.std.proofs.Common.{◌≡◌, ℕ, ◌<◌, ◌≤◌, true, Some, None, vec_items, Option, sym, refl, ap, ◌∙◌, subst, inl, inr, ⊎_elim, arith, MatchOption}
use Rattle.std.proofs.lemmas.Bool.{cases_lt}
use Rattle.processor.specs.Candidates.{Candidate, OnFrame}
use Rattle.processor.specs.Intervals.{Within, SplitOf}
use Rattle.processor.specs.Tables.{mode_of, has_frame}
use Rattle.processor.specs.declared.drive.Drive.{Drive}
use Rattle.processor.specs.declared.drive.Drive.TheVariants.{Fixed, Pair as Turns}
use Rattle.processor.specs.declared.drive.Pair.{Pair}
use Rattle.processor.specs.declared.mode.Mode.{Mode}
use Rattle.processor.specs.declared.splits.Splits.{Splits}
use Rattle.processor.specs.declared.table.Processor.{Processor}
use Rattle.processor.proofs.Streams.{found_number}
use Rattle.plan.specs.Feasible.{NoCandidate, Cheapest}
use Rattle.plan.specs.Searches.{Improves, Below, FixedAt, PairAt, SplitIn, Seen}
use Rattle.plan.proofs.Improving.{improves_join}

-- the fixed drive of a mode number is one
module _ (t : Processor) (n : ℕ) (m : Mode) (is : mode_of n (vec_items t.modes) ≡ Some m) where
  pub fixed_to : (e : Drive) → e ≡ Fixed m → FixedAt t n e
  fixed_to e f =
      let k = found_number t n m is in (m, f, ap (λ v. mode_of v (vec_items t.modes)) k ∙ is, k)

  pub fixed_from : (e : Drive) → FixedAt t n e → e ≡ Fixed m
  fixed_from e (k, f, c, h) =
      let g : mode_of n (vec_items t.modes) ≡ Some k = ap (λ v. mode_of v (vec_items t.modes)) (sym h) ∙ c in
      let same : k ≡ m = cc in
      f ∙ ap Fixed same

-- the pairs of a frame and two mode numbers are its splits
module _ (t : Processor) (frame low high : ℕ) (s : Splits)
    (within : (p : Pair) → OnFrame t frame low high p → Within s p.high_time × SplitOf s p.high_time p)
    (out : (q : ℕ) (p : Pair) → SplitOf s q p → OnFrame t frame low high p) where
  pub pair_to : (e : Drive) → SplitIn s e → PairAt t frame low high e
  pair_to e (q, p, is, w, so) = (p, is, out q p so)

  pub pair_from : (e : Drive) → PairAt t frame low high e → SplitIn s e
  pair_from e (p, is, on) = let (w, so) = within p on in (p.high_time, p, is, w, so)

-- every pair of a frame has its mode numbers among those gone through
on_frame : (t : Processor) (frame : ℕ) (e : Drive) (p : Pair) → e ≡ Turns p → Candidate t (Turns p) → p.frame ≡ frame
    → Below (λ l. Below (PairAt t frame l) 17) 17 e
on_frame t frame e p is c f =
    (p.low.number, omega (arith, p.low.numbered), (p.high.number, omega (arith, p.high.numbered), (p, is, (c, refl, refl, f))))

module _ (t : Processor) (meets : Drive → Type 0) where
  -- one frame more
  pub seen_next : (bound frame : ℕ) (a b c : Option Drive)
      → (frame < bound) × (has_frame frame (vec_items t.frames) ≡ true) × ((p : ℕ) → has_frame p (vec_items t.frames) ≡ true → p < bound → p ≤ frame)
      → Improves meets (Seen t bound) a b → Improves meets (Below (λ l. Below (PairAt t frame l) 17) 17) b c → Improves meets (Seen t frame) a c
  seen_next bound frame a b c (below, listed, longest) =
      improves_join meets (Seen t bound) (Below (λ l. Below (PairAt t frame l) 17) 17) (Seen t frame)
      (λ e w. ⊎_elim (λ f. inl (inl f))
      (λ (p, is, k, l). ⊎_elim
      (λ h. inr (on_frame t frame e p is k (let q = longest p.frame k.4 h in omega arith)))
      (λ h. inl (inr (p, is, k, h))) (cases_lt p.frame bound)) w)
      (λ e w. ⊎_elim (λ f. inl f) (λ (p, is, k, l). inr (p, is, k, omega arith)) w)
      (λ e (l, i, (h, j, (p, is, (k, x, y, z)))). inr (p, is, k, omega arith))
      a b c

  -- all frames
  pub seen_all : (bound : ℕ) (r : Option Drive) → ((p : ℕ) → has_frame p (vec_items t.frames) ≡ true → bound ≤ p)
      → Improves meets (Seen t bound) None r → MatchOption r (NoCandidate t meets) (λ d. Cheapest t meets d)
  seen_all bound r last i = way r i
    where
      seen : (e : Drive) → Candidate t e → Seen t bound e
      seen (Fixed m) c = inl (m.number, omega (arith, m.numbered), (m, refl, c, refl))
      seen (Turns p) c = inr (p, refl, c, last p.frame c.4)

      candidate : (e : Drive) → Seen t bound e → Candidate t e
      candidate e (inl (k, l, (m, is, c, n))) = let C : Drive → Type 0 = Candidate t in subst C (sym is) c
      candidate e (inr (p, is, c, l)) = let C : Drive → Type 0 = Candidate t in subst C (sym is) c

      way : (r : Option Drive) → Improves meets (Seen t bound) None r → MatchOption r (NoCandidate t meets) (λ d. Cheapest t meets d)
      way None (e, none) = λ d c m. none d (seen d c) m
      way (Some d) (inl e, least) = let z : ◌≡◌ {A = ℕ} 0 1 = cc in absurd (omega arith)
      way (Some d) (inr (g, m, x), least) = record { candidate = candidate d g; feasible = m; least = λ e c k. least e (seen e c) k }
