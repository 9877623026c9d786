-- Going along the splits of a frame.
use Rattle.std.proofs.Common.{◌≡◌, ℕ, ◌+◌, ◌-◌, ◌*◌, ◌<◌, ◌≤◌, Bool, true, false, leb, IfSome, Some, None, Option, sym, refl, ap, ◌∙◌, subst, ap₂, inl, inr, ⊎_elim, mul-le-mul_right, mul-add, arith, leb-false, leb-true, MatchOption}
use Rattle.std.proofs.lemmas.Bool.{cases_lt, cases_Bool}
use Rattle.std.proofs.lemmas.Option.{MatchOption-at_some}
use Rattle.processor.specs.Drives.{energy_of, span_of}
use Rattle.processor.specs.Intervals.{Within, SplitOf, numbered_time}
use Rattle.processor.specs.declared.drive.Drive.{Drive}
use Rattle.processor.specs.declared.drive.Drive.TheVariants.{Pair as Turns}
use Rattle.processor.specs.declared.drive.Pair.{Pair}
use Rattle.processor.specs.declared.splits.Splits.{Splits}
use Rattle.processor.proofs.Same.{same_pair}
use Rattle.plan.specs.Feasible.{NoDearer}
use Rattle.plan.specs.Searches.{Improves, SplitIn}
use Rattle.plan.proofs.Improving.{dearer_trans, improves_none}

-- the energy of a frame with the high time q
split_energy : Splits → ℕ → ℕ
split_energy s q = s.low.power * (s.frame - q) + s.high.power * q

energy_is : (s : Splits) (q : ℕ) (p : Pair) → SplitOf s q p → energy_of (Turns p) ≡ split_energy s q
unfolding split_energy
energy_is s q p (a, b, c, d, e, f, h) =
    ap₂ (λ x y. x + y) (ap₂ (λ m t. m.power * t) a h) (ap₂ (λ m t. m.power * t) b f)

-- a longer time of the dearer mode costs no less
rising : (l h P q x : ℕ) → l ≤ h → q + x ≤ P → l * (P - q) + h * q ≤ l * (P - (q + x)) + h * (q + x)
rising l h P q x le i =
    let e : P - q ≡ P - (q + x) + x = omega arith in
    let a = ap (λ v. l * v) e ∙ mul-add l (P - (q + x)) x in
    let b = mul-add h q x in
    let m : l * x ≤ h * x = mul-le-mul_right x le in
    omega arith

falling : (l h P q x : ℕ) → h ≤ l → q + x ≤ P → l * (P - (q + x)) + h * (q + x) ≤ l * (P - q) + h * q
falling l h P q x le i =
    let e : P - q ≡ P - (q + x) + x = omega arith in
    let a = ap (λ v. l * v) e ∙ mul-add l (P - (q + x)) x in
    let b = mul-add h q x in
    let m : h * x ≤ l * x = mul-le-mul_right x le in
    omega arith

-- one high time is one pair
pub split_same : (s : Splits) (q : ℕ) (p r : Pair) → SplitOf s q p → SplitOf s q r → p ≡ r
split_same s q p r (a, b, c, d, e, f, h) (a', b', c', d', e', f', h') =
    same_pair p r (a ∙ sym a') (b ∙ sym b') (c ∙ sym c') (d ∙ sym d') (e ∙ sym e') (h ∙ sym h') (f ∙ sym f')

-- the pair of a number is the split of its high time
pub split_at : (s : Splits) (k : ℕ) (o : Option Pair) (p : Pair) → o ≡ Some p
    → MatchOption o (s.most - s.least + 1 ≤ k) (λ r. SplitOf s (numbered_time s k) r) → SplitOf s (numbered_time s k) p
split_at s k o p e m = MatchOption-at_some (s.most - s.least + 1 ≤ k) (λ r. SplitOf s (numbered_time s k) r) p e m

module _ (s : Splits) where
  -- the cost rises with the number
  energy_rises : (k j : ℕ) → k ≤ j → j ≤ s.most - s.least → split_energy s (numbered_time s k) ≤ split_energy s (numbered_time s j)
  unfolding split_energy
  energy_rises k j h i =
      ⊎_elim
      (λ (t : leb s.low.power s.high.power ≡ true).
      let r = rising s.low.power s.high.power s.frame (s.least + k) (j - k) (leb-true s.low.power s.high.power t) (omega (arith, s.some, s.last)) in
      let e : s.least + k + (j - k) ≡ s.least + j = omega arith in
      rw t (rw e at r))
      (λ (t : leb s.low.power s.high.power ≡ false).
      let u = leb-false s.low.power s.high.power t in
      let r = falling s.low.power s.high.power s.frame (s.most - j) (j - k) (omega arith) (omega (arith, s.some, s.last)) in
      let e : s.most - j + (j - k) ≡ s.most - k = omega arith in
      rw t (rw e at r))
      (cases_Bool (leb s.low.power s.high.power))

  pub no_dearer : (k j : ℕ) (p r : Pair) → k ≤ j → j ≤ s.most - s.least → SplitOf s (numbered_time s k) p → SplitOf s (numbered_time s j) r → NoDearer (Turns p) (Turns r)
  no_dearer k j p r h i a b =
      let x = energy_is s (numbered_time s k) p a in
      let y = energy_is s (numbered_time s j) r b in
      let f : r.frame ≡ s.frame = b.4 in
      let g : p.frame ≡ s.frame = a.4 in
      let m : split_energy s (numbered_time s k) * s.frame ≤ split_energy s (numbered_time s j) * s.frame = mul-le-mul_right s.frame (energy_rises k j h i) in
      let l = ap₂ (λ u v. u * v) x f in
      let n = ap₂ (λ u v. u * v) y g in
      omega arith

  -- every high time has a number
  pub number_of : (q : ℕ) → Within s q → (k : ℕ) × (k ≤ s.most - s.least) × (numbered_time s k ≡ q)
  number_of q (a, b) =
      ⊎_elim
      (λ (t : leb s.low.power s.high.power ≡ true). (q - s.least, omega arith, rw t (omega arith)))
      (λ (t : leb s.low.power s.high.power ≡ false). (s.most - q, omega arith, rw t (omega arith)))
      (cases_Bool (leb s.low.power s.high.power))

  -- the numbers within the interval
  pub numbered_within : (k : ℕ) → k ≤ s.most - s.least → Within s (numbered_time s k)
  numbered_within k h =
      ⊎_elim
      (λ (t : leb s.low.power s.high.power ≡ true). rw t (omega arith, omega (arith, s.some)))
      (λ (t : leb s.low.power s.high.power ≡ false). rw t (omega (arith, s.some), omega arith))
      (cases_Bool (leb s.low.power s.high.power))

  module _ (meets : Drive → Type 0) (n : ℕ) (none : (k : ℕ) → k < n → (p : Pair) → SplitOf s (numbered_time s k) p → meets (Turns p) → ⊥) where
    -- none of the splits from the number on is cheaper than its own
    later : (p : Pair) → SplitOf s (numbered_time s n) p → (e : Drive) → SplitIn s e → meets e → NoDearer (Turns p) e
    later p a e (q, r, is, w, b) m =
        let (k, l, f) = number_of q w in
        let S : ℕ → Type 0 = λ v. SplitOf s v r in
        let c = subst S (sym f) b in
        let M : Drive → Type 0 = meets in
        let N : Drive → Type 0 = λ v. NoDearer (Turns p) v in
        subst N (sym is)
        (⊎_elim (λ h. absurd (none k h r c (subst M is m))) (λ h. no_dearer n k p r h l a c) (cases_lt k n))

    -- the best so far stays
    pub stays : (p : Pair) → SplitOf s (numbered_time s n) p → (o : Option Drive) → MatchOption o ⊥ (λ b. NoDearer b (Turns p)) → Improves meets (SplitIn s) o o
    stays p a None h = absurd h
    stays p a (Some b) h = (inl refl, λ e g m. dearer_trans b (Turns p) e h (later p a e g m))

    -- a split is the best
    pub takes : (p : Pair) → n ≤ s.most - s.least → SplitOf s (numbered_time s n) p → meets (Turns p) → (o : Option Drive) → IfSome o (λ b. NoDearer (Turns p) b)
        → Improves meets (SplitIn s) o (Some (Turns p))
    takes p i a m o h = (inr ((numbered_time s n, p, refl, numbered_within n i, a), m, h), λ e g k. later p a e g k)

    -- none is feasible
    pub ends : s.most - s.least < n → (o : Option Drive) → Improves meets (SplitIn s) o o
    ends i =
        improves_none meets (SplitIn s)
        (λ e (q, r, is, w, b) m.
        let (k, l, f) = number_of q w in
        let S : ℕ → Type 0 = λ v. SplitOf s v r in
        none k (omega arith) r (subst S (sym f) b) (subst meets is m))

-- what the comparison with the best so far says
pub dearer : (d : Drive) (o : Option Drive) → MatchOption o (◌≡◌ {A = Bool} false true) (λ b. (◌≡◌ {A = Bool} false true → energy_of d * span_of b < energy_of b * span_of d) × (◌≡◌ {A = Bool} false false → NoDearer b d))
    → MatchOption o ⊥ (λ b. NoDearer b d)
dearer d None e = let z : ◌≡◌ {A = ℕ} 0 1 = cc in omega arith
dearer d (Some b) (x, y) = y refl

pub cheaper : (d : Drive) (o : Option Drive) → MatchOption o (◌≡◌ {A = Bool} true true) (λ b. (◌≡◌ {A = Bool} true true → energy_of d * span_of b < energy_of b * span_of d) × (◌≡◌ {A = Bool} true false → NoDearer b d))
    → IfSome o (λ b. NoDearer d b)
cheaper d None e = tt
cheaper d (Some b) (x, y) = let h = x refl in omega arith
