-- The candidates of two mode numbers on a frame are the splits of that frame.
use Rattle.std.proofs.Common.{◌≡◌, ℕ, ◌+◌, ◌-◌, true, Some, None, vec_items, Option, sym, refl, ap, ◌∙◌, subst, arith, eqb-true, MatchOption}
use Rattle.processor.specs.Candidates.{Candidate, Named, OnFrame}
use Rattle.processor.specs.Intervals.{LawfulSplit, SplitsOf, Within, SplitOf}
use Rattle.processor.specs.Tables.{has_number, mode_of, time_of, has_frame}
use Rattle.processor.specs.declared.drive.Drive.{Drive}
use Rattle.processor.specs.declared.drive.Drive.TheVariants.{Fixed, Pair as Turns}
use Rattle.processor.specs.declared.drive.Pair.{Pair}
use Rattle.processor.specs.declared.mode.Mode.{Mode}
use Rattle.processor.specs.declared.splits.Splits.{Splits}
use Rattle.processor.specs.declared.table.Processor.{Processor}
use Rattle.processor.proofs.Listed.{found_passes}

-- a pair is a lawful split of its frame
pub pair_lawful : (p : Pair) → LawfulSplit p.low p.high p.up p.down p.frame p.high_time
pair_lawful p =
    let e : p.frame - p.high_time ≡ p.low_time = omega (arith, p.whole) in
    let g : p.frame ≡ p.low_time + p.high_time = sym p.whole in (
      omega (arith, p.whole),
      record { short_up = p.short_up; short_down = p.short_down; short_frame = omega (arith, p.short_frame, p.whole) },
      rw e (record { faster = p.faster; low_runs = p.low_runs; high_runs = p.high_runs; gains = rw p.whole p.gains }),
    )

-- the mode that is found has the number
pub found_number : (t : Processor) (n : ℕ) (m : Mode) → mode_of n (vec_items t.modes) ≡ Some m → m.number ≡ n
found_number t n m e = eqb-true m.number n (found_passes (has_number n) (vec_items t.modes) m e)

the_same : {X : Type 0} (o : Option X) (x y : X) → o ≡ Some x → o ≡ Some y → x ≡ y
the_same o x y e f = cc

module _ (t : Processor) (frame low high up down : ℕ) (lm hm : Mode)
    (el : mode_of low (vec_items t.modes) ≡ Some lm) (eh : mode_of high (vec_items t.modes) ≡ Some hm)
    (eu : time_of low high (vec_items t.switches) ≡ Some up) (ed : time_of high low (vec_items t.switches) ≡ Some down)
    (ef : has_frame frame (vec_items t.frames) ≡ true) where
  module _ (p : Pair) (o : OnFrame t frame low high p) where
    low_is : lm ≡ p.low
    low_is = the_same (mode_of low (vec_items t.modes)) lm p.low el (ap (λ n. mode_of n (vec_items t.modes)) (sym o.1) ∙ o.0.0)

    high_is : hm ≡ p.high
    high_is = the_same (mode_of high (vec_items t.modes)) hm p.high eh (ap (λ n. mode_of n (vec_items t.modes)) (sym o.2) ∙ o.0.1)

    up_is : up ≡ p.up
    up_is =
        the_same (time_of low high (vec_items t.switches)) up p.up eu
        (ap (λ n. time_of n high (vec_items t.switches)) (sym o.1) ∙ ap (λ n. time_of p.low.number n (vec_items t.switches)) (sym o.2) ∙ o.0.2)

    down_is : down ≡ p.down
    down_is =
        the_same (time_of high low (vec_items t.switches)) down p.down ed
        (ap (λ n. time_of n low (vec_items t.switches)) (sym o.2) ∙ ap (λ n. time_of p.high.number n (vec_items t.switches)) (sym o.1) ∙ o.0.3)

    on_frame_lawful : LawfulSplit lm hm up down frame p.high_time
    on_frame_lawful =
        let A : Mode → Type 0 = λ v. LawfulSplit v p.high p.up p.down p.frame p.high_time in
        let B : Mode → Type 0 = λ v. LawfulSplit lm v p.up p.down p.frame p.high_time in
        let C : ℕ → Type 0 = λ v. LawfulSplit lm hm v p.down p.frame p.high_time in
        let D : ℕ → Type 0 = λ v. LawfulSplit lm hm up v p.frame p.high_time in
        let E : ℕ → Type 0 = λ v. LawfulSplit lm hm up down v p.high_time in
        subst E o.3 (subst D (sym down_is) (subst C (sym up_is) (subst B (sym high_is) (subst A (sym low_is) (pair_lawful p)))))

    split_of : (s : Splits) → SplitsOf lm hm up down frame s → SplitOf s p.high_time p
    split_of s (a, b, c, d, e) =
        let f = low_is in let g = high_is in let h = up_is in let i = down_is in let k = o.3 in
        (cc, cc, cc, cc, cc, refl, omega (arith, p.whole))

  split_on_frame : (s : Splits) → SplitsOf lm hm up down frame s → (q : ℕ) (p : Pair) → SplitOf s q p → OnFrame t frame low high p
  split_on_frame s (a, b, c, d, e) q p (f, g, h, i, k, l, m) =
      let pl : p.low ≡ lm = cc in
      let ph : p.high ≡ hm = cc in
      let nl : p.low.number ≡ low = ap (λ v. v.number) pl ∙ found_number t low lm el in
      let nh : p.high.number ≡ high = ap (λ v. v.number) ph ∙ found_number t high hm eh in
      let fr : p.frame ≡ frame = cc in
      let pu : up ≡ p.up = cc in
      let pd : down ≡ p.down = cc in (
        (
          ap (λ n. mode_of n (vec_items t.modes)) nl ∙ el ∙ ap Some (sym pl),
          ap (λ n. mode_of n (vec_items t.modes)) nh ∙ eh ∙ ap Some (sym ph),
          ap (λ n. time_of n p.high.number (vec_items t.switches)) nl ∙ ap (λ n. time_of low n (vec_items t.switches)) nh ∙ eu ∙ ap Some pu,
          ap (λ n. time_of n p.low.number (vec_items t.switches)) nh ∙ ap (λ n. time_of high n (vec_items t.switches)) nl ∙ ed ∙ ap Some pd,
          ap (λ n. has_frame n (vec_items t.frames)) fr ∙ ef,
        ),
        nl,
        nh,
        fr,
      )

  pub stream : (r : Option Splits)
      → MatchOption r ((q : ℕ) → LawfulSplit lm hm up down frame q → ⊥)
      (λ s. SplitsOf lm hm up down frame s × ((q : ℕ) → LawfulSplit lm hm up down frame q → Within s q) × ((q : ℕ) → Within s q → LawfulSplit lm hm up down frame q))
      → MatchOption r ((p : Pair) → OnFrame t frame low high p → ⊥)
      (λ s. ((p : Pair) → OnFrame t frame low high p → Within s p.high_time × SplitOf s p.high_time p)
      × ((q : ℕ) (p : Pair) → SplitOf s q p → OnFrame t frame low high p))
  stream None n = λ p o. n p.high_time (on_frame_lawful p o)
  stream (Some s) (of, inside, outside) =
      ((λ p o. (inside p.high_time (on_frame_lawful p o), split_of p o s of)), (λ q p h. split_on_frame s of q p h))

-- the same of a candidate that is named by its modes and times
module _ (t : Processor) (low high low_time high_time frame : ℕ) (differ : low ≡ high → ⊥) (sum : frame ≡ low_time + high_time) where
  pub none_named : ((p : Pair) → OnFrame t frame low high p → p.high_time ≡ high_time → ⊥)
      → (d : Drive) → Candidate t d → Named low high low_time high_time d → ⊥
  none_named none (Fixed m) c (a, b, e, f) = differ (sym a ∙ b)
  none_named none (Turns p) c (a, b, e, f) = none p (c, a, b, omega (arith, p.whole)) f
