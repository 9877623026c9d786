-- The lawful high times of a frame are one interval.
use Rattle.std.proofs.Common.{◌≡◌, ℕ, ◌+◌, ◌-◌, ◌*◌, ◌/◌, ◌<◌, ◌≤◌, ap, mul_comm, arith}
use native.Mathlib.Nat.{lt-mul-div-succ}
use Rattle.std.proofs.lemmas.Nat.{div_below}
use Rattle.processor.specs.Intervals.{LawfulSplit}
use Rattle.processor.specs.Limits.{longest_switch, longest_frame}
use Rattle.processor.specs.declared.mode.Mode.{Mode}
use Rattle.processor.proofs.Gains.{gains, gains_only, longer}

-- what the switches lose, over what a microsecond of the high mode gains
abbrev pub least_time : ℕ → ℕ → ℕ → ℕ → ℕ
least_time l h d u = (l * d + h * u) / (h - l) + 1

pub pays : (l h d u q : ℕ) → l < h → least_time l h d u ≤ q → l * d + h * u < (h - l) * q
pays l h d u q f i = longer (l * d + h * u) (h - l) (least_time l h d u) q (lt-mul-div-succ (l * d + h * u) (omega arith)) i

pub paid : (l h d u q : ℕ) → l < h → l * d + h * u < (h - l) * q → least_time l h d u ≤ q
paid l h d u q f g =
    let c = mul_comm (h - l) q in let b = div_below (l * d + h * u) (h - l) q (omega arith) (omega arith) in omega arith

module _ (low high : Mode) (up down frame q : ℕ) where
  pub lawful_inside : LawfulSplit low high up down frame q → (least_time low.speed high.speed down up ≤ q) × (q + down + 1 ≤ frame)
  lawful_inside (i, w, p) =
      let r : q + down < frame = omega (arith, p.low_runs) in
      let e : frame - q + q ≡ frame = omega arith in
      let f = ap (λ v. low.speed * v) e in (
        paid low.speed high.speed down up q p.faster
            (gains_only low.speed high.speed down up frame q p.faster r p.high_runs (omega (arith, p.gains))),
        omega arith,
      )

  pub inside_lawful : low.speed < high.speed → up ≤ longest_switch → down ≤ longest_switch → frame ≤ longest_frame
      → least_time low.speed high.speed down up ≤ q → q + down + 1 ≤ frame → LawfulSplit low high up down frame q
  inside_lawful faster su sd sf i r =
      let g = gains low.speed high.speed down up frame q faster (omega arith) (pays low.speed high.speed down up q faster i) in
      let e : frame - q + q ≡ frame = omega arith in
      let f = ap (λ v. low.speed * v) e in (
        omega arith,
        record { short_up = su; short_down = sd; short_frame = omega arith },
        record { faster = faster; low_runs = omega arith; high_runs = g.0; gains = omega (arith, g.1) },
      )
