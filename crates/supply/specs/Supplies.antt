-- The least windows of two modes in turn.
use Rattle.std.specs.Prelude.{◌≡◌, ℕ, suc, ◌+◌, ◌-◌, ◌*◌, ◌/◌, ◌%◌, ◌<◌, ◌≤◌, min}
use Rattle.std.proofs.Math.Path.{sym, ap, ap₂}
use Rattle.std.proofs.Common.{◌∙◌, ⊎_elim, le_trans, mod-lt, mod-eq_of_lt, mul-le-mul_left, mul-le-mul_right}
use native.Mathlib.Omega.{arith}
use Rattle.std.proofs.Math.Nat.{div-eq_of_lt, mod-mod, mul-suc, mul-add}
use Rattle.std.proofs.lemmas.Bool.{cases_lt}
use Rattle.std.proofs.lemmas.Bool.Decides.{nat_tests}
use Rattle.supply.specs.Windows.{window, Least}
use Rattle.processor.specs.declared.drive.Drive.{Drive}
use Rattle.processor.specs.declared.drive.Drive.TheVariants.{Fixed, Pair as Turns}
use Rattle.processor.specs.declared.drive.Pair.{Pair}
use Rattle.processor.specs.Drives.{peak}
use Rattle.processor.specs.Limits.{top_speed}
use Rattle.supply.specs.Laws.{Lawful}
use Rattle.supply.specs.Patterns.{Pattern, frame, speed_in_frame, speed, least_sum, pattern_of, supply_of, SupplyIsLeast}
use Rattle.supply.specs.Formulas.{cycles, longer_switch, piece, closed}
use Rattle.supply.specs.WindowsLemmas.{window_steady, window_repeats, window_below, least_lawful, least_in_period, least_upto_plus}
use Rattle.supply.specs.Frames.{window_inside, window_across, window_frames}

-- what the pattern of a pair keeps
pub record Sound (m : Pattern) : Type 0 where
  pub low_runs : m.down < m.low_time
  pub high_runs : m.up < m.high_time
  pub faster : m.low_speed < m.high_speed
  pub worth : m.low_speed * frame m < cycles m

abbrev low_run : Pattern → ℕ
low_run m = m.low_time - m.down

abbrev high_run : Pattern → ℕ
high_run m = m.high_time - m.up

-- the microseconds of each mode in the first x of a frame
abbrev low_upto : Pattern → ℕ → ℕ
low_upto m x = min (x - m.down) (low_run m)

abbrev high_upto : Pattern → ℕ → ℕ
high_upto m x = x - (m.low_time + m.up)

abbrev at_speeds : Pattern → ℕ → ℕ → ℕ
at_speeds m l h = m.low_speed * l + m.high_speed * h

done : Pattern → ℕ → ℕ
done m x = at_speeds m (low_upto m x) (high_upto m x)

module _ (m : Pattern) (sound : Sound m) where
  some : 0 < frame m
  some = omega (arith, sound.low_runs)

  slower : (n : ℕ) → m.low_speed * n ≤ m.high_speed * n
  slower n = mul-le-mul_right n (omega (arith, sound.faster))

  speed_top : (i : ℕ) → speed m i ≤ m.high_speed
  speed_top i = grind (arith, nat_tests, sound.faster)

  done_start : done m 0 ≡ 0
  unfolding done
  done_start = grind arith

  done_frame : done m (frame m) ≡ cycles m
  unfolding done
  done_frame = grind arith

  done_step : (r : ℕ) → r < frame m → done m (suc r) ≡ done m r + speed_in_frame m r
  unfolding done
  done_step r i = grind (arith, nat_tests, mul-suc m.low_speed (low_upto m r), mul-suc m.high_speed (high_upto m r))

  inside : (s r : ℕ) → s + r < frame m → done m s + window (speed m) s r ≡ done m (s + r)
  inside = window_inside (speed_in_frame m) (done m) (frame m) some done_start done_step

  across : (s r x : ℕ) → s < frame m → x < frame m → s + r ≡ frame m + x → done m s + window (speed m) s r ≡ done m (frame m) + done m x
  across = window_across (speed_in_frame m) (done m) (frame m) some done_start done_step

  -- the cycles of l and h microseconds that come after a and b
  between : (a b l h w : ℕ) → at_speeds m a b + w ≡ at_speeds m (a + l) (b + h) → w ≡ at_speeds m l h
  between a b l h w e = grind arith

  -- the piece without cases
  piece_flat : (r : ℕ) → piece m r ≡ at_speeds m (min (r - longer_switch m) (low_run m)) (high_upto m r)
  unfolding piece
  piece_flat r = grind (arith, nat_tests, sound.low_runs)

  piece_short : (r n : ℕ) → r < m.low_time + m.up → min (r - longer_switch m) (low_run m) ≤ n → piece m r ≤ m.low_speed * n
  piece_short r n i e = grind (arith, piece_flat r, mul-le-mul_left m.low_speed e)

  -- how l and h microseconds of the two modes, within r, make the piece
  module _ (r l h : ℕ) where
    -- at most one switch
    by_one_switch : r < m.low_time + m.up → r ≤ l + h + longer_switch m → piece m r ≤ at_speeds m l h
    by_one_switch i e = omega (arith, piece_short r (l + h) i (omega arith), mul-add m.low_speed l h, slower h)

    by_low_run : r < m.low_time + m.up → low_run m ≤ l → piece m r ≤ at_speeds m l h
    by_low_run i e = omega (arith, piece_short r l i (omega arith))

    by_high_run : r < m.low_time + m.up → high_run m ≤ h → r ≤ l + (m.high_time + m.down) → piece m r ≤ at_speeds m l h
    by_high_run i e k =
        let f : low_run m + (m.high_time + m.down) ≡ frame m = omega (arith, sound.low_runs) in
        grind (arith, sound.worth, piece_short r (l + (m.high_time + m.down)) i (omega arith), mul-le-mul_left m.high_speed e)

    -- what is missing to a frame is at the high speed at most
    by_rest : m.low_time + m.up ≤ r → l ≤ low_run m → r ≤ l + h + (m.down + m.up) → piece m r ≤ at_speeds m l h
    by_rest i few rest =
        let x = low_run m - l in
        let e : min (r - longer_switch m) (low_run m) ≡ l + x = omega (arith, sound.low_runs) in
        let f : high_upto m r + x ≤ h = omega (arith, sound.low_runs) in
        grind (arith, piece_flat r, ap (λ v. m.low_speed * v) e, slower x, mul-le-mul_left m.high_speed f)

    by_counts : l ≤ low_run m → h ≤ high_run m → r ≤ l + h + (m.down + m.up)
        → (l + h + longer_switch m < r → l < low_run m → high_run m ≤ h) → piece m r ≤ at_speeds m l h
    by_counts low high rest run = grind (arith, sound.high_runs, by_one_switch, by_low_run, by_high_run, by_rest)

  bound_inside : (s r : ℕ) → s + r < frame m → piece m r ≤ window (speed m) s r
  unfolding done
  bound_inside s r i =
      let l = low_upto m (s + r) - low_upto m s in
      let h = high_upto m (s + r) - high_upto m s in
      rw (between (low_upto m s) (high_upto m s) l h (window (speed m) s r) (inside s r i ∙ ap₂ (at_speeds m) (omega arith) (omega arith)))
      (by_counts r l h (omega arith) (omega arith) (omega arith) (omega arith))

  bound_across : (s r x : ℕ) → s < frame m → x < s → s + r ≡ frame m + x → piece m r ≤ window (speed m) s r
  unfolding done
  bound_across s r x i j e =
      let l = low_run m + low_upto m x - low_upto m s in
      let h = high_run m + high_upto m x - high_upto m s in
      let a : low_run m + low_upto m x ≡ low_upto m s + l = omega arith in
      let b : high_run m + high_upto m x ≡ high_upto m s + h = omega arith in
      rw (between (low_upto m s) (high_upto m s) l h (window (speed m) s r) (grind (arith, across s r x i (omega arith) e, done_frame, ap₂ (at_speeds m) a b)))
      (by_counts r l h (omega arith) (omega arith) (omega arith) (omega arith))

  piece_bound : (s r : ℕ) → s < frame m → r < frame m → piece m r ≤ window (speed m) s r
  piece_bound s r i j = grind (arith, bound_inside s r, bound_across s r (s + r - frame m))

  -- the windows that reach it: from the start of a frame, and up to the end of the switch up
  from_start : (r : ℕ) → r < frame m → low_upto m r ≡ min (r - longer_switch m) (low_run m) → window (speed m) 0 r ≡ piece m r
  unfolding done
  from_start r i e =
      grind (arith, inside 0 r (omega arith), done_start, piece_flat r, ap (λ v. at_speeds m v (high_upto m r)) e)

  to_switch : (r : ℕ) → r < m.low_time + m.up → m.down < m.up → window (speed m) (m.low_time + m.up - r) r ≡ piece m r
  unfolding done
  to_switch r i j =
      let s = m.low_time + m.up - r in
      let l = min (r - longer_switch m) (low_run m) in
      between (low_upto m s) (high_upto m s) l (high_upto m r) (window (speed m) s r)
      (inside s r (omega (arith, sound.high_runs)) ∙ ap₂ (at_speeds m) (omega arith) (omega arith))
      ∙ sym (piece_flat r)

  piece_reached : (r : ℕ) → r < frame m → (s : ℕ) × (window (speed m) s r ≡ piece m r) × (s < frame m)
  piece_reached r i =
      ⊎_elim (λ j.
      ⊎_elim (λ k. (m.low_time + m.up - r, to_switch r k j, omega (arith, sound.high_runs)))
      (λ k. (0, from_start r i (omega (arith, sound.low_runs)), some)) (cases_lt r (m.low_time + m.up)))
      (λ j. (0, from_start r i (omega arith), some)) (cases_lt m.down m.up)

  -- whole frames come out
  window_rest : (s t : ℕ) → window (speed m) s t ≡ t / frame m * cycles m + window (speed m) (s % frame m) (t % frame m)
  window_rest s t =
      grind (arith, done_frame, window_frames (speed_in_frame m) (done m) (frame m) some done_start done_step s t)

  pub frame_window : window (speed m) 0 (frame m) ≡ cycles m
  frame_window = omega (arith, across 0 (frame m) 0 some some (omega arith), done_start, done_frame)

  -- and so out of the least sum
  pub least_rest : (t : ℕ) → least_sum m t ≡ t / frame m * window (speed m) 0 (frame m) + least_sum m (t % frame m)
  unfolding least_sum
  least_rest t =
      rw frame_window
      (least_upto_plus (λ s. window (speed m) s t) (λ s. window (speed m) s (t % frame m)) (t / frame m * cycles m) (frame m - 1)
      (λ s. omega (arith, window_rest s t, window_repeats (speed_in_frame m) (frame m) (s % frame m) s (t % frame m) (mod-mod s (frame m)))))

  pub supply_bound : (t s : ℕ) → closed m t ≤ window (speed m) s t
  unfolding closed
  supply_bound t s =
      omega (arith, window_rest s t, piece_bound (s % frame m) (t % frame m) (mod-lt s some) (mod-lt t some))

  pub supply_reached : (t : ℕ) → (s : ℕ) × (window (speed m) s t ≡ closed m t)
  unfolding closed
  supply_reached t =
      let (s, e, i) = piece_reached (t % frame m) (mod-lt t some) in
      (s, omega (arith, window_rest s t, ap (λ v. window (speed m) v (t % frame m)) (mod-eq_of_lt i)))

  pub supply_least : (t : ℕ) → Least (speed m) t (closed m t)
  supply_least t = record { bound = supply_bound t; reached = supply_reached t }

  pub sum_closed : (t : ℕ) → least_sum m t ≡ closed m t
  unfolding least_sum
  sum_closed t = least_in_period (speed_in_frame m) (frame m) t (closed m t) some (supply_least t)

  -- the least over the starts of one frame is the least over all starts
  pub sum_least : (t : ℕ) → Least (speed m) t (least_sum m t)
  sum_least t = rw (sum_closed t) (supply_least t)

  pub sum_lawful : Lawful m.high_speed (least_sum m)
  sum_lawful = least_lawful (speed m) (least_sum m) m.high_speed speed_top sum_least

-- every pair has such a pattern
pub pair_sound : (p : Pair) → Sound (pattern_of p)
pair_sound p = record {
  low_runs = p.low_runs;
  high_runs = p.high_runs;
  faster = p.faster;
  worth = rw p.whole p.gains;
}

pub speed_small : (p : Pair) (i : ℕ) → speed (pattern_of p) i ≤ top_speed
speed_small p i = omega (arith, speed_top (pattern_of p) (pair_sound p) i, p.high.slow)

pub window_small : (p : Pair) (s t : ℕ) → window (speed (pattern_of p)) s t ≤ top_speed * t
window_small p s t = window_below (speed (pattern_of p)) top_speed (speed_small p) s t

pub drive_lawful : (d : Drive) → Lawful (peak d) (supply_of d)
drive_lawful (Fixed m) = record {
  zero = omega arith;
  rises = λ t. omega (arith, mul-add m.speed t 1);
  joins = λ a b. omega (arith, mul-add m.speed a b);
  below = λ t. omega arith;
}
drive_lawful (Turns p) = sum_lawful (pattern_of p) (pair_sound p)

pub drive_least : SupplyIsLeast
drive_least (Fixed m) t = record { bound = λ s. omega (arith, window_steady m.speed s t); reached = (0, window_steady m.speed 0 t) }
drive_least (Turns p) t = sum_least (pattern_of p) (pair_sound p) t

-- the closed formula by the frame of a pair
pub closed_at : (p : Pair) (t : ℕ) → closed (pattern_of p) t ≡ t / p.frame * cycles (pattern_of p) + piece (pattern_of p) (t % p.frame)
unfolding closed
closed_at p t = ap (λ v. t / v * cycles (pattern_of p) + piece (pattern_of p) (t % v)) p.whole

pub sum_is_closed : (p : Pair) (t : ℕ) → least_sum (pattern_of p) t ≡ closed (pattern_of p) t
sum_is_closed p t = sum_closed (pattern_of p) (pair_sound p) t

-- the same by the frame of a pair
pub least_at : (p : Pair) (t : ℕ)
    → least_sum (pattern_of p) t ≡ t / p.frame * window (speed (pattern_of p)) 0 p.frame + least_sum (pattern_of p) (t % p.frame)
least_at p t =
    least_rest (pattern_of p) (pair_sound p) t
    ∙ ap (λ v. t / v * window (speed (pattern_of p)) 0 v + least_sum (pattern_of p) (t % v)) p.whole

pub least_below : (p : Pair) (t : ℕ) → least_sum (pattern_of p) t ≤ top_speed * t
least_below p t = le_trans ((sum_lawful (pattern_of p) (pair_sound p)).below t) (mul-le-mul_right t p.high.slow)

pub closed_below : (p : Pair) (t : ℕ) → closed (pattern_of p) t ≤ top_speed * t
closed_below p t = rw (sym (sum_is_closed p t)) (least_below p t)

-- the cycles of a frame, and the least of less than one, by the closed formula
pub frame_is_cycles : (p : Pair) → window (speed (pattern_of p)) 0 p.frame ≡ cycles (pattern_of p)
frame_is_cycles p = grind (arith, p.whole, frame_window (pattern_of p) (pair_sound p))

pub least_is_piece : (p : Pair) (r : ℕ) → r < p.frame → least_sum (pattern_of p) r ≡ piece (pattern_of p) r
unfolding closed
least_is_piece p r h =
    let l : r < frame (pattern_of p) = rw p.whole h in
    grind (arith, sum_is_closed p r, div-eq_of_lt l, mod-eq_of_lt l)
