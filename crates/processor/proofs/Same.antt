-- Two pairs of the same figures are the same.
use Rattle.std.proofs.Common.{◌≡◌, ◌+◌, ◌-◌, ◌*◌, ◌<◌, ◌≤◌}
use mathlib.Core.HLevel.{is_prop→PathP}
use native.Mathlib.Bridge.{le_prop}
use native.Mathlib.Nat.{ℕ_set}
use Rattle.processor.specs.Limits.{longest_switch, longest_frame}
use Rattle.processor.specs.declared.drive.Pair.{Pair}

pub same_pair : (p r : Pair) → p.low ≡ r.low → p.high ≡ r.high → p.up ≡ r.up → p.down ≡ r.down → p.frame ≡ r.frame
    → p.low_time ≡ r.low_time → p.high_time ≡ r.high_time → p ≡ r
same_pair p r a b u d f l h = λ i. record {
  low = a i;
  high = b i;
  up = u i;
  down = d i;
  frame = f i;
  low_time = l i;
  high_time = h i;
  faster = is_prop→PathP (λ j. (a j).speed < (b j).speed) (λ j. le_prop) p.faster r.faster i;
  short_up = is_prop→PathP (λ j. u j ≤ longest_switch) (λ j. le_prop) p.short_up r.short_up i;
  short_down = is_prop→PathP (λ j. d j ≤ longest_switch) (λ j. le_prop) p.short_down r.short_down i;
  short_frame = is_prop→PathP (λ j. f j ≤ longest_frame) (λ j. le_prop) p.short_frame r.short_frame i;
  whole = is_prop→PathP (λ j. l j + h j ≡ f j) (λ j. ℕ_set (l j + h j) (f j)) p.whole r.whole i;
  low_runs = is_prop→PathP (λ j. d j < l j) (λ j. le_prop) p.low_runs r.low_runs i;
  high_runs = is_prop→PathP (λ j. u j < h j) (λ j. le_prop) p.high_runs r.high_runs i;
  gains = is_prop→PathP (λ j. (a j).speed * f j < (a j).speed * (l j - d j) + (b j).speed * (h j - u j)) (λ j. le_prop) p.gains r.gains i;
}
