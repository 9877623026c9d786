use Rattle.std.proofs.Common.{arith}
use Rattle.processor.proofs.Gains.{gains}
use Rattle.processor.proofs.Intervals.{pays}
use Rattle.processor.proofs.splits.Splits.with_high_time.Goals as goal

pub invariant_of-result : goal.invariant_of-result
invariant_of-result c =
    let s = c.args.self.now in
    let q = c.args.high_time in
    let g = gains s.low.speed s.high.speed s.down s.up s.frame q s.faster (omega (arith, s.last))
    (pays s.low.speed s.high.speed s.down s.up q s.faster (omega (arith, s.first))) in
    record {
      faster = s.faster;
      short_up = s.short_up;
      short_down = s.short_down;
      short_frame = s.short_frame;
      whole = omega (arith, s.last);
      low_runs = omega (arith, s.last);
      high_runs = g.0;
      gains = g.1;
    }
