use Rattle.std.proofs.Common.{sym}
use Rattle.processor.proofs.Streams.{stream}
use Rattle.processor.proofs.table.Processor.splits.Goals as goal

pub returns : goal.returns
returns c =
    stream c.args.self.now c.args.frame c.args.low c.args.high c.in_ok-up.up c.in_ok-down.down
    c.in_ok-low_mode.low_mode c.in_ok-high_mode.high_mode
    (sym c.in_ok-low_mode.ensures) (sym c.in_ok-high_mode.ensures)
    (sym c.in_ok-up.ensures) (sym c.in_ok-down.ensures) (sym c.if-not-has_frame.ensures)
    c.new.result c.new.ensures
