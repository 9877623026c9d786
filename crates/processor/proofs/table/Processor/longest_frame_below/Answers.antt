use Rattle.processor.proofs.Longest.{longest_kept}
use Rattle.processor.proofs.table.Processor.longest_frame_below.Goals as goal

pub returns : goal.returns
returns c = longest_kept c.args.bound c.args.self.now.frames.items c.largest_below.result (rw c.deref.ensures.value at c.largest_below.ensures)
