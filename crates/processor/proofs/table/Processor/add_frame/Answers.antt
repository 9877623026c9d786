use Rattle.std.proofs.Common.{ℕ, ◌≤◌, List, vec_items, sym, subst, arith}
use Rattle.processor.specs.Kept.{FramesDiffer, FramesFit}
use Rattle.processor.specs.Limits.{longest_frame}
use Rattle.processor.proofs.Growth.{frames_more}
use Rattle.std.proofs.lemmas.List.Elements.{All-push}
use Rattle.processor.proofs.table.Processor.add_frame.Goals as goal

pub invariant_of-self : goal.invariant_of-self
invariant_of-self c =
    let s = c.args.self.now in
    let D : List ℕ → Type 0 = FramesDiffer in
    let F : List ℕ → Type 0 = FramesFit in
    let i = sym c.push_reserved.ensures.items in
    record {
      modes_room = s.modes_room;
      modes_apart = s.modes_apart;
      switches_room = s.switches_room;
      switches_apart = s.switches_apart;
      switches_between = s.switches_between;
      frames_room = omega (arith, c.push_reserved.ensures.capacity, s.frames_room);
      frames_few = omega (arith, c.push_reserved.ensures.len);
      frames_apart = subst D i (frames_more (vec_items s.frames) c.args.length s.frames_apart (sym c.if-has_frame.ensures));
      frames_fit = subst F i (All-push (λ p. (1 ≤ p) × (p ≤ longest_frame)) (vec_items s.frames) c.args.length s.frames_fit (omega arith, omega arith));
    }
