use Rattle.std.proofs.Common.{List, is_some, vec_items, sym, ap, ◌∙◌, subst, arith}
use Rattle.processor.specs.Kept.{ModesDiffer, Between}
use Rattle.processor.specs.declared.mode.Mode.{Mode}
use Rattle.processor.proofs.Growth.{room_for_mode, modes_more, between_more}
use Rattle.processor.proofs.table.Processor.add_mode.Goals as goal

pub push_reserved-requires : goal.push_reserved-requires
push_reserved-requires c =
    let s = c.args.self.now in
    let h = room_for_mode (vec_items s.modes) c.args.number (omega arith) (omega arith) s.modes_apart (sym (c.if-is_some.ensures ∙ ap is_some c.mode.ensures)) in
    omega (arith, s.modes_room, s.modes.ok.0)

pub invariant_of-self : goal.invariant_of-self
invariant_of-self c =
    let s = c.args.self.now in
    let D : List Mode → Type 0 = ModesDiffer in
    let B : List Mode → Type 0 = λ ms. Between ms (vec_items s.switches) in
    let i = sym c.push_reserved.ensures.items in
    record {
      modes_room = omega (arith, c.push_reserved.ensures.capacity, s.modes_room);
      modes_apart = subst D i (modes_more (vec_items s.modes) _ s.modes_apart (sym (c.if-is_some.ensures ∙ ap is_some c.mode.ensures)));
      switches_room = s.switches_room;
      switches_apart = s.switches_apart;
      switches_between = subst B i (between_more (vec_items s.modes) _ (vec_items s.switches) s.switches_between);
      frames_room = s.frames_room;
      frames_few = s.frames_few;
      frames_apart = s.frames_apart;
      frames_fit = s.frames_fit;
    }
