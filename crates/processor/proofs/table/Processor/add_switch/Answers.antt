use Rattle.std.proofs.Common.{◌≡◌, true, List, is_some, vec_items, sym, ap, ◌∙◌, subst, arith}
use Rattle.processor.specs.Kept.{SwitchesDiffer, Between}
use Rattle.processor.specs.declared.mode.Switch.{Switch}
use Rattle.processor.proofs.Growth.{has_mode_limits, room_for_switch, switches_more, listed_mode}
use Rattle.std.proofs.lemmas.List.Elements.{All-push}
use Rattle.processor.specs.Tables.{has_mode}
use Rattle.processor.proofs.table.Processor.add_switch.Goals as goal

pub invariant_of-push_reserved : goal.invariant_of-push_reserved
invariant_of-push_reserved c =
    let ms = vec_items c.args.self.now.modes in
    let a = has_mode_limits c.args.from ms (listed_mode c.args.from ms c.mode.result c.if-is_none.ensures c.mode.ensures) in
    let b = has_mode_limits c.args.to ms (listed_mode c.args.to ms c.mode-2.result c.if-is_none-2.ensures c.mode-2.ensures) in
    record { counted_from = a.0; numbered_from = a.1; counted_to = b.0; numbered_to = b.1; apart = c.if-from-to.false; short = omega arith }

pub push_reserved-requires : goal.push_reserved-requires
push_reserved-requires c =
    let s = c.args.self.now in
    let ms = vec_items s.modes in
    let h = room_for_switch (vec_items s.switches) c.args.from c.args.to
    (has_mode_limits c.args.from ms (listed_mode c.args.from ms c.mode.result c.if-is_none.ensures c.mode.ensures))
    (has_mode_limits c.args.to ms (listed_mode c.args.to ms c.mode-2.result c.if-is_none-2.ensures c.mode-2.ensures))
    c.if-from-to.false s.switches_apart (sym (c.if-is_some.ensures ∙ ap is_some c.switch_time.ensures)) in
    omega (arith, s.switches_room, s.switches.ok.0)

pub invariant_of-self : goal.invariant_of-self
invariant_of-self c =
    let s = c.args.self.now in
    let ms = vec_items s.modes in
    let D : List Switch → Type 0 = SwitchesDiffer in
    let B : List Switch → Type 0 = Between ms in
    let i = sym c.push_reserved.ensures.items in
    record {
      modes_room = s.modes_room;
      modes_apart = s.modes_apart;
      switches_room = omega (arith, c.push_reserved.ensures.capacity, s.switches_room);
      switches_apart = subst D i (switches_more (vec_items s.switches) _ s.switches_apart (sym (c.if-is_some.ensures ∙ ap is_some c.switch_time.ensures)));
      switches_between = subst B i
          (All-push (λ t. (has_mode t.from ms ≡ true) × (has_mode t.to ms ≡ true)) (vec_items s.switches) _ s.switches_between (
            listed_mode c.args.from ms c.mode.result c.if-is_none.ensures c.mode.ensures,
            listed_mode c.args.to ms c.mode-2.result c.if-is_none-2.ensures c.mode-2.ensures,
          ));
      frames_room = s.frames_room;
      frames_few = s.frames_few;
      frames_apart = s.frames_apart;
      frames_fit = s.frames_fit;
    }
