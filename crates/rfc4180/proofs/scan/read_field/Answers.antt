use Rattle.std.proofs.Common.{◌+◌, refl, subst, arith}
use Rattle.std.proofs.lemmas.Grind.{common_steps}
use Rattle.rfc4180.specs.Places.{FieldAt, BrokenAt}
use Rattle.rfc4180.proofs.Broken.{unclosed_broken}
use Rattle.rfc4180.proofs.Cuts.{rest_is}
use Rattle.rfc4180.proofs.Reading.{quoted_end, closed_end, Ended, plain_ended, quoted_ended, field_followed, field_stuck}
use Rattle.rfc4180.proofs.scan.read_field.Goals as goal
use Rattle.rfc4180.proofs.scan.read_field.Goals.{in-34+else-not-starts_with, in_default}

pub returns-then-not-starts_with : goal.returns-then-not-starts_with
returns-then-not-starts_with c =
    let e = c.min-start.result + 1 + c.quoted_len.result in
    subst (λ s. BrokenAt c.args.file.now s e) c.min-start.ensures
    (unclosed_broken c.args.file.now c.min-start.result e
    (quoted_end _ _ _ _ _ (rest_is c.args.file.now c.min-start.result) refl (omega arith) (omega arith) c.quoted_len.ensures.within c.quoted_len.ensures.quoted c.quoted_len.ensures.stops c.quoted_len.ensures.unpaired)
    ((closed_end c.args.file.now e _ c.starts_with.ensures.value).1 c.if-not-starts_with.true))

pub returns-in-Some : goal.returns-in-Some
returns-in-Some c =
    let h : Ended c.args.file.now c.min-start.result c.if-file-start-lt1.end.0 c.if-file-start-lt1.end.1 = elim c.if-file-start-lt1.branch [
      | in-34+else-not-starts_with w ↦
          rw w.end-is (quoted_ended _ _ _ _ _ (rest_is c.args.file.now c.min-start.result) refl (omega arith) (omega arith) w.quoted_len.ensures.within w.quoted_len.ensures.quoted w.quoted_len.ensures.stops w.quoted_len.ensures.unpaired
          ((closed_end c.args.file.now (c.min-start.result + 1 + w.quoted_len.result) _ w.starts_with.ensures.value).0 w.if-not-starts_with.false))
      | in_default w ↦
          rw w.end-is (plain_ended _ _ _ _ (rest_is c.args.file.now c.min-start.result) (omega arith) (λ l e. grind (arith, common_steps)) w.plain_len.ensures.within w.plain_len.ensures.plain w.plain_len.ensures.stops)
    ] in
    subst (λ s. FieldAt c.args.file.now s (record { part = c.if-file-start-lt1.end.0; end = c.if-file-start-lt1.end.1; after = c.in-Some.after })) c.min-start.ensures
    (field_followed _ _ _ _ _ _ (rest_is c.args.file.now c.if-file-start-lt1.end.1) h c.in-Some.ensures)

pub returns-in-None : goal.returns-in-None
returns-in-None c =
    let h : Ended c.args.file.now c.min-start.result c.if-file-start-lt1.end.0 c.if-file-start-lt1.end.1 = elim c.if-file-start-lt1.branch [
      | in-34+else-not-starts_with w ↦
          rw w.end-is (quoted_ended _ _ _ _ _ (rest_is c.args.file.now c.min-start.result) refl (omega arith) (omega arith) w.quoted_len.ensures.within w.quoted_len.ensures.quoted w.quoted_len.ensures.stops w.quoted_len.ensures.unpaired
          ((closed_end c.args.file.now (c.min-start.result + 1 + w.quoted_len.result) _ w.starts_with.ensures.value).0 w.if-not-starts_with.false))
      | in_default w ↦
          rw w.end-is (plain_ended _ _ _ _ (rest_is c.args.file.now c.min-start.result) (omega arith) (λ l e. grind (arith, common_steps)) w.plain_len.ensures.within w.plain_len.ensures.plain w.plain_len.ensures.stops)
    ] in
    subst (λ s. BrokenAt c.args.file.now s c.if-file-start-lt1.end.1) c.min-start.ensures
    (field_stuck _ _ _ _ _ (rest_is c.args.file.now c.if-file-start-lt1.end.1) h c.in-None.ensures)
