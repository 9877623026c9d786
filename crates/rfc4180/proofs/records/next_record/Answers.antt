use Rattle.std.proofs.Common.{◌+◌, refl, arith, rules}
use Rattle.rfc4180.specs.Records.{start}
use Rattle.rfc4180.proofs.Counting.{before_more, count_more}
use Rattle.rfc4180.proofs.records.next_record.Goals as goal

pub loop-end-init : goal.loop-end-init
loop-end-init c = (c.min-start.ensures, omega arith, omega (arith, c.min-start.ensures), (0, start, refl))

pub loop-end-preserved : goal.loop-end-preserved
loop-end-preserved c =
    let n = c.loop-end.invariant.3.0 in (
      c.min-start.ensures,
      search rules,
      search rules,
      (
        n + 1,
        before_more c.args.file.now c.min-start.result n c.loop-end.from c.in_ok-end.field-0 c.loop-end.invariant.2 c.loop-end.invariant.3.1 (search rules) c.in-Comma.is,
        count_more n c.loop-end.fields c.saturating_add-fields.result c.loop-end.invariant.3.2 c.saturating_add-fields.ensures,
      ),
    )
