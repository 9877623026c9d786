use Rattle.std.proofs.Common.{◌≡◌, arith, rules}
use Rattle.rfc4180.specs.Records.{start}
use Rattle.rfc4180.specs.declared.scan.After.TheVariants.{Comma}
use Rattle.rfc4180.proofs.Counting.{before_more, found_here, none_here, other_after, stuck, missing}
use Rattle.rfc4180.proofs.records.field.Goals as goal

pub loop-init : goal.loop-init
loop-init c = (omega arith, rw c.min-from.ensures start)

pub returns-in_err-end-clause-finds : goal.returns-in_err-end-clause-finds
returns-in_err-end-clause-finds c =
    rw c.from_residual-in_err-end.ensures
    (stuck c.args.file.now _ c.loop.counter c.loop.from c.args.number c.loop.invariant.1
    (λ f h _. none_here c.args.file.now c.loop.from c.read_field.result c.loop.invariant.0 c.read_field.ensures c.in_err-end.ensures.value f h)
    (omega arith))

pub returns-in_default : goal.returns-in_default
returns-in_default c =
    let h = found_here c.args.file.now c.loop.from c.read_field.result c.in_ok-end.field-0 c.loop.invariant.0 c.read_field.ensures c.in_ok-end.ensures.value in
    let u : c.in_ok-end.field-0.after ≡ Comma → ⊥ = search rules in
    record {
      finds = stuck c.args.file.now _ c.loop.counter c.loop.from c.args.number c.loop.invariant.1 (other_after c.args.file.now c.loop.from c.in_ok-end.field-0 h u) (omega arith);
      within = tt;
    }

pub loop-preserved : goal.loop-preserved
loop-preserved c = (
  search rules,
  before_more c.args.file.now _ c.loop.counter c.loop.from c.in_ok-end.field-0 c.loop.invariant.0 c.loop.invariant.1 (search rules) (search rules),
)

pub returns-in_err-ok-clause-finds : goal.returns-in_err-ok-clause-finds
returns-in_err-ok-clause-finds c =
    rw c.from_residual-in_err-ok.ensures
    (missing c.args.file.now _ c.loop.counter c.loop.from c.args.number c.loop.invariant.1
    (none_here c.args.file.now c.loop.from c.read_field-2.result c.loop.invariant.0 c.read_field-2.ensures c.in_err-ok.ensures.value)
    (omega arith))
