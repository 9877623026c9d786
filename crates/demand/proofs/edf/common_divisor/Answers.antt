use Rattle.std.proofs.Common.{◌≡◌, sym, ap, ◌∙◌, arith}
use Rattle.demand.specs.Hyper.{gcd}
use Rattle.demand.specs.HyperLemmas.{gcd_next, gcd_end}
use Rattle.demand.proofs.edf.common_divisor.Goals as goal

pub euclid-preserved : goal.euclid-preserved
euclid-preserved c = gcd_next c.euclid.big c.euclid.small (omega arith) ∙ c.euclid.invariant

pub returns : goal.returns
returns c =
    let z : c.euclid.small ≡ 0 = omega arith in
    sym (ap (gcd c.euclid.big) z ∙ gcd_end c.euclid.big) ∙ c.euclid.invariant
