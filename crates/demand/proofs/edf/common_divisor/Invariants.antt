use Rattle.std.proofs.Common.{◌≡◌}
use Rattle.demand.specs.Hyper.{gcd}
use Rattle.demand.proofs.edf.common_divisor.Given as goal

abbrev pub invariant-euclid : goal.invariant-euclid
invariant-euclid l = gcd l.big l.small ≡ gcd l.a l.b

abbrev pub decreases-euclid : goal.decreases-euclid
decreases-euclid l = l.small
