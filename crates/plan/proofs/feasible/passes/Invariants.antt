use Rattle.std.proofs.Common.{◌≡◌, ℕ, ◌<◌, true, [], length, get_or}
use Rattle.processor.specs.Drives.{peak}
use Rattle.demand.specs.Charges.{charges}
use Rattle.demand.specs.Tests.{point, Covered}
use Rattle.plan.proofs.feasible.passes.Given as goal

-- each group before has a point that is supplied
abbrev pub invariant-groups : goal.invariant-groups
invariant-groups g l =
    let gs = g.Q.Policy.groups l.policy (charges (peak l.drive) l.set) in
    (k : ℕ) → k < l.group → (i : ℕ) × (i < length (get_or gs k [])) × Covered (g.P.Platform.supply l.platform l.drive) (point gs k i)

-- no point before is supplied, of a set within the span
abbrev pub invariant-points : goal.invariant-points
invariant-points g l =
    let gs = g.Q.Policy.groups l.policy (charges (peak l.drive) l.set) in
    g.Q.Policy.span l.policy l.set ≡ true
    → (k : ℕ) → k < l.index → (k < length (get_or gs l.group [])) × (Covered (g.P.Platform.supply l.platform l.drive) (point gs l.group k) → ⊥)
