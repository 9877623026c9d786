use Rattle.std.proofs.Common.{◌≡◌, ℕ, ◌<◌, ◌≤◌, [], length, get_or, ⊎_elim, arith, below_more, eq-eqb, eqb-true}
use Rattle.std.proofs.lemmas.Bool.{cases_lt}
use Rattle.processor.specs.Drives.{peak}
use Rattle.demand.specs.Charges.{charges}
use Rattle.demand.specs.Tests.{point}
use Rattle.plan.proofs.Tested.{within, beyond, covered, uncovered, failing}
use Rattle.plan.proofs.feasible.passes.Goals as goal

pub groups-preserved : goal.groups-preserved
groups-preserved g c =
    let gs = g.Q.Policy.groups c.args.policy.now (charges (peak c.args.drive.now) c.args.set.now) in
    let i : c.points.index < length (get_or gs c.groups.group []) = within (length (get_or gs c.groups.group [])) c.points.index (c.in-Some.time, c.in-Some.work) c.in-Some.ensures.beyond in
    below_more _ _ c.groups.invariant (
      c.points.index,
      i,
      covered (g.P.Platform.supply c.args.platform.now c.args.drive.now) (point gs c.groups.group c.points.index) c.in-Some.time c.in-Some.work c.covers.result
          (c.in-Some.ensures.within i) c.covers.ensures c.if-covers.true,
    )

pub points-preserved : goal.points-preserved
points-preserved g c =
    λ sp.
    let kept = rw c.tasks-tasks.ensures.value at c.tasks-tasks.ensures.set in
    let gs = g.Q.Policy.groups c.args.policy.now (charges (peak c.args.drive.now) c.args.set.now) in
    let i : c.points.index < length (get_or gs c.groups.group []) = within (length (get_or gs c.groups.group [])) c.points.index (c.in-Some.time, c.in-Some.work) c.in-Some.ensures.beyond in
    below_more _ _ (c.points.invariant sp) (
      i,
      uncovered (g.P.Platform.supply c.args.platform.now c.args.drive.now) (point gs c.groups.group c.points.index) c.in-Some.time c.in-Some.work c.covers.result
          (c.in-Some.ensures.within i) c.covers.ensures c.if-covers.false
          (g.met.Q.Policy.early c.args.policy.now c.args.set.now kept sp (peak c.args.drive.now) c.groups.group c.points.index i),
    )

pub returns-in_default : goal.returns-in_default
returns-in_default g c =
    λ sp.
    let kept = rw c.tasks-tasks.ensures.value at c.tasks-tasks.ensures.set in
    let gs = g.Q.Policy.groups c.args.policy.now (charges (peak c.args.drive.now) c.args.set.now) in
    let n : length (get_or gs c.groups.group []) ≤ c.points.index =
    beyond (length (get_or gs c.groups.group [])) c.points.index (point gs c.groups.group c.points.index) c.point.result c.in_default.is c.point.ensures.within in
    let x = g.met.Q.Policy.exact c.args.policy.now c.args.set.now kept sp (peak c.args.drive.now) (g.P.Platform.supply c.args.platform.now c.args.drive.now) (g.met.P.Platform.lawful c.args.platform.now c.args.drive.now) in (
      (λ e.
          let z = eqb-true c.points.index 0 e in
          x.0 (λ k l. c.groups.invariant k
          (⊎_elim (λ m. let f = g.met.Q.Policy.filled c.args.policy.now c.args.set.now kept sp (peak c.args.drive.now) c.groups.group m in absurd (omega arith)) (λ m. omega arith)
          (cases_lt c.groups.group (length gs))))),
      (λ f. eq-eqb c.points.index 0
          (⊎_elim (λ m. absurd (failing (g.P.Platform.supply c.args.platform.now c.args.drive.now) gs c.groups.group c.points.index (c.points.invariant sp) m n (x.1 f))) (λ m. omega arith)
          (cases_lt 0 c.points.index))),
    )

pub returns-in-groups : goal.returns-in-groups
returns-in-groups g c =
    λ sp.
    let kept = rw c.tasks-tasks.ensures.value at c.tasks-tasks.ensures.set in
    let gs = g.Q.Policy.groups c.args.policy.now (charges (peak c.args.drive.now) c.args.set.now) in
    let x = g.met.Q.Policy.exact c.args.policy.now c.args.set.now kept sp (peak c.args.drive.now) (g.P.Platform.supply c.args.platform.now c.args.drive.now) (g.met.P.Platform.lawful c.args.platform.now c.args.drive.now) in
    let s = g.met.Q.Policy.short c.args.policy.now c.args.set.now kept sp (peak c.args.drive.now) c.groups.group in (
      (λ e. let z : ◌≡◌ {A = ℕ} 0 1 = cc in absurd (omega arith)),
      (λ f. absurd (failing (g.P.Platform.supply c.args.platform.now c.args.drive.now) gs c.groups.group c.points.index (c.points.invariant sp) (omega arith) (omega arith) (x.1 f))),
    )
