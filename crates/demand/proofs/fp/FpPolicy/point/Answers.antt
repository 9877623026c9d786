use Rattle.std.proofs.Common.{length, ap, ◌∙◌, arith}
use Rattle.processor.specs.Drives.{peak}
use Rattle.demand.proofs.Places.{place_within, place_beyond}
use Rattle.demand.proofs.Groups.{fp_no_task, fp_no_time, fp_point}
use Rattle.demand.proofs.fp.FpPolicy.point.Goals as goal

pub returns-in_err-task : goal.returns-in_err-task
returns-in_err-task c =
    let l = ap length c.tasks-tasks.ensures.value in
    let past = c.in_err-task.ensures.lookup.3 in
    let e = c.from_residual.ensures ∙ fp_no_task (peak c.args.drive.now) c.args.set.now c.args.group c.args.index (omega (arith, l, past)) in
    record { within = place_within _ _ _ e; beyond = place_beyond _ _ _ e }

pub returns-in_err-time : goal.returns-in_err-time
returns-in_err-time c =
    let top = peak c.args.drive.now in
    let f = c.in_ok-task.ensures.lookup in
    let n = fp_no_time top c.tasks-tasks.result.now c.args.group c.args.index c.in_ok-task.task.now f.3.0 f.1 (c.in_err-time.ensures.place top) in
    let e = c.from_residual-in_err-time.ensures ∙ rw c.tasks-tasks.ensures.value at n in
    record { within = place_within _ _ _ e; beyond = place_beyond _ _ _ e }

pub returns : goal.returns
returns c =
    let top = peak c.args.drive.now in
    let f = c.in_ok-task.ensures.lookup in
    let n = fp_point top c.tasks-tasks.result.now c.args.group c.args.index c.in_ok-task.task.now f.3.0 f.1 c.in_ok-time.time c.taken_cycles.result (c.in_ok-time.ensures.place top) c.taken_cycles.ensures in
    let e = rw c.tasks-tasks.ensures.value at n in
    record { within = place_within _ _ _ e; beyond = place_beyond _ _ _ e }
