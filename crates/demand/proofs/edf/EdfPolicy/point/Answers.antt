use Rattle.std.proofs.Common.{◌∙◌, arith}
use Rattle.processor.specs.Drives.{peak}
use Rattle.demand.specs.Charges.{charges}
use Rattle.demand.proofs.Places.{place_within, place_beyond}
use Rattle.demand.proofs.Groups.{edf_one, edf_outside, edf_no_time, edf_point}
use Rattle.demand.proofs.edf.EdfPolicy.point.Goals as goal

pub returns-then-index-gt0 : goal.returns-then-index-gt0
returns-then-index-gt0 c =
    let e = edf_one (charges (peak c.args.drive.now) c.args.set.now) c.args.group c.args.index c.if-index-gt0.true in
    record { within = place_within _ _ _ e; beyond = place_beyond _ _ _ e }

pub returns-in_err-hyper : goal.returns-in_err-hyper
returns-in_err-hyper c =
    let n = rw c.tasks-tasks.ensures.value at c.in_err-hyper.ensures.value in
    let e = c.from_residual.ensures ∙ edf_outside (peak c.args.drive.now) c.args.set.now c.args.group c.args.index n in
    record { within = place_within _ _ _ e; beyond = place_beyond _ _ _ e }

pub returns-in_err-time : goal.returns-in_err-time
returns-in_err-time c =
    let top = peak c.args.drive.now in
    let s = rw c.tasks-tasks.ensures.value at c.in_ok-hyper.ensures.value in
    let n = rw c.tasks-tasks.ensures.value at (c.in_err-time.ensures.place top) in
    let e = c.from_residual-in_err-time.ensures ∙ edf_no_time top c.args.set.now c.args.group c.args.index c.in_ok-hyper.hyper s n in
    record { within = place_within _ _ _ e; beyond = place_beyond _ _ _ e }

pub returns : goal.returns
returns c =
    let top = peak c.args.drive.now in
    let s = rw c.tasks-tasks.ensures.value at c.in_ok-hyper.ensures.value in
    let n = rw c.tasks-tasks.ensures.value at (c.in_ok-time.ensures.place top) in
    let d = rw c.tasks-tasks.ensures.value at c.due_cycles.ensures in
    let e = edf_point top c.args.set.now c.args.group c.args.index c.in_ok-hyper.hyper s c.in_ok-time.time c.due_cycles.result n d (omega arith) in
    record { within = place_within _ _ _ e; beyond = place_beyond _ _ _ e }
