use Rattle.std.proofs.Common.{[], ◌∷◌, refl}
use Rattle.std.proofs.lemmas.Result.{err_from_is_err_and}
use Rattle.std.proofs.lemmas.Slice.{pushed}
use Rattle.input.specs.TaskFiles.{in_header}
use Rattle.input.proofs.Walking.{tasks_first, tasks_more, tasks_stopped, tasks_refused, tasks_all}
use Rattle.input.proofs.tasks_file.read_tasks.Goals as goal

pub returns-in_err-line-items : goal.returns-in_err-line-items
returns-in_err-line-items c =
    let p = err_from_is_err_and c.from_residual.result c.from_residual.ensures.1 in
    rw (p.1, p.2) (in_header c.in_err-line-items.ensures)

pub loop-line-init : goal.loop-line-init
loop-line-init c =
    tasks_first c.args.file.now c.in_ok-line-items.line-items _ _ c.in_ok-line-items.ensures c.into_iter-line-iterator.ensures.into_iter_gives c.new-tasks.ensures.items

pub returns-in_err-line : goal.returns-in_err-line
returns-in_err-line c =
    let p = err_from_is_err_and c.from_residual-in_err-line.result c.from_residual-in_err-line.ensures.1 in
    rw (p.1, p.2) (tasks_stopped c.args.file.now c.loop-line.line-iterator _ c.in-Some.line _ _ c.loop-line.invariant c.in-Some.ensures.steps c.in_err-line.was)

pub returns-in_err-figures : goal.returns-in_err-figures
returns-in_err-figures c =
    let p = err_from_is_err_and c.from_residual-in_err-figures.result c.from_residual-in_err-figures.ensures.1 in
    rw (p.1, p.2) (tasks_refused c.args.file.now c.loop-line.line-iterator _ c.in-Some.line c.in_ok-line.field-0 _ _ c.loop-line.invariant c.in-Some.ensures.steps c.in_ok-line.was c.in_err-figures.ensures)

pub loop-line-preserved : goal.loop-line-preserved
loop-line-preserved c =
    tasks_more c.args.file.now c.loop-line.line-iterator _ c.in-Some.line c.in_ok-line.field-0 c.in_ok-figures.figures _ _ c.loop-line.invariant c.in-Some.ensures.steps c.in_ok-line.was c.in_ok-figures.ensures
    (pushed (c.in_ok-figures.figures ∷ []) refl c.in_ok-push.was c.push.ensures.items)

pub returns : goal.returns
returns c = tasks_all c.args.file.now c.loop-line.line-iterator _ _ c.loop-line.invariant c.in-None.ensures.steps
