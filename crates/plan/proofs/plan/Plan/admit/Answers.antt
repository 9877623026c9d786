use Rattle.std.proofs.lemmas.Result.{err_from_is_err_and}
use Rattle.plan.specs.Feasible.{Feasible}
use Rattle.plan.proofs.Admitted.{refused_by_table, admitted, refused_by_search}
use Rattle.plan.proofs.plan.Plan.admit.Goals as goal

pub returns-in_err-add-clause-answer : goal.returns-in_err-add-clause-answer
returns-in_err-add-clause-answer g c =
    let s = c.args.self.now in
    let p = err_from_is_err_and c.from_residual-in_err-add.result c.from_residual-in_err-add.ensures.1 in
    rw (p.1, p.2)
    (refused_by_table s.processor (g.Q.Policy.span s.policy) (Feasible (g.P.Platform.supply s.platform) (g.Q.Policy.full s.policy)) s.table.set s.given c.args.figures
    c.in_ok-task.task c.in_ok-task.ensures.1 _ c.in_err-add.ensures.answer)

pub returns-in-Ok-clause-answer : goal.returns-in-Ok-clause-answer
returns-in-Ok-clause-answer g c =
    let s = c.args.self.now in
    let e = c.in_ok-add.ensures in
    admitted s.processor (g.Q.Policy.span s.policy) (Feasible (g.P.Platform.supply s.platform) (g.Q.Policy.full s.policy)) s.table.set s.given c.args.figures
    c.in_ok-task.task c.in_ok-task.ensures.1 e.answer c.add.new.self.set e.tasks c.in-Ok.drive c.in-Ok.ensures

pub returns-in-Err-clause-answer : goal.returns-in-Err-clause-answer
returns-in-Err-clause-answer g c =
    let s = c.args.self.now in
    let e = c.in_ok-add.ensures in
    refused_by_search s.processor (g.Q.Policy.span s.policy) (Feasible (g.P.Platform.supply s.platform) (g.Q.Policy.full s.policy)) s.table.set s.given c.args.figures
    c.in_ok-task.task c.in_ok-task.ensures.1 e.answer c.add.new.self.set e.tasks c.in-Err.refusal c.in-Err.ensures
