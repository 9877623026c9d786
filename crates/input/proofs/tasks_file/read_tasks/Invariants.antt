use Rattle.std.proofs.Common.{vec_items}
use Rattle.input.proofs.Walking.{TasksWalked}
use Rattle.input.proofs.tasks_file.read_tasks.Given as goal

abbrev pub invariant-loop-line : goal.invariant-loop-line
invariant-loop-line l = TasksWalked l.file l.line-iterator (vec_items l.tasks)
