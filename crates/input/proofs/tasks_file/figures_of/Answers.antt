use Rattle.std.proofs.Common.{ℕ, Ok, arith}
use Rattle.std.proofs.lemmas.Result.{err_from_is_err_and}
use Rattle.input.specs.Cells.{NumberIn}
use Rattle.input.specs.TaskFiles.{NumbersIn}
use Rattle.input.specs.declared.line.Line.{Line}
use Rattle.input.proofs.Leftmost.{numbers_none, numbers_more, leftmost_at}
use Rattle.input.proofs.tasks_file.figures_of.Goals as goal

two : (line : Line) (a b : ℕ) → NumberIn line 1 (Ok a) → NumberIn line 2 (Ok b) → NumbersIn line 1 3
two line a b h k = numbers_more line 1 2 b (numbers_more line 1 1 a (numbers_none line 1) h) k

three : (line : Line) (a b d : ℕ) → NumberIn line 1 (Ok a) → NumberIn line 2 (Ok b) → NumberIn line 3 (Ok d) → NumbersIn line 1 4
three line a b d h k l = numbers_more line 1 3 d (two line a b h k) l

pub returns-in_err-number_in-3 : goal.returns-in_err-number_in-3
returns-in_err-number_in-3 c =
    let p = err_from_is_err_and c.from_residual-in_err-number_in-3.result c.from_residual-in_err-number_in-3.ensures.1 in
    rw (p.1, p.2)
    (leftmost_at c.args.line.now 1 3 5 _ (omega arith) (omega arith)
    (two c.args.line.now c.in_ok-number_in.field-0 c.in_ok-number_in-2.field-0 c.in_ok-number_in.ensures c.in_ok-number_in-2.ensures)
    c.in_err-number_in-3.ensures)

pub returns-in_err-number_in-4 : goal.returns-in_err-number_in-4
returns-in_err-number_in-4 c =
    let p = err_from_is_err_and c.from_residual-in_err-number_in-4.result c.from_residual-in_err-number_in-4.ensures.1 in
    rw (p.1, p.2)
    (leftmost_at c.args.line.now 1 4 5 _ (omega arith) (omega arith)
    (three c.args.line.now c.in_ok-number_in.field-0 c.in_ok-number_in-2.field-0 c.in_ok-number_in-3.field-0 c.in_ok-number_in.ensures c.in_ok-number_in-2.ensures c.in_ok-number_in-3.ensures)
    c.in_err-number_in-4.ensures)

pub returns-in_err-number_in-5 : goal.returns-in_err-number_in-5
returns-in_err-number_in-5 c =
    let p = err_from_is_err_and c.from_residual-in_err-number_in-5.result c.from_residual-in_err-number_in-5.ensures.1 in
    rw (p.1, p.2)
    (leftmost_at c.args.line.now 1 5 5 _ (omega arith) (omega arith)
    (numbers_more c.args.line.now 1 4 c.in_ok-number_in-4.field-0
    (three c.args.line.now c.in_ok-number_in.field-0 c.in_ok-number_in-2.field-0 c.in_ok-number_in-3.field-0 c.in_ok-number_in.ensures c.in_ok-number_in-2.ensures c.in_ok-number_in-3.ensures)
    c.in_ok-number_in-4.ensures)
    c.in_err-number_in-5.ensures)
