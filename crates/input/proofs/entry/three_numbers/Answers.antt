use Rattle.std.proofs.Common.{arith}
use Rattle.std.proofs.lemmas.Result.{err_from_is_err_and}
use Rattle.input.proofs.Leftmost.{numbers_none, numbers_more}
use Rattle.input.proofs.entry.three_numbers.Goals as goal

pub returns-in_err-number_in-3 : goal.returns-in_err-number_in-3
returns-in_err-number_in-3 c =
    let p = err_from_is_err_and c.from_residual-in_err-number_in-3.result c.from_residual-in_err-number_in-3.ensures.1 in
    rw (p.1, p.2) (record {
      at = 4;
      low = omega arith;
      high = omega arith;
      wrong = c.in_err-number_in-3.ensures;
      earlier = numbers_more c.args.line.now 2 3 c.in_ok-number_in-2.field-0
          (numbers_more c.args.line.now 2 2 c.in_ok-number_in.field-0 (numbers_none c.args.line.now 2) c.in_ok-number_in.ensures) c.in_ok-number_in-2.ensures;
    })
