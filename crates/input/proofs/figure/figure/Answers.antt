use Rattle.std.proofs.Common.{arith}
use Rattle.std.proofs.lemmas.Grind.{common_steps}
use Rattle.input.proofs.Digits.{digit_at}
use Rattle.input.proofs.figure.figure.Goals as goal

pub returns-then-not-is_ascii_digit : goal.returns-then-not-is_ascii_digit
returns-then-not-is_ascii_digit c v h = let d = digit_at c.args.text.now c.loop-byte.byte-index h.digits (omega arith) in grind (arith, common_steps)
