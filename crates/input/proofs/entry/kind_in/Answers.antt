use Rattle.std.proofs.Common.{rules}
use Rattle.std.proofs.lemmas.Iterator.{first_from_find, YieldsList-from_slice}
use borrow.Author.Tests.{tests}
use Rattle.input.proofs.Cells.{where_some}
use Rattle.input.proofs.KindWords.{kinds, Names, kind_found}
use Rattle.input.proofs.entry.kind_in.Goals as goal

pub returns : goal.returns
returns c =
    let f = first_from_find {all = kinds} _ _ _ (Names c.args.line.now) (λ k. Names c.args.line.now k → ⊥) c.find.ensures.ran
    (YieldsList-from_slice _ (cc))
    (λ x q k. search (rules, tests))
    (λ x q k. search (rules, tests)) in
    kind_found c.args.line.now c.find.result _ _ _ (where_some c.find.result _ _ _ f (λ x h. h.0)) c.copied.ensures c.fault-fault.ensures c.ok_or.ensures.value
