use Rattle.std.proofs.Common.{◌∙◌, rules, tests}
use Rattle.std.specs.Slice.Iter.{iter_rest}
use Rattle.processor.proofs.FindMap.{find_mapped}
use Rattle.processor.specs.Tables.{has_number}
use Rattle.processor.proofs.table.Processor.mode.Goals as goal

pub returns : goal.returns
returns c =
    find_mapped (λ y. y.now) (has_number c.args.number) _ (λ x o q k. search (rules, tests)) iter_rest c.iter.result c.find_map.result _
    c.iter.ensures.runs (c.iter.ensures.rest ∙ c.deref.ensures.value) c.find_map.ensures.runs
