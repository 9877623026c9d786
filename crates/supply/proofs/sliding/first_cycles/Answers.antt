use Rattle.std.proofs.Common.{rules, arith}
use Rattle.std.proofs.lemmas.Iterator.{YieldsList-from_range, YieldsList-from_map}
use Rattle.std.proofs.lemmas.Iterator.Consumers.{sum_by_from_yields_List, fits_by_from_yields_list}
use Rattle.std.specs.List.{range_with_len}
use Rattle.supply.specs.Windows.{window}
use Rattle.supply.specs.Patterns.{speed, pattern_of}
use Rattle.supply.specs.Supplies.{window_small}
use Rattle.supply.proofs.sliding.first_cycles.Goals as goal

pub sum-requires-clause-fits : goal.sum-requires-clause-fits
unfolding window
sum-requires-clause-fits c =
    fits_by_from_yields_list (speed (pattern_of c.args.pair.now)) (range_with_len 0 c.args.length) c.map.result _
    (YieldsList-from_map _ (speed (pattern_of c.args.pair.now)) (YieldsList-from_range 0 c.args.length c.args.length c.map.ensures.source (omega arith)) c.map.ensures.closure (λ x r q k. search rules))
    (omega (arith, window_small c.args.pair.now 0 c.args.length))

pub returns : goal.returns
unfolding window
returns c =
    sum_by_from_yields_List (speed (pattern_of c.args.pair.now)) (range_with_len 0 c.args.length) c.map.result _ c.sum.ensures.ran
    (YieldsList-from_map _ (speed (pattern_of c.args.pair.now)) (YieldsList-from_range 0 c.args.length c.args.length c.map.ensures.source (omega arith)) c.map.ensures.closure (λ x r q k. search rules))
