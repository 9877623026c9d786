use Rattle.std.proofs.Common.{◌∙◌, ap, arith, rules}
use Rattle.std.proofs.lemmas.Iterator.{YieldsList-from_slice}
use Rattle.demand.specs.Hyper.{lcm, periods, within_span}
use Rattle.demand.specs.HyperLemmas.{hyper_from_one, hyper_is_least}
use Rattle.demand.specs.Spans.{periods_positive}
use Rattle.demand.proofs.TryFold.{try_fold_from_yields_List}
use Rattle.demand.proofs.Multiples.{within_from}
use Rattle.demand.proofs.edf.hyperperiod.Goals as goal

pub returns-clause-value : goal.returns-clause-value
returns-clause-value c =
    let ts = c.args.tasks.now in
    try_fold_from_yields_List (λ y. y.now) _ (λ h t. within_span (lcm h t.period)) _ (λ a x r q k. search rules) _ _ ts 1 c.try_fold.result c.try_fold.ensures.ran (YieldsList-from_slice ts cc)
    ∙ within_from 1 ts (omega arith) (omega arith)
    ∙ ap within_span (hyper_from_one (periods ts) (periods_positive ts))

pub returns-clause-least : goal.returns-clause-least
returns-clause-least c = hyper_is_least (periods c.args.tasks.now) (periods_positive c.args.tasks.now)
