use Rattle.std.proofs.Common.{sym, ap, ◌∙◌, rules}
use Rattle.std.specs.List.{slice_get}
use Rattle.demand.specs.Charges.{charge, charges}
use Rattle.demand.specs.Listings.{dues, edf_times}
use Rattle.demand.specs.Points.{charges_fit}
use Rattle.demand.specs.ListingsLemmas.{listed_deadline, deadline_listed}
use Rattle.demand.proofs.Places.{listed_map}
use Rattle.demand.proofs.edf.listed_time.Goals as goal

pub returns-clause-place : goal.returns-clause-place
unfolding edf_times
returns-clause-place c = λ top.
    let h = c.args.end in
    c.nth_listed.ensures.place (λ t. dues (charge top t) h) (λ t r k. search rules)
    ∙ sym (ap (λ ts. slice_get ts c.args.group) (listed_map (λ a. dues a h) (charge top) c.args.tasks.now h))

pub returns-clause-exactly : goal.returns-clause-exactly
returns-clause-exactly c = λ top t.
    let cs = charges top c.args.tasks.now in
    (listed_deadline cs (charges_fit top c.args.tasks.now) c.args.end t, deadline_listed cs (charges_fit top c.args.tasks.now) c.args.end t)
