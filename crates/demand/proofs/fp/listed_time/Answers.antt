use Rattle.std.proofs.Common.{sym, ap, ◌∙◌, [], cond, nat_lt, rules}
use Rattle.std.specs.List.{slice_get}
use Rattle.demand.specs.Charges.{charge}
use Rattle.demand.specs.Listings.{turns, fp_times}
use Rattle.demand.proofs.Places.{listed_map, turns_listed}
use Rattle.demand.proofs.fp.listed_time.Goals as goal

pub returns-clause-place : goal.returns-clause-place
unfolding fp_times
returns-clause-place c = λ top.
    let own = c.args.task.now in
    c.nth_listed.ensures.place (λ t. cond (nat_lt t.rank own.rank) (turns (charge top t) own.deadline) []) (λ t r k. turns_listed t own.rank own.deadline r (search rules))
    ∙ sym (ap (λ ts. slice_get ts c.args.index) (listed_map (λ a. cond (nat_lt a.rank own.rank) (turns a own.deadline) []) (charge top) c.args.tasks.now own.deadline))
