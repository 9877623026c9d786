use Rattle.std.proofs.Common.{◌≡◌, [], ◌∙◌}
use Rattle.std.proofs.lemmas.List.{nil_from_length}
use Rattle.processor.specs.declared.drive.Drive.TheVariants.{Fixed}
use Rattle.plan.proofs.Admitted.{some_candidate, some_unless}
use Rattle.plan.proofs.opening.Opening.open.Goals as goal

-- without tasks every candidate is feasible, and there is one
pub unwrap-drive-requires : goal.unwrap-drive-requires
unwrap-drive-requires g c =
    let o = c.args.self in
    let e : c.set.result.now ≡ [] = c.set.ensures ∙ nil_from_length o.table.set o.no_tasks in
    let found = (rw e at c.cheapest_feasible.ensures) (g.met.Q.Policy.bare c.args.policy) in
    let (m, listed) = some_candidate o.processor o.some_mode in
    some_unless c.cheapest_feasible.result _ _ found (λ none. none (Fixed m) listed (g.met.Q.Policy.idle c.args.policy (g.P.Platform.supply c.args.platform (Fixed m))))
