use Rattle.std.proofs.Common.{◌≡◌, ℕ, List, [], Option, MatchOption, drop}
use Rattle.std.specs.Fn.{FnReturnsAt}
use Rattle.std.specs.List.{slice_get}
use Rattle.demand.specs.declared.task.Task.{Task}
use Rattle.demand.specs.declared.times.Times.{Times}
use Rattle.demand.specs.Listings.{listed, terms}
use Rattle.demand.proofs.listing.nth_listed.Given as goal

abbrev pub invariant-tasks : goal.invariant-tasks
invariant-tasks g l = (lists : Task → List ℕ)
    → ((t : Task) (r : Option Times) → FnReturnsAt g.F.Fn l.times t r → MatchOption r (lists t ≡ []) (λ p. lists t ≡ terms p.first p.step l.end))
    → slice_get (listed lists (drop l.task-index l.tasks) l.end) l.left ≡ slice_get (listed lists l.tasks l.end) l.n
