use Rattle.std.proofs.Common.{◌≡◌}
use Rattle.supply.specs.Windows.{window, least_upto}
use Rattle.supply.specs.Patterns.{speed, pattern_of}
use Rattle.supply.proofs.sliding.SlidingBare.rest_cycles.Given as goal

-- the window stands at the start, and the least is of all starts so far
abbrev pub invariant-loop-start : goal.invariant-loop-start
invariant-loop-start l = record {
  at_start : l.cycles ≡ window (speed (pattern_of l.pair)) l.start l.rest;
  least_so_far : l.least ≡ least_upto (λ s. window (speed (pattern_of l.pair)) s l.rest) l.start;
}
