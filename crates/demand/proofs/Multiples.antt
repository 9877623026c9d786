-- The hyperperiod, as the code comes to it.
use Rattle.std.proofs.Common.{◌≡◌, ℕ, ◌<◌, ◌≤◌, List, [], ◌∷◌, ◌⊎◌, sym, refl, ap, ◌∙◌, inl, inr, arith}
use Rattle.std.specs.Option.{option_and_then}
use Rattle.std.proofs.lemmas.Bool.{cases_lt}
use Rattle.demand.specs.declared.task.Task.{Task}
use Rattle.demand.specs.Limits.{longest_span}
use Rattle.demand.specs.Hyper.{Multiple, lcm, hyper, periods, within_span}
use Rattle.demand.specs.HyperLemmas.{hyper_from, hyper_none, hyper_positive, lcm_laws, multiple_le}
use Rattle.demand.specs.Spans.{periods_positive, within_some, within_none}
use Rattle.demand.proofs.TryFold.{try_fold}

pub within_from : (h : ℕ) (ts : List Task) → 1 ≤ h → h ≤ longest_span
    → try_fold (λ a t. within_span (lcm a t.period)) h ts ≡ within_span (lcm h (hyper (periods ts)))
within_from h [] b l = sym (ap within_span (hyper_none h b) ∙ within_some h l)
within_from h (t ∷ ts) b l = way (cases_lt longest_span (lcm h t.period)) (within_from (lcm h t.period) ts laws.2)
  where
    all : ℕ
    all = lcm h (hyper (periods (t ∷ ts)))

    laws : Multiple h (lcm h t.period) × Multiple t.period (lcm h t.period) × (1 ≤ lcm h t.period)
    laws = lcm_laws h t.period b (omega (arith, t.due, t.constrained))

    taken : lcm (lcm h t.period) (hyper (periods ts)) ≡ all
    taken = hyper_from h t.period (periods ts) b (periods_positive (t ∷ ts))

    way : (longest_span < lcm h t.period) ⊎ (lcm h t.period ≤ longest_span)
        → (lcm h t.period ≤ longest_span → try_fold (λ a t. within_span (lcm a t.period)) (lcm h t.period) ts ≡ within_span (lcm (lcm h t.period) (hyper (periods ts))))
        → option_and_then (λ a. try_fold (λ a t. within_span (lcm a t.period)) a ts) (within_span (lcm h t.period)) ≡ within_span all
    way (inl o) next =
        let m = lcm_laws (lcm h t.period) (hyper (periods ts)) laws.2 (hyper_positive (periods ts) (periods_positive ts)) in
        let more = multiple_le (lcm h t.period) (lcm (lcm h t.period) (hyper (periods ts))) m.2 m.0 in
        rw (within_none (lcm h t.period) o, within_none all (omega (arith, o, more, taken))) refl
    way (inr u) next = rw (within_some (lcm h t.period) u) (next u ∙ ap within_span taken)
