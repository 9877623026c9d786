-- The closed formula of the least window sum: whole frames, and one of four pieces for the rest.
use Rattle.std.specs.Prelude.{ℕ, ◌+◌, ◌-◌, ◌*◌, ◌/◌, ◌%◌, max, cond, nat_lt}
use Rattle.supply.specs.Patterns.{Pattern, frame}

-- the cycles of the low run, and of a whole frame
abbrev pub low_cycles : Pattern → ℕ
low_cycles m = m.low_speed * (m.low_time - m.down)

abbrev pub cycles : Pattern → ℕ
cycles m = low_cycles m + m.high_speed * (m.high_time - m.up)

abbrev pub longer_switch : Pattern → ℕ
longer_switch m = max m.down m.up

-- the least cycles of r microseconds, where r is less than a frame
unfoldable pub piece : Pattern → ℕ → ℕ
piece m r =
    cond (nat_lt r (longer_switch m)) 0
    (cond (nat_lt r (longer_switch m + (m.low_time - m.down))) (m.low_speed * (r - longer_switch m))
    (cond (nat_lt r (m.low_time + m.up)) (low_cycles m) (low_cycles m + m.high_speed * (r - (m.low_time + m.up)))))

unfoldable pub closed : Pattern → ℕ → ℕ
closed m t = t / frame m * cycles m + piece m (t % frame m)
