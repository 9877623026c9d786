-- The order of costs, as fractions, by their cross products.
use Rattle.std.specs.Prelude.{◌≡◌, ◌*◌, ◌<◌}
use Rattle.std.specs.Ordering.{nat_cmp}
use Rattle.std.specs.declared.cmp.Ordering.{Ordering}
use Rattle.processor.specs.declared.cost.Cost.{Cost}

abbrev pub Cheaper : Cost → Cost → Type 0
Cheaper a b = a.energy * b.frame < b.energy * a.frame

abbrev pub Even : Cost → Cost → Type 0
Even a b = a.energy * b.frame ≡ b.energy * a.frame

-- how two costs compare: less where the first is cheaper, equal where they are even
abbrev pub cost_cmp : Cost → Cost → Ordering
cost_cmp a b = nat_cmp (a.energy * b.frame) (b.energy * a.frame)
