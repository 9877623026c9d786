-- Costs are in a total order.
use Rattle.std.proofs.Common.{◌≡◌, ℕ, ◌*◌, ◌<◌, ◌≤◌, sym, ap, ◌∙◌, arith}
use Rattle.std.specs.Ordering.{nat_cmp, MatchOrdering}
use Rattle.std.specs.declared.cmp.Ordering.{Ordering}
use Rattle.std.specs.declared.cmp.Ordering.TheVariants.{Less, Equal, Greater}
use Rattle.std.specs.Cmp.{IsTotalOrder, nat_cmp_total, ranks, nat_cmp_is}
use Rattle.std.proofs.Math.Nat.{mul_right_comm, mul-lt-mul_of_pos_right}
use Rattle.processor.specs.Costs.{cost_cmp}
use Rattle.processor.specs.declared.cost.Cost.{Cost}

-- numbers compare as their multiples do
scaled : (a b k : ℕ) (r : Ordering) → 1 ≤ k → MatchOrdering r (a < b) (a ≡ b) (b < a) → MatchOrdering r (a * k < b * k) (a * k ≡ b * k) (b * k < a * k)
scaled a b k Less h l = mul-lt-mul_of_pos_right l (omega arith)
scaled a b k Equal h e = ap (λ n. n * k) e
scaled a b k Greater h l = mul-lt-mul_of_pos_right l (omega arith)

nat_cmp-scaled : (a b k : ℕ) → 1 ≤ k → nat_cmp a b ≡ nat_cmp (a * k) (b * k)
nat_cmp-scaled a b k h = nat_cmp_is (a * k) (b * k) (nat_cmp a b) (scaled a b k (nat_cmp a b) h (ranks a b))

-- two costs compare as they do over a frame that is as long as three together
over_frame : (x y z : Cost) → cost_cmp x y ≡ nat_cmp (x.energy * y.frame * z.frame) (y.energy * x.frame * z.frame)
over_frame x y z = nat_cmp-scaled (x.energy * y.frame) (y.energy * x.frame) z.frame z.some

pub cost_total : IsTotalOrder cost_cmp
cost_total = record {
  antisymm = λ x y. nat_cmp_total.antisymm (x.energy * y.frame) (y.energy * x.frame);
  trans = λ x y z p q.
      let a = over_frame x y z in
      let b = over_frame y z x in
      let c = over_frame x z y in
      let d = mul_right_comm y.energy x.frame z.frame in
      let e = mul_right_comm x.energy y.frame z.frame in
      let f = mul_right_comm z.energy y.frame x.frame in
      let g : nat_cmp (x.energy * y.frame * z.frame) (y.energy * x.frame * z.frame) ≡ Less = sym a ∙ p in
      let h : nat_cmp (y.energy * x.frame * z.frame) (z.energy * y.frame * x.frame) ≡ Less =
      ap (λ n. nat_cmp n (z.energy * y.frame * x.frame)) d ∙ sym b ∙ q in
      let t = nat_cmp_total.trans (x.energy * y.frame * z.frame) (y.energy * x.frame * z.frame) (z.energy * y.frame * x.frame) g h in
      c ∙ ap (λ n. nat_cmp n (z.energy * x.frame * y.frame)) (sym e) ∙ ap (λ n. nat_cmp (x.energy * y.frame * z.frame) n) (sym f) ∙ t;
  congr = λ x y z p.
      let a : x.energy * y.frame ≡ y.energy * x.frame = rw p at (ranks (x.energy * y.frame) (y.energy * x.frame)) in
      let b = over_frame x z y in
      let c = over_frame y z x in
      let d = mul_right_comm x.energy z.frame y.frame in
      let e = mul_right_comm y.energy z.frame x.frame in
      let f = mul_right_comm z.energy x.frame y.frame in
      b ∙ ap (λ n. nat_cmp n (z.energy * x.frame * y.frame)) (d ∙ ap (λ n. n * z.frame) a ∙ sym e) ∙ ap (λ n. nat_cmp (y.energy * z.frame * x.frame) n) f ∙ sym c;
}
