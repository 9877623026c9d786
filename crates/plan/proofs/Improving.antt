-- Parts of a search, one after another.
use Rattle.std.proofs.Common.{◌≡◌, ℕ, ◌+◌, ◌*◌, ◌<◌, ◌≤◌, ◌⊎◌, IfSome, Some, None, Option, sym, refl, subst, inl, inr, ⊎_elim, mul-le-mul_right, arith}
use Rattle.std.proofs.lemmas.Bool.{cases_lt}
use Rattle.processor.specs.Drives.{energy_of, span_of}
use Rattle.processor.specs.declared.drive.Drive.{Drive}
use Rattle.processor.specs.declared.drive.Drive.TheVariants.{Fixed, Pair as Turns}
use Rattle.plan.specs.Feasible.{NoDearer}
use Rattle.plan.specs.Searches.{Improves, Below}

span_some : (d : Drive) → 1 ≤ span_of d
span_some (Fixed m) = omega arith
span_some (Turns p) = omega (arith, p.whole, p.low_runs)

-- a ≤ b and b ≤ c of fractions
fractions : (ea sa eb sb ec sc : ℕ) → 1 ≤ sb → ea * sb ≤ eb * sa → eb * sc ≤ ec * sb → ea * sc ≤ ec * sa
fractions ea sa eb sb ec sc some h k =
    let m : ea * sb * sc ≤ eb * sa * sc = mul-le-mul_right sc h in
    let n : eb * sc * sa ≤ ec * sb * sa = mul-le-mul_right sa k in
    ⊎_elim
    (λ (l : ec * sa < ea * sc).
    let x : (ec * sa + 1) * sb ≤ ea * sc * sb = mul-le-mul_right sb (omega arith) in
    absurd (omega arith))
    (λ (l : ea * sc ≤ ec * sa). l) (cases_lt (ec * sa) (ea * sc))

pub dearer_trans : (d e f : Drive) → NoDearer d e → NoDearer e f → NoDearer d f
dearer_trans d e f h k = fractions (energy_of d) (span_of d) (energy_of e) (span_of e) (energy_of f) (span_of f) (span_some e) h k

none_some : {X Y : Type 0} (x : X) → Some x ≡ None → Y
none_some x e = let z : ◌≡◌ {A = ℕ} 0 1 = cc in absurd (omega arith)

module _ (meets : Drive → Type 0) where
  -- a group of no drives
  pub improves_none : (G : Drive → Type 0) → ((e : Drive) → G e → meets e → ⊥) → (o : Option Drive) → Improves meets G o o
  improves_none G none None = (refl, none)
  improves_none G none (Some d) = (inl refl, λ e g m. absurd (none e g m))

  pub improves_same : (G H : Drive → Type 0) → ((e : Drive) → G e → H e) → ((e : Drive) → H e → G e)
      → (a b : Option Drive) → Improves meets G a b → Improves meets H a b
  improves_same G H to from a None (e, none) = (e, λ x h m. none x (from x h) m)
  improves_same G H to from a (Some d) (w, least) =
      (⊎_elim (λ e. inl e) (λ (g, m, c). inr (to d g, m, c)) w, λ x h m. least x (from x h) m)

  -- one group after another
  module _ (G₁ G₂ G : Drive → Type 0) (parts : (e : Drive) → G e → G₁ e ⊎ G₂ e) (one : (e : Drive) → G₁ e → G e) (two : (e : Drive) → G₂ e → G e) where
    beats : (d x : Drive) (a : Option Drive) → (a ≡ Some x) ⊎ (G₁ x × meets x × IfSome a (λ b. NoDearer x b)) → NoDearer d x
        → IfSome a (λ b. NoDearer d b)
    beats d x None w h = tt
    beats d x (Some y) (inl e) h = let f : x ≡ y = cc in let P : Drive → Type 0 = λ v. NoDearer d v in subst P f h
    beats d x (Some y) (inr (g, m, c)) h = dearer_trans d x y h c

    pub improves_join : (a b c : Option Drive) → Improves meets G₁ a b → Improves meets G₂ b c → Improves meets G a c
    improves_join a None None (e, n) (f, m) = (e, λ x g k. ⊎_elim (λ h. n x h k) (λ h. m x h k) (parts x g))
    improves_join a None (Some d) (e, n) (inl f, least) = none_some d (sym f)
    improves_join a None (Some d) (e, n) (inr (g, m, t), least) =
        let C : Option Drive → Type 0 = λ o. IfSome o (λ b. NoDearer d b) in
        (inr (two d g, m, subst C (sym e) tt), λ x h k. ⊎_elim (λ i. absurd (n x i k)) (λ i. least x i k) (parts x h))
    improves_join a (Some x) None (w, least) (f, m) = none_some x f
    improves_join a (Some x) (Some d) (w, least₁) (inl f, least₂) =
        let e : x ≡ d = cc in
        let P : Drive → Type 0 = λ v. ((a ≡ Some v) ⊎ (G₁ v × meets v × IfSome a (λ b. NoDearer v b))) × ((y : Drive) → G₁ y → meets y → NoDearer v y) in
        let (u, l) = subst P e (w, least₁) in
        (⊎_elim (λ q. inl q) (λ (g, m, c). inr (one d g, m, c)) u, λ y h k. ⊎_elim (λ i. l y i k) (λ i. least₂ y i k) (parts y h))
    improves_join a (Some x) (Some d) (w, least₁) (inr (g, m, t), least₂) = (
      inr (two d g, m, beats d x a w t),
      λ y h k. ⊎_elim (λ i. dearer_trans d x y t (least₁ y i k)) (λ i. least₂ y i k) (parts y h),
    )

  -- the groups of one index more
  pub improves_next : (groups : ℕ → Drive → Type 0) (n : ℕ) (a b c : Option Drive)
      → Improves meets (Below groups n) a b → Improves meets (groups n) b c → Improves meets (Below groups (n + 1)) a c
  improves_next groups n =
      improves_join (Below groups n) (groups n) (Below groups (n + 1))
      (λ e (k, l, g). ⊎_elim (λ h. inl (k, h, g)) (λ h. inr (let q : k ≡ n = omega arith in let P : ℕ → Type 0 = λ v. groups v e in subst P q g)) (cases_lt k n))
      (λ e (k, l, g). (k, omega arith, g)) (λ e g. (n, omega arith, g))
