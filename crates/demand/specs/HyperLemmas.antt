-- The hyperperiod is the least positive common multiple, and how the code comes to it.
use Rattle.std.specs.Prelude.{◌≡◌, ℕ, zero, suc, ◌+◌, ◌-◌, ◌*◌, ◌/◌, ◌%◌, ◌<◌, ◌≤◌, ◌⊎◌, List, [], ◌∷◌, ◌++◌, refl}
use Rattle.std.proofs.Common.{sym, ◌∙◌, ap, ap₂, subst, inl, inr, arith, div-add-mod', mod-lt, mul-div_cancel, mul_assoc, mul_comm, mul-le-mul}
use mathlib.Core.List.Memᴰ
use mathlib.Core.List.{Memᴰ}
use Rattle.std.proofs.Math.Nat.{mul-sub}
use Rattle.demand.specs.Hyper.{gcd_in, gcd, lcm, hyper, Multiple, Common, Least}

-- the greatest common divisor divides both
gcd_divides : (n a b : ℕ) → b < n → Multiple (gcd_in n a b) a × Multiple (gcd_in n a b) b
unfolding gcd_in
gcd_divides zero a b h = absurd (omega arith)
gcd_divides (suc n) a zero h = ((1, omega arith), (0, omega arith))
gcd_divides (suc n) a (suc b) h = way (gcd_divides n (suc b) (a % suc b) (omega (arith, mod-lt a {m = suc b} (omega arith))))
  where
    g : ℕ
    g = gcd_in n (suc b) (a % suc b)

    way : Multiple g (suc b) × Multiple g (a % suc b) → Multiple g a × Multiple g (suc b)
    way ((x, e), (y, f)) = ((a / suc b * x + y, sum), (x, e))
      where
        sum : a ≡ (a / suc b * x + y) * g
        sum =
            sym (div-add-mod' a (suc b)) ∙ ap₂ (λ u v. a / suc b * u + v) e f ∙ omega arith

pub gcd_positive : (n a b : ℕ) → 1 ≤ a → 1 ≤ gcd_in n a b
unfolding gcd_in
gcd_positive zero a b h = h
gcd_positive (suc n) a zero h = h
gcd_positive (suc n) a (suc b) h = gcd_positive n (suc b) (a % suc b) (omega arith)

multiple_trans : (a b c : ℕ) → Multiple a b → Multiple b c → Multiple a c
multiple_trans a b c (y, s) (x, e) = (x * y, e ∙ ap (λ u. x * u) s ∙ sym (mul_assoc x y a))

pub lcm_laws : (a b : ℕ) → 1 ≤ a → 1 ≤ b → Multiple a (lcm a b) × Multiple b (lcm a b) × (1 ≤ lcm a b)
unfolding lcm
lcm_laws a b ha hb = way (gcd_divides (suc b) a b (omega arith))
  where
    g : ℕ
    g = gcd a b

    hg : 1 ≤ g
    hg = gcd_positive (suc b) a b ha

    way : Multiple g a × Multiple g b → Multiple a (a / g * b) × Multiple b (a / g * b) × (1 ≤ a / g * b)
    way ((x, e), (y, f)) = ((y, ap₂ (λ u v. u * v) q f ∙ swap ∙ ap (λ u. y * u) (sym e)), (a / g, refl), subst (λ u. 1 ≤ u * b) (sym q) (mul-le-mul one hb))
      where
        q : a / g ≡ x
        q = ap (λ u. u / g) e ∙ mul-div_cancel x hg

        swap : x * (y * g) ≡ y * (x * g)
        swap = omega arith

        some : (u : ℕ) → a ≡ u * g → 1 ≤ u
        some zero s = absurd (omega arith)
        some (suc u) s = omega arith

        one : 1 ≤ x
        one = some x e

-- ---- and the least

-- what divides n * a and n * b divides n * gcd a b
gcd_multiple : (k a b M n : ℕ) → Multiple M (n * a) → Multiple M (n * b) → Multiple M (n * gcd_in k a b)
unfolding gcd_in
gcd_multiple zero a b M n x y = x
gcd_multiple (suc k) a zero M n x y = x
gcd_multiple (suc k) a (suc b) M n x y = gcd_multiple k (suc b) (a % suc b) M n y (left x y)
  where
    q : ℕ
    q = a / suc b

    left : Multiple M (n * a) → Multiple M (n * suc b) → Multiple M (n * (a % suc b))
    left (x, e) (y, f) = (x - q * y, sym cut)
      where
        split : n * a ≡ q * (n * suc b) + n * (a % suc b)
        split = ap (λ u. n * u) (sym (div-add-mod' a (suc b))) ∙ omega arith

        parts : x * M ≡ q * (y * M) + n * (a % suc b)
        parts = sym e ∙ split ∙ ap (λ u. q * u + n * (a % suc b)) f

        cut : (x - q * y) * M ≡ n * (a % suc b)
        cut = mul_comm (x - q * y) M ∙ mul-sub M x (q * y) ∙ omega (arith, parts)

lcm_least : (a b n : ℕ) → 1 ≤ a → 1 ≤ b → Multiple a n → Multiple b n → Multiple (lcm a b) n
unfolding lcm
lcm_least a b n ha hb (s, e) (t, f) = way (gcd_divides (suc b) a b (omega arith)).0 (gcd_multiple (suc b) a b (a * b) n (t, one) (s, two))
  where
    g : ℕ
    g = gcd a b

    hg : 1 ≤ g
    hg = gcd_positive (suc b) a b ha

    one : n * a ≡ t * (a * b)
    one = ap (λ u. u * a) f ∙ omega arith

    two : n * b ≡ s * (a * b)
    two = ap (λ u. u * b) e ∙ omega arith

    way : Multiple g a → Multiple (a * b) (n * g) → Multiple (a / g * b) n
    way (x, i) (y, j) = (y, sym (mul-div_cancel n hg) ∙ ap (λ u. u / g) (j ∙ ap (λ u. y * (u * b)) i ∙ swap) ∙ mul-div_cancel (y * (x * b)) hg ∙ ap (λ u. y * (u * b)) (sym q))
      where
        q : a / g ≡ x
        q = ap (λ u. u / g) i ∙ mul-div_cancel x hg

        swap : y * (x * g * b) ≡ y * (x * b) * g
        swap = omega arith

-- the numbers are positive
abbrev pub Positive : List ℕ → Type 0
Positive ns = (n : ℕ) → Memᴰ n ns → 1 ≤ n

pub hyper_positive : (ns : List ℕ) → Positive ns → 1 ≤ hyper ns
unfolding hyper
hyper_positive [] f = omega arith
hyper_positive (n ∷ ns) f = (lcm_laws n (hyper ns) (f n (Memᴰ.head refl)) (hyper_positive ns (λ m i. f m (Memᴰ.tail i)))).2

pub hyper_common : (ns : List ℕ) → Positive ns → Common ns (hyper ns)
unfolding hyper
hyper_common [] f d i = absurd (Memᴰ.not-nil i)
hyper_common (n ∷ ns) f d i = way (Memᴰ.cases_cons i) (hyper_common ns (λ m j. f m (Memᴰ.tail j)) d)
  where
    l : Multiple n (lcm n (hyper ns)) × Multiple (hyper ns) (lcm n (hyper ns)) × (1 ≤ lcm n (hyper ns))
    l = lcm_laws n (hyper ns) (f n (Memᴰ.head refl)) (hyper_positive ns (λ m j. f m (Memᴰ.tail j)))

    way : (d ≡ n) ⊎ Memᴰ d ns → (Memᴰ d ns → Multiple d (hyper ns)) → Multiple d (lcm n (hyper ns))
    way (inl e) next = subst (λ y. Multiple y (lcm n (hyper ns))) (sym e) l.0
    way (inr j) next = multiple_trans d (hyper ns) (lcm n (hyper ns)) (next j) l.1

pub hyper_least : (ns : List ℕ) → Positive ns → (h : ℕ) → Common ns h → Multiple (hyper ns) h
unfolding hyper
hyper_least [] f h m = (h, omega arith)
hyper_least (n ∷ ns) f h m =
    lcm_least n (hyper ns) h (f n (Memᴰ.head refl)) (hyper_positive ns (λ k i. f k (Memᴰ.tail i)))
    (m n (Memᴰ.head refl)) (hyper_least ns (λ k i. f k (Memᴰ.tail i)) h (λ d i. m d (Memᴰ.tail i)))

-- a positive multiple is no smaller
pub multiple_le : (a h : ℕ) → 1 ≤ h → Multiple a h → a ≤ h
multiple_le a h b (zero, e) = absurd (omega arith)
multiple_le a h b (suc k, e) = omega arith

pub hyper_is_least : (ns : List ℕ) → Positive ns → Least ns (hyper ns)
hyper_is_least ns f =
    record {
      positive = hyper_positive ns f;
      common = hyper_common ns f;
      least = λ k b m. multiple_le (hyper ns) k b (hyper_least ns f k m);
    }

-- ---- from the front on, as the code goes

-- there is one least common multiple
pub least_one : (ns : List ℕ) (a b : ℕ) → Least ns a → Least ns b → a ≡ b
least_one ns a b x y = omega (arith, x.least b y.positive y.common, y.least a x.positive x.common)

-- one number more, at the end
pub least_more : (ns : List ℕ) (h n : ℕ) → Least ns h → 1 ≤ n → ((k : ℕ) → Common ns k → Multiple h k) → Least (ns ++ n ∷ []) (lcm h n)
least_more ns h n x b divides =
    record {
      positive = l.2;
      common = λ m i. pick m (Memᴰ.append_cases ns i);
      least = λ k p q. multiple_le (lcm h n) k p (lcm_least h n k x.positive b (divides k (λ m i. q m (Memᴰ.append_left (n ∷ []) i))) (q n (Memᴰ.append_right ns (Memᴰ.head refl))));
    }
  where
    l : Multiple h (lcm h n) × Multiple n (lcm h n) × (1 ≤ lcm h n)
    l = lcm_laws h n x.positive b

    through : (m : ℕ) → Multiple h (lcm h n) → Multiple m h → Multiple m (lcm h n)
    through m (x, e) (y, s) = (x * y, e ∙ ap (λ u. x * u) s ∙ sym (mul_assoc x y m))

    pick : (m : ℕ) → Memᴰ m ns ⊎ Memᴰ m (n ∷ []) → Multiple m (lcm h n)
    pick m (inl i) = through m l.0 (x.common m i)
    pick m (inr i) = subst (λ y. Multiple y (lcm h n)) (sym (Memᴰ.eq_of_singleton i)) l.1

pub hyper_push : (ns : List ℕ) (n : ℕ) → Positive (ns ++ n ∷ []) → hyper (ns ++ n ∷ []) ≡ lcm (hyper ns) n
hyper_push ns n f =
    least_one (ns ++ n ∷ []) (hyper (ns ++ n ∷ [])) (lcm (hyper ns) n) (hyper_is_least (ns ++ n ∷ []) f)
    (least_more ns (hyper ns) n (hyper_is_least ns front) (f n (Memᴰ.append_right ns (Memᴰ.head refl))) (λ k m. hyper_least ns front k m))
  where
    front : Positive ns
    front m i = f m (Memᴰ.append_left (n ∷ []) i)

lcm_assoc : (a b c : ℕ) → 1 ≤ a → 1 ≤ b → 1 ≤ c → lcm (lcm a b) c ≡ lcm a (lcm b c)
lcm_assoc a b c ha hb hc =
    let p = lcm_laws a b ha hb in
    let q = lcm_laws b c hb hc in
    let x = lcm_laws (lcm a b) c p.2 hc in
    let y = lcm_laws a (lcm b c) ha q.2 in
    let to = lcm_least (lcm a b) c (lcm a (lcm b c)) p.2 hc
    (lcm_least a b (lcm a (lcm b c)) ha hb y.0 (multiple_trans b (lcm b c) (lcm a (lcm b c)) q.0 y.1))
    (multiple_trans c (lcm b c) (lcm a (lcm b c)) q.1 y.1) in
    let back = lcm_least a (lcm b c) (lcm (lcm a b) c) ha q.2
    (multiple_trans a (lcm a b) (lcm (lcm a b) c) p.0 x.0)
    (lcm_least b c (lcm (lcm a b) c) hb hc (multiple_trans b (lcm a b) (lcm (lcm a b) c) p.1 x.0) x.1) in
    omega (arith, multiple_le (lcm (lcm a b) c) (lcm a (lcm b c)) y.2 to, multiple_le (lcm a (lcm b c)) (lcm (lcm a b) c) x.2 back)

lcm_one : (a : ℕ) → 1 ≤ a → (lcm a 1 ≡ a) × (lcm 1 a ≡ a)
lcm_one a h =
    let own : Multiple a a = (1, omega arith) in
    let all : Multiple 1 a = (a, omega arith) in
    let l = lcm_laws a 1 h (omega arith) in
    let r = lcm_laws 1 a (omega arith) h in (
      omega (arith, multiple_le a (lcm a 1) l.2 l.0, multiple_le (lcm a 1) a h (lcm_least a 1 a h (omega arith) own all)),
      omega (arith, multiple_le a (lcm 1 a) r.2 r.1, multiple_le (lcm 1 a) a h (lcm_least 1 a a (omega arith) h all own)),
    )

-- the numbers taken in one by one, from h on
pub hyper_from : (h n : ℕ) (ns : List ℕ) → 1 ≤ h → Positive (n ∷ ns) → lcm (lcm h n) (hyper ns) ≡ lcm h (hyper (n ∷ ns))
unfolding hyper
hyper_from h n ns b f = lcm_assoc h n (hyper ns) b (f n (Memᴰ.head refl)) (hyper_positive ns (λ m i. f m (Memᴰ.tail i)))

pub hyper_none : (h : ℕ) → 1 ≤ h → lcm h (hyper []) ≡ h
unfolding hyper
hyper_none h b = (lcm_one h b).0

pub hyper_from_one : (ns : List ℕ) → Positive ns → lcm 1 (hyper ns) ≡ hyper ns
hyper_from_one ns f = (lcm_one (hyper ns) (hyper_positive ns f)).1

-- fewer numbers, no longer hyperperiod
pub hyper_part : (ns ms : List ℕ) → Positive ns → ((n : ℕ) → Memᴰ n ms → Memᴰ n ns) → hyper ms ≤ hyper ns
hyper_part ns ms f sub =
    (hyper_is_least ms (λ n i. f n (sub n i))).least (hyper ns) (hyper_positive ns f) (λ n i. hyper_common ns f n (sub n i))

-- ---- Euclid

-- any number of steps above b does
pub gcd_steps : (n m a b : ℕ) → b < n → b < m → gcd_in n a b ≡ gcd_in m a b
unfolding gcd_in
gcd_steps zero m a b h k = absurd (omega arith)
gcd_steps (suc n) zero a b h k = absurd (omega arith)
gcd_steps (suc n) (suc m) a zero h k = refl
gcd_steps (suc n) (suc m) a (suc b) h k =
    let l = mod-lt a {m = suc b} (omega arith) in
    gcd_steps n m (suc b) (a % suc b) (omega (arith, l)) (omega (arith, l))

pub gcd_next : (a b : ℕ) → 0 < b → gcd b (a % b) ≡ gcd a b
unfolding gcd_in
gcd_next a zero h = absurd (omega arith)
gcd_next a (suc b) h =
    let l = mod-lt a {m = suc b} (omega arith) in
    gcd_steps (suc (a % suc b)) (suc b) (suc b) (a % suc b) (omega arith) (omega (arith, l))

pub gcd_end : (a : ℕ) → gcd a 0 ≡ a
unfolding gcd_in
gcd_end a = refl

-- the code's product
pub lcm_is : (a b g q p : ℕ) → g ≡ gcd a b → q ≡ a / g → p ≡ b → q * p ≡ lcm a b
unfolding lcm
lcm_is a b g q p e f h = ap₂ (λ x y. x * y) (f ∙ ap (λ d. a / d) e) h
