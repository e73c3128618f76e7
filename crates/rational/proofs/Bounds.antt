-- Infima and suprema of families: that they are one, and how to make them.
use Rattle.std.specs.Prelude.{◌≡◌, pos, ◌⊎◌}
use Rattle.std.proofs.Common.{arith, sym, subst, inl, inr}
use Rattle.rational.specs.Rational.{ℚ, ◌+ℚ◌, ◌-ℚ◌, int}
use Rattle.rational.proofs.Linear.{with1, with2, with3}
use Rattle.rational.proofs.Laws.{between, antisym}
use Rattle.rational.specs.Extended.{Ext, ◌≤ₑ◌, ◌<ₑ◌, ◌+ₑ◌, min_ext, max_ext}
use Rattle.rational.specs.Bounds.{IsInfimum, IsSupremum}
use Rattle.rational.specs.Families.{either, sums}
use Rattle.rational.specs.declared.Extended.TheVariants.{Fin, Inf}
use Rattle.rational.proofs.ExtendedOrder.{le_ext_refl, le_ext_trans, le_lt_ext, lt_le_ext, le_of_lt_ext, antisym_ext}
use Rattle.rational.proofs.ExtendedOrder.{by_upper, by_lower, lt_add_out, lt_add_in, gt_add_out, gt_add_in}
use Rattle.rational.proofs.ExtendedOrder.{add_le_ext, add_lt_lt_ext, le_inf, min_left, min_right, min_one, max_left}
use Rattle.rational.proofs.ExtendedOrder.{max_right, max_one}

-- ---- infima
-- at least each lower bound
pub greatest : {I : Type 0} (F : I → Ext) (x y : Ext) → IsInfimum F x → ((i : I) → y ≤ₑ F i) → y ≤ₑ x
greatest F x y h b =
    by_upper y x (λ q l. let (i, m) = h.near q l in le_ext_trans y (F i) (Fin q) (b i) (le_of_lt_ext (F i) (Fin q) m))

pub infimum_unique : {I : Type 0} (F : I → Ext) (x y : Ext) → IsInfimum F x → IsInfimum F y → x ≡ y
infimum_unique F x y h k = antisym_ext x y (greatest F y x k h.below) (greatest F x y h k.below)

-- a least member is the infimum
pub least_member : {I : Type 0} (F : I → Ext) (i : I) → ((j : I) → F i ≤ₑ F j) → IsInfimum F (F i)
least_member F i h = record { below = h; near = λ y l. (i, l) }

-- a family without finite members
pub all_infinite : {I : Type 0} (F : I → Ext) → ((i : I) → F i ≡ Inf) → IsInfimum F Inf
all_infinite F h = record { below = λ i. subst (λ z. Inf ≤ₑ z) (sym (h i)) tt; near = λ y l. absurd l }

-- each family's members, risen by c, come down to the other's
pub infimum_shift : {I J : Type 0} (F : I → Ext) (G : J → Ext) (c : ℚ) (x : Ext)
    → ((i : I) → (j : J) × (G j ≤ₑ F i +ₑ Fin c)) → ((j : J) → (i : I) × (F i +ₑ Fin c ≤ₑ G j))
    → IsInfimum F x → IsInfimum G (x +ₑ Fin c)
infimum_shift F G c x down up h = record {
  below = λ j. let (i, l) = up j in le_ext_trans (x +ₑ Fin c) (F i +ₑ Fin c) (G j) (add_le_ext x (F i) (Fin c) (Fin c) (h.below i) (le_ext_refl (Fin c))) l;
  near = λ y l. let (i, m) = h.near (y -ℚ c) (lt_add_out x c y l) in
      let (j, k) = down i in
      (j, le_lt_ext (G j) (F i +ₑ Fin c) (Fin y) k (lt_add_in (F i) c y m));
}

-- two families that come down to each other have one infimum
pub same_infimum : {I J : Type 0} (F : I → Ext) (G : J → Ext) (x : Ext)
    → ((i : I) → (j : J) × (G j ≤ₑ F i)) → ((j : J) → (i : I) × (F i ≤ₑ G j))
    → IsInfimum F x → IsInfimum G x
same_infimum F G x down up h = record {
  below = λ j. let (i, l) = up j in le_ext_trans x (F i) (G j) (h.below i) l;
  near = λ y l. let (i, m) = h.near y l in let (j, k) = down i in (j, le_lt_ext (G j) (F i) (Fin y) k m);
}

pub infimum_union : {I J : Type 0} (F : I → Ext) (G : J → Ext) (x y : Ext)
    → IsInfimum F x → IsInfimum G y → IsInfimum (either F G) (min_ext x y)
infimum_union {I} {J} F G x y h k = record { below = under; near = close }
  where
    under : (i : I ⊎ J) → min_ext x y ≤ₑ either F G i
    under (inl i) = le_ext_trans (min_ext x y) x (F i) (min_left x y) (h.below i)
    under (inr j) = le_ext_trans (min_ext x y) y (G j) (min_right x y) (k.below j)

    close : (q : ℚ) → min_ext x y <ₑ Fin q → (i : I ⊎ J) × (either F G i <ₑ Fin q)
    close q l = elim (min_one x y) [
      | inl e ↦ let (i, m) = h.near q (subst (λ z. z <ₑ Fin q) e l) in (inl i, m)
      | inr e ↦ let (j, m) = k.near q (subst (λ z. z <ₑ Fin q) e l) in (inr j, m)
    ]

-- more members above it do not change it: each member of G is at least some member of F
pub infimum_le : {I J : Type 0} (F : I → Ext) (G : J → Ext) (x y : Ext) → IsInfimum F x → IsInfimum G y
    → ((j : J) → (i : I) × (F i ≤ₑ G j)) → x ≤ₑ y
infimum_le F G x y h k up = greatest G y x k (λ j. let (i, l) = up j in le_ext_trans x (F i) (G j) (h.below i) l)

-- the infimum of the sums of a member of each is the sum of the infima
pub infimum_sum : {I J : Type 0} (F : I → Ext) (G : J → Ext) (x y : Ext)
    → IsInfimum F x → IsInfimum G y → IsInfimum (sums F G) (x +ₑ y)
infimum_sum {I} {J} F G x y h k = record {
  below = λ p. add_le_ext x (F p.0) y (G p.1) (h.below p.0) (k.below p.1);
  near = λ q l. close x y h.near k.near q l;
}
  where
    close : (x y : Ext) → ((q : ℚ) → x <ₑ Fin q → (i : I) × (F i <ₑ Fin q))
        → ((q : ℚ) → y <ₑ Fin q → (j : J) × (G j <ₑ Fin q))
        → (q : ℚ) → x +ₑ y <ₑ Fin q → (p : I × J) × (F p.0 +ₑ G p.1 <ₑ Fin q)
    close Inf y f g q l = absurd l
    close (Fin a) Inf f g q l = absurd l
    close (Fin a) (Fin b) f g q l =
        let (m, p, r) = between a (q -ℚ b) (with3 a b q (λ c. omega (arith, c.le, c.lt, c.same))) in
        let (i, u) = f m p in
        let (j, v) = g (q -ℚ m) (with3 b q m (λ c. omega (arith, c.le, c.lt, c.same))) in
        ((i, j), subst (λ z. F i +ₑ G j <ₑ Fin z) (antisym (with2 q m (λ c. omega (arith, c.le, c.lt, c.same)))) (add_lt_lt_ext (F i) (Fin m) (G j) (Fin (q -ℚ m)) u v))

-- ---- suprema
pub smallest : {I : Type 0} (F : I → Ext) (x y : Ext) → IsSupremum F x → ((i : I) → F i ≤ₑ y) → x ≤ₑ y
smallest F x y h b =
    by_lower y x (λ q l. let (i, m) = h.near q l in le_ext_trans (Fin q) (F i) y (le_of_lt_ext (Fin q) (F i) m) (b i))

pub supremum_unique : {I : Type 0} (F : I → Ext) (x y : Ext) → IsSupremum F x → IsSupremum F y → x ≡ y
supremum_unique F x y h k = antisym_ext x y (smallest F x y h k.above) (smallest F y x k h.above)

pub largest_member : {I : Type 0} (F : I → Ext) (i : I) → ((j : I) → F j ≤ₑ F i) → IsSupremum F (F i)
largest_member F i h = record { above = h; near = λ y l. (i, l) }

-- members above each fraction
pub unbounded : {I : Type 0} (F : I → Ext) → ((y : ℚ) → (i : I) × (Fin y <ₑ F i)) → IsSupremum F Inf
unbounded F f = record { above = λ i. tt; near = λ y l. f y }

pub supremum_shift : {I J : Type 0} (F : I → Ext) (G : J → Ext) (c : ℚ) (x : Ext)
    → ((i : I) → (j : J) × (F i +ₑ Fin c ≤ₑ G j)) → ((j : J) → (i : I) × (G j ≤ₑ F i +ₑ Fin c))
    → IsSupremum F x → IsSupremum G (x +ₑ Fin c)
supremum_shift F G c x up down h = record {
  above = λ j. let (i, l) = down j in le_ext_trans (G j) (F i +ₑ Fin c) (x +ₑ Fin c) l (add_le_ext (F i) x (Fin c) (Fin c) (h.above i) (le_ext_refl (Fin c)));
  near = λ y l. let (i, m) = h.near (y -ℚ c) (gt_add_out x c y l) in
      let (j, k) = up i in
      (j, lt_le_ext (Fin y) (F i +ₑ Fin c) (G j) (gt_add_in (F i) c y m) k);
}

pub same_supremum : {I J : Type 0} (F : I → Ext) (G : J → Ext) (x : Ext)
    → ((i : I) → (j : J) × (F i ≤ₑ G j)) → ((j : J) → (i : I) × (G j ≤ₑ F i))
    → IsSupremum F x → IsSupremum G x
same_supremum F G x up down h = record {
  above = λ j. let (i, l) = down j in le_ext_trans (G j) (F i) x l (h.above i);
  near = λ y l. let (i, m) = h.near y l in let (j, k) = up i in (j, lt_le_ext (Fin y) (F i) (G j) m k);
}

pub supremum_union : {I J : Type 0} (F : I → Ext) (G : J → Ext) (x y : Ext)
    → IsSupremum F x → IsSupremum G y → IsSupremum (either F G) (max_ext x y)
supremum_union {I} {J} F G x y h k = record { above = over; near = close }
  where
    over : (i : I ⊎ J) → either F G i ≤ₑ max_ext x y
    over (inl i) = le_ext_trans (F i) x (max_ext x y) (h.above i) (max_left x y)
    over (inr j) = le_ext_trans (G j) y (max_ext x y) (k.above j) (max_right x y)

    close : (q : ℚ) → Fin q <ₑ max_ext x y → (i : I ⊎ J) × (Fin q <ₑ either F G i)
    close q l = elim (max_one x y) [
      | inl e ↦ let (i, m) = h.near q (subst (λ z. Fin q <ₑ z) e l) in (inl i, m)
      | inr e ↦ let (j, m) = k.near q (subst (λ z. Fin q <ₑ z) e l) in (inr j, m)
    ]

-- a family with an infinite member
pub infinite_member : {I : Type 0} (F : I → Ext) (i : I) → F i ≡ Inf → IsSupremum F Inf
infinite_member F i e = record { above = λ j. le_inf (F j); near = λ y l. (i, subst (λ z. Fin y <ₑ z) (sym e) tt) }

-- each member of F is at most some member of G
pub supremum_le : {I J : Type 0} (F : I → Ext) (G : J → Ext) (x y : Ext) → IsSupremum F x → IsSupremum G y
    → ((i : I) → (j : J) × (F i ≤ₑ G j)) → x ≤ₑ y
supremum_le F G x y h k up = smallest F x y h (λ i. let (j, l) = up i in le_ext_trans (F i) (G j) y l (k.above j))

-- the supremum of the sums of a member of each is the sum of the suprema
pub supremum_sum : {I J : Type 0} (F : I → Ext) (G : J → Ext) (x y : Ext)
    → IsSupremum F x → IsSupremum G y → IsSupremum (sums F G) (x +ₑ y)
supremum_sum {I} {J} F G x y h k = record {
  above = λ p. add_le_ext (F p.0) x (G p.1) y (h.above p.0) (k.above p.1);
  near = λ q l.
      let (m, u, v) = parted x y q l in
      let (i, a) = h.near m u in
      let (j, b) = k.near (q -ℚ m) v in
      ((i, j), subst (λ z. Fin z <ₑ F i +ₑ G j) (antisym (with2 q m (λ c. omega (arith, c.le, c.lt, c.same)))) (add_lt_lt_ext (Fin m) (F i) (Fin (q -ℚ m)) (G j) a b));
}
  where
    -- what is below a sum is the sum of what is below each
    parted : (x y : Ext) (q : ℚ) → Fin q <ₑ x +ₑ y → (m : ℚ) × (Fin m <ₑ x) × (Fin (q -ℚ m) <ₑ y)
    parted Inf Inf q l = (q, tt, tt)
    parted Inf (Fin b) q l = ((q -ℚ b) +ℚ int (pos 1), tt, with2 q b (λ c. omega (arith, c.le, c.lt, c.same)))
    parted (Fin a) Inf q l = (a -ℚ int (pos 1), with1 a (λ c. omega (arith, c.le, c.lt, c.same)), tt)
    parted (Fin a) (Fin b) q l =
        let (m, p, r) = between (q -ℚ b) a (with3 a b q (λ c. omega (arith, c.le, c.lt, c.same))) in
        (m, r, with3 b q m (λ c. omega (arith, c.le, c.lt, c.same)))

-- ---- the mirror: what is below the members f is above the members c - f
pub reflected_infimum : {I : Type 0} (f : I → ℚ) (c x : ℚ) → IsSupremum (λ i. Fin (f i)) (Fin x)
    → IsInfimum (λ i. Fin (c -ℚ f i)) (Fin (c -ℚ x))
reflected_infimum f c x h = record {
  below = λ i. let l = h.above i in let a = f i in with3 a c x (λ o. omega (arith, o.le, o.lt, o.same));
  near = λ y l.
      let (i, m) = h.near (c -ℚ y) (with3 c x y (λ o. omega (arith, o.le, o.lt, o.same))) in
      let a = f i in
      (i, with3 a c y (λ o. omega (arith, o.le, o.lt, o.same)));
}

pub reflected_supremum : {I : Type 0} (f : I → ℚ) (c x : ℚ) → IsInfimum (λ i. Fin (f i)) (Fin x)
    → IsSupremum (λ i. Fin (c -ℚ f i)) (Fin (c -ℚ x))
reflected_supremum f c x h = record {
  above = λ i. let l = h.below i in let a = f i in with3 a c x (λ o. omega (arith, o.le, o.lt, o.same));
  near = λ y l.
      let (i, m) = h.near (c -ℚ y) (with3 c x y (λ o. omega (arith, o.le, o.lt, o.same))) in
      let a = f i in
      (i, with3 a c y (λ o. omega (arith, o.le, o.lt, o.same)));
}
