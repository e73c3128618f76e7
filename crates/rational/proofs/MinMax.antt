-- The lesser and the greater of two rationals, and the tests of the order where it does not hold.
use Rattle.std.specs.Prelude.{◌≡◌, Bool, true, false, ◌⊎◌}
use Rattle.std.proofs.Common.{arith, sym, ◌∙◌, refl, subst, inl, inr}
use Rattle.rational.specs.Rational.{ℚ, ◌+ℚ◌, ◌≤ℚ◌, ◌<ℚ◌, le_q, lt_q}
use Rattle.rational.specs.MinMax.{min_q, max_q}
use Rattle.rational.proofs.Linear.{with2, with3}
use Rattle.rational.proofs.Over.{le_q_out, le_q_in, lt_q_in}
use Rattle.rational.proofs.Laws.{le_refl, le_trans, le_of_lt, le_or_lt, lt_le_trans, antisym}

-- ---- tests of fractions
pub le_q_not : (x y : ℚ) → y <ℚ x → le_q x y ≡ false
le_q_not x y l = go (le_q x y) refl
  where
    go : (b : Bool) → le_q x y ≡ b → b ≡ false
    go false e = refl
    go true e = let h = le_q_in x y e in absurd (with2 x y (λ c. omega (arith, c.le, c.lt, c.same)))

pub lt_q_not : (x y : ℚ) → y ≤ℚ x → lt_q x y ≡ false
lt_q_not x y l = go (lt_q x y) refl
  where
    go : (b : Bool) → lt_q x y ≡ b → b ≡ false
    go false e = refl
    go true e = let h = lt_q_in x y e in absurd (with2 x y (λ c. omega (arith, c.le, c.lt, c.same)))

pub min_q_left : (x y : ℚ) → x ≤ℚ y → min_q x y ≡ x
unfolding min_q
min_q_left x y h = rw (le_q_out x y h) refl

pub min_q_right : (x y : ℚ) → y <ℚ x → min_q x y ≡ y
unfolding min_q
min_q_right x y h = rw (le_q_not x y h) refl

pub max_q_right : (x y : ℚ) → x ≤ℚ y → max_q x y ≡ y
unfolding max_q
max_q_right x y h = rw (le_q_out x y h) refl

pub max_q_left : (x y : ℚ) → y <ℚ x → max_q x y ≡ x
unfolding max_q
max_q_left x y h = rw (le_q_not x y h) refl

-- ---- the lesser of two
pub min_q_le_left : (x y : ℚ) → min_q x y ≤ℚ x
min_q_le_left x y =
    elim (le_or_lt x y) [ inl h ↦ rw (min_q_left x y h) (le_refl x) | inr l ↦ rw (min_q_right x y l) (le_of_lt l) ]

pub min_q_le_right : (x y : ℚ) → min_q x y ≤ℚ y
min_q_le_right x y =
    elim (le_or_lt x y) [ inl h ↦ rw (min_q_left x y h) h | inr l ↦ rw (min_q_right x y l) (le_refl y) ]

-- it is the greatest that is at most both
pub min_q_ge : (x y z : ℚ) → z ≤ℚ x → z ≤ℚ y → z ≤ℚ min_q x y
min_q_ge x y z h k = elim (le_or_lt x y) [ inl l ↦ rw (min_q_left x y l) h | inr l ↦ rw (min_q_right x y l) k ]

-- and one of the two
pub min_q_one : (x y : ℚ) → (min_q x y ≡ x) ⊎ (min_q x y ≡ y)
min_q_one x y = elim (le_or_lt x y) [ inl h ↦ inl (min_q_left x y h) | inr l ↦ inr (min_q_right x y l) ]

pub min_q_comm : (x y : ℚ) → min_q x y ≡ min_q y x
min_q_comm x y = antisym (turned x y, turned y x)
  where
    turned : (x y : ℚ) → min_q x y ≤ℚ min_q y x
    turned x y = min_q_ge y x (min_q x y) (min_q_le_right x y) (min_q_le_left x y)

pub min_q_assoc : (x y z : ℚ) → min_q (min_q x y) z ≡ min_q x (min_q y z)
min_q_assoc x y z =
    let l = min_q_le_left (min_q x y) z in
    let m = min_q_le_right x (min_q y z) in
    antisym (
      min_q_ge _ _ _ (le_trans l (min_q_le_left x y)) (min_q_ge _ _ _ (le_trans l (min_q_le_right x y)) (min_q_le_right (min_q x y) z)),
      min_q_ge _ _ _ (min_q_ge _ _ _ (min_q_le_left x (min_q y z)) (le_trans m (min_q_le_left y z))) (le_trans m (min_q_le_right y z)),
    )

-- the second where it is at most the first
pub min_q_is_right : (x y : ℚ) → y ≤ℚ x → min_q x y ≡ y
min_q_is_right x y h = min_q_comm x y ∙ min_q_left y x h

pub min_q_self : (x : ℚ) → min_q x x ≡ x
min_q_self x = min_q_left x x (le_refl x)

pub min_q_mono : (x y z w : ℚ) → x ≤ℚ z → y ≤ℚ w → min_q x y ≤ℚ min_q z w
min_q_mono x y z w h k = min_q_ge z w (min_q x y) (le_trans (min_q_le_left x y) h) (le_trans (min_q_le_right x y) k)

pub below_min_out : (x y t : ℚ) → t <ℚ min_q x y → (t <ℚ x) × (t <ℚ y)
below_min_out x y t h = (lt_le_trans h (min_q_le_left x y), lt_le_trans h (min_q_le_right x y))

pub below_min_in : (x y t : ℚ) → t <ℚ x → t <ℚ y → t <ℚ min_q x y
below_min_in x y t h k = elim (le_or_lt x y) [
  | inl l ↦ subst (λ z. t <ℚ z) (sym (min_q_left x y l)) h
  | inr l ↦ subst (λ z. t <ℚ z) (sym (min_q_right x y l)) k
]

-- ---- the greater of two
pub max_q_ge_left : (x y : ℚ) → x ≤ℚ max_q x y
max_q_ge_left x y = elim (le_or_lt x y) [ inl h ↦ rw (max_q_right x y h) h | inr l ↦ rw (max_q_left x y l) (le_refl x) ]

pub max_q_ge_right : (x y : ℚ) → y ≤ℚ max_q x y
max_q_ge_right x y =
    elim (le_or_lt x y) [ inl h ↦ rw (max_q_right x y h) (le_refl y) | inr l ↦ rw (max_q_left x y l) (le_of_lt l) ]

-- it is the least that is at least both
pub max_q_le : (x y z : ℚ) → x ≤ℚ z → y ≤ℚ z → max_q x y ≤ℚ z
max_q_le x y z h k = elim (le_or_lt x y) [ inl l ↦ rw (max_q_right x y l) k | inr l ↦ rw (max_q_left x y l) h ]

-- and one of the two
pub max_q_one : (x y : ℚ) → (max_q x y ≡ x) ⊎ (max_q x y ≡ y)
max_q_one x y = elim (le_or_lt x y) [ inl h ↦ inr (max_q_right x y h) | inr l ↦ inl (max_q_left x y l) ]

pub max_q_comm : (x y : ℚ) → max_q x y ≡ max_q y x
max_q_comm x y = antisym (turned x y, turned y x)
  where
    turned : (x y : ℚ) → max_q x y ≤ℚ max_q y x
    turned x y = max_q_le x y (max_q y x) (max_q_ge_right y x) (max_q_ge_left y x)

pub max_q_assoc : (x y z : ℚ) → max_q (max_q x y) z ≡ max_q x (max_q y z)
max_q_assoc x y z =
    let l = max_q_ge_left (max_q x y) z in
    let m = max_q_ge_right x (max_q y z) in
    antisym (
      max_q_le _ _ _ (max_q_le _ _ _ (max_q_ge_left x (max_q y z)) (le_trans (max_q_ge_left y z) m)) (le_trans (max_q_ge_right y z) m),
      max_q_le _ _ _ (le_trans (max_q_ge_left x y) l) (max_q_le _ _ _ (le_trans (max_q_ge_right x y) l) (max_q_ge_right (max_q x y) z)),
    )

-- the first where it is at least the second
pub max_q_is_left : (x y : ℚ) → y ≤ℚ x → max_q x y ≡ x
max_q_is_left x y h = max_q_comm x y ∙ max_q_right y x h

pub max_q_self : (x : ℚ) → max_q x x ≡ x
max_q_self x = max_q_right x x (le_refl x)

pub max_q_mono : (x y z w : ℚ) → x ≤ℚ z → y ≤ℚ w → max_q x y ≤ℚ max_q z w
max_q_mono x y z w h k = max_q_le x y (max_q z w) (le_trans h (max_q_ge_left z w)) (le_trans k (max_q_ge_right z w))

pub max_q_lt : (x y z : ℚ) → x <ℚ z → y <ℚ z → max_q x y <ℚ z
max_q_lt x y z h k = elim (le_or_lt x y) [
  | inl l ↦ subst (λ w. w <ℚ z) (sym (max_q_right x y l)) k
  | inr l ↦ subst (λ w. w <ℚ z) (sym (max_q_left x y l)) h
]

-- ---- the two together
-- a term comes out
pub min_q_add : (x y z : ℚ) → min_q x y +ℚ z ≡ min_q (x +ℚ z) (y +ℚ z)
min_q_add x y z = elim (le_or_lt x y) [
  | inl l ↦ rw (min_q_left x y l) (sym (min_q_left (x +ℚ z) (y +ℚ z) (with3 x y z (λ c. omega (arith, c.le, c.lt, c.same)))))
  | inr l ↦ rw (min_q_right x y l) (sym (min_q_right (x +ℚ z) (y +ℚ z) (with3 x y z (λ c. omega (arith, c.le, c.lt, c.same)))))
]

pub max_q_add : (x y z : ℚ) → max_q x y +ℚ z ≡ max_q (x +ℚ z) (y +ℚ z)
max_q_add x y z = elim (le_or_lt x y) [
  | inl l ↦ rw (max_q_right x y l) (sym (max_q_right (x +ℚ z) (y +ℚ z) (with3 x y z (λ c. omega (arith, c.le, c.lt, c.same)))))
  | inr l ↦ rw (max_q_left x y l) (sym (max_q_left (x +ℚ z) (y +ℚ z) (with3 x y z (λ c. omega (arith, c.le, c.lt, c.same)))))
]
