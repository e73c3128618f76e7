-- The order of the extended fractions, and their sums.
use Rattle.rational.proofs.MinMax.{min_q_le_left, min_q_le_right, min_q_one, min_q_assoc, min_q_add, max_q_ge_left}
use Rattle.rational.proofs.MinMax.{max_q_ge_right, max_q_one, max_q_assoc, max_q_add}
use Rattle.std.specs.Prelude.{◌≡◌, pos, ◌⊎◌, ◌↔◌}
use Rattle.std.proofs.Common.{arith, sym, ap, ◌∙◌, refl, subst, inl, inr}
use Rattle.rational.specs.Rational.{ℚ, ◌+ℚ◌, ◌-ℚ◌, int}
use Rattle.rational.proofs.Linear.{with1, with3, with4}
use Rattle.rational.proofs.Laws.{antisym, le_refl, le_trans, le_or_lt, le_of_lt, lt_irrefl, between, add_comm}
use Rattle.rational.proofs.Laws.{add_assoc}
use Rattle.rational.specs.Extended.{Ext, ◌≤ₑ◌, ◌<ₑ◌, ◌+ₑ◌, min_ext, max_ext}
use Rattle.rational.specs.declared.Extended.TheVariants.{Fin, Inf}

-- ---- the order
pub le_ext_refl : (x : Ext) → x ≤ₑ x
le_ext_refl (Fin x) = le_refl x
le_ext_refl Inf = tt

pub same_le_ext : {x y : Ext} → x ≡ y → x ≤ₑ y
same_le_ext {x} {y} e = subst (λ z. x ≤ₑ z) e (le_ext_refl x)

pub le_inf : (x : Ext) → x ≤ₑ Inf
le_inf x = tt

pub le_ext_trans : (x y z : Ext) → x ≤ₑ y → y ≤ₑ z → x ≤ₑ z
le_ext_trans x y Inf h k = tt
le_ext_trans x Inf (Fin z) h k = absurd k
le_ext_trans Inf (Fin y) (Fin z) h k = absurd h
le_ext_trans (Fin x) (Fin y) (Fin z) h k = le_trans h k

pub le_lt_ext : (x y z : Ext) → x ≤ₑ y → y <ₑ z → x <ₑ z
le_lt_ext x Inf z h k = absurd k
le_lt_ext Inf (Fin y) z h k = absurd h
le_lt_ext (Fin x) (Fin y) Inf h k = tt
le_lt_ext (Fin x) (Fin y) (Fin z) h k = with3 x y z (λ c. omega (arith, c.le, c.lt, c.same))

pub lt_le_ext : (x y z : Ext) → x <ₑ y → y ≤ₑ z → x <ₑ z
lt_le_ext Inf y z h k = absurd h
lt_le_ext (Fin x) y Inf h k = tt
lt_le_ext (Fin x) Inf (Fin z) h k = absurd k
lt_le_ext (Fin x) (Fin y) (Fin z) h k = with3 x y z (λ c. omega (arith, c.le, c.lt, c.same))

pub le_of_lt_ext : (x y : Ext) → x <ₑ y → x ≤ₑ y
le_of_lt_ext Inf y h = absurd h
le_of_lt_ext (Fin x) Inf h = tt
le_of_lt_ext (Fin x) (Fin y) h = le_of_lt h

pub le_or_lt_ext : (x y : Ext) → (x ≤ₑ y) ⊎ (y <ₑ x)
le_or_lt_ext x Inf = inl tt
le_or_lt_ext Inf (Fin y) = inr tt
le_or_lt_ext (Fin x) (Fin y) = le_or_lt x y

pub antisym_ext : (x y : Ext) → x ≤ₑ y → y ≤ₑ x → x ≡ y
antisym_ext (Fin x) (Fin y) h k = ap Fin (antisym (h, k))
antisym_ext (Fin x) Inf h k = absurd k
antisym_ext Inf (Fin y) h k = absurd h
antisym_ext Inf Inf h k = refl

pub lt_ext_irrefl : (x : Ext) → ¬ (x <ₑ x)
lt_ext_irrefl (Fin x) h = lt_irrefl x h
lt_ext_irrefl Inf h = h

-- less is not at least
pub lt_ext_not_le : (x y : Ext) → (x <ₑ y) ↔ ¬ (y ≤ₑ x)
lt_ext_not_le x y = (
  λ h l. lt_ext_irrefl x (lt_le_ext x y x h l),
  λ h. elim (le_or_lt_ext y x) [ inl l ↦ absurd (h l) | inr l ↦ l ],
)

pub lt_ext_trans : (x y z : Ext) → x <ₑ y → y <ₑ z → x <ₑ z
lt_ext_trans x y z h k = lt_le_ext x y z h (le_of_lt_ext y z k)

pub le_ext_total : (x y : Ext) → (x ≤ₑ y) ⊎ (y ≤ₑ x)
le_ext_total x y = elim (le_or_lt_ext x y) [ inl h ↦ inl h | inr h ↦ inr (le_of_lt_ext y x h) ]

-- finite numbers are equal where their fractions are
pub fin_same : {x y : ℚ} → Fin x ≡ Fin y → x ≡ y
fin_same {x} {y} e = antisym (same_le_ext e, same_le_ext (sym e))

-- what is at most a fraction is one
pub finite_below : (x : Ext) (y : ℚ) → x ≤ₑ Fin y → (q : ℚ) × (x ≡ Fin q)
finite_below (Fin x) y h = (x, refl)
finite_below Inf y h = absurd h

-- at most each fraction above z: at most z
pub by_upper : (x z : Ext) → ((y : ℚ) → z <ₑ Fin y → x ≤ₑ Fin y) → x ≤ₑ z
by_upper x Inf f = tt
by_upper Inf (Fin z) f = f (z +ℚ int (pos 1)) (with1 z (λ c. omega (arith, c.le, c.lt, c.same)))
by_upper (Fin x) (Fin z) f = elim (le_or_lt x z) [
  | inl h ↦ h
  | inr l ↦
      let (m, p, q) = between z x l in
      let h = f m p in
      absurd (with3 x z m (λ c. omega (arith, c.le, c.lt, c.same)))
]

-- at least each fraction below z: at least z
pub by_lower : (x z : Ext) → ((y : ℚ) → Fin y <ₑ z → Fin y ≤ₑ x) → z ≤ₑ x
by_lower Inf z f = tt
by_lower (Fin x) Inf f =
    let h = f (x +ℚ int (pos 1)) tt in
    absurd (with1 x (λ c. omega (arith, c.le, c.lt, c.same)))
by_lower (Fin x) (Fin z) f = elim (le_or_lt z x) [
  | inl h ↦ h
  | inr l ↦
      let (m, p, q) = between x z l in
      let h = f m q in
      absurd (with3 x z m (λ c. omega (arith, c.le, c.lt, c.same)))
]

-- ---- sums: a commutative monoid with the order
pub add_ext_comm : (x y : Ext) → x +ₑ y ≡ y +ₑ x
add_ext_comm (Fin x) (Fin y) = ap Fin (add_comm x y)
add_ext_comm (Fin x) Inf = refl
add_ext_comm Inf (Fin y) = refl
add_ext_comm Inf Inf = refl

pub add_ext_assoc : (x y z : Ext) → (x +ₑ y) +ₑ z ≡ x +ₑ (y +ₑ z)
add_ext_assoc Inf y z = refl
add_ext_assoc (Fin x) Inf z = refl
add_ext_assoc (Fin x) (Fin y) Inf = refl
add_ext_assoc (Fin x) (Fin y) (Fin z) = ap Fin (add_assoc x y z)

pub add_zero_ext : (x : Ext) → x +ₑ Fin (int (pos 0)) ≡ x
add_zero_ext Inf = refl
add_zero_ext (Fin x) = ap Fin (with1 x (λ c. omega (arith, c.le, c.lt, c.same)))

pub zero_add_ext : (x : Ext) → Fin (int (pos 0)) +ₑ x ≡ x
zero_add_ext x = add_ext_comm (Fin (int (pos 0))) x ∙ add_zero_ext x

-- with two fractions
pub add_assoc_ext : (x : Ext) (a b : ℚ) → (x +ₑ Fin a) +ₑ Fin b ≡ x +ₑ Fin (a +ℚ b)
add_assoc_ext x a b = add_ext_assoc x (Fin a) (Fin b)

pub add_le_ext : (x y z w : Ext) → x ≤ₑ y → z ≤ₑ w → x +ₑ z ≤ₑ y +ₑ w
add_le_ext x Inf z w h k = tt
add_le_ext x (Fin y) z Inf h k = tt
add_le_ext Inf (Fin y) z (Fin w) h k = absurd h
add_le_ext (Fin x) (Fin y) Inf (Fin w) h k = absurd k
add_le_ext (Fin x) (Fin y) (Fin z) (Fin w) h k = with4 x y z w (λ c. omega (arith, c.le, c.lt, c.same))

-- a fraction moves to the other side
pub lt_add_out : (x : Ext) (c y : ℚ) → x +ₑ Fin c <ₑ Fin y → x <ₑ Fin (y -ℚ c)
lt_add_out Inf c y h = absurd h
lt_add_out (Fin x) c y h = with3 x c y (λ c. omega (arith, c.le, c.lt, c.same))

pub lt_add_in : (x : Ext) (c y : ℚ) → x <ₑ Fin (y -ℚ c) → x +ₑ Fin c <ₑ Fin y
lt_add_in Inf c y h = absurd h
lt_add_in (Fin x) c y h = with3 x c y (λ c. omega (arith, c.le, c.lt, c.same))

pub gt_add_out : (x : Ext) (c y : ℚ) → Fin y <ₑ x +ₑ Fin c → Fin (y -ℚ c) <ₑ x
gt_add_out Inf c y h = tt
gt_add_out (Fin x) c y h = with3 x c y (λ c. omega (arith, c.le, c.lt, c.same))

pub gt_add_in : (x : Ext) (c y : ℚ) → Fin (y -ℚ c) <ₑ x → Fin y <ₑ x +ₑ Fin c
gt_add_in Inf c y h = tt
gt_add_in (Fin x) c y h = with3 x c y (λ c. omega (arith, c.le, c.lt, c.same))

-- a fraction cancels
pub le_add_cancel_ext : (x y : Ext) (c : ℚ) → x +ₑ Fin c ≤ₑ y +ₑ Fin c → x ≤ₑ y
le_add_cancel_ext x Inf c h = tt
le_add_cancel_ext Inf (Fin y) c h = absurd h
le_add_cancel_ext (Fin x) (Fin y) c h = with3 x y c (λ o. omega (arith, o.le, o.lt, o.same))

pub add_cancel_ext : (x y : Ext) (c : ℚ) → x +ₑ Fin c ≡ y +ₑ Fin c → x ≡ y
add_cancel_ext x y c e =
    antisym_ext x y (le_add_cancel_ext x y c (same_le_ext e)) (le_add_cancel_ext y x c (same_le_ext (sym e)))

pub add_lt_lt_ext : (x y z w : Ext) → x <ₑ y → z <ₑ w → x +ₑ z <ₑ y +ₑ w
add_lt_lt_ext Inf y z w h k = absurd h
add_lt_lt_ext (Fin x) y Inf w h k = absurd k
add_lt_lt_ext (Fin x) Inf (Fin z) w h k = tt
add_lt_lt_ext (Fin x) (Fin y) (Fin z) Inf h k = tt
add_lt_lt_ext (Fin x) (Fin y) (Fin z) (Fin w) h k = with4 x y z w (λ o. omega (arith, o.le, o.lt, o.same))

-- a sum is finite where both terms are
pub finite_sum : (x y : Ext) (q : ℚ) → x +ₑ y ≡ Fin q → (a : ℚ) × (b : ℚ) × (x ≡ Fin a) × (y ≡ Fin b)
finite_sum (Fin x) (Fin y) q e = (x, y, refl, refl)
finite_sum (Fin x) Inf q e = absurd (same_le_ext e)
finite_sum Inf y q e = absurd (same_le_ext e)

-- ---- less a fraction
-- ---- the lesser of two
pub min_left : (x y : Ext) → min_ext x y ≤ₑ x
min_left Inf y = tt
min_left (Fin x) Inf = le_refl x
min_left (Fin x) (Fin y) = min_q_le_left x y

pub min_right : (x y : Ext) → min_ext x y ≤ₑ y
min_right Inf y = le_ext_refl y
min_right (Fin x) Inf = tt
min_right (Fin x) (Fin y) = min_q_le_right x y

-- it is one of the two
pub min_one : (x y : Ext) → (min_ext x y ≡ x) ⊎ (min_ext x y ≡ y)
min_one Inf y = inr refl
min_one (Fin x) Inf = inl refl
min_one (Fin x) (Fin y) = elim (min_q_one x y) [ inl e ↦ inl (ap Fin e) | inr e ↦ inr (ap Fin e) ]

-- it is the greatest that is at most both
pub min_greatest : (x y z : Ext) → z ≤ₑ x → z ≤ₑ y → z ≤ₑ min_ext x y
min_greatest x y z h k =
    elim (min_one x y) [ inl e ↦ subst (λ v. z ≤ₑ v) (sym e) h | inr e ↦ subst (λ v. z ≤ₑ v) (sym e) k ]

pub min_ext_comm : (x y : Ext) → min_ext x y ≡ min_ext y x
min_ext_comm x y = antisym_ext _ _ (turned x y) (turned y x)
  where
    turned : (x y : Ext) → min_ext x y ≤ₑ min_ext y x
    turned x y = min_greatest y x (min_ext x y) (min_right x y) (min_left x y)

pub min_ext_assoc : (x y z : Ext) → min_ext (min_ext x y) z ≡ min_ext x (min_ext y z)
min_ext_assoc Inf y z = refl
min_ext_assoc (Fin x) Inf z = refl
min_ext_assoc (Fin x) (Fin y) Inf = refl
min_ext_assoc (Fin x) (Fin y) (Fin z) = ap Fin (min_q_assoc x y z)

-- the lesser first
pub min_ext_of_le : (x y : Ext) → x ≤ₑ y → min_ext x y ≡ x
min_ext_of_le x y h = antisym_ext _ _ (min_left x y) (min_greatest x y x (le_ext_refl x) h)

pub min_ext_mono : (x y z w : Ext) → x ≤ₑ z → y ≤ₑ w → min_ext x y ≤ₑ min_ext z w
min_ext_mono x y z w h k =
    min_greatest z w (min_ext x y) (le_ext_trans _ x z (min_left x y) h) (le_ext_trans _ y w (min_right x y) k)

-- a term comes out
pub min_add_ext : (x y z : Ext) → min_ext x y +ₑ z ≡ min_ext (x +ₑ z) (y +ₑ z)
min_add_ext Inf y z = refl
min_add_ext (Fin x) y Inf = infinite x y
  where
    infinite : (x : ℚ) (y : Ext) → min_ext (Fin x) y +ₑ Inf ≡ min_ext Inf (y +ₑ Inf)
    infinite x (Fin y) = refl
    infinite x Inf = refl
min_add_ext (Fin x) Inf (Fin z) = refl
min_add_ext (Fin x) (Fin y) (Fin z) = ap Fin (min_q_add x y z)

-- ---- the greater of two
pub max_left : (x y : Ext) → x ≤ₑ max_ext x y
max_left Inf y = tt
max_left (Fin x) Inf = tt
max_left (Fin x) (Fin y) = max_q_ge_left x y

pub max_right : (x y : Ext) → y ≤ₑ max_ext x y
max_right Inf y = le_inf y
max_right (Fin x) Inf = tt
max_right (Fin x) (Fin y) = max_q_ge_right x y

-- it is one of the two
pub max_one : (x y : Ext) → (max_ext x y ≡ x) ⊎ (max_ext x y ≡ y)
max_one Inf y = inl refl
max_one (Fin x) Inf = inr refl
max_one (Fin x) (Fin y) = elim (max_q_one x y) [ inl e ↦ inl (ap Fin e) | inr e ↦ inr (ap Fin e) ]

-- and the least that is at least both
pub max_least : (x y z : Ext) → x ≤ₑ z → y ≤ₑ z → max_ext x y ≤ₑ z
max_least x y z h k =
    elim (max_one x y) [ inl e ↦ subst (λ v. v ≤ₑ z) (sym e) h | inr e ↦ subst (λ v. v ≤ₑ z) (sym e) k ]

pub max_ext_comm : (x y : Ext) → max_ext x y ≡ max_ext y x
max_ext_comm x y = antisym_ext _ _ (turned x y) (turned y x)
  where
    turned : (x y : Ext) → max_ext x y ≤ₑ max_ext y x
    turned x y = max_least x y (max_ext y x) (max_right y x) (max_left y x)

pub max_ext_assoc : (x y z : Ext) → max_ext (max_ext x y) z ≡ max_ext x (max_ext y z)
max_ext_assoc Inf y z = refl
max_ext_assoc (Fin x) Inf z = refl
max_ext_assoc (Fin x) (Fin y) Inf = refl
max_ext_assoc (Fin x) (Fin y) (Fin z) = ap Fin (max_q_assoc x y z)

-- the lesser first
pub max_ext_of_le : (x y : Ext) → x ≤ₑ y → max_ext x y ≡ y
max_ext_of_le x y h = antisym_ext _ _ (max_least x y y h (le_ext_refl y)) (max_right x y)

pub max_ext_mono : (x y z w : Ext) → x ≤ₑ z → y ≤ₑ w → max_ext x y ≤ₑ max_ext z w
max_ext_mono x y z w h k =
    max_least x y (max_ext z w) (le_ext_trans x z _ h (max_left z w)) (le_ext_trans y w _ k (max_right z w))

pub max_add_ext : (x y z : Ext) → max_ext x y +ₑ z ≡ max_ext (x +ₑ z) (y +ₑ z)
max_add_ext Inf y z = refl
max_add_ext (Fin x) y Inf = infinite x y
  where
    infinite : (x : ℚ) (y : Ext) → max_ext (Fin x) y +ₑ Inf ≡ max_ext Inf (y +ₑ Inf)
    infinite x (Fin y) = refl
    infinite x Inf = refl
max_add_ext (Fin x) Inf (Fin z) = refl
max_add_ext (Fin x) (Fin y) (Fin z) = ap Fin (max_q_add x y z)

pub not_past : (x : Ext) (t : ℚ) → x ≤ₑ Fin t → Fin t <ₑ x → ⊥
not_past x t h k = (lt_ext_not_le (Fin t) x).0 k h
