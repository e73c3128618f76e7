-- The lower, the upper and the excess of two values, where both rise: by how much it rises, from which of the two is above before and after.
use Rattle.std.specs.Prelude.{◌≡◌, pos, ◌⊎◌}
use Rattle.std.proofs.Common.{arith, sym, ap, ap₂, ◌∙◌, refl, subst, inl, inr}
use Rattle.rational.specs.Rational.{ℚ, ◌+ℚ◌, ◌-ℚ◌, ◌≤ℚ◌, int}
use Rattle.rational.specs.MinMax.{max_q}
use Rattle.rational.specs.Extended.{Ext, ◌≤ₑ◌, ◌<ₑ◌, ◌+ₑ◌, min_ext, max_ext}
use Rattle.rational.specs.declared.Extended.TheVariants.{Fin, Inf}
use Rattle.rational.proofs.Linear.{with1, with2, with3, with4}
use Rattle.rational.proofs.MinMax.{max_q_is_left, max_q_right}
use Rattle.rational.proofs.ExtendedOrder.{min_ext_of_le, min_ext_comm, max_ext_of_le, max_ext_comm, min_add_ext, max_add_ext, lt_ext_trans, lt_ext_irrefl, le_or_lt_ext, antisym_ext}
use Rattle.min_plus.specs.Pointwise.{excess}

-- two rates: one is less, or they are one
pub rates_compared : (x y : Ext) → (x <ₑ y) ⊎ ((x ≡ y) ⊎ (y <ₑ x))
rates_compared x y = elim (le_or_lt_ext x y) [
  | inr l ↦ inr (inr l)
  | inl h ↦ elim (le_or_lt_ext y x) [
    | inr l ↦ inl l
    | inl k ↦ inr (inl (antisym_ext x y h k))
  ]
]

pub not_both : (x y : Ext) → x <ₑ y → ¬ (y <ₑ x)
not_both x y h k = lt_ext_irrefl x (lt_ext_trans x y x h k)

pub not_same : (x y : Ext) → x ≡ y → ¬ (x <ₑ y)
not_same x y e h = lt_ext_irrefl y (subst (λ z. z <ₑ y) e h)

-- ---- the lower
pub lower_first : (x y v w : Ext) (a : ℚ) → v ≡ x +ₑ Fin a → x ≤ₑ y → v ≤ₑ w → min_ext x y +ₑ Fin a ≡ min_ext v w
lower_first x y v w a e h k = ap (λ z. z +ₑ Fin a) (min_ext_of_le x y h) ∙ sym e ∙ sym (min_ext_of_le v w k)

pub lower_second : (x y v w : Ext) (b : ℚ) → w ≡ y +ₑ Fin b → y ≤ₑ x → w ≤ₑ v → min_ext x y +ₑ Fin b ≡ min_ext v w
lower_second x y v w b e h k = ap (λ z. z +ₑ Fin b) (min_ext_comm x y) ∙ lower_first y x w v b e h k ∙ min_ext_comm w v

pub lower_both : (x y v w : Ext) (a : ℚ) → v ≡ x +ₑ Fin a → w ≡ y +ₑ Fin a → min_ext x y +ₑ Fin a ≡ min_ext v w
lower_both x y v w a e d = min_add_ext x y (Fin a) ∙ ap₂ (λ p q. min_ext p q) (sym e) (sym d)

-- ---- the upper
pub upper_second : (x y v w : Ext) (b : ℚ) → w ≡ y +ₑ Fin b → x ≤ₑ y → v ≤ₑ w → max_ext x y +ₑ Fin b ≡ max_ext v w
upper_second x y v w b e h k = ap (λ z. z +ₑ Fin b) (max_ext_of_le x y h) ∙ sym e ∙ sym (max_ext_of_le v w k)

pub upper_first : (x y v w : Ext) (a : ℚ) → v ≡ x +ₑ Fin a → y ≤ₑ x → w ≤ₑ v → max_ext x y +ₑ Fin a ≡ max_ext v w
upper_first x y v w a e h k = ap (λ z. z +ₑ Fin a) (max_ext_comm x y) ∙ upper_second y x w v a e h k ∙ max_ext_comm w v

pub upper_both : (x y v w : Ext) (a : ℚ) → v ≡ x +ₑ Fin a → w ≡ y +ₑ Fin a → max_ext x y +ₑ Fin a ≡ max_ext v w
upper_both x y v w a e d = max_add_ext x y (Fin a) ∙ ap₂ (λ p q. max_ext p q) (sym e) (sym d)

-- ---- the excess
zero : ℚ
zero = int (pos 0)

pub excess_none : (x y : Ext) → x ≤ₑ y → excess x y ≡ Fin (int (pos 0))
excess_none Inf Inf h = refl
excess_none (Fin x) Inf h = refl
excess_none Inf (Fin y) h = absurd h
excess_none (Fin x) (Fin y) h = ap Fin (max_q_is_left (int (pos 0)) (x -ℚ y) (with2 x y (λ c. omega (arith, c.le, c.lt, c.same))))

pub excess_below : (x y v w : Ext) → x ≤ₑ y → v ≤ₑ w → excess x y +ₑ Fin (int (pos 0)) ≡ excess v w
excess_below x y v w h k = ap (λ z. z +ₑ Fin (int (pos 0))) (excess_none x y h) ∙ ap Fin (with1 (int (pos 0)) (λ c. omega (arith, c.le, c.lt, c.same))) ∙ sym (excess_none v w k)

pub excess_both : (x y v w : Ext) (a : ℚ) → v ≡ x +ₑ Fin a → w ≡ y +ₑ Fin a → excess x y +ₑ Fin (int (pos 0)) ≡ excess v w
excess_both x y v w a e d = same x y a ∙ ap₂ excess (sym e) (sym d)
  where
    none : int (pos 0) +ℚ int (pos 0) ≡ int (pos 0)
    none = with1 (int (pos 0)) (λ c. omega (arith, c.le, c.lt, c.same))

    alone : (z : ℚ) → z +ℚ int (pos 0) ≡ z
    alone z = with1 z (λ c. omega (arith, c.le, c.lt, c.same))

    apart : (x y a : ℚ) → x -ℚ y ≡ (x +ℚ a) -ℚ (y +ℚ a)
    apart x y a = with3 x y a (λ c. omega (arith, c.le, c.lt, c.same))

    same : (x y : Ext) (a : ℚ) → excess x y +ₑ Fin (int (pos 0)) ≡ excess (x +ₑ Fin a) (y +ₑ Fin a)
    same Inf Inf a = ap Fin none
    same (Fin x) Inf a = ap Fin none
    same Inf (Fin y) a = refl
    same (Fin x) (Fin y) a = ap Fin (alone (max_q (int (pos 0)) (x -ℚ y)) ∙ ap (max_q (int (pos 0))) (apart x y a))

pub excess_above : (x : ℚ) (y v w : Ext) (a b : ℚ) → v ≡ Fin x +ₑ Fin a → w ≡ y +ₑ Fin b → y ≤ₑ Fin x → w ≤ₑ v → excess (Fin x) y +ₑ Fin (a -ℚ b) ≡ excess v w
excess_above x Inf v w a b e d h k = absurd h
excess_above x (Fin y) v w a b e d h k =
    let late : y +ℚ b ≤ℚ x +ℚ a = subst (λ p. p ≤ₑ Fin (x +ℚ a)) d (subst (λ p. w ≤ₑ p) e k) in
    let first : max_q (int (pos 0)) (x -ℚ y) ≡ x -ℚ y = max_q_right (int (pos 0)) (x -ℚ y) (with2 x y (λ c. omega (arith, c.le, c.lt, c.same))) in
    let last : max_q (int (pos 0)) ((x +ℚ a) -ℚ (y +ℚ b)) ≡ (x +ℚ a) -ℚ (y +ℚ b) =
    max_q_right (int (pos 0)) ((x +ℚ a) -ℚ (y +ℚ b)) (with4 x y a b (λ c. omega (arith, c.le, c.lt, c.same))) in
    ap Fin (ap (λ z. z +ℚ (a -ℚ b)) first ∙ with4 x y a b (λ c. omega (arith, c.le, c.lt, c.same)) ∙ sym last) ∙ ap₂ excess (sym e) (sym d)
