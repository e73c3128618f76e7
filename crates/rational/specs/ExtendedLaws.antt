-- The laws of the rationals with infinity: a total order with a greatest number, a sum that keeps it, and the lesser
-- and the greater of two. Textbook.
use Rattle.std.specs.Prelude.{◌≡◌, pos, ◌↔◌, ◌⊎◌}
use Rattle.rational.specs.Rational.{int}
use Rattle.rational.specs.Extended.{Ext, ◌≤ₑ◌, ◌<ₑ◌, ◌+ₑ◌, min_ext, max_ext}
use Rattle.rational.specs.declared.Extended.TheVariants.{Fin, Inf}

-- a total order with a greatest number
pub record IsTotalOrder : Type 0 where
  pub le_refl : (x : Ext) → x ≤ₑ x
  pub le_trans : (x y z : Ext) → x ≤ₑ y → y ≤ₑ z → x ≤ₑ z
  pub antisym : (x y : Ext) → x ≤ₑ y → y ≤ₑ x → x ≡ y
  pub total : (x y : Ext) → (x ≤ₑ y) ⊎ (y ≤ₑ x)
  pub strict : (x y : Ext) → (x <ₑ y) ↔ ¬ (y ≤ₑ x)
  pub greatest : (x : Ext) → x ≤ₑ Inf

-- sums commute, associate, have the neutral number 0, and keep the order
pub record IsOrderedMonoid : Type 0 where
  pub add_comm : (x y : Ext) → x +ₑ y ≡ y +ₑ x
  pub add_assoc : (x y z : Ext) → (x +ₑ y) +ₑ z ≡ x +ₑ (y +ₑ z)
  pub add_zero : (x : Ext) → x +ₑ Fin (int (pos 0)) ≡ x
  pub add_le : (x y z w : Ext) → x ≤ₑ y → z ≤ₑ w → x +ₑ z ≤ₑ y +ₑ w

-- the lesser of two is the greatest number that is at most both, and one of them
pub record IsMeet (x y m : Ext) : Type 0 where
  pub left : m ≤ₑ x
  pub right : m ≤ₑ y
  pub greatest : (z : Ext) → z ≤ₑ x → z ≤ₑ y → z ≤ₑ m
  pub one : (m ≡ x) ⊎ (m ≡ y)

-- the greater of two is the least number that is at least both, and one of them
pub record IsJoin (x y m : Ext) : Type 0 where
  pub left : x ≤ₑ m
  pub right : y ≤ₑ m
  pub least : (z : Ext) → x ≤ₑ z → y ≤ₑ z → m ≤ₑ z
  pub one : (m ≡ x) ⊎ (m ≡ y)

-- both commute and associate, and a term comes out of both
pub record IsLattice : Type 0 where
  pub min_comm : (x y : Ext) → min_ext x y ≡ min_ext y x
  pub min_assoc : (x y z : Ext) → min_ext (min_ext x y) z ≡ min_ext x (min_ext y z)
  pub min_add : (x y z : Ext) → min_ext x y +ₑ z ≡ min_ext (x +ₑ z) (y +ₑ z)
  pub max_comm : (x y : Ext) → max_ext x y ≡ max_ext y x
  pub max_assoc : (x y z : Ext) → max_ext (max_ext x y) z ≡ max_ext x (max_ext y z)
  pub max_add : (x y z : Ext) → max_ext x y +ₑ z ≡ max_ext (x +ₑ z) (y +ₑ z)
