-- The bounds of a family of rationals with infinity. Textbook, but for the form, which is own choice: one clause
-- serves finite and infinite bounds, and hands out the member that is close.
use Rattle.rational.specs.Rational.{ℚ}
use Rattle.rational.specs.Extended.{Ext, ◌≤ₑ◌, ◌<ₑ◌}
use Rattle.rational.specs.declared.Extended.TheVariants.{Fin}

-- the infimum x of the members F: it is at most each, and each number above it is above some member
pub record IsInfimum {I : Type 0} (F : I → Ext) (x : Ext) : Type 0 where
  pub below : (i : I) → x ≤ₑ F i
  pub near : (y : ℚ) → x <ₑ Fin y → (i : I) × (F i <ₑ Fin y)

-- the supremum x of the members F: it is at least each, and each number below it is below some member; so where it is
-- infinite some member is above any number
pub record IsSupremum {I : Type 0} (F : I → Ext) (x : Ext) : Type 0 where
  pub above : (i : I) → F i ≤ₑ x
  pub near : (y : ℚ) → Fin y <ₑ x → (i : I) × (Fin y <ₑ F i)
