-- Extended numbers beside fractions: what a sum below a fraction says, and what is taken off on both sides.
use Rattle.std.specs.Prelude.{◌≡◌, pos}
use Rattle.std.proofs.Common.{arith, refl}
use Rattle.rational.specs.Rational.{ℚ, int, ◌+ℚ◌, ◌-ℚ◌, ◌≤ℚ◌}
use Rattle.rational.specs.Extended.{Ext, ◌≤ₑ◌, ◌+ₑ◌, ◌-ₑ◌}
use Rattle.rational.specs.declared.Extended.TheVariants.{Fin, Inf}
use Rattle.rational.proofs.Linear.{with3, with5}

-- what added to a fraction stays below a fraction is finite
pub finite_below : (a w : ℚ) (x : Ext) → (Fin a +ₑ x) ≤ₑ Fin w → (b : ℚ) × (x ≡ Fin b) × (a +ℚ b ≤ℚ w)
finite_below a w (Fin b) h = (b, refl, h)
finite_below a w Inf h = absurd h

-- less is added, and more is kept below
pub add_lower : (a b v w : ℚ) (x : Ext) → a ≤ℚ b → v ≤ℚ w → (Fin b +ₑ x) ≤ₑ Fin v → (Fin a +ₑ x) ≤ₑ Fin w
add_lower a b v w (Fin x) l m h = with5 a b v w x (λ c. omega (arith, c.le, c.lt, c.same))
add_lower a b v w Inf l m h = h

-- at most 0 is added
pub add_low : (a w : ℚ) (x : Ext) → x ≤ₑ Fin (int (pos 0)) → a ≤ℚ w → (Fin a +ₑ x) ≤ₑ Fin w
add_low a w (Fin x) h l = with3 a w x (λ c. omega (arith, c.le, c.lt, c.same))
add_low a w Inf h l = h

pub minus_le : (x g : ℚ) (y : Ext) → Fin x ≤ₑ y → Fin (x -ℚ g) ≤ₑ (y -ₑ g)
minus_le x g (Fin y) h = with3 x g y (λ c. omega (arith, c.le, c.lt, c.same))
minus_le x g Inf h = tt
