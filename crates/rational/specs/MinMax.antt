-- The lesser and the greater of two rationals. Textbook.
use Rattle.std.specs.Prelude.{cond}
use Rattle.rational.specs.Rational.{ℚ, le_q}

-- the lesser of two
unfoldable pub min_q : ℚ → ℚ → ℚ
min_q x y = cond (le_q x y) x y

-- the greater of two
unfoldable pub max_q : ℚ → ℚ → ℚ
max_q x y = cond (le_q x y) y x
