-- Whole numbers, rounded up. Own choice.
use Rattle.std.specs.Prelude.{ℕ, suc, pos, cond}
use Rattle.rational.specs.Rational.{ℚ, int, le_q}
use Rattle.rational.specs.Whole.{whole_part}

-- the least whole number at least x, and 0 below 0
abbrev pub whole_up : ℚ → ℕ
whole_up x = cond (le_q x (int (pos (whole_part x)))) (whole_part x) (suc (whole_part x))
