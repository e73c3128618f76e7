-- The copies of a part as the calls on it take them. Own choice.
use Rattle.std.specs.Prelude.{Option, Some, None}
use Rattle.rational.specs.Rational.{ℚ}
use Rattle.subadd_closure.specs.declared.part.Copies.{Copies}

-- the period and the rise of copies
abbrev pub turn_of : Option Copies → Option (ℚ × ℚ)
turn_of None = None
turn_of (Some k) = Some (k.period, k.rise)
