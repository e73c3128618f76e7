-- Times at which a curve is read by its pieces as they are kept. Own choice.
use Rattle.rational.specs.Rational.{ℚ, ◌+ℚ◌, ◌<ℚ◌}
use Rattle.upp_curve.specs.declared.curve.Tail.{Tail}
use Rattle.upp_curve.specs.declared.curve.Tail.TheVariants.{Periodic, Affine, Infinite}

-- before the end of the first period, where there is one
abbrev pub IsEarly : Tail → ℚ → Type 0
IsEarly (Periodic rank period rise) t = t <ℚ rank +ℚ period
IsEarly (Affine rank) t = Unit {0}
IsEarly (Infinite rank) t = Unit {0}
