-- The tests of equality and order of the rationals.
use Rattle.std.specs.Prelude.{Bool}
use Rattle.std.specs.declared.option.Option.{Option}
use Rattle.std.specs.declared.option.Option.TheVariants.{Some}
use Rattle.std.specs.declared.cmp.Ordering.{Ordering}
use Rattle.std.specs.Ordering.{is_eq}
use Rattle.rational.specs.Rational.{ℚ}
use Rattle.rational.specs.Ratio.{cmp_q}

-- whether two are one
abbrev pub same_q : ℚ → ℚ → Bool
same_q x y = is_eq (cmp_q x y)

-- any two are in order
abbrev pub partial_cmp_q : ℚ → ℚ → Option Ordering
partial_cmp_q x y = Some (cmp_q x y)
