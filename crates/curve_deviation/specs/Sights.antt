-- What a walk over two rising curves sees from where it stands: a stretch of each. Own choice.
use Rattle.std.specs.Prelude.{◌≡◌, ◌⊎◌}
use Rattle.rational.specs.Rational.{ℚ, ◌<ℚ◌}
use Rattle.rational.specs.Extended.{Ext}
use Rattle.upp_limits.specs.Limits.{Sizes}
use Rattle.curve_deviation.specs.declared.cells.Cell.{Cell}
use Rattle.curve_deviation.specs.declared.cells.Levels.{Levels}
use Rattle.curve_deviation.specs.declared.walks.Walk.{Walk}
use Rattle.curve_deviation.specs.declared.walks.Sight.{Sight}
use Rattle.curve_deviation.specs.Rises.{IsRiseFrom, RiseSizes}

-- the two lines, each over its stretch
abbrev pub cell_in : Walk → Sight → Cell
cell_in w s = record { first = s.above.line; start = w.time; end = s.above.until; second = s.below.line; from = w.reached; until = s.below.until }

-- their values where they start and end
abbrev pub levels_in : Sight → Levels
levels_in s = record { start = s.above.low; end = s.above.high; from = s.below.low; until = s.below.high }

-- the first curve's stretch is seen while the walk is not at its end
pub record Sees (z : Sizes) (f g : ℚ → Ext) (w : Walk) (until end : ℚ) (s : Sight) : Type 0 where
  pub first : w.time <ℚ until → IsRiseFrom f w.time until s.above × RiseSizes z end s.above
  pub second : IsRiseFrom g w.reached end s.below × RiseSizes z end s.below

-- from w to v one of the two stretches was passed
abbrev pub HasPassed : Walk → Sight → Walk → Type 0
HasPassed w s v = ((v.time ≡ s.above.until) × (v.reached ≡ w.reached)) ⊎ ((v.time ≡ w.time) × (v.reached ≡ s.below.until))
