-- The lines above stairs: of a stair, and of each bundle the sum of its stairs' lines. (Le Boudec and Thiran, chapter
-- 1: the token bucket above a stair.)
use Rattle.std.specs.Prelude.{ℕ, ◌+◌, ◌*◌, ◌^◌, List, map}
use Rattle.std.specs.List.{sum_by}
use Rattle.std.specs.Int.{div_ceil}
use Rattle.rational.specs.Rational.{ℚ, ◌≤ℚ◌}
use Rattle.min_plus.specs.Functions.{zero_q}
use Rattle.arrival_lines.specs.Grid.{parts_value}
use Rattle.arrival_lines.specs.declared.grid.Part.{Part}
use Rattle.arrival_stairs.specs.Stairs.{bundles_at, AreBundles}
use Rattle.arrival_stairs.specs.declared.stairs.Bundle.{Bundle}
use Rattle.arrival_stairs.specs.declared.stairs.Stair.{Stair}

-- grains a second: a frame each gap; and a frame with what the jitter brings
abbrev pub stair_rate : Stair → ℕ
stair_rate s = div_ceil (s.frame * 10 ^ 12) s.gap

abbrev pub stair_burst : Stair → ℕ
stair_burst s = s.frame + div_ceil (stair_rate s * s.jitter) (10 ^ 12)

abbrev pub line_part : Bundle → Part
line_part b = record { sum = record { burst = sum_by stair_burst b.stairs.items; rate = sum_by stair_rate b.stairs.items }; pace = b.pace }

abbrev pub line_parts : List Bundle → List Part
line_parts bundles = map line_part bundles

-- bundles are nowhere above their lines
abbrev pub BundlesBelowLines : Type 0
BundlesBelowLines = (bundles : List Bundle) (t : ℚ) → AreBundles bundles → zero_q ≤ℚ t → bundles_at bundles t ≤ℚ parts_value (line_parts bundles) t
