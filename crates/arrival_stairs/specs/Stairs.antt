-- Links as stairs, and bundles of links that come to a queue from one port: their stairs together, at most the pace of
-- that port. (Le Boudec and Thiran, stair functions; grouping of flows by their input link.)
use Rattle.std.specs.Prelude.{ℕ, suc, ◌+◌, ◌*◌, ◌/◌, ◌^◌, ◌<◌, List, [], ◌∷◌, All, map, Option, Some, None}
use Rattle.std.specs.List.{sum_by}
use Rattle.rational.specs.Rational.{ℚ, ◌+ℚ◌, ◌*ℚ◌, ◌/ℚ◌}
use Rattle.rational.specs.MinMax.{min_q}
use Rattle.rational.specs.Whole.{whole_part}
use Rattle.min_plus.specs.Functions.{zero_q, whole}
use Rattle.arrival_lines.specs.Grid.{bits, micros, line_value}
use Rattle.arrival_lines.specs.Steps.{most_burst, most_rate}
use Rattle.arrival_lines.specs.declared.grid.Line.{Line}
use Rattle.arrival_lines.specs.declared.grid.Part.{Part}
use Rattle.arrival_stairs.specs.declared.stairs.Bundle.{Bundle}
use Rattle.arrival_stairs.specs.declared.stairs.Stair.{Stair}

-- ---- by a time
-- a frame each gap, each up to the jitter early
abbrev pub stair_at : Stair → ℚ → ℚ
stair_at s t = bits s.frame *ℚ whole (suc (whole_part ((t +ℚ micros s.jitter) /ℚ micros s.gap)))

-- the sum of some stairs
unfoldable pub stairs_at : List Stair → ℚ → ℚ
stairs_at [] t = zero_q
stairs_at (s ∷ ss) t = stair_at s t +ℚ stairs_at ss t

abbrev pub capped : Option Line → ℚ → ℚ → ℚ
capped None v t = v
capped (Some pace) v t = min_q v (line_value pace t)

-- the stairs together, at most the pace
abbrev pub bundle_at : Bundle → ℚ → ℚ
bundle_at b t = capped b.pace (stairs_at b.stairs.items t) t

-- the sum of some bundles
unfoldable pub bundles_at : List Bundle → ℚ → ℚ
bundles_at [] t = zero_q
bundles_at (b ∷ bs) t = bundle_at b t +ℚ bundles_at bs t

-- ---- at a picosecond, in grains
abbrev pub stair_level : ℕ → Stair → ℕ
stair_level n s = s.frame * ((n + s.jitter) / s.gap + 1)

abbrev pub bundle_level : ℕ → Bundle → ℕ
bundle_level n b = sum_by (stair_level n) b.stairs.items

-- a part that stays at a level, at most its pace
abbrev pub level_part : ℕ → Option Line → Part
level_part level pace = record { sum = record { burst = level; rate = 0 }; pace = pace }

abbrev pub bundle_part : ℕ → Bundle → Part
bundle_part n b = level_part (bundle_level n b) b.pace

abbrev pub levels_at : List Bundle → ℕ → List Part
levels_at bundles n = map (bundle_part n) bundles

-- ---- which are meant
pub record IsStair (s : Stair) : Type 0 where
  pub frame : s.frame < 2 ^ 35
  pub some_gap : 0 < s.gap
  pub jitter : s.jitter < 2 ^ 62

-- what they bring at 0, or their paces do where these are more, is together below 2 ^ 61 grains
pub record AreBundles (bundles : List Bundle) : Type 0 where
  pub stairs : All (λ b. All IsStair b.stairs.items) bundles
  pub bursts : sum_by most_burst (levels_at bundles 0) < 2 ^ 61
  pub rates : sum_by most_rate (levels_at bundles 0) < 2 ^ 62
