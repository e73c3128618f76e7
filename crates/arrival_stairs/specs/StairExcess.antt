-- How far bundles are above a rate for ever: by their jumps up to a time, and by the steps of their lines from there on.
-- (Le Boudec and Thiran, chapter 1: the largest distance of an arrival curve from a line.)
use Rattle.std.specs.Prelude.{ℕ, ◌-◌, ◌*◌, ◌^◌, ◌<◌, ◌≤◌, ◌≡◌, max, List}
use Rattle.std.specs.Int.{div_ceil}
use Rattle.rational.specs.Rational.{ℚ, ◌≤ℚ◌}
use Rattle.min_plus.specs.Functions.{zero_q}
use Rattle.arrival_lines.specs.Steps.{IsStep}
use Rattle.arrival_lines.specs.declared.grid.Line.{Line}
use Rattle.arrival_lines.specs.declared.grid.Part.{Part}
use Rattle.arrival_heights.specs.Greatest.{IsBelow}
use Rattle.arrival_stairs.specs.Ahead.{IsAheadUpTo}
use Rattle.arrival_stairs.specs.BelowLines.{line_parts}
use Rattle.arrival_stairs.specs.Jumps.{jump_count}
use Rattle.arrival_stairs.specs.Stairs.{bundles_at, AreBundles}
use Rattle.arrival_stairs.specs.Views.{bunches}
use Rattle.arrival_stairs.specs.declared.stairs.Bundle.{Bundle}

-- ---- up to a time
-- the last time before 2 ^ 62 picoseconds up to which the bundles jump at most 4,096 times
pub record IsLastWalked (bundles : List Bundle) (last : ℕ) : Type 0 where
  pub short : last < 2 ^ 62
  pub few : jump_count last bundles ≤ 4096
  pub many : (n : ℕ) → last < n → n < 2 ^ 62 → 4096 < jump_count n bundles

-- ---- from there on
-- by how many grains a line that grows no faster than the rate is above it from a time in picoseconds on, rounded up
abbrev pub line_ahead : Line → (rate end : ℕ) → ℕ
line_ahead line rate end = div_ceil (line.burst * 10 ^ 12 - (rate - line.rate) * end) (10 ^ 12)

-- the least that a step of the parts which grows no faster than the rate is above it
pub record IsTail (parts : List Part) (rate end x : ℕ) : Type 0 where
  pub least : (line : Line) → IsStep parts line → line.rate ≤ rate → x ≤ line_ahead line rate end
  pub line : Line
  pub step : IsStep parts line
  pub slow : line.rate ≤ rate
  pub is : x ≡ line_ahead line rate end

-- ---- for ever
pub record IsStairExcess (bundles : List Bundle) (rate x : ℕ) : Type 0 where
  pub last : ℕ
  pub until : IsLastWalked bundles last
  pub walked : ℕ
  pub ahead : IsAheadUpTo bundles rate last walked
  pub later : ℕ
  pub tail : IsTail (line_parts bundles) rate last later
  pub is : x ≡ max walked later

-- ---- laws
-- from 0 on the bundles are at most so many grains above the rate
pub record IsBound (bundles : List Bundle) (rate x : ℕ) : Type 0 where
  pub over : (t : ℚ) → zero_q ≤ℚ t → IsBelow (bundles_at bundles) rate x t

abbrev pub ExcessIsABound : Type 0
ExcessIsABound = (bundles : List Bundle) (rate x : ℕ) → AreBundles bundles → IsStairExcess bundles rate x → IsBound bundles rate x

-- of the same stairs and paces there is one
abbrev pub ExcessIsOne : Type 0
ExcessIsOne = (one other : List Bundle) (rate x y : ℕ) → bunches one ≡ bunches other → IsStairExcess one rate x → IsStairExcess other rate y → x ≡ y
