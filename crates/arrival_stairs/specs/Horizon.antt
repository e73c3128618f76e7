-- When lines meet a rate. Own choice.
use Rattle.std.specs.Prelude.{ℕ, ◌-◌, ◌*◌, ◌^◌, ◌<◌, ◌≤◌, ◌≡◌, ◌⊎◌, List, length, get_or}
use Rattle.std.specs.Int.{div_ceil}
use Rattle.arrival_lines.specs.declared.grid.Line.{Line}
use Rattle.arrival_lines.specs.declared.grid.Service.{Service}
use Rattle.arrival_heights.specs.Greatest.{IsGreatestBetween}
use Rattle.arrival_stairs.specs.Ahead.{IsAheadUpTo}
use Rattle.arrival_heights.specs.Heights.{AreMoments, most_ahead}
use Rattle.arrival_stairs.specs.Jumps.{jump_count}
use Rattle.arrival_heights.specs.Slow.{IsSlowBurst}
use Rattle.arrival_stairs.specs.Lows.{AreLows}
use Rattle.arrival_stairs.specs.Stairs.{levels_at}
use Rattle.arrival_stairs.specs.StairExcess.{IsLastWalked, line_ahead}
use Rattle.arrival_stairs.specs.declared.horizon.Onset.{Onset}
use Rattle.arrival_stairs.specs.declared.stairs.Bundle.{Bundle}
use Rattle.arrival_stairs.specs.declared.walks.Walk.{Walk}

-- ---- the steps
-- one of the first i lines is so far above the rate from a time on
pub record IsOneAhead (lines : List Line) (rate end i x : ℕ) : Type 0 where
  pub line : ℕ
  pub inside : line < i
  pub slow : (d : Line) → (get_or lines line d).rate ≤ rate
  pub is : (d : Line) → x ≡ line_ahead (get_or lines line d) rate end

-- at most so many grains, and no more than each of the first i lines that grows no faster is above the rate from a time
-- on; and that one of them is, where it is less
pub record IsTailOfFirst (lines : List Line) (rate most end i x : ℕ) : Type 0 where
  pub least : x ≤ most
  pub each : (k : ℕ) (d : Line) → k < i → (get_or lines k d).rate ≤ rate → x ≤ line_ahead (get_or lines k d) rate end
  pub one : x < most → IsOneAhead lines rate end i x

-- ---- until they meet the rate
-- when a line that grows slower than the rate is so many grains above it, in picoseconds, rounded up
abbrev pub down_at : Line → (rate known : ℕ) → ℕ
down_at line rate known = div_ceil ((line.burst - known) * 10 ^ 12) (rate - line.rate)

-- when one of them is no more than so many grains above it
pub record IsDown (steps : List Line) (rate known end : ℕ) : Type 0 where
  pub short : end < 2 ^ 62
  pub step : ℕ
  pub inside : step < length steps
  pub slower : (d : Line) → (get_or steps step d).rate < rate
  pub is : (d : Line) → down_at (get_or steps step d) rate known ≤ end

-- a time from which on one of the lines is no further above the rate than the bundles are before
pub record IsHorizon (bundles : List Bundle) (steps : List Line) (rate end : ℕ) : Type 0 where
  pub short : end < 2 ^ 62
  pub until : ℕ
  pub within : until ≤ end
  pub known : ℕ
  pub greatest : IsGreatestBetween (levels_at bundles 0) rate 0 until known
  pub step : ℕ
  pub inside : step < length steps
  pub slower : (d : Line) → (get_or steps step d).rate < rate
  pub down : (d : Line) → down_at (get_or steps step d) rate known ≤ end

-- how far the levels at 0 are above each rate: at 0, and up to a time
pub record IsOnset (bundles : List Bundle) (onset : Onset) : Type 0 where
  pub first_moments : AreMoments onset.first.items
  pub first : (rate : ℕ) → IsGreatestBetween (levels_at bundles 0) rate 0 0 (most_ahead rate onset.first.items)
  pub short : onset.until < 2 ^ 62
  pub moments : AreMoments onset.peaks.heights.items
  pub greatest : (rate : ℕ) → IsGreatestBetween (levels_at bundles 0) rate 0 onset.until (most_ahead rate onset.peaks.heights.items)

-- ---- of several services
-- a time that is past the horizon, where a step is no faster than the rate
pub record IsPast (bundles : List Bundle) (steps : List Line) (rate end : ℕ) : Type 0 where
  pub short : end < 2 ^ 62
  pub horizon : (most : ℕ) → IsSlowBurst steps rate most → IsHorizon bundles steps rate end

-- at each of the first i services
pub record ArePast (bundles : List Bundle) (steps : List Line) (services : List Service) (i end : ℕ) : Type 0 where
  pub short : end < 2 ^ 62
  pub each : (k : ℕ) (d : Service) → k < i → IsPast bundles steps (get_or services k d).rate end

-- until when a walk goes: to the last time that is walked to, or past the horizon at the rate
pub record IsEnd (bundles : List Bundle) (steps : List Line) (rate end : ℕ) : Type 0 where
  pub short : end < 2 ^ 62
  pub few : jump_count end bundles ≤ 4096
  pub reaches : IsLastWalked bundles end ⊎ IsPast bundles steps rate end

-- what a walk gives for each rate
pub record IsWalk (bundles : List Bundle) (walk : Walk) : Type 0 where
  pub moments : AreMoments walk.peaks.heights.items
  pub greatest : (rate : ℕ) → IsAheadUpTo bundles rate walk.end (most_ahead rate walk.peaks.heights.items)

pub record IsWalkOf (bundles : List Bundle) (steps : List Line) (services : List Service) (walk : Walk) : Type 0 where
  pub is : IsWalk bundles walk
  pub lows : AreLows steps walk.end (length steps) walk.lows.items
  pub ends : (k : ℕ) (d : Service) → k < length services → IsEnd bundles steps (get_or services k d).rate walk.end
