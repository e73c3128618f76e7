-- How far parts are above a rate at most between two times, rounded up to grains. (Le Boudec and Thiran, chapter 1: the
-- largest distance of an arrival curve from a line.)
use Rattle.std.specs.Prelude.{◌≡◌, ◌⊎◌, ℕ, ◌<◌, max, List, [], ◌∷◌, Option, Some, None}
use Rattle.rational.specs.Rational.{ℚ, ◌+ℚ◌, ◌≤ℚ◌, ◌<ℚ◌}
use Rattle.rational.specs.Line.{line_at}
use Rattle.arrival_lines.specs.Grid.{grain, bits, speed, micros, part_value, parts_value}
use Rattle.arrival_lines.specs.declared.grid.Part.{Part}
use Rattle.arrival_heights.specs.Heights.{AreMoments, ahead_of, most_ahead}
use Rattle.arrival_heights.specs.declared.heights.Height.{Height}

-- at the time at most so many grains above the rate
abbrev pub IsBelow : (ℚ → ℚ) → (rate x : ℕ) → ℚ → Type 0
IsBelow f rate x t = f t ≤ℚ line_at (bits x) (speed rate) t

-- at some time between two less than a grain below that
pub record IsNear (f : ℚ → ℚ) (rate x : ℕ) (from to : ℚ) : Type 0 where
  pub at : ℚ
  pub begins : from ≤ℚ at
  pub ends : at ≤ℚ to
  pub near : line_at (bits x) (speed rate) at <ℚ f at +ℚ grain

-- the greatest excess between two times in picoseconds; 0 where there is none
pub record IsGreatestBetween (parts : List Part) (rate begin end x : ℕ) : Type 0 where
  pub over : (t : ℚ) → micros begin ≤ℚ t → t ≤ℚ micros end → IsBelow (parts_value parts) rate x t
  pub near : 0 < x → IsNear (parts_value parts) rate x (micros begin) (micros end)

-- ---- at one time
pub record IsBoundAt (parts : List Part) (rate time x : ℕ) : Type 0 where
  pub over : IsBelow (parts_value parts) rate x (micros time)
  pub near : 0 < x → line_at (bits x) (speed rate) (micros time) <ℚ parts_value parts (micros time) +ℚ grain

-- a line from the one time to the other
pub record IsStraight (f : ℚ → ℚ) (from to : ℚ) : Type 0 where
  pub base : ℚ
  pub slope : ℚ
  pub is : (t : ℚ) → from ≤ℚ t → t ≤ℚ to → f t ≡ line_at base slope t

-- one line up to a time between, at which B holds, and another from there on
pub record IsKinked (f : ℚ → ℚ) (from to : ℚ) (B : ℚ → Type 0) : Type 0 where
  pub at : ℚ
  pub begins : from ≤ℚ at
  pub ends : at ≤ℚ to
  pub before : IsStraight f from at
  pub after : IsStraight f at to
  pub holds : B at

abbrev pub IsStraightOrKinked : (ℚ → ℚ) → (from to : ℚ) → (ℚ → Type 0) → Type 0
IsStraightOrKinked f from to B = IsStraight f from to ⊎ IsKinked f from to B

-- where the part bends between the two times, the parts are at most so far above the rate
pub record IsBoundAtBend (parts : List Part) (rate : ℕ) (part : Part) (begin end x : ℕ) : Type 0 where
  pub over : IsStraightOrKinked (part_value part) (micros begin) (micros end) (IsBelow (parts_value parts) rate x)
  pub near : 0 < x → IsNear (parts_value parts) rate x (micros begin) (micros end)

-- ---- heights that are looked at
abbrev pub ahead_if : ℕ → Option Height → ℕ
ahead_if rate None = 0
ahead_if rate (Some h) = ahead_of rate h

abbrev pub some_of : Option Height → List Height
some_of None = []
some_of (Some h) = h ∷ []

-- those that are added are at most so far above the rate as the parts between the two times
pub record AddsGreatest (parts : List Part) (rate begin end : ℕ) (old new : List Height) : Type 0 where
  pub most : ℕ
  pub greatest : IsGreatestBetween parts rate begin end most
  pub is : most_ahead rate new ≡ max (most_ahead rate old) most

pub record AddsHeights (parts : List Part) (begin end : ℕ) (old new : List Height) : Type 0 where
  pub moments : AreMoments old → AreMoments new
  pub greatest : (rate : ℕ) → AddsGreatest parts rate begin end old new
