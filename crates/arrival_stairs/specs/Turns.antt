-- When what grows by lines goes over from one of them to the next, and what the lines of some turns come to. Own choice.
use Rattle.std.specs.Prelude.{◌≡◌, ◌⊎◌, ℕ, ◌+◌, ◌-◌, ◌*◌, ◌/◌, ◌^◌, ◌<◌, ◌≤◌, nat_lt, Bool, List, [], ◌∷◌, ◌++◌, All, length, get_or, Option, Some, None, if◌then◌else◌}
use Rattle.std.specs.List.{sum_by}
use Rattle.arrival_lines.specs.Steps.{most_burst, most_rate}
use Rattle.arrival_lines.specs.declared.grid.Line.{Line}
use Rattle.arrival_heights.specs.Heights.{IsMoment, line_height, part_height}
use Rattle.arrival_stairs.specs.Stairs.{bundle_part}
use Rattle.arrival_stairs.specs.declared.stairs.Bundle.{Bundle}
use Rattle.arrival_stairs.specs.declared.turns.Turn.{Turn}

-- ---- at a time of over / under seconds
-- what those turns come to that are so
abbrev pub sum_if : (Turn → Bool) → (Turn → ℕ) → List Turn → ℕ
sum_if which f turns = sum_by (λ j. if which j then f j else 0) turns

-- one by the time, and before it
abbrev pub is_by : (over under : ℕ) → Turn → Bool
is_by over under j = nat_lt (j.at.over * under) (over * j.at.under + 1)

abbrev pub is_before : (over under : ℕ) → Turn → Bool
is_before over under j = nat_lt (j.at.over * under) (over * j.at.under)

-- of those that are so, the lines that are gone over to less those that are left
pub record IsOn (which : Turn → Bool) (turns : List Turn) (line : Line) : Type 0 where
  pub burst : line.burst + sum_if which (λ j. j.off.burst) turns ≡ sum_if which (λ j. j.on.burst) turns
  pub rate : line.rate + sum_if which (λ j. j.off.rate) turns ≡ sum_if which (λ j. j.on.rate) turns

-- what F comes to then is the line, which is no greater than it may be
pub record IsLineAt (F : ℕ → ℕ → ℕ) (burst rate : ℕ) (turns : List Turn) (over under : ℕ) : Type 0 where
  pub line : Line
  pub is : F over under ≡ line_height line over under
  pub on : IsOn (is_by over under) turns line
  pub burst_most : line.burst ≤ burst
  pub rate_most : line.rate ≤ rate

-- and the line before then is not above it
pub record IsLineBefore (F : ℕ → ℕ → ℕ) (turns : List Turn) (over under : ℕ) : Type 0 where
  pub line : Line
  pub below : line_height line over under ≤ F over under
  pub on : IsOn (is_before over under) turns line

-- ---- up to a time in picoseconds
pub record IsSmallLine (line : Line) : Type 0 where
  pub burst : line.burst < 2 ^ 62
  pub rate : line.rate < 2 ^ 62

pub record IsTurn (end : ℕ) (j : Turn) : Type 0 where
  pub moment : IsMoment j.at
  pub time : j.at.over * 10 ^ 12 ≤ end * j.at.under
  pub on : IsSmallLine j.on
  pub off : IsSmallLine j.off

-- the turns of F
pub record AreTurns (F : ℕ → ℕ → ℕ) (burst rate end : ℕ) (turns : List Turn) : Type 0 where
  pub each : All (IsTurn end) turns
  pub at : (over under : ℕ) → 0 < under → over * 10 ^ 12 ≤ end * under → IsLineAt F burst rate turns over under
  pub before : (over under : ℕ) → 0 < under → over * 10 ^ 12 ≤ end * under → IsLineBefore F turns over under

-- ---- of bundles
abbrev pub bundle_height : Bundle → (over under : ℕ) → ℕ
bundle_height b over under = part_height over under (bundle_part (over * 10 ^ 12 / under) b)

abbrev pub bundles_height : List Bundle → (over under : ℕ) → ℕ
bundles_height bundles over under = sum_by (λ b. bundle_height b over under) bundles

abbrev pub burst_until : ℕ → Bundle → ℕ
burst_until end b = most_burst (bundle_part end b)

abbrev pub rate_until : ℕ → Bundle → ℕ
rate_until end b = most_rate (bundle_part end b)

abbrev pub AreTurnsOf : List Bundle → ℕ → List Turn → Type 0
AreTurnsOf bundles end turns = AreTurns (bundles_height bundles) (sum_by (burst_until end) bundles) (sum_by (rate_until end) bundles) end turns

pub record AddsBundle (b : Bundle) (end : ℕ) (old new : List Turn) : Type 0 where
  pub more : List Turn
  pub is : new ≡ old ++ more
  pub are : AreTurns (bundle_height b) (burst_until end b) (rate_until end b) end more

-- none comes before those before it
pub record AreInTurn (turns : List Turn) : Type 0 where
  pub come : (i j : ℕ) (d : Turn) → i ≤ j → j < length turns
      → (get_or turns i d).at.over * (get_or turns j d).at.under ≤ (get_or turns j d).at.over * (get_or turns i d).at.under

-- ---- at a level
abbrev pub flat_line : ℕ → Line
flat_line level = record { burst = level; rate = 0 }

-- the lower one of the level and the pace at a time in picoseconds
abbrev pub line_of : ℕ → Option Line → ℕ → Line
line_of level None time = flat_line level
line_of level (Some pace) time = if nat_lt (line_height pace time (10 ^ 12)) (level * 10 ^ 12) then pace else flat_line level

-- a line does not reach the level before a time in picoseconds
pub record IsBelowUntil (line : Line) (level to : ℕ) (old new : List Turn) (next : Line) : Type 0 where
  pub late : to * line.rate ≤ (level - line.burst) * 10 ^ 12
  pub same : next ≡ line
  pub none : new ≡ old

-- or it does
pub record Reaches (line : Line) (level to : ℕ) (old new : List Turn) (next : Line) : Type 0 where
  pub early : (level - line.burst) * 10 ^ 12 < to * line.rate
  pub flat : next ≡ flat_line level
  pub turn : new ≡ old ++ record { at = record { over = level - line.burst; under = line.rate }; off = line; on = flat_line level } ∷ []

abbrev pub IsSettled : Line → (level to : ℕ) → (old new : List Turn) → Line → Type 0
IsSettled line level to old new next = IsBelowUntil line level to old new next ⊎ Reaches line level to old new next
