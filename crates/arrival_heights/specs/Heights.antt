-- What parts come to at a time of so many seconds over so many, in grains over the same. Own choice.
use Rattle.std.specs.Prelude.{ℕ, ◌+◌, ◌*◌, ◌^◌, ◌<◌, ◌-◌, min, max, List, [], ◌∷◌, All, Option, Some, None}
use Rattle.std.specs.List.{sum_by}
use Rattle.std.specs.Int.{div_ceil}
use Rattle.arrival_lines.specs.Steps.{most_burst, most_rate}
use Rattle.arrival_lines.specs.declared.grid.Line.{Line}
use Rattle.arrival_lines.specs.declared.grid.Part.{Part}
use Rattle.arrival_heights.specs.declared.heights.Height.{Height}
use Rattle.arrival_heights.specs.declared.heights.Moment.{Moment}

-- parts whose greater bursts together, and greater rates, are below 2 ^ 62
pub record AreSmall (parts : List Part) : Type 0 where
  pub bursts : sum_by most_burst parts < 2 ^ 62
  pub rates : sum_by most_rate parts < 2 ^ 62

-- a time of such numbers
pub record IsMoment (at : Moment) : Type 0 where
  pub some : 0 < at.under
  pub over : at.over < 2 ^ 62
  pub under : at.under < 2 ^ 62

abbrev pub line_height : Line → (over under : ℕ) → ℕ
line_height line over under = line.burst * under + line.rate * over

abbrev pub lesser_height : (over under : ℕ) → Line → Option Line → ℕ
lesser_height over under sum None = line_height sum over under
lesser_height over under sum (Some pace) = min (line_height sum over under) (line_height pace over under)

abbrev pub part_height : (over under : ℕ) → Part → ℕ
part_height over under part = lesser_height over under part.sum part.pace

abbrev pub heights : List Part → (over under : ℕ) → ℕ
heights parts over under = sum_by (part_height over under) parts

-- ---- above a rate
abbrev pub height_of : List Part → Moment → Height
height_of parts at = record { at = at; grains = heights parts at.over at.under }

-- by how many grains, rounded up; 0 where it is not
abbrev pub ahead_of : ℕ → Height → ℕ
ahead_of rate h = div_ceil (h.grains - rate * h.at.over) h.at.under

-- the greatest of some
unfoldable pub most_ahead : ℕ → List Height → ℕ
most_ahead rate [] = 0
most_ahead rate (h ∷ hs) = max (ahead_of rate h) (most_ahead rate hs)

abbrev pub AreMoments : List Height → Type 0
AreMoments heights = All (λ h. IsMoment h.at) heights
