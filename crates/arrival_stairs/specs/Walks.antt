-- What is looked at from one turn to the next. Own choice.
use Rattle.std.specs.Prelude.{◌≡◌, ◌+◌, ◌*◌, ◌^◌, ◌<◌, ◌≤◌, List, [], ◌∷◌, ◌++◌}
use Rattle.arrival_lines.specs.declared.grid.Line.{Line}
use Rattle.arrival_heights.specs.Heights.{line_height}
use Rattle.arrival_heights.specs.declared.heights.Height.{Height}
use Rattle.arrival_heights.specs.declared.heights.Moment.{Moment}
use Rattle.arrival_stairs.specs.declared.walk.Total.{Total}

-- the one time comes before the other
abbrev pub Come : Moment → Moment → Type 0
Come one other = one.over * other.under < other.over * one.under

-- a small line is left
pub record IsLeft (on off : Total) : Type 0 where
  pub burst : off.burst ≤ on.burst
  pub rate : off.rate ≤ on.rate
  pub small_burst : on.burst < off.burst + 2 ^ 62
  pub small_rate : on.rate < off.rate + 2 ^ 62

abbrev pub height_on : Line → Moment → Height
height_on line at = record { at = at; grains = line_height line at.over at.under }

-- what a line comes to at two times
abbrev pub AddsEnds : Line → (begin to : Moment) → (old new : List Height) → Type 0
AddsEnds line begin to old new = new ≡ (old ++ height_on line begin ∷ []) ++ height_on line to ∷ []
