-- Where the lesser of two lines goes over from the one to the other. Own choice.
use Rattle.std.specs.Prelude.{◌≡◌, ◌<◌, ◌≤◌}
use Rattle.rational.specs.Rational.{ℚ, ◌*ℚ◌, ◌≤ℚ◌}
use Rattle.rational.specs.MinMax.{min_q}
use Rattle.min_plus.specs.Functions.{zero_q}
use Rattle.arrival_lines.specs.Grid.{bits, speed, line_value, part_value}
use Rattle.arrival_lines.specs.declared.grid.Line.{Line}
use Rattle.arrival_lines.specs.declared.grid.Part.{Part}
use Rattle.arrival_heights.specs.Heights.{IsMoment}
use Rattle.arrival_heights.specs.declared.heights.Moment.{Moment}

-- a time of over / under seconds: a rate of `under` grains a second brings `over` grains in it; before and after it
abbrev pub IsBefore : Moment → ℚ → Type 0
IsBefore at t = speed at.under *ℚ t ≤ℚ bits at.over

abbrev pub IsAfter : Moment → ℚ → Type 0
IsAfter at t = bits at.over ≤ℚ speed at.under *ℚ t

-- a function that is one line up to the time, and another from it on
pub record IsBentAt (f : ℚ → ℚ) (at : Moment) : Type 0 where
  pub some : 0 < at.under
  pub low : Line
  pub high : Line
  pub before : (t : ℚ) → zero_q ≤ℚ t → IsBefore at t → f t ≡ line_value low t
  pub after : (t : ℚ) → zero_q ≤ℚ t → IsAfter at t → f t ≡ line_value high t

-- a function that is one line
pub record IsOneLine (f : ℚ → ℚ) : Type 0 where
  pub line : Line
  pub is : (t : ℚ) → zero_q ≤ℚ t → f t ≡ line_value line t

abbrev pub StaysOn : Line → Line → Type 0
StaysOn low high = IsOneLine (λ t. min_q (line_value low t) (line_value high t))

pub record GoesOver (low high : Line) (at : Moment) : Type 0 where
  pub bent : IsBentAt (λ t. min_q (line_value low t) (line_value high t)) at
  pub over : at.over ≤ high.burst
  pub under : at.under ≤ low.rate

abbrev pub IsUnbent : Part → Type 0
IsUnbent part = IsOneLine (part_value part)

pub record IsBend (part : Part) (at : Moment) : Type 0 where
  pub bent : IsBentAt (part_value part) at
  pub moment : IsMoment at
