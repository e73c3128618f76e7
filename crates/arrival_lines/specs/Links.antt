-- The lines of links: above a stair, and of two together. (Le Boudec and Thiran, chapter 1.)
use Rattle.std.specs.Prelude.{◌≡◌, ℕ}
use Rattle.rational.specs.Rational.{ℚ, ◌+ℚ◌, ◌*ℚ◌, ◌≤ℚ◌, ◌<ℚ◌}
use Rattle.rational.specs.Extended.{◌≤ₑ◌}
use Rattle.rational.specs.declared.Extended.TheVariants.{Fin}
use Rattle.min_plus.specs.Functions.{zero_q}
use Rattle.min_plus.specs.Formulas.{bucket_value, stair_value}
use Rattle.arrival_lines.specs.Grid.{bits, micros, line_value}
use Rattle.arrival_lines.specs.declared.grid.Line.{Line}

-- a stair is at most the line from its first packet, with what comes in the jitter, of a rate that brings a packet a period
abbrev pub StairBelowLine : Type 0
StairBelowLine = (packet period jitter rate t : ℚ) → zero_q ≤ℚ rate → zero_q <ℚ period → zero_q ≤ℚ jitter → packet ≤ℚ rate *ℚ period
    → zero_q ≤ℚ t → stair_value packet period jitter t ≤ₑ bucket_value (packet +ℚ rate *ℚ jitter) rate t

-- a line above a stair of packets of so many grains, with a period and a jitter in picoseconds
pub record IsAboveStair (packet period jitter : ℕ) (line : Line) : Type 0 where
  pub above : (t : ℚ) → zero_q ≤ℚ t → stair_value (bits packet) (micros period) (micros jitter) t ≤ₑ Fin (line_value line t)

-- a line that is everywhere the sum of two
pub record IsTotal (one other both : Line) : Type 0 where
  pub is : (t : ℚ) → line_value both t ≡ line_value one t +ℚ line_value other t
