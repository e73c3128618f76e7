-- The steps of a sum of parts, which is concave: its affine pieces. (Le Boudec and Thiran, chapter 1: the least of token buckets.)
use Rattle.std.specs.Prelude.{◌≡◌, ℕ, suc, max, ◌<◌, ◌≤◌, ◌^◌, List, All, Contains, length, get_or, Option, Some, None}
use Rattle.std.specs.List.{sum_by}
use Rattle.rational.specs.Rational.{ℚ, ◌≤ℚ◌, ◌<ℚ◌}
use Rattle.min_plus.specs.Functions.{zero_q}
use Rattle.arrival_lines.specs.Grid.{line_value, parts_value}
use Rattle.arrival_lines.specs.declared.grid.Line.{Line}
use Rattle.arrival_lines.specs.declared.grid.Part.{Part}

-- ---- parts whose lines can be added: the totals of their greater bursts and of their greater rates fit 64 bits
abbrev pub burst_with : Line → Option Line → ℕ
burst_with sum None = sum.burst
burst_with sum (Some pace) = max sum.burst pace.burst

abbrev pub rate_with : Line → Option Line → ℕ
rate_with sum None = sum.rate
rate_with sum (Some pace) = max sum.rate pace.rate

abbrev pub most_burst : Part → ℕ
most_burst p = burst_with p.sum p.pace

abbrev pub most_rate : Part → ℕ
most_rate p = rate_with p.sum p.pace

pub record Fit (parts : List Part) : Type 0 where
  pub bursts : sum_by most_burst parts < 2 ^ 64
  pub rates : sum_by most_rate parts < 2 ^ 64

-- ---- the steps
-- a line that is nowhere below the sum of the parts
pub record IsAbove (parts : List Part) (line : Line) : Type 0 where
  pub above : (t : ℚ) → zero_q ≤ℚ t → parts_value parts t ≤ℚ line_value line t

-- and that is the sum at two times: as the sum is concave, an affine piece of it
pub record IsStep (parts : List Part) (line : Line) : Type 0 where
  pub above : IsAbove parts line
  pub from : ℚ
  pub to : ℚ
  pub on : zero_q ≤ℚ from
  pub later : from <ℚ to
  pub begins : line_value line from ≤ℚ parts_value parts from
  pub ends : line_value line to ≤ℚ parts_value parts to

-- of falling rate
pub record AreSlowing (lines : List Line) : Type 0 where
  pub falling : (k : ℕ) (d : Line) → suc k < length lines → (get_or lines (suc k) d).rate < (get_or lines k d).rate

-- all of these pieces, in the order of their rates; so at each time one of them is the sum, at 0 the first, and where two neighbours meet
-- these; their bursts rise, and are at most the greater bursts of the parts together
pub record AreSteps (parts : List Part) (lines : List Line) : Type 0 where
  pub each : All (IsStep parts) lines
  pub all : (line : Line) → IsStep parts line → Contains lines line
  pub slowing : AreSlowing lines
  pub rising : (k : ℕ) (d : Line) → suc k < length lines → (get_or lines k d).burst ≤ (get_or lines (suc k) d).burst
  pub small : (k : ℕ) (d : Line) → k < length lines → (get_or lines k d).burst ≤ sum_by most_burst parts
  pub some : 0 < length lines
  pub first : (d : Line) → line_value (get_or lines 0 d) zero_q ≤ℚ parts_value parts zero_q
  pub meet : (t : ℚ) (k : ℕ) (d : Line) → zero_q ≤ℚ t → suc k < length lines
      → line_value (get_or lines k d) t ≡ line_value (get_or lines (suc k) d) t → line_value (get_or lines k d) t ≤ℚ parts_value parts t
  pub reached : (t : ℚ) → zero_q ≤ℚ t → (k : ℕ) × (k < length lines) × ((d : Line) → line_value (get_or lines k d) t ≤ℚ parts_value parts t)
