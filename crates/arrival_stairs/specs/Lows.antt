-- What lines come to at a time, and the least of the last of them. Own choice.
use Rattle.std.specs.Prelude.{◌≡◌, ℕ, ◌+◌, ◌*◌, ◌^◌, ◌<◌, ◌≤◌, List, length, get_or}
use Rattle.arrival_lines.specs.declared.grid.Line.{Line}

-- at a time in picoseconds, in grains over 10 ^ 12
abbrev pub line_level : Line → (end : ℕ) → ℕ
line_level line end = line.burst * 10 ^ 12 + line.rate * end

-- the least that the last n lines come to
pub record IsLow (lines : List Line) (end n low : ℕ) : Type 0 where
  pub least : (k : ℕ) (d : Line) → length lines ≤ k + n → k < length lines → low ≤ line_level (get_or lines k d) end
  pub place : ℕ
  pub last : length lines ≤ place + n
  pub inside : place < length lines
  pub is : (d : Line) → low ≡ line_level (get_or lines place d) end

-- of the last one, of the last two, and so on up to n
pub record AreLows (lines : List Line) (end n : ℕ) (lows : List ℕ) : Type 0 where
  pub count : length lows ≡ n
  pub each : (i : ℕ) → i < n → IsLow lines end (i + 1) (get_or lows i 0)
