-- A tree of values in a list, in which the nodes 2 n and 2 n + 1 stand below node n. (A tournament tree; textbook.)
use Rattle.std.specs.Prelude.{ℕ, zero, suc, pos, ◌<◌, ◌/◌, List, get_or}
use Rattle.rational.specs.Rational.{ℚ, int, ◌≤ℚ◌}

-- the node so many rows above another; 0 above the root
abbrev pub above : ℕ → ℕ → ℕ
above at zero = at
above at (suc rows) = above (at / 2) rows

abbrev pub node : List ℚ → ℕ → ℚ
node nodes at = get_or nodes at (int (pos 0))

-- a node and all above it are at most v
abbrev pub Covers : List ℚ → ℚ → ℕ → Type 0
Covers nodes v at = (rows : ℕ) → 0 < above at rows → node nodes (above at rows) ≤ℚ v
