-- The line of a stair: none where it passes its limits. (Le Boudec and Thiran, chapter 1: the token bucket above a stair.)
use Rattle.std.specs.Prelude.{Option, Some, None, ◌*◌, ◌^◌, ◌&&◌, ℕ, nat_lt, if◌then◌else◌}
use Rattle.std.specs.Int.{div_ceil}
use Rattle.arrival_lines.specs.declared.grid.Line.{Line}
use Rattle.arrival_stairs.specs.BelowLines.{stair_burst, stair_rate}
use Rattle.arrival_stairs.specs.declared.stairs.Stair.{Stair}
use Rattle.tree_network.specs.declared.network.Link.{Link}

-- a burst below 2 ^ 58 grains, and a rate that fits 64 bits
abbrev pub line_within : (burst rate : ℕ) → Option Line
line_within burst rate = if nat_lt burst (2 ^ 58) && nat_lt rate (2 ^ 64) then Some record { burst = burst; rate = rate } else None

abbrev pub line_of : Option Stair → Option Line
line_of None = None
line_of (Some stair) = line_within (stair_burst stair) (stair_rate stair)

-- grains a second: a frame each gap
abbrev pub rate_of : Link → ℕ
rate_of link = div_ceil (link.frame * 1024 * 10 ^ 12) link.gap
