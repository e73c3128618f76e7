-- The stair of a link where it begins, and of one that goes on behind a queue: none where nothing bounds it.
-- (Le Boudec and Thiran, stair functions; what stays at most so long is early by so much more.)
use Rattle.std.specs.Prelude.{Option, Some, None, ◌+◌, ◌*◌, ◌^◌, ℕ, nat_lt, if◌then◌else◌}
use Rattle.arrival_lines.specs.declared.grid.Queue.{Queue}
use Rattle.arrival_stairs.specs.declared.stairs.Stair.{Stair}
use Rattle.tree_network.specs.declared.network.Link.{Link}

-- a jitter below 2 ^ 62 picoseconds
abbrev pub stair_within : (frame gap jitter : ℕ) → Option Stair
stair_within frame gap jitter = if nat_lt jitter (2 ^ 62) then Some record { frame = frame; gap = gap; jitter = jitter } else None

abbrev pub first_stair : Link → Option Stair
first_stair link = stair_within (link.frame * 1024) link.gap link.jitter

abbrev pub first_stair_of : Option Link → Option Stair
first_stair_of None = None
first_stair_of (Some link) = first_stair link

-- with a delay for more jitter
abbrev pub later_stair : Option Stair → Option Queue → Option Stair
later_stair None queue = None
later_stair (Some stair) None = None
later_stair (Some stair) (Some queue) = stair_within stair.frame stair.gap (stair.jitter + queue.delay)
