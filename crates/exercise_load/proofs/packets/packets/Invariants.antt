use Rattle.std.proofs.Common.{◌≡◌, ◌*◌, map}
use Rattle.std.specs.List.{filter, flat_map, range_with_len}
use Rattle.exercise_load.specs.Workloads.{packet_at, is_sending}
use Rattle.exercise_load.proofs.packets.packets.Given as goal

abbrev pub invariant-loop-count : goal.invariant-loop-count
invariant-loop-count l =
    l.packets.items
    ≡ flat_map (λ k. map (packet_at (8000 * k)) (filter (is_sending (8000 * k)) l.flows)) (range_with_len 0 l.count)
