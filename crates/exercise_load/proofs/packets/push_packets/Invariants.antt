use Rattle.std.proofs.Common.{◌≡◌, ◌++◌, map, take}
use Rattle.std.specs.List.{filter}
use Rattle.exercise_load.specs.Workloads.{packet_at, is_sending}
use Rattle.exercise_load.proofs.packets.push_packets.Given as goal

abbrev pub invariant-loop-flow : goal.invariant-loop-flow
invariant-loop-flow l =
    l.into.items ≡ l.initial.into.items ++ map (packet_at l.time) (filter (is_sending l.time) (take l.flow-index l.flows))
