use Rattle.std.proofs.Common.{◌≡◌, map}
use Rattle.std.specs.List.{range_with_len}
use Rattle.net_model.specs.Views.{servers_of}
use Rattle.exercise_load.specs.Workloads.{server}
use Rattle.exercise_load.proofs.servers.servers.Given as goal

abbrev pub invariant-loop-number : goal.invariant-loop-number
invariant-loop-number l = servers_of l.made.items ≡ map server (range_with_len 0 l.number)
