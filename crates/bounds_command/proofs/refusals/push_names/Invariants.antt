use Rattle.std.proofs.Common.{◌≡◌, ◌++◌, map, take}
use Rattle.std.specs.List.{flat_map}
use Rattle.std.specs.String.{string_bytes}
use Rattle.bounds_command.specs.Replies.{after_space}
use Rattle.bounds_command.specs.Reports.{name_at}
use Rattle.bounds_command.proofs.refusals.push_names.Given as goal

abbrev pub invariant-loop-port : goal.invariant-loop-port
invariant-loop-port l =
    string_bytes l.text ≡ string_bytes l.initial.text
    ++ flat_map after_space (map (name_at l.names) (take l.port-index l.ports))
