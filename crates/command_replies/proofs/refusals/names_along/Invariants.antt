use Rattle.std.proofs.Common.{◌≡◌, map, take}
use Rattle.std.specs.String.{string_bytes}
use Rattle.report_text.specs.CellWords.{server_name}
use Rattle.command_replies.proofs.refusals.names_along.Given as goal

abbrev pub invariant-loop-number : goal.invariant-loop-number
invariant-loop-number l = map string_bytes l.names.items ≡ map (server_name l.net) (take l.number-index l.walk)
