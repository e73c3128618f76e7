use Rattle.std.proofs.Common.{◌≡◌, ◌++◌, map, take}
use Rattle.std.specs.Prelude.{string_bytes}
use Rattle.report_text.specs.CellWords.{server_name}
use Rattle.report_text.specs.Refusals.{spaced}
use Rattle.commands.proofs.edit_report.said.push_walk.Given as goal

abbrev pub invariant-loop-server : goal.invariant-loop-server
invariant-loop-server l =
    string_bytes l.into
    ≡ string_bytes l.initial.into ++ spaced (map (server_name l.net) (take l.server-index l.walk))
