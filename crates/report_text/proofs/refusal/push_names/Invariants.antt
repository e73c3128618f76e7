use Rattle.std.proofs.Common.{◌≡◌, ◌++◌, map, take}
use Rattle.std.specs.String.{string_bytes}
use Rattle.report_text.specs.Refusals.{spaced}
use Rattle.report_text.proofs.refusal.push_names.Given as goal

abbrev pub invariant-loop-name : goal.invariant-loop-name
invariant-loop-name l =
    l.into.items ≡ l.initial.into.items ++ spaced (map string_bytes (take l.name-index l.names))
