use Rattle.std.proofs.Common.{◌≡◌, take}
use Rattle.net_model.specs.Views.{flows_of}
use Rattle.net_model.specs.Plain.{plain_flows, contents}
use Rattle.net_model.proofs.plain.flows_along.Given as goal

abbrev pub invariant-loop-number : goal.invariant-loop-number
invariant-loop-number l = flows_of l.flows.items ≡ plain_flows 0 (contents (take l.number l.paths))
