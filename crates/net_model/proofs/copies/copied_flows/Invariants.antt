use Rattle.std.proofs.Common.{◌≡◌, take}
use Rattle.net_model.specs.Views.{flows_of}
use Rattle.net_model.proofs.copies.copied_flows.Given as goal

abbrev pub invariant-loop-flow : goal.invariant-loop-flow
invariant-loop-flow l = flows_of l.copies.items ≡ flows_of (take l.flow-index l.flows)
