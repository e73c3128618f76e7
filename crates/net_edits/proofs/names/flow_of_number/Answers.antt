use Rattle.std.proofs.Common.{sym}
use Rattle.net_model.specs.Views.{flow_of}
use Rattle.net_edits.proofs.FlowEdits.{place_of}
use Rattle.net_edits.proofs.names.flow_of_number.Goals as goal

pub returns-clause-flow : goal.returns-clause-flow
returns-clause-flow c = place_of c.args.net.now c.args.number (flow_of c.in-Some.flow.now) (sym c.in-Some.ensures.flow)
