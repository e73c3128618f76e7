-- Two flows in one first in, first out queue reach their bounds.
use Rattle.std.specs.Prelude.{codes}
use Rattle.std.proofs.Common.{[], ◌∷◌, refl, arith}
use Rattle.run_laws.specs.Cards.{whole}
use Rattle.net_model.specs.Accepted.{IsFlow, IsAccepted}
use Rattle.net_model.specs.Orders.{IsOrder}
use Rattle.net_model.proofs.Short.{named_by_two}
use Rattle.worked_runs.specs.Parts.{first_flow, second_flow}
use Rattle.worked_runs.specs.TwoFlows.{two_flows, TwoFlowsReachTheirBounds}
use Rattle.worked_runs.proofs.Accepting.{ends_apart, is_one_hop_flow, two_accepted, two_ordered}
use Rattle.worked_runs.proofs.Reaching.{bound_by}
use Rattle.worked_runs.proofs.TwoFlowsTable.{table, meets}
use Rattle.worked_runs.proofs.TwoFlowsRuns.{first_flow_last_delay, second_flow_last_delay}
use Rattle.worked_runs.proofs.OneFlow.{its_server, is_server}

is_first : IsFlow two_flows.servers first_flow
is_first = is_one_hop_flow two_flows.servers (codes "f1") 0 12000 10 (named_by_two 102 49 refl refl) (omega arith) (omega arith)
    record { server = its_server; is = refl; has_queue = omega arith; takes = tt }

is_second : IsFlow two_flows.servers second_flow
is_second = is_one_hop_flow two_flows.servers (codes "f2") 0 6000 5 (named_by_two 102 50 refl refl) (omega arith) (omega arith)
    record { server = its_server; is = refl; has_queue = omega arith; takes = tt }

accepted : IsAccepted two_flows
accepted = two_accepted its_server first_flow second_flow is_server is_first is_second (ends_apart 102 49 102 50 (omega arith))

ordered : IsOrder two_flows (0 ∷ [])
ordered = two_ordered its_server first_flow second_flow refl refl

pub two_flows_reach_their_bounds : TwoFlowsReachTheirBounds
two_flows_reach_their_bounds = record {
  first = record {
    has_bound = bound_by two_flows (0 ∷ []) 0 (whole 190) table accepted ordered meets refl refl;
    has_delay = first_flow_last_delay;
  };
  second = record {
    has_bound = bound_by two_flows (0 ∷ []) 1 (whole 190) table accepted ordered meets refl refl;
    has_delay = second_flow_last_delay;
  };
}
