-- One flow over a gate reaches its bound.
use Rattle.std.proofs.Common.{◌≢◌, ℕ, zero, suc, ◌<◌, [], ◌∷◌, get_or, refl, arith}
use Rattle.rational.proofs.Integers.{nat_lt, nat_le, nat_nonneg}
use Rattle.run_laws.specs.Cards.{whole}
use Rattle.net_model.specs.Accepted.{IsServer, IsHop, IsFlow, IsAccepted}
use Rattle.net_model.specs.Orders.{IsOrder}
use Rattle.net_model.proofs.KindsStand.{kinds_may_stand}
use Rattle.net_model.proofs.Short.{no_pairs, named_by_one}
use Rattle.worked_runs.specs.OneGate.{its_server, its_flow, one_gate, GateReachesItsBound}
use Rattle.worked_runs.proofs.Accepting.{one_accepted, one_ordered}
use Rattle.worked_runs.proofs.GateLag.{is_service}
use Rattle.worked_runs.proofs.OneGateRun.{at_its_end_delay}
use Rattle.worked_runs.proofs.OneGateTable.{table, meets}
use Rattle.worked_runs.proofs.Reaching.{bound_by}

-- ---- the network
is_server : IsServer its_server
is_server = record {
  name = named_by_one 103 refl;
  rate = nat_lt 0 100 (omega arith);
  kind = (nat_lt 0 250 (omega arith), nat_le 250 1000 (omega arith), refl);
  service = is_service;
  link = nat_nonneg 0;
  queues = tt;
}

is_flow : IsFlow one_gate.servers its_flow
is_flow = record {
  name = named_by_one 102 refl;
  packet = (omega arith, omega arith);
  some = omega arith;
  few = omega arith;
  paired = refl;
  hops = is_hop;
  once = no_pairs (λ s t. s ≢ t) 0;
  arrival = kinds_may_stand.stair (whole 24000) (whole 1500) (whole 0) (nat_nonneg 24000) (nat_lt 0 1500 (omega arith)) (nat_nonneg 0);
}
  where
    is_hop : (k : ℕ) → k < 1 → IsHop one_gate.servers (get_or its_flow.path k 0) (get_or its_flow.queues k 0) 24000
    is_hop zero within = record { server = its_server; is = refl; has_queue = omega arith; takes = tt }
    is_hop (suc k) within = absurd (omega (arith, within))

accepted : IsAccepted one_gate
accepted = one_accepted its_server its_flow is_server is_flow

ordered : IsOrder one_gate (0 ∷ [])
ordered = one_ordered its_server its_flow refl

pub gate_reaches_its_bound : GateReachesItsBound
gate_reaches_its_bound = record {
  has_bound = bound_by one_gate (0 ∷ []) 0 (whole 990) table accepted ordered meets refl refl;
  has_delay = at_its_end_delay;
}
