-- Two flows at a priority server reach their bounds.
use Rattle.std.specs.Prelude.{codes}
use Rattle.std.proofs.Common.{[], ◌∷◌, refl, arith}
use Rattle.run_laws.specs.Cards.{whole}
use Rattle.run_laws.specs.Servers.{Priority}
use Rattle.net_model.specs.Accepted.{IsServer, IsFlow, IsAccepted}
use Rattle.net_model.specs.Networks.{NetServer, NetFlow}
use Rattle.net_model.specs.Orders.{IsOrder}
use Rattle.net_model.proofs.Short.{named_by_two}
use Rattle.worked_runs.specs.Parts.{late_server, bucket_flow}
use Rattle.worked_runs.specs.TwoPriorities.{two_priorities, TwoPrioritiesReachTheirBounds}
use Rattle.worked_runs.proofs.Accepting.{ends_apart, is_late_server, is_one_hop_flow, two_accepted, two_ordered}
use Rattle.worked_runs.proofs.Reaching.{bound_by}
use Rattle.worked_runs.proofs.TwoPrioritiesTable.{table, meets}
use Rattle.worked_runs.proofs.TwoPrioritiesRuns.{higher_first_delay, lower_first_delay}

abbrev its_server : NetServer
its_server = late_server (codes "s1") 0 (Priority 2)

abbrev first : NetFlow
first = bucket_flow (codes "f1") (0 ∷ []) (1 ∷ []) 12000 0

abbrev second : NetFlow
second = bucket_flow (codes "f2") (0 ∷ []) (0 ∷ []) 6000 0

is_server : IsServer its_server
is_server = is_late_server (codes "s1") 0 (Priority 2) (named_by_two 115 49 refl refl) (omega arith, omega arith)

is_first : IsFlow two_priorities.servers first
is_first = is_one_hop_flow two_priorities.servers (codes "f1") 1 12000 0 (named_by_two 102 49 refl refl) (omega arith) (omega arith)
    record { server = its_server; is = refl; has_queue = omega arith; takes = tt }

is_second : IsFlow two_priorities.servers second
is_second = is_one_hop_flow two_priorities.servers (codes "f2") 0 6000 0 (named_by_two 102 50 refl refl) (omega arith) (omega arith)
    record { server = its_server; is = refl; has_queue = omega arith; takes = tt }

accepted : IsAccepted two_priorities
accepted = two_accepted its_server first second is_server is_first is_second (ends_apart 102 49 102 50 (omega arith))

ordered : IsOrder two_priorities (0 ∷ [])
ordered = two_ordered its_server first second refl refl

pub two_priorities_reach_their_bounds : TwoPrioritiesReachTheirBounds
two_priorities_reach_their_bounds = record {
  lower = record {
    has_bound = bound_by two_priorities (0 ∷ []) 0 (whole 190) table accepted ordered meets refl refl;
    has_delay = higher_first_delay;
  };
  higher = record {
    has_bound = bound_by two_priorities (0 ∷ []) 1 (whole 190) table accepted ordered meets refl refl;
    has_delay = lower_first_delay;
  };
}
