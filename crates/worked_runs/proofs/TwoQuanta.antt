-- Two flows at a deficit round robin server stay below their bounds.
use Rattle.std.specs.Prelude.{All, codes}
use Rattle.std.proofs.Common.{zero, suc, [], ◌∷◌, refl, arith}
use Rattle.run_laws.specs.Cards.{whole}
use Rattle.run_laws.specs.Servers.{Drr}
use Rattle.net_model.specs.Accepted.{IsLength, IsServer, IsFlow, IsAccepted}
use Rattle.net_model.specs.Networks.{NetServer, NetFlow}
use Rattle.net_model.specs.Orders.{IsOrder}
use Rattle.net_model.proofs.Short.{named_by_two}
use Rattle.worked_runs.specs.Parts.{late_server, first_flow, bucket_flow}
use Rattle.worked_runs.specs.TwoQuanta.{two_quanta, TwoQuantaStayBelowTheirBounds}
use Rattle.worked_runs.proofs.Accepting.{ends_apart, is_late_server, is_one_hop_flow, two_accepted, two_ordered}
use Rattle.worked_runs.proofs.Reaching.{bound_by}
use Rattle.worked_runs.proofs.TwoQuantaTable.{table, meets}
use Rattle.worked_runs.proofs.TwoQuantaRuns.{first_flow_last_delay, second_flow_last_delay}

abbrev its_server : NetServer
its_server = late_server (codes "s1") 0 (Drr (12000 ∷ 6000 ∷ []))

abbrev second : NetFlow
second = bucket_flow (codes "f2") (0 ∷ []) (1 ∷ []) 6000 5

-- both quanta are lengths
each : All IsLength (12000 ∷ 6000 ∷ [])
each zero d within = (omega arith, omega arith)
each (suc zero) d within = (omega arith, omega arith)
each (suc (suc k)) d within = absurd (omega (arith, within))

is_server : IsServer its_server
is_server = is_late_server (codes "s1") 0 (Drr (12000 ∷ 6000 ∷ [])) (named_by_two 115 49 refl refl) ((omega arith, omega arith), each)

is_first : IsFlow two_quanta.servers first_flow
is_first = is_one_hop_flow two_quanta.servers (codes "f1") 0 12000 10 (named_by_two 102 49 refl refl) (omega arith) (omega arith)
    record { server = its_server; is = refl; has_queue = omega arith; takes = omega arith }

is_second : IsFlow two_quanta.servers second
is_second = is_one_hop_flow two_quanta.servers (codes "f2") 1 6000 5 (named_by_two 102 50 refl refl) (omega arith) (omega arith)
    record { server = its_server; is = refl; has_queue = omega arith; takes = omega arith }

accepted : IsAccepted two_quanta
accepted = two_accepted its_server first_flow second is_server is_first is_second (ends_apart 102 49 102 50 (omega arith))

ordered : IsOrder two_quanta (0 ∷ [])
ordered = two_ordered its_server first_flow second refl refl

pub two_quanta_stay_below_their_bounds : TwoQuantaStayBelowTheirBounds
two_quanta_stay_below_their_bounds = record {
  first_bound = bound_by two_quanta (0 ∷ []) 0 (whole 370) table accepted ordered meets refl refl;
  second_bound = bound_by two_quanta (0 ∷ []) 1 (whole 550) table accepted ordered meets refl refl;
  first_delay = first_flow_last_delay;
  second_delay = second_flow_last_delay;
}
