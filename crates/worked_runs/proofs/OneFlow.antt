-- One flow over one server reaches its bound.
use Rattle.std.specs.Prelude.{codes}
use Rattle.std.proofs.Common.{◌≡◌, ℕ, zero, suc, ◌<◌, [], ◌∷◌, true, false, refl, subst, arith}
use Rattle.rational.specs.Rational.{◌-ℚ◌}
use Rattle.rational.specs.Extended.{◌≤ₑ◌}
use Rattle.rational.specs.declared.Extended.TheVariants.{Fin}
use Rattle.rational.proofs.Integers.{nat_nonneg}
use Rattle.upp_curve.specs.Curve.{value_at}
use Rattle.upp_curve.specs.Kinds.{bucket, rate_latency}
use Rattle.upp_curve.proofs.KindValues.{bucket_is, service_is}
use Rattle.run_laws.specs.Cards.{whole}
use Rattle.run_laws.specs.Examples.{one_packet, ReachesItsBound}
use Rattle.run_laws.specs.Premises.{KeepsService}
use Rattle.run_laws.specs.Routes.{route_of}
use Rattle.run_laws.specs.RunPremises.{EnterSizes, entered_in}
use Rattle.run_laws.specs.Servers.{Fifo}
use Rattle.run_laws.specs.Views.{view}
use Rattle.run_laws.proofs.OnePacket.{one_packet_reaches_its_bound}
use Rattle.net_model.specs.Accepted.{IsServer, IsFlow, IsAccepted}
use Rattle.net_model.specs.Networks.{NetServer}
use Rattle.net_model.specs.Orders.{IsOrder}
use Rattle.net_model.proofs.Short.{named_by_two}
use Rattle.net_cells.specs.Numbered.{packet, arrival, service}
use Rattle.net_bounds.specs.NetRuns.{routes_of, IsRunOf}
use Rattle.worked_runs.specs.Parts.{late_server, first_flow}
use Rattle.worked_runs.specs.OneFlow.{one_flow, OneFlowReachesItsBound}
use Rattle.worked_runs.proofs.Accepting.{is_late_server, is_one_hop_flow, one_accepted, one_ordered}
use Rattle.worked_runs.proofs.OneFlowTable.{table, meets}
use Rattle.worked_runs.proofs.Reaching.{bound_by}

-- ---- the network
abbrev pub its_server : NetServer
its_server = late_server (codes "s1") 0 Fifo

pub is_server : IsServer its_server
is_server = is_late_server (codes "s1") 0 Fifo (named_by_two 115 49 refl refl) tt

is_flow : IsFlow one_flow.servers first_flow
is_flow = is_one_hop_flow one_flow.servers (codes "f1") 0 12000 10 (named_by_two 102 49 refl refl) (omega arith) (omega arith)
    record { server = its_server; is = refl; has_queue = omega arith; takes = tt }

accepted : IsAccepted one_flow
accepted = one_accepted its_server first_flow is_server is_flow

ordered : IsOrder one_flow (0 ∷ [])
ordered = one_ordered its_server first_flow refl

-- ---- the run
-- with the curves of the network
reached : ReachesItsBound (value_at (bucket (whole 12000) (whole 10))) (value_at (rate_latency (whole 100) (whole 10)))
reached = one_packet_reaches_its_bound (value_at (bucket (whole 12000) (whole 10))) (value_at (rate_latency (whole 100) (whole 10))) record {
  bucket = bucket_is (whole 12000) (whole 10);
  latency = service_is (whole 100) (whole 10) (nat_nonneg 100) (nat_nonneg 10);
}

-- flow 0 is the only live one
only_flow : (flow : ℕ) → (route_of (routes_of one_flow) flow).live ≡ true → 0 ≡ flow
only_flow zero live = refl
only_flow (suc flow) live = let bad : false ≡ true = live in absurd (cc)

keeps_service : (server : ℕ) → server < 1
    → KeepsService (value_at (service one_flow server)) one_packet.end (view (routes_of one_flow) one_packet server)
keeps_service zero within = reached.keeps.service 0 (omega arith)
keeps_service (suc server) within = absurd (omega (arith, within))

is_run : IsRunOf one_flow one_packet
is_run =
    let keeps = reached.keeps in
    record {
      lawful = reached.is_lawful;
      keeps = record {
        sizes = λ flow live. subst (λ i. EnterSizes i (packet one_flow i) one_packet.steps) (only_flow flow live)
            (keeps.sizes 0 refl);
        arrivals = λ flow live s t before.
            subst (λ i. Fin (entered_in i s t one_packet.steps) ≤ₑ value_at (arrival one_flow i) (t -ℚ s))
            (only_flow flow live) (keeps.arrivals 0 refl s t before);
        service = keeps_service;
      };
    }

pub one_flow_reaches_its_bound : OneFlowReachesItsBound
one_flow_reaches_its_bound = record {
  has_bound = bound_by one_flow (0 ∷ []) 0 (whole 130) table accepted ordered meets refl refl;
  has_delay = record { is_run = is_run; its_delay = reached.its_delay };
}
