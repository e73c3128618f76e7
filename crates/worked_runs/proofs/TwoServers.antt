-- One packet over two servers with links of 5 reaches its bound.
use Rattle.std.specs.Prelude.{Contains, codes}
use Rattle.std.proofs.Common.{◌≡◌, ◌≢◌, ℕ, zero, suc, ◌<◌, [], ◌∷◌, length, get_or, take, true, false, ◌&&◌, ◌==◌, Some, refl, ap, sym, subst, arith, inl, inr}
use Rattle.std.proofs.lemmas.Option.{same_Some}
use Rattle.rational.specs.Rational.{ℚ, ◌-ℚ◌, ◌≤ℚ◌}
use Rattle.rational.specs.Extended.{◌≤ₑ◌}
use Rattle.rational.specs.declared.Extended.TheVariants.{Fin}
use Rattle.rational.proofs.Integers.{nat_nonneg}
use Rattle.rational.proofs.Linear.{with1}
use Rattle.upp_curve.specs.Curve.{value_at}
use Rattle.upp_limits.specs.Windows.{IsLeast}
use Rattle.upp_curve.proofs.KindValues.{service_is}
use Rattle.run_laws.specs.Cards.{whole}
use Rattle.run_laws.specs.Counts.{when, within}
use Rattle.run_laws.specs.Premises.{KeepsService}
use Rattle.run_laws.specs.Routes.{route_of}
use Rattle.run_laws.specs.RunPremises.{EnterSizes, entered_in}
use Rattle.run_laws.specs.Servers.{Fifo}
use Rattle.run_laws.specs.Views.{view}
use Rattle.net_model.specs.Accepted.{IsServer, IsHop, IsFlow, IsAccepted}
use Rattle.net_model.specs.Names.{DifferInName}
use Rattle.net_model.specs.Networks.{NetServer, NetFlow}
use Rattle.net_model.specs.Orders.{IsReady, IsOrder}
use Rattle.net_model.specs.Walks.{IsNext}
use Rattle.net_model.proofs.KindsStand.{kinds_may_stand}
use Rattle.net_model.proofs.Short.{no_pairs, one_pair, alone, one_of_two, named_by_two}
use Rattle.net_cells.specs.Numbered.{packet, arrival, service}
use Rattle.net_bounds.specs.NetRuns.{IsRunOf, routes_of}
use Rattle.worked_runs.specs.Parts.{late_server, bucket_flow}
use Rattle.worked_runs.specs.TwoServers.{two_servers, over_both, TwoServersReachTheirBound}
use Rattle.worked_runs.proofs.Accepting.{ends_apart, is_late_server}
use Rattle.worked_runs.proofs.Keeping.{bucket_covers, at_most}
use Rattle.worked_runs.proofs.Reaching.{bound_by}
use Rattle.worked_runs.proofs.TwoServersRun.{lawful, its_delay, keeps_service}
use Rattle.worked_runs.proofs.TwoServersTable.{table, meets}

-- ---- the network
abbrev first : NetServer
first = late_server (codes "s1") 5 Fifo

abbrev second : NetServer
second = late_server (codes "s2") 5 Fifo

abbrev its_flow : NetFlow
its_flow = bucket_flow (codes "f1") (0 ∷ 1 ∷ []) (0 ∷ 0 ∷ []) 12000 10

is_server : (s : NetServer) → Contains two_servers.servers s → IsServer s
is_server s has = elim (one_of_two first second s has) [
  | inl e ↦ subst IsServer e (is_late_server (codes "s1") 5 Fifo (named_by_two 115 49 refl refl) tt)
  | inr e ↦ subst IsServer e (is_late_server (codes "s2") 5 Fifo (named_by_two 115 50 refl refl) tt)
]

is_hop : (k : ℕ) → k < 2 → IsHop two_servers.servers (get_or its_flow.path k 0) (get_or its_flow.queues k 0) 12000
is_hop zero within = record { server = first; is = refl; has_queue = omega arith; takes = tt }
is_hop (suc zero) within = record { server = second; is = refl; has_queue = omega arith; takes = tt }
is_hop (suc (suc k)) within = absurd (omega (arith, within))

is_flow : IsFlow two_servers.servers its_flow
is_flow = record {
  name = named_by_two 102 49 refl refl;
  packet = (omega arith, omega arith);
  some = omega arith;
  few = omega arith;
  paired = refl;
  hops = is_hop;
  once = one_pair (λ s t. s ≢ t) 0 1 (λ e. omega (arith, e));
  arrival = kinds_may_stand.bucket (whole 12000) (whole 10) (nat_nonneg 12000) (nat_nonneg 10);
}

its_only_flow : (f : NetFlow) → Contains two_servers.flows (Some f) → its_flow ≡ f
its_only_flow f has = same_Some its_flow f (alone (Some its_flow) (Some f) has)

accepted : IsAccepted two_servers
accepted = record {
  version = (omega arith, omega arith);
  few_servers = omega arith;
  few_flows = omega arith;
  names = (
    one_pair (λ s t. s.name ≢ t.name) first second (ends_apart 115 49 115 50 (omega arith)),
    no_pairs DifferInName (Some its_flow),
  );
  servers = is_server;
  flows = λ f has. subst (IsFlow two_servers.servers) (its_only_flow f has) is_flow;
}

-- ---- the order
-- the second server comes right after the first, and nothing else
next_is : (a b : ℕ) → IsNext two_servers a b → (0 ≡ a) × (1 ≡ b)
next_is a b h =
    let flow : its_flow ≡ h.flow = its_only_flow h.flow h.live in
    let two : 2 ≡ length h.flow.path = ap (λ (f : NetFlow). length f.path) flow in
    let on : suc h.step.hop < length h.flow.path = h.step.on_path in
    let hop : 0 ≡ h.step.hop = omega (arith, two, on) in
    let from : get_or h.flow.path h.step.hop 0 ≡ a = h.step.from in
    let to : get_or h.flow.path (suc h.step.hop) 0 ≡ b = h.step.to in (
      subst (λ k. get_or (0 ∷ 1 ∷ []) k 0 ≡ a) (sym hop) (subst (λ (f : NetFlow). get_or f.path h.step.hop 0 ≡ a) (sym flow) from),
      subst (λ k. get_or (0 ∷ 1 ∷ []) (suc k) 0 ≡ b) (sym hop)
          (subst (λ (f : NetFlow). get_or f.path (suc h.step.hop) 0 ≡ b) (sym flow) to),
    )

ready_first : IsReady two_servers [] 0
ready_first = record {
  in_range = omega arith;
  free = λ has. absurd (omega (arith, has.1));
  waits_for_none = λ before next. let e = (next_is before 0 next).1 in absurd (omega (arith, e));
}

ready_second : IsReady two_servers (0 ∷ []) 1
ready_second = record {
  in_range = omega arith;
  free = λ has. let e = alone 0 1 has in absurd (omega (arith, e));
  waits_for_none = λ before next. (0, omega arith, (next_is before 1 next).0);
}

-- the first server has its place already
not_again : (other : ℕ) → other < 1 → ¬ (IsReady two_servers (0 ∷ []) other)
not_again other before h = h.free (0, omega arith, omega (arith, before))

ordered : IsOrder two_servers (0 ∷ 1 ∷ [])
ordered = record { all = refl; each = each }
  where
    each : (place : ℕ) → place < 2 → IsLeast (IsReady two_servers (take place (0 ∷ 1 ∷ []))) (get_or (0 ∷ 1 ∷ []) place 0)
    each zero within = record { meets = ready_first; least = λ other before h. absurd (omega (arith, before)) }
    each (suc zero) within = record { meets = ready_second; least = λ other before h. absurd (not_again other before h) }
    each (suc (suc place)) within = absurd (omega (arith, within))

-- ---- the run
keeps_sizes : (flow : ℕ) → (route_of (routes_of two_servers) flow).live ≡ true → EnterSizes flow (packet two_servers flow) over_both.steps
keeps_sizes zero live = (λ e. omega arith, tt)
keeps_sizes (suc flow) live = let bad : false ≡ true = live in absurd (cc)

enters_at_most : (s t : ℚ) → entered_in 0 s t over_both.steps ≤ℚ whole 12000
enters_at_most s t =
    let one = when ((0 == 0) && within s t (whole 0)) (whole 12000) in
    let k = at_most ((0 == 0) && within s t (whole 0)) 12000 in
    with1 one (λ c. omega (arith, c.le, c.lt, c.same))

keeps_arrivals : (flow : ℕ) → (route_of (routes_of two_servers) flow).live ≡ true → (s t : ℚ) → s ≤ℚ t
    → Fin (entered_in flow s t over_both.steps) ≤ₑ value_at (arrival two_servers flow) (t -ℚ s)
keeps_arrivals zero live s t before = bucket_covers 12000 10 (entered_in 0 s t over_both.steps) s t before (enters_at_most s t)
keeps_arrivals (suc flow) live s t before = let bad : false ≡ true = live in absurd (cc)

keeps_services : (server : ℕ) → server < 2
    → KeepsService (value_at (service two_servers server)) over_both.end (view (routes_of two_servers) over_both server)
keeps_services zero within = keeps_service _ (service_is (whole 100) (whole 10) (nat_nonneg 100) (nat_nonneg 10)) 0 within
keeps_services (suc zero) within = keeps_service _ (service_is (whole 100) (whole 10) (nat_nonneg 100) (nat_nonneg 10)) 1 within
keeps_services (suc (suc server)) within = absurd (omega (arith, within))

is_run : IsRunOf two_servers over_both
is_run = record {
  lawful = lawful;
  keeps = record { sizes = keeps_sizes; arrivals = keeps_arrivals; service = keeps_services };
}

pub two_servers_reach_their_bound : TwoServersReachTheirBound
two_servers_reach_their_bound = record {
  has_bound = bound_by two_servers (0 ∷ 1 ∷ []) 0 (whole 270) table accepted ordered meets refl refl;
  has_delay = record { is_run = is_run; its_delay = its_delay };
}
