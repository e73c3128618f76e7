-- What arrives at a server whose flows keep their curves there: each packet is of a flow with a hop there, in its
-- flow's queue.
use Rattle.std.specs.Prelude.{◌≡◌, ℕ, ◌<◌, ◌≤◌, ◌==◌, ◌&&◌, List, [], ◌∷◌, length}
use Rattle.std.proofs.Common.{arith, sym, ap, ◌∙◌, subst, inl, inr}
use Rattle.std.proofs.lemmas.Bool.{eqb-true, eq-eqb}
use Rattle.rational.specs.Rational.{ℚ, ◌-ℚ◌, ◌≤ℚ◌}
use Rattle.rational.specs.Extended.{Ext, ◌≤ₑ◌}
use Rattle.rational.specs.declared.Extended.TheVariants.{Fin}
use Rattle.rational.proofs.ExtendedOrder.{le_ext_trans}
use Rattle.rational.proofs.Linear.{with1, with2}
use Rattle.min_plus.specs.Functions.{zero_q, IsNonnegative}
use Rattle.run_laws.specs.Runs.{SpecRun}
use Rattle.run_laws.specs.Cards.{Card, Class, of_flow, ServerStep, Arrives, Works, Leaves, Visits}
use Rattle.run_laws.specs.Counts.{arrives, within, arrived_in}
use Rattle.run_laws.specs.Premises.{EachArrival, KeepsArrivals}
use Rattle.run_laws.specs.Routes as routes
use Rattle.run_laws.specs.Routes.{Hop, route_of, PassesServer}
use Rattle.run_laws.proofs.Arrivals.{arrivals_map, IsPassing}
use Rattle.run_laws.proofs.QueueBound.{passing}
use Rattle.run_laws.proofs.Sizes.{size_nonneg}
use Rattle.run_laws.proofs.Sums.{when_nonneg, each_all, total_nonneg}
use Rattle.run_laws.specs.Cards.{size}
use Rattle.net_laws.specs.Orders.{KeptAt}
use Rattle.net_model.specs.Networks.{Net}
use Rattle.net_model.specs.Accepted.{IsAccepted}
use Rattle.upp_curve.specs.Curve.{value_at}
use Rattle.net_cells.specs.declared.cell.Kind.TheVariants.{In}
use Rattle.net_cells.specs.Numbered.{packet, arrival, service, hops, server_of_hop, queue_of_hop, path}
use Rattle.net_cells.specs.declared.visit.Visit.{Visit}
use Rattle.net_cells.specs.Visits.{visit, visits, visits_in}
use Rattle.net_cells.specs.Cells.{cell_of}
use Rattle.net_cells.specs.Meanings.{CellTable}
use Rattle.net_cells.specs.Equations.{MeetsEquations}
use Rattle.net_cells.proofs.Lists.{has_filter, filter_has}
use Rattle.net_cells.proofs.Places.{has_visit, visit_has}
use Rattle.net_bounds.specs.NetRuns.{routes_of, IsRunOf}
use Rattle.net_bounds.specs.Promises.{seen_by}
use Rattle.net_bounds.proofs.Placed.{place_of_at}
use Rattle.net_bounds.proofs.Paths.{queue_is, passes_has}
use Rattle.net_bounds.proofs.Routed.{own_queues, live_is, hops_is, routed, hop_is_live, hop_at, passes_at, hop_passes}
use Rattle.net_bounds.proofs.ListSums.{HasKey}
use Rattle.net_bounds.proofs.Cells.{values, HasValues}
use Rattle.run_laws.proofs.Members.{Has}

-- ---- the setting
-- the curve of a flow at a server of its path
abbrev pub arrivals : Net → CellTable → ℕ → ℕ → ℚ → Ext
arrivals net at i s = values at (cell_of In i (hop_at net i s))

-- a server of a network, in a run of it, whose flows keep their curves there
pub record AtServer (net : Net) (at : CellTable) (run : SpecRun) (s : ℕ) : Type 0 where
  pub accepted : IsAccepted net
  pub meets : MeetsEquations net at
  pub run_of : IsRunOf net run
  pub inside : s < length net.servers
  pub kept : KeptAt (routes_of net) run (arrivals net at) s

pub all_passing : (net : Net) (run : SpecRun) (s : ℕ) → IsRunOf net run
    → EachArrival (IsPassing (routes_of net) (packet net) s) (seen_by net run s)
all_passing net run s r =
    passing (routes_of net) run (packet net) (λ i. value_at (arrival net i)) (λ k. value_at (service net k)) s
    r.lawful r.keeps

-- ---- curves
pub keeps_values : (C : Class) (f base : ℚ → Ext) (V : List ServerStep) → HasValues base f → KeepsArrivals C base V
    → KeepsArrivals C f V
keeps_values C f base V is keeps s t l =
    subst (λ (x : Ext). Fin (arrived_in C V s t) ≤ₑ x)
    (sym (is (t -ℚ s) (with2 s t (λ c. omega (arith, c.le, c.lt, c.same))))) (keeps s t l)

-- a curve that is kept is nowhere below 0
pub kept_nonneg : (C : Class) (α : ℚ → Ext) (V : List ServerStep) → KeepsArrivals C α V → IsNonnegative α
kept_nonneg C α V keeps t p =
    subst (λ (x : ℚ). Fin zero_q ≤ₑ α x) (with1 t (λ c. omega (arith, c.le, c.lt, c.same)))
    (le_ext_trans (Fin zero_q) (Fin (arrived_in C V zero_q t)) (α (t -ℚ zero_q)) some (keeps zero_q t p))
  where
    none_less : (x : ServerStep) → zero_q ≤ℚ arrives C (within zero_q t) x
    none_less (Arrives c u) = when_nonneg (C c && within zero_q t u) (size c) (size_nonneg c)
    none_less (Works c a b w) = with1 zero_q (λ c. omega (arith, c.le, c.lt, c.same))
    none_less (Leaves c u) = with1 zero_q (λ c. omega (arith, c.le, c.lt, c.same))
    none_less (Visits q u) = with1 zero_q (λ c. omega (arith, c.le, c.lt, c.same))

    some : zero_q ≤ℚ arrived_in C V zero_q t
    some = total_nonneg (arrives C (within zero_q t)) V
        (each_all (λ x. zero_q ≤ℚ arrives C (within zero_q t) x) none_less V)

-- ---- a flow
pub hop_is : (net : Net) (i k : ℕ) → IsAccepted net → k < hops net i → hop_at net i (server_of_hop net i k) ≡ k
hop_is net i k a h = place_of_at (path net i) k (routed net i a (hop_is_live net i k h)).apart h

pub flow_comes : (net : Net) (at : CellTable) (run : SpecRun) (s i k : ℕ) → AtServer net at run s → k < hops net i
    → server_of_hop net i k ≡ s
    → KeepsArrivals (of_flow i) (values at (cell_of In i k)) (seen_by net run s)
flow_comes net at run s i k w h e =
    let here : hop_at net i s ≡ k = ap (hop_at net i) (sym e) ∙ hop_is net i k w.accepted h in
    subst (λ (j : ℕ). KeepsArrivals (of_flow i) (values at (cell_of In i j)) (seen_by net run s)) here
    (w.kept i (live_is net i ∙ hop_is_live net i k h)
    (subst (λ (r : ℕ). PassesServer r (route_of (routes_of net) i).hops) e (hop_passes net i k w.accepted h)))

-- ---- a packet that arrives
-- it is at the place of the server on its flow's path, in its flow's queue there
pub record IsVisiting (net : Net) (s : ℕ) (c : Card) : Type 0 where
  pub within : hop_at net c.flow s < hops net c.flow
  pub server : server_of_hop net c.flow (hop_at net c.flow s) ≡ s
  pub queue : queue_of_hop net c.flow (hop_at net c.flow s) ≡ c.queue
  pub small : c.bits ≤ packet net c.flow

pub visiting : (net : Net) (s : ℕ) (c : Card) → IsAccepted net → IsPassing (routes_of net) (packet net) s c
    → IsVisiting net s c
visiting net s c a p =
    let at_place = passes_at net c.flow s p.passes in
    let on = routed net c.flow a (sym (live_is net c.flow) ∙ p.is_live) in
    let there = passes_has s (path net c.flow) (own_queues net c.flow)
    (subst (PassesServer s) (hops_is net c.flow) p.passes) in
    record {
      within = at_place.within;
      server = at_place.is;
      queue = sym (p.its_queue ∙ ap (λ (hs : List Hop). routes.queue_at s hs) (hops_is net c.flow) ∙ queue_is s
          (path net c.flow) (own_queues net c.flow) on.paired there);
      small = p.small;
    }

pub all_visiting : (net : Net) (at : CellTable) (run : SpecRun) (s : ℕ) → AtServer net at run s
    → EachArrival (IsVisiting net s) (seen_by net run s)
all_visiting net at run s w =
    arrivals_map (IsPassing (routes_of net) (packet net) s) (IsVisiting net s) (λ c p. visiting net s c w.accepted p)
    (seen_by net run s)
    (all_passing net run s w.run_of)

abbrev pub card_visit : Net → ℕ → Card → Visit
card_visit net s c = visit c.flow (hop_at net c.flow s)

pub has_card : (net : Net) (s : ℕ) (c : Card) → IsVisiting net s c → Has (visits net s) (card_visit net s c)
has_card net s c v = has_visit net s c.flow (hop_at net c.flow s) v.within v.server

pub has_in : (net : Net) (s q : ℕ) (c : Card) → IsVisiting net s c → c.queue ≡ q
    → Has (visits_in net s q) (card_visit net s c)
has_in net s q c v e =
    has_filter (λ w. queue_of_hop net w.flow w.hop == q) (visits net s) (card_visit net s c) (has_card net s c v)
    (eq-eqb (queue_of_hop net c.flow (hop_at net c.flow s)) q (v.queue ∙ e))

-- ---- visits
pub record IsVisitIn (net : Net) (s q : ℕ) (v : Visit) : Type 0 where
  pub within : v.hop < hops net v.flow
  pub server : server_of_hop net v.flow v.hop ≡ s
  pub queue : queue_of_hop net v.flow v.hop ≡ q

pub visit_in : (net : Net) (s q : ℕ) (v : Visit) → Has (visits_in net s q) v → IsVisitIn net s q v
visit_in net s q v h =
    let kept = filter_has (λ w. queue_of_hop net w.flow w.hop == q) (visits net s) v h in
    let found = visit_has net s v kept.0 in
    record { within = found.0; server = found.1; queue = eqb-true (queue_of_hop net v.flow v.hop) q kept.1 }

pub has_key : {X : Type 0} (key : X → ℕ) (xs : List X) (x : X) (n : ℕ) → Has xs x → key x ≡ n → HasKey key xs n
has_key key [] x n h e = absurd h
has_key key (y ∷ ys) x n (inl same) e = inl (ap key same ∙ e)
has_key key (y ∷ ys) x n (inr h) e = inr (has_key key ys x n h e)
