-- A flow at a hop of its path: it is served by what the other of its queue leave, stays no longer than the hop's
-- delay, and leaves with the curve with which it comes to the next hop.
use Rattle.std.specs.Prelude.{◌≡◌, ℕ, suc, ◌<◌, ◌≤◌, ◌==◌, true, List}
use Rattle.std.proofs.Common.{arith, sym, ap, ◌∙◌, refl, subst, get_or}
use Rattle.std.proofs.lemmas.Bool.{eqb-true, eq-eqb, and_parts}
use Rattle.rational.specs.Rational.{ℚ, ◌-ℚ◌, ◌≤ℚ◌}
use Rattle.rational.specs.Extended.{Ext, ◌≤ₑ◌, min_ext}
use Rattle.rational.specs.declared.Extended.TheVariants.{Fin}
use Rattle.rational.proofs.ExtendedOrder.{min_greatest}
use Rattle.rational.proofs.Linear.{with2}
use Rattle.min_plus.specs.Functions.{zero_q}
use Rattle.min_plus.specs.Pointwise.{shifted, packetised}
use Rattle.min_plus.specs.Running.{IsFifoLeftover}
use Rattle.min_plus.proofs.DeviationSigns.{horizontals_are_nonnegative}
use Rattle.curve_call.specs.Growth.{GrowsFromZero}
use Rattle.run_laws.specs.Runs.{SpecRun}
use Rattle.run_laws.specs.Cards.{Card, Class, of_flow, of_queue, whole}
use Rattle.run_laws.specs.Counts.{departed_in}
use Rattle.run_laws.specs.Serves.{Serves, ServesPackets}
use Rattle.run_laws.specs.Delays.{hop_delays, AreAtMost}
use Rattle.run_laws.specs.Routes as routes
use Rattle.run_laws.specs.Routes.{Hop, route_of}
use Rattle.run_laws.proofs.Arrivals.{arrivals_map, arrivals_all}
use Rattle.residuals.proofs.fifo.FifoLaw.{fifo_serves_always}
use Rattle.run_laws.proofs.Service.{packets_are_served}
use Rattle.residuals.proofs.fifo.FifoGrowth as fifo
use Rattle.net_laws.specs.Queues.{IsInQueue}
use Rattle.net_laws.proofs.Queues.{flow_stays, flow_leaves}
use Rattle.net_model.specs.Networks.{Net}
use Rattle.net_model.specs.Accepted.{IsAccepted}
use Rattle.net_cells.specs.declared.cell.Kind.TheVariants.{In, Cross, Total, QueueService, Theta, Residual, QueueDelay, HopDelay, ShiftOut, DeconvOut, Out}
use Rattle.net_cells.specs.Numbered.{packet, path, hops, server_of_hop, queue_of_hop, queues}
use Rattle.net_cells.specs.Cells.{cell_of}
use Rattle.net_cells.specs.Meanings.{CellTable}
use Rattle.net_bounds.specs.NetRuns.{routes_of}
use Rattle.net_bounds.specs.Promises.{seen_by, IsHopKept}
use Rattle.net_bounds.proofs.Paths.{queue_is}
use Rattle.net_bounds.proofs.Routed.{own_queues, hops_is, routed, hop_is_live, hop_at, queue_inside}
use Rattle.run_laws.proofs.Classes.{same_and}
use Rattle.run_laws.proofs.Seen.{IsInOwnQueue, cards_map, in_own_queues, Agree, agree_back, keeps_same, serves_same, same_delays, same_departed_in}
use Rattle.net_bounds.proofs.ListSums.{own, in_two}
use Rattle.net_bounds.proofs.Cells.{values, size_in, curve_has, number_has, curve_holds, number_holds}
use Rattle.net_bounds.proofs.HopCells.{in_curve, theta_is, residual_is, IsHopDelay, hop_delay_is, shift_out_is, deconv_out_is, out_is}
use Rattle.net_bounds.proofs.QueueCells.{queue_delay_is}
use Rattle.net_bounds.proofs.Arriving.{AtServer, hop_is, flow_comes}
use Rattle.net_bounds.proofs.Comes.{queue_comes, cross_comes}
use Rattle.net_bounds.proofs.Sizes.{flow_sizes}
use Rattle.net_bounds.proofs.Queues.{here, lawful_here, queue_served}
use Rattle.run_laws.proofs.Members.{at_has}
use Rattle.net_laws.proofs.Sums.{other}

-- ---- the setting
-- hop k of flow i is at the server
pub record AtHop (net : Net) (at : CellTable) (run : SpecRun) (i k s : ℕ) : Type 0 where
  pub server : AtServer net at run s
  pub within : k < hops net i
  pub is : server_of_hop net i k ≡ s

-- the flow as a part of its queue
abbrev pub part : Net → ℕ → ℕ → Class
part net i k = own (λ c. c.flow) i (of_queue (queue_of_hop net i k))

queue_there : (net : Net) (i k s : ℕ) → IsAccepted net → k < hops net i → server_of_hop net i k ≡ s
    → routes.queue_at s (route_of (routes_of net) i).hops ≡ queue_of_hop net i k
queue_there net i k s a h e =
    let on = routed net i a (hop_is_live net i k h) in
    let place : hop_at net i s ≡ k = ap (hop_at net i) (sym e) ∙ hop_is net i k a h in
    ap (λ (hs : List Hop). routes.queue_at s hs) (hops_is net i)
    ∙ queue_is s (path net i) (own_queues net i) on.paired (at_has (path net i) k 0 s h e)
    ∙ ap (λ (j : ℕ). get_or (own_queues net i) j 0) place

pub part_agrees : (net : Net) (at : CellTable) (run : SpecRun) (i k s : ℕ) → AtHop net at run i k s
    → Agree (part net i k) (of_flow i) (seen_by net run s)
part_agrees net at run i k s w =
    cards_map (IsInOwnQueue (routes_of net) s) (λ c. part net i k c ≡ of_flow i c) one (seen_by net run s)
    (in_own_queues (routes_of net) run s)
  where
    one : (c : Card) → IsInOwnQueue (routes_of net) s c → part net i k c ≡ of_flow i c
    one c e = same_and (c.queue == queue_of_hop net i k) (c.flow == i)
        (λ own_flow.
        let same : c.flow ≡ i = eqb-true c.flow i own_flow in
        let its : c.queue ≡ queue_of_hop net i k =
        e ∙ ap (λ (j : ℕ). routes.queue_at s (route_of (routes_of net) j).hops) same ∙ queue_there net i k s
        w.server.accepted w.within w.is in
        eq-eqb c.queue (queue_of_hop net i k) its)

-- ---- service
queue_is_there : (net : Net) (at : CellTable) (run : SpecRun) (i k s : ℕ) → AtHop net at run i k s
    → queue_of_hop net i k < queues net s
queue_is_there net at run i k s w =
    subst (λ (r : ℕ). queue_of_hop net i k < queues net r) w.is (queue_inside net i k w.server.accepted w.within)

pub record IsFlowServed (net : Net) (run : SpecRun) (i k s : ℕ) (g : ℚ → Ext) : Type 0 where
  pub serves : Serves (part net i k) g run.end (seen_by net run s)
  pub grows : GrowsFromZero g

pub flow_served : (net : Net) (at : CellTable) (run : SpecRun) (i k s : ℕ) → AtHop net at run i k s
    → IsFlowServed net run i k s (values at (cell_of Residual i k))
flow_served net at run i k s w =
    let q = queue_of_hop net i k in
    let β = values at (cell_of QueueService s q) in
    let cross = values at (cell_of Cross i k) in
    let theta = size_in at (cell_of Theta i k) in
    let R = values at (cell_of Residual i k) in
    let V = seen_by net run s in
    let queue = queue_served net at run s q w.server (queue_is_there net at run i k s w) in
    let is_theta = theta_is net at i k w.server.meets w.within in
    let is_residual = residual_is net at i k w.server.meets w.within in
    let low = horizontals_are_nonnegative cross (values at (cell_of QueueService (server_of_hop net i k) q)) theta
    (number_holds at (cell_of Theta i k) _ is_theta) in
    let residual = subst
    (λ (r : ℕ). (t : ℚ) → zero_q ≤ℚ t → IsFifoLeftover (values at (cell_of QueueService r q)) cross theta t (R t)) w.is
    (curve_holds at (cell_of Residual i k) _ is_residual) in
    record {
      serves = fifo_serves_always (here net s) run.end V (of_queue q) (part net i k)
          (other (λ c. c.flow) i (of_queue q)) q β cross R theta
          (lawful_here net at run s w.server) (λ c e. eqb-true c.queue q e) (in_two (λ c. c.flow) i (of_queue q))
          (cross_comes net at run s i k w.server w.within w.is) queue.serves low residual;
      grows = fifo.service_grows β cross R theta low queue.grows.finite residual;
    }

-- ---- in its queue
record HasDelay (net : Net) (at : CellTable) (run : SpecRun) (i k s : ℕ) : Type 0 where
  own_delay : Ext
  in_queue : IsInQueue (here net s) run.end (seen_by net run s)
      (of_queue (queue_of_hop net i k)) (part net i k) (queue_of_hop net i k)
      (values at (cell_of Total s (queue_of_hop net i k))) (values at (cell_of QueueService s (queue_of_hop net i k)))
      (values at (cell_of In i k)) (values at (cell_of Residual i k))
      (size_in at (cell_of QueueDelay s (queue_of_hop net i k))) own_delay
  is : size_in at (cell_of HopDelay i k) ≡ min_ext (size_in at (cell_of QueueDelay s (queue_of_hop net i k))) own_delay

has_delay : (net : Net) (at : CellTable) (run : SpecRun) (i k s : ℕ) → AtHop net at run i k s
    → HasDelay net at run i k s
has_delay net at run i k s w =
    let q = queue_of_hop net i k in
    let V = seen_by net run s in
    let there = queue_is_there net at run i k s w in
    let queue = queue_served net at run s q w.server there in
    let flow = flow_served net at run i k s w in
    let delay : IsHopDelay net at i k (size_in at (cell_of HopDelay i k)) =
    number_holds at (cell_of HopDelay i k) (IsHopDelay net at i k) (hop_delay_is net at i k w.server.meets w.within) in
    record {
      own_delay = delay.own;
      in_queue = record {
        lawful = lawful_here net at run s w.server;
        one_queue = arrivals_all (λ c. of_queue q c ≡ true → c.queue ≡ q) (λ c e. eqb-true c.queue q e) V;
        is_part = arrivals_all (λ c. part net i k c ≡ true → of_queue q c ≡ true)
            (λ c e. (and_parts (c.queue == q) (c.flow == i) e).0) V;
        keeps_total = queue_comes net at run s q w.server there;
        keeps_own = keeps_same (of_flow i) (part net i k) (values at (cell_of In i k)) V
            (agree_back (part net i k) (of_flow i) V (part_agrees net at run i k s w))
            (flow_comes net at run s i k w.server w.within w.is);
        serves_queue = queue.serves;
        serves_own = flow.serves;
        service_rises = queue.grows.rising;
        residual_rises = flow.grows.rising;
        is_queue_delay = number_holds at (cell_of QueueDelay s q) _ (queue_delay_is net at s q w.server.meets there);
        is_own_delay = delay.is_own;
      };
      is = subst (λ (r : ℕ). size_in at (cell_of HopDelay i k) ≡ min_ext (size_in at (cell_of QueueDelay r q))
          delay.own) w.is delay.is;
    }

pub flow_stays_there : (net : Net) (at : CellTable) (run : SpecRun) (i k s : ℕ) → AtHop net at run i k s
    → AreAtMost (size_in at (cell_of HopDelay i k)) (hop_delays (of_flow i) run.end (seen_by net run s))
flow_stays_there net at run i k s w =
    let q = queue_of_hop net i k in
    let V = seen_by net run s in
    let h = has_delay net at run i k s w in
    let stays = flow_stays (here net s) run.end V (of_queue q) (part net i k) q (values at (cell_of Total s q))
    (values at (cell_of QueueService s q))
    (values at (cell_of In i k)) (values at (cell_of Residual i k)) (size_in at (cell_of QueueDelay s q)) h.own_delay
    h.in_queue in
    subst (λ (d : Ext). AreAtMost d (hop_delays (of_flow i) run.end V)) (sym h.is)
    (subst (AreAtMost (min_ext (size_in at (cell_of QueueDelay s q)) h.own_delay))
    (same_delays (part net i k) (of_flow i) run.end V (part_agrees net at run i k s w)) stays)

-- a delay is from 0 on
pub hop_delay_low : (net : Net) (at : CellTable) (run : SpecRun) (i k s : ℕ) → AtHop net at run i k s
    → Fin zero_q ≤ₑ size_in at (cell_of HopDelay i k)
hop_delay_low net at run i k s w =
    let q = queue_of_hop net i k in
    let h = has_delay net at run i k s w in
    let one = horizontals_are_nonnegative (values at (cell_of Total s q)) (values at (cell_of QueueService s q))
    (size_in at (cell_of QueueDelay s q)) h.in_queue.is_queue_delay in
    let two = horizontals_are_nonnegative (values at (cell_of In i k)) (values at (cell_of Residual i k)) h.own_delay
    h.in_queue.is_own_delay in
    subst (λ (d : Ext). Fin zero_q ≤ₑ d) (sym h.is)
    (min_greatest (size_in at (cell_of QueueDelay s q)) h.own_delay (Fin zero_q) one two)

-- ---- it leaves for the next hop
pub flow_goes_on : (net : Net) (at : CellTable) (run : SpecRun) (i k s : ℕ) → AtHop net at run i k s
    → suc k < hops net i → (a b : ℚ) → a ≤ℚ b
    → Fin (departed_in (of_flow i) (seen_by net run s) a b) ≤ₑ values at (cell_of Out i k) (b -ℚ a)
flow_goes_on net at run i k s w more a b l =
    let q = queue_of_hop net i k in
    let V = seen_by net run s in
    let x = b -ℚ a in
    let low : zero_q ≤ℚ x = with2 a b (λ c. omega (arith, c.le, c.lt, c.same)) in
    let h = has_delay net at run i k s w in
    let meets = w.server.meets in
    let agrees = part_agrees net at run i k s w in
    let sizes = arrivals_map (λ c. of_flow i c ≡ true → c.bits ≤ packet net i)
    (λ c. part net i k c ≡ true → c.bits ≤ packet net i)
    (λ c f e. f (and_parts (c.queue == q) (c.flow == i) e).1) V (flow_sizes net at run s i w.server) in
    let deconvolved = curve_holds at (cell_of DeconvOut i k) _ (deconv_out_is net at i k meets more) x low in
    let leaves = flow_leaves (here net s) run.end V (of_queue q) (part net i k) q (packet net i)
    (values at (cell_of Total s q)) (values at (cell_of QueueService s q))
    (values at (cell_of In i k)) (values at (cell_of Residual i k)) (size_in at (cell_of QueueDelay s q)) h.own_delay
    (values at (cell_of DeconvOut i k) x)
    a b h.in_queue sizes l deconvolved in
    let by_delay : values at (cell_of ShiftOut i k) x ≡ shifted (values at (cell_of In i k))
    (min_ext (size_in at (cell_of QueueDelay s q)) h.own_delay) x =
    curve_holds at (cell_of ShiftOut i k) _ (shift_out_is net at i k meets more) x low
    ∙ ap (λ (d : Ext). shifted (values at (cell_of In i k)) d x) h.is in
    let out : values at (cell_of Out i k) x ≡ min_ext (values at (cell_of ShiftOut i k) x)
    (values at (cell_of DeconvOut i k) x) =
    curve_holds at (cell_of Out i k) _ (out_is net at i k meets more) x low in
    subst (λ (y : Ext). Fin (departed_in (of_flow i) V a b) ≤ₑ y)
    (sym (out ∙ ap (λ (y : Ext). min_ext y (values at (cell_of DeconvOut i k) x)) by_delay))
    (subst (λ (y : ℚ). Fin y ≤ₑ min_ext
    (shifted (values at (cell_of In i k)) (min_ext (size_in at (cell_of QueueDelay s q)) h.own_delay) x)
    (values at (cell_of DeconvOut i k) x))
    (same_departed_in (part net i k) (of_flow i) V a b agrees) leaves)

-- ---- all that is promised of a hop
pub flow_served_there : (net : Net) (at : CellTable) (run : SpecRun) (i k s : ℕ) → AtHop net at run i k s
    → Serves (of_flow i) (values at (cell_of Residual i k)) run.end (seen_by net run s)
flow_served_there net at run i k s w =
    serves_same (part net i k) (of_flow i) (values at (cell_of Residual i k)) run.end (seen_by net run s)
    (part_agrees net at run i k s w)
    (flow_served net at run i k s w).serves

-- less one packet, it serves the flow's whole packets
flow_served_in_packets : (net : Net) (at : CellTable) (run : SpecRun) (i k s : ℕ) → AtHop net at run i k s
    → ServesPackets (of_flow i) (packetised (values at (cell_of Residual i k)) (whole (packet net i))) run.end
    (seen_by net run s)
flow_served_in_packets net at run i k s w =
    packets_are_served (here net s) run.end (seen_by net run s) (of_flow i) (values at (cell_of Residual i k))
    (packet net i) (lawful_here net at run s w.server) (flow_sizes net at run s i w.server)
    (flow_served_there net at run i k s w)

pub hop_kept : (net : Net) (at : CellTable) (run : SpecRun) (i k : ℕ) → AtHop net at run i k (server_of_hop net i k)
    → IsHopKept net at run i k
hop_kept net at run i k w =
    let s = server_of_hop net i k in
    let meets = w.server.meets in
    record {
      comes = curve_has at (cell_of In i k) _ _ (in_curve net at i k meets w.within)
          (flow_comes net at run s i k w.server w.within refl);
      served = curve_has at (cell_of Residual i k) _ _ (residual_is net at i k meets w.within)
          (flow_served_there net at run i k s w);
      serves_packets = curve_has at (cell_of Residual i k) _ _ (residual_is net at i k meets w.within)
          (flow_served_in_packets net at run i k s w);
      stays = number_has at (cell_of HopDelay i k) _ _ (hop_delay_is net at i k meets w.within)
          (flow_stays_there net at run i k s w);
      leaves = λ more. curve_has at (cell_of Out i k) _ _ (out_is net at i k meets more)
          (flow_goes_on net at run i k s w more);
    }
