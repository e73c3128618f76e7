-- How a server serves its queues, by what it leaves each; and what that bounds.
use Rattle.std.specs.Prelude.{◌≡◌, ℕ, ◌<◌, ◌≤◌, true, List, length, Option}
use Rattle.std.proofs.Common.{arith, sym, subst}
use Rattle.std.proofs.lemmas.Bool.{eqb-true}
use Rattle.rational.specs.Rational.{ℚ}
use Rattle.rational.specs.Extended.{Ext}
use Rattle.rational.proofs.ExtendedOrder.{same_le_ext}
use Rattle.upp_curve.specs.Curve.{value_at}
use Rattle.min_plus.specs.Functions.{IsNonnegative}
use Rattle.curve_call.specs.Growth.{GrowsFromZero}
use Rattle.curve_call.proofs.GrowingAnswers.{grown}
use Rattle.run_laws.specs.Runs.{SpecRun}
use Rattle.run_laws.specs.Cards.{Card, of_queue, ServerStep}
use Rattle.run_laws.specs.Servers.{Server}
use Rattle.run_laws.specs.Allows.{IsLawfulView}
use Rattle.run_laws.specs.Premises.{KeepsService, KeepsSizes, IsZeroAtStart}
use Rattle.run_laws.specs.Serves.{Serves}
use Rattle.run_laws.specs.Routes as routes
use Rattle.run_laws.proofs.Arrivals.{arrivals_map}
use Rattle.run_laws.proofs.Backlog.{backlog_from_service}
use Rattle.run_laws.proofs.Delay.{delay_always}
use Rattle.run_laws.proofs.Views.{views_are_lawful}
use Rattle.residuals.specs.left.Left.{Left, all, above, share, EachBefore}
use Rattle.residuals.specs.left.Laws.{IsLeft, IsLeftTo}
use Rattle.residuals.proofs.left.Laws.{map_fits, serves as left_serves, grows as left_grows}
use Rattle.net_model.specs.Networks.{Net, NetServer}
use Rattle.net_model.specs.Accepted.{IsAccepted, HasFewQueues}
use Rattle.net_cells.specs.declared.cell.Kind.TheVariants.{Total, QueueService, QueueDelay, QueueBacklog}
use Rattle.net_cells.specs.Numbered.{service, service_of, discipline, discipline_of, queues, queue_of_hop}
use Rattle.net_cells.specs.Visits.{longest}
use Rattle.net_cells.specs.Cells.{cell_of}
use Rattle.net_cells.specs.Left.{left_of}
use Rattle.net_cells.specs.Meanings.{CellTable}
use Rattle.net_cells.proofs.LeftOf.{left_fits, left_to}
use Rattle.net_cells.proofs.Precedes.{levels_are}
use Rattle.net_bounds.specs.NetRuns.{routes_of}
use Rattle.net_bounds.specs.Promises.{seen_by, IsQueueKept}
use Rattle.net_bounds.proofs.Routed.{hop_at, known_server, servers_are, discipline_is, queue_inside}
use Rattle.net_bounds.proofs.Cells.{values, size_in, curve_has, number_has, curve_holds, number_holds}
use Rattle.net_bounds.proofs.QueueCells.{left_at, queue_service_is, queue_delay_is, queue_backlog_is}
use Rattle.net_bounds.proofs.Arriving.{AtServer, IsVisiting, all_visiting, kept_nonneg}
use Rattle.net_bounds.proofs.Comes.{total_cell, queue_comes, higher_comes}
use Rattle.net_bounds.proofs.Sizes.{queue_sizes, after_sizes}

-- ---- the server
abbrev pub here : Net → ℕ → Server
here net s = routes.server_at (routes_of net) s

pub lawful_here : (net : Net) (at : CellTable) (run : SpecRun) (s : ℕ) → AtServer net at run s
    → IsLawfulView (here net s) run.end (seen_by net run s)
lawful_here net at run s w =
    views_are_lawful (routes_of net) run s w.run_of.lawful (subst (λ (n : ℕ). s < n) (sym (servers_are net)) w.inside)

pub keeps_service : (net : Net) (at : CellTable) (run : SpecRun) (s : ℕ) → AtServer net at run s
    → KeepsService (value_at (service net s)) run.end (seen_by net run s)
keeps_service net at run s w = w.run_of.keeps.service s (subst (λ (n : ℕ). s < n) (sym (servers_are net)) w.inside)

pub service_grows : (net : Net) (s : ℕ) → IsAccepted net → s < length net.servers
    → GrowsFromZero (value_at (service net s))
service_grows net s a h =
    let it = known_server net s a h in
    let c = it.keeps.service in
    subst (λ (o : Option NetServer). GrowsFromZero (value_at (service_of o))) (sym it.is)
    (grown (value_at it.server.service) c.finite c.at_zero c.rising)

few_queues : (net : Net) (s : ℕ) → IsAccepted net → s < length net.servers → HasFewQueues (discipline net s)
few_queues net s a h =
    let it = known_server net s a h in
    subst (λ (o : Option NetServer). HasFewQueues (discipline_of o)) (sym it.is) it.keeps.queues

zero_at_start : (f : ℚ → Ext) → GrowsFromZero f → IsZeroAtStart f
zero_at_start f g = same_le_ext g.start

-- ---- a queue is served
pub record IsServedBy (net : Net) (run : SpecRun) (s q : ℕ) (g : ℚ → Ext) : Type 0 where
  pub serves : Serves (of_queue q) g run.end (seen_by net run s)
  pub grows : GrowsFromZero g

-- no packet has a queue that its server has not
no_such_queue : (net : Net) (at : CellTable) (run : SpecRun) (s p : ℕ) → AtServer net at run s → queues net s ≤ p
    → KeepsSizes (of_queue p) 0 (seen_by net run s)
no_such_queue net at run s p w h =
    arrivals_map (IsVisiting net s) (λ c. of_queue p c ≡ true → c.bits ≤ 0) one (seen_by net run s)
    (all_visiting net at run s w)
  where
    one : (c : Card) → IsVisiting net s c → of_queue p c ≡ true → c.bits ≤ 0
    one c v e =
        let inside = queue_inside net c.flow (hop_at net c.flow s) w.accepted v.within in
        let at_s : queue_of_hop net c.flow (hop_at net c.flow s) < queues net s =
        subst (λ (r : ℕ). queue_of_hop net c.flow (hop_at net c.flow s) < queues net r) v.server inside in
        let same : c.queue ≡ p = eqb-true c.queue p e in
        let is = v.queue in
        absurd (omega arith)

-- who keeps a curve keeps one that is nowhere below 0
before_nonneg : (q : ℕ) (server : Server) (V : List ServerStep) (l : Left (ℚ → Ext)) → IsLeftTo q server V l → EachBefore IsNonnegative l
before_nonneg q server V all to = tt
before_nonneg q server V (above before lower) to = kept_nonneg _ before V to.1
before_nonneg q server V (share quanta longest queue) to = tt

pub queue_served : (net : Net) (at : CellTable) (run : SpecRun) (s q : ℕ) → AtServer net at run s → q < queues net s
    → IsServedBy net run s q (values at (cell_of QueueService s q))
queue_served net at run s q w h =
    let β = value_at (service net s) in
    let g = values at (cell_of QueueService s q) in
    let V = seen_by net run s in
    let d = discipline net s in
    let l = left_at at (left_of net s q d) in
    let grows = service_grows net s w.accepted w.inside in
    let made = curve_holds at (cell_of QueueService s q) (IsLeft β l) (queue_service_is net at s q w.meets h) in
    let to = left_to net (here net s) V (values at) s q d (discipline_is net s w.accepted w.inside) h
    (λ low. higher_comes net at run s q w low (levels_are d q low)) (after_sizes net at run s q w) (λ p. queue_sizes net at run s p w)
    (λ p past. no_such_queue net at run s p w past) in
    let fit = map_fits (values at) (left_of net s q d) (left_fits net s q d (few_queues net s w.accepted w.inside) h) in
    record {
      serves = left_serves (here net s) run.end V q l β g (lawful_here net at run s w) to fit
          (keeps_service net at run s w) (zero_at_start β grows) made;
      grows = left_grows l β g grows (before_nonneg q (here net s) V l to) fit made;
    }

-- ---- all that is promised of a queue
pub queue_kept : (net : Net) (at : CellTable) (run : SpecRun) (s q : ℕ) → AtServer net at run s → q < queues net s
    → IsQueueKept net at run s q
queue_kept net at run s q w h =
    let V = seen_by net run s in
    let coming = cell_of Total s q in
    let serving = cell_of QueueService s q in
    let longest_stay = cell_of QueueDelay s q in
    let most = cell_of QueueBacklog s q in
    let comes = queue_comes net at run s q w h in
    let served = queue_served net at run s q w h in
    let lawful = lawful_here net at run s w in
    let is_delay = queue_delay_is net at s q w.meets h in
    let is_most = queue_backlog_is net at s q w.meets h in
    record {
      comes = curve_has at coming _ _ (total_cell net at s q w.meets h) comes;
      served = curve_has at serving _ _ (queue_service_is net at s q w.meets h) served.serves;
      stays = number_has at longest_stay _ _ is_delay
          (delay_always (here net s) run.end V (of_queue q) q (values at coming) (values at serving)
          (size_in at longest_stay) lawful
          (λ c e. eqb-true c.queue q e) comes served.serves served.grows.rising
          (number_holds at longest_stay _ is_delay));
      holds = number_has at most _ _ is_most
          (backlog_from_service (here net s) run.end V (of_queue q) (longest net s q) (values at coming)
          (values at serving) (size_in at most) lawful
          (queue_sizes net at run s q w) comes served.serves (number_holds at most _ is_most));
    }
