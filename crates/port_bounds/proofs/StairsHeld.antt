-- What a row by stairs promises holds in every lawful view of the port.
use Rattle.std.specs.Prelude.{◌≡◌, ◌<◌, ◌*◌, ℕ, zero, suc, true, List, [], ◌∷◌, length, get_or, Option, Some, None}
use Rattle.std.specs.Option.{option_map}
use Rattle.std.proofs.Common.{arith, sym, ap, ◌∙◌, refl, subst}
use Rattle.std.proofs.lemmas.Bool.{eqb-true}
use Rattle.std.proofs.lemmas.List.{length-map}
use Rattle.rational.specs.Rational.{ℚ, ◌≤ℚ◌}
use Rattle.rational.specs.Extended.{◌≤ₑ◌}
use Rattle.rational.specs.declared.Extended.TheVariants.{Fin}
use Rattle.rational.proofs.Laws.{le_refl, le_of_lt}
use Rattle.min_plus.specs.Functions.{whole}
use Rattle.min_plus.specs.Pointwise.{packetised}
use Rattle.run_laws.specs.Cards.{of_queue, ServerStep}
use Rattle.run_laws.specs.Classes.{IsOfQueue}
use Rattle.run_laws.specs.Premises.{KeepsArrivals, KeepsSizes}
use Rattle.run_laws.specs.Delays.{hop_delays, AreAtMost, backlog}
use Rattle.run_laws.proofs.Arrivals.{arrivals_all}
use Rattle.run_laws.proofs.Backlog.{backlog_from_gap}
use Rattle.run_laws.proofs.Classes.{delay_from_wait}
use Rattle.run_laws.proofs.Weaker.{greater_kept}
use Rattle.arrival_lines.specs.Grid.{micros, parts_value, service_value}
use Rattle.arrival_lines.specs.Services.{IsServed}
use Rattle.arrival_lines.specs.declared.grid.Part.{Part}
use Rattle.arrival_lines.specs.declared.grid.Queue.{Queue}
use Rattle.arrival_lines.specs.declared.grid.Service.{Service}
use Rattle.arrival_lines.proofs.Units.{bits_whole, micros_nonneg}
use Rattle.arrival_stairs.specs.BelowLines.{line_parts}
use Rattle.arrival_stairs.specs.Stairs.{bundles_at}
use Rattle.arrival_stairs.specs.declared.stairs.Bundle.{Bundle}
use Rattle.arrival_stairs.proofs.UnderLines.{bundles_below_lines}
use Rattle.tree_network.specs.Networks.{PortIsInRange, queues_of}
use Rattle.tree_network.specs.declared.network.Port.{Port}
use Rattle.port_bounds.specs.Ports.{server_of}
use Rattle.port_bounds.specs.Incoming.{Incoming, queue_in}
use Rattle.port_bounds.specs.Promises.{IsSeenAt, IsHeld}
use Rattle.port_bounds.specs.Services.{IsServiceOf, AreAll}
use Rattle.port_bounds.proofs.Held.{empty_is_held, is_some, queue_of}
use Rattle.port_bounds.proofs.Served.{value_of, service_serves}
use Rattle.arrival_stairs.specs.Queues.{IsKept, IsLeastOfBoth}
use Rattle.arrival_stairs.proofs.Lined.{least_of_both_is_kept}
use Rattle.port_bounds.specs.StairsIncoming.{AreStairsInRange, StairsIn, line_incoming, line_incomings, stairs_at}
use Rattle.port_bounds.specs.StairPromises.{AreStairsSeenAt, StairRowsAreHeld}
use Rattle.port_bounds.specs.StairRows.{IsStairRowBy}

-- ---- a view keeps the lines too
pub at_line : (queues : List StairsIn) (q : ℕ) → queue_in (line_incomings queues) q ≡ line_incoming (stairs_at queues q)
at_line [] q = refl
at_line (w ∷ ws) zero = refl
at_line (w ∷ ws) (suc q) = at_line ws q

known_parts : Option (List Part) → List Part
known_parts None = []
known_parts (Some parts) = parts

lines_kept : (port : Port) (queues : List StairsIn) (end : ℚ) (V : List ServerStep) (q : ℕ) (parts : List Part) (o : Option (List Bundle)) → AreStairsInRange queues
    → AreStairsSeenAt port queues end V → (stairs_at queues q).bundles ≡ o → option_map line_parts o ≡ Some parts
    → KeepsArrivals (of_queue q) (λ t. Fin (parts_value parts t)) V
unfolding known_parts
lines_kept port queues end V q parts None range seen is known = absurd (cc)
lines_kept port queues end V q parts (Some bundles) range seen is known =
    let same : line_parts bundles ≡ parts = ap known_parts known in
    subst (λ (ps : List Part). KeepsArrivals (of_queue q) (λ t. Fin (parts_value ps t)) V) same
    (greater_kept V (of_queue q) (λ t. Fin (bundles_at bundles t)) (λ t. Fin (parts_value (line_parts bundles) t))
    (λ t on. bundles_below_lines bundles t (range.stairs q bundles is) on) (seen.arrivals q bundles is))

seen_by_lines : (port : Port) (queues : List StairsIn) (end : ℚ) (V : List ServerStep) → AreStairsInRange queues → AreStairsSeenAt port queues end V
    → IsSeenAt port (line_incomings queues) end V
seen_by_lines port queues end V range seen = record {
  lawful = seen.lawful;
  service = seen.service;
  sizes = λ q. subst (λ (n : ℕ). KeepsSizes (of_queue q) n V) (sym (ap (λ (w : Incoming). w.longest) (at_line queues q))) (seen.sizes q);
  arrivals = λ q parts known. lines_kept port queues end V q parts (stairs_at queues q).bundles range seen refl (sym (ap (λ (w : Incoming). w.parts) (at_line queues q)) ∙ known);
}

-- ---- a queue with links
module _ (port : Port) (queues : List StairsIn) (q : ℕ) (queue : Queue) (bundles : List Bundle) (services : List Service) (end : ℚ) (V : List ServerStep)
    (range : PortIsInRange port) (bounded : AreStairsInRange queues) (count : length queues ≡ queues_of port.discipline) (inside : q < length queues)
    (seen : AreStairsSeenAt port queues end V) (known : (stairs_at queues q).bundles ≡ Some bundles) (all : AreAll (IsServiceOf port (line_incomings queues) q) services) where
  its_own : IsOfQueue (of_queue q) q V
  its_own = arrivals_all (λ c. of_queue q c ≡ true → c.queue ≡ q) (λ c h. eqb-true c.queue q h) V

  lines_seen : IsSeenAt port (line_incomings queues) end V
  lines_seen = seen_by_lines port queues end V bounded seen

  lines_count : length (line_incomings queues) ≡ queues_of port.discipline
  lines_count = length-map queues line_incoming ∙ count

  lines_inside : q < length (line_incomings queues)
  lines_inside = let m = length-map queues line_incoming in omega (arith, m, inside)

  itself : (s : Service) → IsServed (value_of s) s
  itself s = record { served = λ u h. le_refl (service_value s u) }

  no_service : Service
  no_service = record { rate = 0; debt = 0 }

  kept : IsLeastOfBoth bundles services (1024 * (stairs_at queues q).longest) (Some queue) → IsKept bundles services (1024 * (stairs_at queues q).longest) queue
  kept least = least_of_both_is_kept bundles services (1024 * (stairs_at queues q).longest) queue (bounded.stairs q bundles known) least

  delay_held : IsLeastOfBoth bundles services (1024 * (stairs_at queues q).longest) (Some queue) → AreAtMost (Fin (micros queue.delay)) (hop_delays (of_queue q) end V)
  delay_held least =
      let is = (kept least).delay in
      let place = is.place in
      let s = get_or services place no_service in
      let serves = service_serves port (line_incomings queues) q end V s range lines_seen lines_count lines_inside (all.each place no_service is.inside) in
      let within = is.is no_service in
      delay_from_wait (server_of port) end V (of_queue q) q (λ t. Fin (bundles_at bundles t)) (value_of s) (micros queue.delay) seen.lawful its_own
      (seen.arrivals q bundles known) serves (micros_nonneg queue.delay)
      (λ t wait on later. within.reached (λ u. Fin (bundles_at bundles u)) (value_of s) record { brought = λ u h. le_refl (bundles_at bundles u) } (itself s) t wait on (le_of_lt later))

  backlog_held : IsLeastOfBoth bundles services (1024 * (stairs_at queues q).longest) (Some queue) → (t : ℚ) → t ≤ℚ end
      → Fin (backlog (of_queue q) V t) ≤ₑ Fin (whole queue.backlog)
  backlog_held least =
      let is = (kept least).backlog in
      let place = is.place in
      let s = get_or services place no_service in
      let l = (stairs_at queues q).longest in
      let serves = service_serves port (line_incomings queues) q end V s range lines_seen lines_count lines_inside (all.each place no_service is.inside) in
      let holds = is.is no_service in
      backlog_from_gap (server_of port) end V (of_queue q) l (λ t. Fin (bundles_at bundles t)) (value_of s) (Fin (whole queue.backlog)) seen.lawful (seen.sizes q)
      (seen.arrivals q bundles known) serves
      (λ t level on at. holds.within (λ u. Fin (bundles_at bundles u)) (value_of s) record { brought = λ u h. le_refl (bundles_at bundles u) } (itself s) t level on
      (ap (λ (x : ℚ). packetised (value_of s) x t) (bits_whole l) ∙ at))

-- ---- all
held_by : (port : Port) (queues : List StairsIn) (q : ℕ) (queue : Queue) (end : ℚ) (V : List ServerStep) (longest : ℕ) (bundles : Option (List Bundle))
    → PortIsInRange port → AreStairsInRange queues → length queues ≡ queues_of port.discipline → q < length queues → AreStairsSeenAt port queues end V
    → (stairs_at queues q).longest ≡ longest → (stairs_at queues q).bundles ≡ bundles → IsStairRowBy port queues q longest bundles (Some queue) → IsHeld queue q end V
unfolding is_some queue_of
held_by port queues q queue end V zero bundles range bounded count inside seen empty known row =
    let is : record { delay = 0; backlog = 0 } ≡ queue = ap queue_of (sym row) in
    subst (λ (w : Queue). IsHeld w q end V) is
    (empty_is_held port (line_incomings queues) q end V (seen_by_lines port queues end V bounded seen) (ap (λ (w : Incoming). w.longest) (at_line queues q) ∙ empty))
held_by port queues q queue end V (suc longest) None range bounded count inside seen some known row = absurd (subst is_some row tt)
held_by port queues q queue end V (suc longest) (Some bundles) range bounded count inside seen some known row = record {
  delays = delay_held port queues q queue bundles row.services end V range bounded count inside seen known row.all row.least;
  backlogs = backlog_held port queues q queue bundles row.services end V range bounded count inside seen known row.all row.least;
}

pub stair_rows_are_held : StairRowsAreHeld
stair_rows_are_held port queues q queue end V range bounded count inside row seen =
    held_by port queues q queue end V (stairs_at queues q).longest (stairs_at queues q).bundles range bounded count inside seen refl refl row
