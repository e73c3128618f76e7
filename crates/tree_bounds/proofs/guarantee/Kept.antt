-- In every run that a network allows, each queue keeps the row of its table, and each link its curves.
use Rattle.std.proofs.Common.{◌≡◌, ℕ, ◌<◌, Option, Some, None, [], length, get_or, refl, sym, ◌∙◌, ap, subst, arith, inl, inr}
use Rattle.std.proofs.lemmas.Bool.{cases_lt}
use Rattle.std.proofs.lemmas.List.{length-map, get_or_past}
use Rattle.rational.specs.declared.Extended.TheVariants.{Fin}
use Rattle.min_plus.specs.Functions.{whole}
use Rattle.run_laws.specs.Runs.{SpecRun}
use Rattle.run_laws.specs.Cards.{of_queue}
use Rattle.run_laws.specs.Bounds.{IsQueueBounded}
use Rattle.run_laws.specs.Delays.{hop_delays}
use Rattle.run_laws.specs.Views.{view}
use Rattle.run_laws.proofs.Delay.{none_above_infinity}
use Rattle.tree_runs.specs.Trees.{flat}
use Rattle.tree_runs.specs.Bounded.{QueuesAreBounded, IsBoundedByQueues}
use Rattle.tree_runs.specs.BoundedByParts.{QueuesKeepParts}
use Rattle.tree_runs.proofs.Trees.{live_is}
use Rattle.tree_runs.proofs.Bounded.{trees_are_bounded_by_parts}
use Rattle.arrival_lines.specs.Grid.{micros}
use Rattle.arrival_lines.specs.declared.grid.Queue.{Queue}
use Rattle.tree_network.specs.Networks.{IsNetwork, port_at, no_port, queues_of}
use Rattle.tree_network.specs.declared.network.Network.{Network}
use Rattle.tree_network.specs.Spots.{spots_of}
use Rattle.port_bounds.specs.Ports.{server_of}
use Rattle.port_bounds.specs.StairRows.{IsStairRow}
use Rattle.port_bounds.proofs.StairsHeld.{stair_rows_are_held}
use Rattle.tree_bounds.specs.Bunches.{arriving_of}
use Rattle.tree_bounds.specs.Tables.{row_in, items_of, IsTableOf}
use Rattle.tree_bounds.specs.declared.analysis.Table.{Table}
use Rattle.tree_bounds.proofs.Bunched.{arriving_length}
use Rattle.tree_bounds.proofs.InLimits.{stairs_in_range}
use Rattle.tree_bounds.proofs.guarantee.StairsOf.{all_stairs}
use Rattle.tree_bounds.specs.guarantee.Routes.{routes_of}
use Rattle.tree_bounds.specs.guarantee.Guarantee.{frame_of, IsRunOf}
use Rattle.tree_bounds.proofs.guarantee.TreesOf.{are_trees}
use Rattle.tree_bounds.proofs.guarantee.Forward.{go_forward}
use Rattle.tree_bounds.proofs.guarantee.Summed.{arrival_at, longest_at, rate_at}
use Rattle.tree_bounds.proofs.guarantee.Begun.{enters_kept, are_paced}
use Rattle.tree_bounds.proofs.guarantee.Grown.{delay_in, held_in, delay_by, held_by, delays_some, grows}
use Rattle.tree_bounds.proofs.guarantee.Held.{seen}

pub queues_held : (net : Network) (table : Table) (run : SpecRun) (s : ℕ) → IsNetwork net → (is : IsTableOf net table) → IsRunOf net run
    → s < length (routes_of net).servers → QueuesKeepParts (routes_of net) run (arrival_at net is.stair) (longest_at net) (rate_at net) s
    → QueuesAreBounded (routes_of net) run (delay_by (row_in table)) (held_by (row_in table)) s
queues_held net table run s w is r known kept q = by_row (row_in table s q) refl
  where
    inside : s < length net.ports.items
    inside = let c = length-map net.ports.items server_of in omega (arith, c, known)

    Bounded : Option Queue → Type 0
    Bounded o = IsQueueBounded (flat (routes_of net)) run s q (delay_in o) (held_in o)

    promised : (queue : Queue) → row_in table s q ≡ Some queue → q < queues_of (port_at net s).discipline → Bounded (Some queue)
    promised queue e few =
        let at = is.equations.rows s q inside few in
        let port = port_at net s in
        let all = queues_of port.discipline in
        let its = w.ports s no_port inside in
        let long = length-map at.queues arriving_of in
        let same = ap length at.are in
        let count = arriving_length net (spots_of net) is.stair s all in
        let P : Option Queue → Type 0 = λ o. IsStairRow port at.queues q o in
        let held = stair_rows_are_held port at.queues q queue run.end (view (flat (routes_of net)) run s) its
        (stairs_in_range net is.stair s all at.queues w its.queues (λ n t lt f. all_stairs net w (row_in table) is.stair is.equations n t lt f) at.are)
        (sym long ∙ same ∙ count) (omega (arith, long, same, count, few)) (subst P e at.row) (seen net is.stair run s at.queues w r inside at.are kept) in
        record { delays = held.delays; backlogs = held.backlogs }

    by_row : (o : Option Queue) → row_in table s q ≡ o → Bounded (row_in table s q)
    by_row None e = subst Bounded (sym e) record {
      delays = none_above_infinity (hop_delays (of_queue q) run.end (view (flat (routes_of net)) run s));
      backlogs = λ t h. tt;
    }
    by_row (Some queue) e =
        elim (cases_lt q (queues_of (port_at net s).discipline)) [
          | inl few ↦ subst Bounded (sym e) (promised queue e few)
          | inr past ↦
              let rows = is.queues s inside in
              let f : None ≡ Some queue = sym (get_or_past (get_or (items_of table.rows.items) s []) q None (omega (arith, rows, past))) ∙ e in
              absurd (cc)
        ]

pub all_bounded : (net : Network) (table : Table) (run : SpecRun) → IsNetwork net → (is : IsTableOf net table) → IsRunOf net run
    → IsBoundedByQueues (routes_of net) run (arrival_at net is.stair) (delay_by (row_in table)) (held_by (row_in table))
all_bounded net table run w is r =
    let forward = go_forward net is.order w is.goes_forward in
    trees_are_bounded_by_parts (routes_of net) run forward.0 (frame_of net) (longest_at net) (rate_at net) (arrival_at net is.stair) (delay_by (row_in table)) (held_by (row_in table))
    r.lawful (are_trees net w) forward.1 (λ i live. r.premises.sizes i (live_is (routes_of net) i ∙ live))
    (enters_kept net run is.stair w is.equations.begins r.premises) (λ s q known. are_paced net s q w) (delays_some (row_in table))
    (grows net (row_in table) is.stair w is.equations.goes_on) (λ s known kept. queues_held net table run s w is r known kept)

-- what a table promises of queues
pub queues_keep : (net : Network) (table : Table) (run : SpecRun) (s q : ℕ) (queue : Queue) → IsNetwork net → IsTableOf net table → IsRunOf net run
    → s < length net.ports.items → row_in table s q ≡ Some queue
    → IsQueueBounded (flat (routes_of net)) run s q (Fin (micros queue.delay)) (Fin (whole queue.backlog))
queues_keep net table run s q queue w is r inside e =
    let P : Option Queue → Type 0 = λ o. IsQueueBounded (flat (routes_of net)) run s q (delay_in o) (held_in o) in
    let c = length-map net.ports.items server_of in
    subst P e ((all_bounded net table run w is r).queues s (omega (arith, c, inside)) q)
