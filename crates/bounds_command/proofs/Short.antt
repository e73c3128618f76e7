-- Bounds of a table fit 64 bits: a link passes no port twice, and takes less than 2 ^ 51 picoseconds at each.
use Rattle.std.proofs.Common.{◌≡◌, ℕ, zero, suc, ◌<◌, ◌≤◌, ◌+◌, ◌*◌, ◌^◌, Option, Some, None, List, length, get_or, sym, subst, arith, inl, inr}
use Rattle.std.specs.Prelude.{IfSome, MatchOption, slice_get}
use Rattle.std.proofs.lemmas.Option.{slice_get_within, get_or_from_slice_get, slice_get_cases}
use Rattle.arrival_lines.specs.declared.grid.Queue.{Queue}
use Rattle.arrival_lines.specs.declared.grid.Service.{Service}
use Rattle.tree_network.specs.Networks.{IsNetwork, IsLink, HangsBefore, longest_time, queues_of, port_at, no_port, node_at}
use Rattle.tree_network.specs.declared.network.Port.{Port}
use Rattle.tree_network.specs.declared.network.Link.{Link}
use Rattle.tree_network.specs.declared.network.Network.{Network}
use Rattle.document_tables.specs.declared.document.BranchEnd.{BranchEnd}
use Rattle.document_tables.specs.Documents.{IsBranchOf}
use Rattle.arrival_stairs.specs.declared.stairs.Bundle.{Bundle}
use Rattle.arrival_stairs.specs.Queues.{AreLong, IsStairQueue}
use Rattle.port_bounds.specs.StairsIncoming.{StairsIn, stairs_at}
use Rattle.port_bounds.specs.StairRows.{IsStairRowBy}
use Rattle.tree_bounds.specs.Tables.{IsTableOf, AreBounds, row_in, bounds_in, time_after, time_before}
use Rattle.tree_bounds.specs.declared.analysis.Table.{Table}
use Rattle.bounds_command.proofs.Rates.{few_nodes}

-- ---- delays
abbrev pub IsShort : Option Queue → Type 0
IsShort row = IfSome row (λ queue. queue.delay < 2 ^ 50)

least_short : (bundles : List Bundle) (services : List Service) (grains : ℕ) (lines row : Option Queue)
    → MatchOption row (AreLong bundles services grains lines) (λ queue. IsStairQueue bundles services grains lines queue) → IsShort row
least_short bundles services grains lines None h = tt
least_short bundles services grains lines (Some queue) h = h.short

row_by : (port : Port) (queues : List StairsIn) (q longest : ℕ) (bundles : Option (List Bundle)) (row : Option Queue)
    → IsStairRowBy port queues q longest bundles row → IsShort row
row_by port queues q zero bundles row h = subst IsShort (sym h) (omega arith)
row_by port queues q (suc longest) None row h = subst IsShort (sym h) tt
row_by port queues q (suc longest) (Some bundles) row h =
    least_short bundles h.services (1024 * (stairs_at queues q).longest) h.least.lines row h.least.least

pub row_short : (net : Network) (table : Table) (s q : ℕ) → IsTableOf net table → s < length net.ports.items
    → q < queues_of (port_at net s).discipline → IsShort (row_in table s q)
row_short net table s q is h k =
    let at = is.equations.rows s q h k in
    row_by (port_at net s) at.queues q (stairs_at at.queues q).longest (stairs_at at.queues q).bundles (row_in table s q) at.row

-- ---- times
after_short : (place : ℕ) (before : Option ℕ) (row : Option Queue) (link : ℕ) → IfSome before (λ b. b ≤ place * 2 ^ 51)
    → IsShort row → link < 2 ^ 50 → IfSome (time_after before row link) (λ b. b ≤ (place + 1) * 2 ^ 51)
after_short place None row link h short fast = tt
after_short place (Some before) None link h short fast = tt
after_short place (Some before) (Some queue) link h short fast = omega (arith, h, short)

link_short : (net : Network) (s : ℕ) → IsNetwork net → s < length net.ports.items → (port_at net s).link < 2 ^ 50
unfolding longest_time
link_short net s w h = let p = w.ports s no_port h in omega (arith, p.link)

times_short : (net : Network) (table : Table) (i : ℕ) (link : Link) → IsNetwork net → IsLink net link
    → IsTableOf net table
    → AreBounds net (row_in table) link (bounds_in table i) → (n place : ℕ) → place < n
    → place < length link.nodes.items
    → IfSome (get_or (bounds_in table i) place None) (λ b. b ≤ (place + 1) * 2 ^ 51)
times_short net table i link w l is are zero place h k = absurd (omega (arith, h))
times_short net table i link w l is are (suc n) place h k =
    let P : Option ℕ → Type 0 = λ b. IfSome b (λ x. x ≤ (place + 1) * 2 ^ 51) in
    let node = l.nodes place k in
    subst P (sym (are.each place k))
    (after_short place (time_before (bounds_in table i) (node_at link place).from)
    (row_in table (node_at link place).port (node_at link place).queue) (port_at net (node_at link place).port).link
    (before (λ q lt e. times_short net table i link w l is are n q (omega (arith, lt, h)) (omega (arith, e, k)))
    (node_at link place).from node.hangs)
    (row_short net table (node_at link place).port (node_at link place).queue is node.port node.queue)
    (link_short net (node_at link place).port w node.port))
  where
    more : (q : ℕ) → q < place → (o : Option ℕ) → IfSome o (λ b. b ≤ (q + 1) * 2 ^ 51)
        → IfSome o (λ b. b ≤ place * 2 ^ 51)
    more q lt None e = tt
    more q lt (Some b) e = omega (arith, e, lt)

    before : ((q : ℕ) → q < place → q < length link.nodes.items
        → IfSome (get_or (bounds_in table i) q None) (λ b. b ≤ (q + 1) * 2 ^ 51))
        → (from : Option ℕ) → HangsBefore place from
        → IfSome (time_before (bounds_in table i) from) (λ b. b ≤ place * 2 ^ 51)
    before earlier None e = omega arith
    before earlier (Some q) e = more q e (get_or (bounds_in table i) q None) (earlier q e (omega (arith, e, k)))

pub bound_short : (net : Network) (table : Table) (i place : ℕ) (link : Link) → IsNetwork net → IsTableOf net table
    → slice_get net.links.items i ≡ Some link → place < length link.nodes.items
    → IfSome (get_or (bounds_in table i) place None) (λ b. b < 2 ^ 64)
bound_short net table i place link w is e h =
    let L : Link → Type 0 = λ x. IsLink net x in
    let l = subst L (get_or_from_slice_get net.links.items i link link e)
    (w.links i link (slice_get_within net.links.items i link e)) in
    let few = few_nodes net link w l in
    enough (get_or (bounds_in table i) place None)
    (times_short net table i link w l is (is.bounds i link e) (place + 1) place (omega arith) h)
    (omega (arith, few, h))
  where
    enough : (o : Option ℕ) → IfSome o (λ b. b ≤ (place + 1) * 2 ^ 51) → place < 4096 → IfSome o (λ b. b < 2 ^ 64)
    enough None k few = tt
    enough (Some b) k few = omega (arith, k, few)

-- ---- where branches end
pub record EndsThere (table : Table) (i place : ℕ) : Type 0 where
  pub known : place < length (bounds_in table i)
  pub short : IfSome (get_or (bounds_in table i) place None) (λ b. b < 2 ^ 64)

pub ends_there : (net : Network) (table : Table) (end : BranchEnd) → IsNetwork net → IsTableOf net table
    → IsBranchOf net end
    → EndsThere table end.link end.node
ends_there net table end w is at =
    elim (slice_get_cases net.links.items end.link).1 [
      | inl found ↦ by_link found.0 found.2
      | inr over ↦ absurd (let lt = at.in_links in omega (arith, lt, over.0))
    ]
  where
    by_link : (link : Link) → slice_get net.links.items end.link ≡ Some link → EndsThere table end.link end.node
    by_link link e =
        let inside = at.in_nodes link e in
        let count = (is.bounds end.link link e).count in
        record {
          known = omega (arith, inside, count);
          short = bound_short net table end.link end.node link w is e
              inside;
        }
