-- The nodes of links that are read are short: ports are few, queues are no greater than priorities, and a port stands once in a tree.
use Rattle.std.proofs.Common.{◌≡◌, ℕ, ◌<◌, ◌≤◌, ◌^◌, ◌==◌, Bool, true, false, List, map, length, get_or, All, Option, Some, None, sym, ap, subst, ◌∙◌, arith}
use Rattle.std.specs.Prelude.{slice_get, IfSome, if◌then◌else◌}
use Rattle.std.proofs.lemmas.List.{length-map, get_or-map}
use Rattle.std.proofs.lemmas.List.Elements.{All-get_or}
use Rattle.std.proofs.lemmas.Option.{slice_get-get_or, slice_get_within, get_or_from_slice_get}
use Rattle.tree_network.specs.Networks.{HangsBefore}
use Rattle.tree_network.proofs.Distinct.{Apart, few}
use Rattle.document_rows.specs.PortRows.{PortText}
use Rattle.document_tables.specs.declared.links.LinkKeys.{LinkKeys}
use Rattle.document_tables.specs.declared.links.LinkTable.{LinkTable}
use Rattle.document_tables.specs.Grids.{place_of, place_after, queue_of}
use Rattle.document_tables.specs.Links.{branches_of, links_view, paths_of}
use Rattle.document_tables.specs.LinkTrees.{AreTrees}
use Rattle.document_tables.specs.Paths.{queues_of, queue_at}
use Rattle.document_tables.specs.Ports.{Ports, most_ports}
use Rattle.document_tables.specs.Ranges.{AreLinkKeys}
use Rattle.document_tables.specs.Short.{HasShortNodes, HaveShortNodes}
use Rattle.document_tables.specs.Stops.{Stop, stops_of}
use Rattle.document_tables.proofs.Reading.{inner}
use Rattle.document_tables.proofs.StopOrder.{AreInOrder, are_in_order}
use Rattle.document_tables.proofs.BranchFacts.{Fits, AreLinksBut}
use Rattle.document_tables.proofs.NetworkFacts.{hangs_before}

low : (b : Bool) (priority : ℕ) → (if b then 0 else priority) ≤ priority
low true priority = omega arith
low false priority = omega arith

short_place : (place most : ℕ) (o : Option ℕ) → place < most → most ≤ 4096 → HangsBefore place o → IfSome o (λ p. p < 2 ^ 16)
short_place place most None h m b = tt
short_place place most (Some p) h m b = omega (arith, h, m, b)

module _ (ports : Ports) (overhead : ℕ) (few_ports : length ports.ports ≤ most_ports) (key : LinkKeys) (says : AreLinkKeys key) (stops : List Stop)
    (order : AreInOrder (Fits ports overhead key) stops) where
  abbrev numbers : List ℕ
  numbers = map (λ (s : Stop). s.0) stops

  stop_at : (i : ℕ) → i < length stops → (s : Stop) × (slice_get stops i ≡ Some s) × (get_or numbers i 0 ≡ s.0)
  stop_at i h = (get_or stops i (0, None), slice_get-get_or stops i (0, None) h, get_or-map (λ (s : Stop). s.0) stops i (0, None) 0 h)

  apart : Apart numbers
  apart = record {
    once = λ i j early h same.
        let n = length-map stops (λ (s : Stop). s.0) in
        let a = stop_at i (omega (arith, early, h, n)) in
        let b = stop_at j (omega (arith, h, n)) in
        let alike : i ≡ j = inner i j (sym (order i a.0 a.1).own ∙ (ap (place_of stops) (sym a.2 ∙ same ∙ b.2) ∙ (order j b.0 b.1).own)) in
        omega (arith, alike, early);
  }

  few_stops : length stops ≤ 4096
  few_stops =
      let n = length-map stops (λ (s : Stop). s.0) in
      let most = few numbers (length ports.ports) apart (λ i h.
      let a = stop_at i (omega (arith, h, n)) in
      let taken = (order i a.0 a.1).is in
      let below = slice_get_within ports.ports a.0.0 taken.port taken.there in
      omega (arith, below, a.2)) in
      omega (arith, most, n, few_ports)

  pub short : HasShortNodes ports.ports key.priority stops
  short place stop h =
      let o = order place stop h in
      let taken = o.is in
      let below = slice_get_within ports.ports stop.0 taken.port taken.there in
      let inside = slice_get_within stops place stop h in
      let queue : queue_of (slice_get ports.ports stop.0) key.priority ≡ queue_at taken.port.discipline key.priority = ap (λ (p : Option PortText). queue_of p key.priority) taken.there in
      let most = low (queues_of taken.port.discipline == 1) key.priority in
      record {
        port = omega (arith, below, few_ports);
        queue = omega (arith, queue, most, says.priority);
        from = short_place place (length stops) (place_after stops stop.1) inside few_stops (hangs_before stops place stop.1 o.follows);
      }

pub short_trees : (ports : Ports) (overhead : ℕ) (table : LinkTable) → length ports.ports ≤ most_ports → All AreLinkKeys table.keys.items
    → AreLinksBut ports overhead (links_view table) None → AreTrees table → HaveShortNodes ports.ports table.keys.items table.trees.items
short_trees ports overhead table few_ports keys are kept = λ k key tree at there.
    let paths = paths_of k (branches_of table) in
    let p = are.each k key at in
    let below = slice_get_within table.keys.items k key at in
    let says = subst AreLinkKeys (get_or_from_slice_get table.keys.items k key key at) (All-get_or AreLinkKeys table.keys.items k key below keys) in
    subst (λ (stops : List Stop). HasShortNodes ports.ports key.priority stops) (sym (kept.of_paths.each k tree there).stops)
    (short ports overhead few_ports key says (stops_of paths) (are_in_order (Fits ports overhead key) p.0 paths p.1))
