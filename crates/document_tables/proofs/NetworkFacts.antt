-- The network of a document keeps the limits of networks.
use Rattle.std.proofs.Common.{◌≡◌, ℕ, zero, suc, ◌+◌, ◌<◌, ◌≤◌, nat_lt, nat_eq, false, List, [], ◌∷◌, map, length, get_or, All, Option, Some, None, refl, sym, ap, subst, ◌∙◌, arith, ⊎_elim}
use Rattle.std.proofs.lemmas.Bool.{ltb-false}
use Rattle.std.specs.Prelude.{slice_get, unwrap_or}
use Rattle.std.proofs.lemmas.List.{length-map, get_or-map}
use Rattle.std.proofs.lemmas.List.Elements.{All-from_get_or, All-get_or}
use Rattle.std.proofs.lemmas.List.Quantifiers.{position-Some}
use Rattle.std.proofs.lemmas.Option.{slice_get-get_or, slice_get_within, get_or_from_slice_get}
use Rattle.tree_network.specs.declared.network.Discipline.{Discipline}
use Rattle.tree_network.specs.declared.network.Discipline.TheVariants as discipline
use Rattle.tree_network.specs.declared.network.Node.{Node}
use Rattle.tree_network.specs.declared.network.Link.{Link}
use Rattle.tree_network.specs.declared.network.Network.{Network}
use Rattle.tree_network.specs.Networks as networks
use Rattle.tree_network.specs.Networks.{IsNetwork, IsLink, IsNodeAt, PortIsInRange, FitsQuantum, HangsBefore, no_port, no_node, longest_frame}
use Rattle.table_cells.specs.Amounts.{whole}
use Rattle.document_rows.specs.Disciplines.{DisciplineText, Fifo, discipline_view}
use Rattle.document_rows.specs.PortRows.{PortText}
use Rattle.document_rows.specs.LinkRows.{frame_on_wire}
use Rattle.document_tables.specs.declared.links.LinkKeys.{LinkKeys}
use Rattle.document_tables.specs.declared.document.BranchEnd.{BranchEnd}
use Rattle.document_tables.specs.Documents.{IsBranchOf, end_view}
use Rattle.document_tables.specs.Trees.{last_of}
use Rattle.document_tables.specs.Ranges.{IsTimeOrNone, IsPortText, AreLinkKeys}
use Rattle.document_tables.specs.Ports.{Ports, most_ports}
use Rattle.document_tables.specs.Links.{Links, BranchText, paths_of}
use Rattle.document_tables.specs.Paths.{queues_of, queue_at, passes_quantum}
use Rattle.document_tables.specs.Stops.{Stop, stops_of}
use Rattle.document_tables.specs.Grids.{PortOnGrid, LinkOnGrid, BranchOnGrid, branch_on_grid, end_of, port_on_grid, grid_port, grid_link, link_on_grid, links_from, node_of, nodes_of, place_of, place_after, queue_of}
use Rattle.document_tables.proofs.Reading.{inner}
use Rattle.document_tables.proofs.GridSteps.{has_path, split}
use Rattle.document_tables.proofs.TableRanges.{HasDeadline}
use Rattle.document_tables.proofs.GridRanges.{port_range, gap_range, time_range}
use Rattle.document_tables.proofs.StopOrder.{AreInOrder, Follows, are_in_order, some_stop}
use Rattle.document_tables.proofs.BranchFacts.{Fits, AreLinksBut}

-- ---- lists that are seen alike
module _ {X Y Z : Type 0} (see : X → Z) (make : Y → Z) (xs : List X) (ys : List Y) (e : map see xs ≡ map make ys) where
  pub same_length : length xs ≡ length ys
  same_length = let a = length-map xs see in let b = length-map ys make in let c = ap length e in omega (arith, a, b, c)

  pub same_at : (k : ℕ) (d : X) (y : Y) → slice_get ys k ≡ Some y → see (get_or xs k d) ≡ make y
  same_at k d y h =
      let below = slice_get_within ys k y h in
      let n = same_length in
      sym (get_or-map see xs k d (see d) (omega (arith, below, n))) ∙ (ap (λ (zs : List Z). get_or zs k (see d)) e ∙ (get_or-map make ys k y (see d) below ∙ ap make (get_or_from_slice_get ys k y y h)))

no_text : PortText
no_text = record { rate = whole 1; latency = whole 0; link = whole 0; discipline = Fifo; gate = None }

-- ---- queues
queues_alike : (d : Discipline) → networks.queues_of d ≡ queues_of (discipline_view d)
queues_alike discipline.Fifo = refl
queues_alike (discipline.Priority n) = refl
queues_alike (discipline.Drr quanta) = refl

fits_alike : (d : Discipline) (queue frame : ℕ) → queue < queues_of (discipline_view d) → passes_quantum (discipline_view d) queue frame ≡ false → FitsQuantum d queue frame
fits_alike discipline.Fifo queue frame h f = tt
fits_alike (discipline.Priority n) queue frame h f = tt
fits_alike (discipline.Drr quanta) queue frame h f =
    let any : get_or quanta.items queue frame ≡ get_or quanta.items queue 0 = inner (get_or quanta.items queue frame) (get_or quanta.items queue 0) (sym (slice_get-get_or quanta.items queue frame h) ∙ slice_get-get_or quanta.items queue 0 h) in
    let less : frame ≤ get_or quanta.items queue frame = not_less (get_or quanta.items queue frame) frame f in
    subst (λ (q : ℕ). frame ≤ q) any less
  where
    not_less : (a b : ℕ) → nat_lt a b ≡ false → b ≤ a
    not_less a b h = ltb-false a b h

-- ---- links
pub link_at : (ports : List PortText) (overhead : ℕ) (branches : List BranchText) (number : ℕ) (keys : List LinkKeys) (k : ℕ) (x : LinkOnGrid) → slice_get (links_from ports overhead branches number keys) k ≡ Some x
    → (key : LinkKeys) × (slice_get keys k ≡ Some key) × (x ≡ link_on_grid ports overhead key (stops_of (paths_of (number + k) branches)))
unfolding links_from
link_at ports overhead branches number [] k x h = cc
link_at ports overhead branches number (key ∷ keys) zero x h =
    let n : number ≡ number + 0 = omega arith in
    (key, refl, sym (inner (link_on_grid ports overhead key (stops_of (paths_of number branches))) x h) ∙ ap (λ (m : ℕ). link_on_grid ports overhead key (stops_of (paths_of m branches))) n)
link_at ports overhead branches number (key ∷ keys) (suc k) x h =
    let r = link_at ports overhead branches (number + 1) keys k x h in
    let n : number + 1 + k ≡ number + suc k = omega arith in
    (r.0, r.1, r.2 ∙ ap (λ (m : ℕ). link_on_grid ports overhead r.0 (stops_of (paths_of m branches))) n)

pub links_length : (ports : List PortText) (overhead : ℕ) (branches : List BranchText) (number : ℕ) (keys : List LinkKeys) → length (links_from ports overhead branches number keys) ≡ length keys
unfolding links_from
links_length ports overhead branches number [] = refl
links_length ports overhead branches number (key ∷ keys) = ap suc (links_length ports overhead branches (number + 1) keys)

no_branch : BranchText
no_branch = record { link = 0; path = []; deadline = None }

-- where a path ends in a tree of some ports
within_some : (o : Option ℕ) (n : ℕ) → 1 ≤ n → ((j : ℕ) → o ≡ Some j → j < n) → unwrap_or o 0 < n
within_some None n some h = omega (arith, some)
within_some (Some j) n some h = h j refl

place_within : (stops : List Stop) (o : Option ℕ) → 1 ≤ length stops → unwrap_or (place_after stops o) 0 < length stops
place_within stops None some = omega (arith, some)
place_within stops (Some q) some =
    within_some (place_of stops q) (length stops) some (λ j h.
    let n = length-map stops (λ (s : Stop). s.0) in
    let w = position-Some (nat_eq q) (map (λ (s : Stop). s.0) stops) j 0 h in
    omega (arith, n, w.0))

pub hangs_before : (stops : List Stop) (i : ℕ) (after : Option ℕ) → Follows stops i after → HangsBefore i (place_after stops after)
hangs_before stops i None f = f
hangs_before stops i (Some q) f = subst (HangsBefore i) (sym f.2) f.1

module _ (ports : Ports) (overhead : ℕ) (net : Network) (same_ports : map grid_port net.ports.items ≡ map port_on_grid ports.ports) where
  module _ (key : LinkKeys) (stops : List Stop) (order : AreInOrder (Fits ports overhead key) stops) (link : Link) (is : grid_link link ≡ link_on_grid ports.ports overhead key stops) where
    nodes : link.nodes.items ≡ nodes_of ports.ports key.priority stops
    nodes = ap (λ (l : LinkOnGrid). l.nodes) is

    node_is : (i : ℕ) (s : Stop) → slice_get stops i ≡ Some s → get_or link.nodes.items i no_node ≡ node_of ports.ports key.priority stops s
    node_is i s h =
        let below = slice_get_within stops i s h in
        ap (λ (ns : List Node). get_or ns i no_node) nodes
        ∙ (get_or-map (node_of ports.ports key.priority stops) stops i s no_node below ∙ ap (node_of ports.ports key.priority stops) (get_or_from_slice_get stops i s s h))

    many : length link.nodes.items ≡ length stops
    many = let a = ap length nodes in let b = length-map stops (node_of ports.ports key.priority stops) in omega (arith, a, b)

    made_at : (i : ℕ) (s : Stop) → slice_get stops i ≡ Some s → IsNodeAt net link i (node_of ports.ports key.priority stops s)
    made_at i s h =
        let o = order i s h in
        let taken = o.is in
        let port = get_or net.ports.items s.0 no_port in
        let below = slice_get_within ports.ports s.0 taken.port taken.there in
        let n = same_length grid_port port_on_grid net.ports.items ports.ports same_ports in
        let view : discipline_view port.discipline ≡ taken.port.discipline = ap (λ (p : PortOnGrid). p.discipline) (same_at grid_port port_on_grid net.ports.items ports.ports same_ports s.0 no_port taken.port taken.there) in
        let queue : queue_of (slice_get ports.ports s.0) key.priority ≡ queue_at taken.port.discipline key.priority = ap (λ (p : Option PortText). queue_of p key.priority) taken.there in
        let frame : link.frame ≡ frame_on_wire key.largest_frame overhead = ap (λ (l : LinkOnGrid). l.frame) is in
        let less : queue_of (slice_get ports.ports s.0) key.priority < queues_of (discipline_view port.discipline) =
        subst (λ (d : DisciplineText). queue_of (slice_get ports.ports s.0) key.priority < queues_of d) (sym view) (subst (λ (q : ℕ). q < queues_of taken.port.discipline) (sym queue) taken.queue)
        in
        let fits : passes_quantum (discipline_view port.discipline) (queue_of (slice_get ports.ports s.0) key.priority) link.frame ≡ false =
        subst (λ (f : ℕ). passes_quantum (discipline_view port.discipline) (queue_of (slice_get ports.ports s.0) key.priority) f ≡ false) (sym frame)
        (subst (λ (d : DisciplineText). passes_quantum d (queue_of (slice_get ports.ports s.0) key.priority) (frame_on_wire key.largest_frame overhead) ≡ false) (sym view)
        (subst (λ (q : ℕ). passes_quantum taken.port.discipline q (frame_on_wire key.largest_frame overhead) ≡ false) (sym queue) taken.fits))
        in
        record {
          port = omega (arith, below, n);
          queue = subst (λ (n : ℕ). queue_of (slice_get ports.ports s.0) key.priority < n) (sym (queues_alike port.discipline)) less;
          hangs = hangs_before stops i s.1 o.follows;
          fits = fits_alike port.discipline (queue_of (slice_get ports.ports s.0) key.priority) link.frame less fits;
        }

    node_at : (i : ℕ) → i < length link.nodes.items → IsNodeAt net link i (get_or link.nodes.items i no_node)
    node_at i h =
        let n = many in
        let s = get_or stops i (0, None) in
        let at = slice_get-get_or stops i (0, None) (omega (arith, h, n)) in
        subst (IsNodeAt net link i) (sym (node_is i s at)) (made_at i s at)

    port_at : (i : ℕ) (h : i < length link.nodes.items) → place_of stops (get_or link.nodes.items i no_node).port ≡ Some i
    port_at i h =
        let n = many in
        let s = get_or stops i (0, None) in
        let at = slice_get-get_or stops i (0, None) (omega (arith, h, n)) in
        ap (λ (node : Node). place_of stops node.port) (node_is i s at) ∙ (order i s at).own

    pub link_range : AreLinkKeys key → overhead ≤ 1048576 → 1 ≤ length stops → IsLink net link
    unfolding longest_frame
    link_range keys few some =
        let gap = gap_range key.gap keys.gap in
        let is_frame : link.frame ≡ frame_on_wire key.largest_frame overhead = ap (λ (l : LinkOnGrid). l.frame) is in
        let is_gap = ap (λ (l : LinkOnGrid). l.gap) is in
        let is_jitter = ap (λ (l : LinkOnGrid). l.jitter) is in
        let n = many in record {
          some_frame = omega (arith, is_frame, keys.some_frame);
          frame = omega (arith, is_frame, keys.frame, few);
          some_gap = subst (λ (n : ℕ). 1 ≤ n) (sym is_gap) gap.0;
          gap = subst (λ (n : ℕ). n ≤ networks.longest_time) (sym is_gap) gap.1;
          jitter = subst (λ (n : ℕ). n ≤ networks.longest_time) (sym is_jitter) (time_range key.jitter keys.jitter);
          some_node = omega (arith, n, some);
          nodes = node_at;
          once = λ a b less below e.
              let first = port_at a (omega (arith, less, below)) in
              let last = port_at b below in
              let same : a ≡ b = inner a b (sym first ∙ (ap (place_of stops) e ∙ last)) in
              omega (arith, less, same);
        }

  pub network_range : (links : Links) → overhead ≤ 1048576 → length ports.ports ≤ most_ports → All IsPortText ports.ports → All AreLinkKeys links.keys → AreLinksBut ports overhead links None
      → map grid_link net.links.items ≡ links_from ports.ports overhead links.branches 0 links.keys → IsNetwork net
  network_range links few few_ports texts keys are same_links =
      let n = same_length grid_port port_on_grid net.ports.items ports.ports same_ports in
      let m = length-map net.links.items grid_link in
      let l = ap length same_links in
      let k = links_length ports.ports overhead links.branches 0 links.keys in record {
        few_ports = omega (arith, n, few_ports);
        few_links = omega (arith, m, l, k, are.few, are.names);
        ports = All-from_get_or PortIsInRange net.ports.items no_port (λ i h.
            let text = get_or ports.ports i no_text in
            let at = slice_get-get_or ports.ports i no_text (omega (arith, h, n)) in
            port_range (get_or net.ports.items i no_port) text (same_at grid_port port_on_grid net.ports.items ports.ports same_ports i no_port text at)
            (All-get_or IsPortText ports.ports i no_text (omega (arith, h, n)) texts));
        links = λ i d h.
            let link = get_or net.links.items i d in
            let seen : slice_get (links_from ports.ports overhead links.branches 0 links.keys) i ≡ Some (grid_link link) =
            ap (λ (ls : List LinkOnGrid). slice_get ls i) (sym same_links)
            ∙ (slice_get-get_or (map grid_link net.links.items) i (grid_link d) (omega (arith, h, m)) ∙ ap Some (get_or-map grid_link net.links.items i d (grid_link d) h))
            in
            let at = link_at ports.ports overhead links.branches 0 links.keys i (grid_link link) seen in
            let zero_more : 0 + i ≡ i = omega arith in
            let key = at.0 in
            let below = slice_get_within links.keys i key at.1 in
            let paths = paths_of i links.branches in
            let p = are.each i key at.1 in
            link_range key (stops_of paths) (are_in_order (Fits ports overhead key) p.0 paths p.1) link (at.2 ∙ ap (λ (j : ℕ). link_on_grid ports.ports overhead key (stops_of (paths_of j links.branches))) zero_more)
            (subst AreLinkKeys (get_or_from_slice_get links.keys i key key at.1) (All-get_or AreLinkKeys links.keys i key below keys)) few
            (some_stop (Fits ports overhead key) p.0 paths (are.some i below (λ e. cc)) p.1);
      }

  -- ---- branches
  pub branches_range : (links : Links) → AreLinksBut ports overhead links None → map grid_link net.links.items ≡ links_from ports.ports overhead links.branches 0 links.keys
      → All HasDeadline links.branches → (ends : List BranchEnd) → map end_view ends ≡ map (branch_on_grid links.branches) links.branches → All (IsBranchOf net) ends
  branches_range links are same_links deadlines ends same_ends =
      λ k d h.
      let bs = links.branches in
      let b = get_or ends k d in
      let n = same_length end_view (branch_on_grid bs) ends bs same_ends in
      let text = get_or bs k no_branch in
      let at = slice_get-get_or bs k no_branch (omega (arith, h, n)) in
      let e = same_at end_view (branch_on_grid bs) ends bs same_ends k d text at in
      let link_is : b.link ≡ text.link = ap (λ (x : BranchOnGrid). x.link) e in
      let node_is : b.node ≡ end_of (stops_of (paths_of text.link bs)) text.path = ap (λ (x : BranchOnGrid). x.node) e in
      let below : text.link < length links.keys = ⊎_elim (λ (l : text.link < length links.keys). l)
      (λ (l : length links.keys ≤ text.link). absurd (has_path bs k no_branch (omega (arith, h, n)) (are.others text.link l))) (split text.link (length links.keys))
      in
      let m = length-map net.links.items grid_link in
      let l = ap length same_links in
      let j = links_length ports.ports overhead bs 0 links.keys in record {
        in_links = omega (arith, link_is, below, m, l, j);
        in_nodes = λ link there.
            let items = net.links.items in
            let within = slice_get_within items b.link link there in
            let seen : slice_get (links_from ports.ports overhead bs 0 links.keys) b.link ≡ Some (grid_link link) =
            ap (λ (ls : List LinkOnGrid). slice_get ls b.link) (sym same_links)
            ∙ (slice_get-get_or (map grid_link items) b.link (grid_link link) (omega (arith, within, m))
            ∙ ap Some (get_or-map grid_link items b.link link (grid_link link) within ∙ ap grid_link (get_or_from_slice_get items b.link link link there)))
            in
            let found = link_at ports.ports overhead bs 0 links.keys b.link (grid_link link) seen in
            let number : 0 + b.link ≡ text.link = omega (arith, link_is) in
            let key = found.0 in
            let stops = stops_of (paths_of text.link bs) in
            let p = are.each text.link key (ap (slice_get links.keys) (sym link_is) ∙ found.1) in
            let some = some_stop (Fits ports overhead key) p.0 (paths_of text.link bs) (are.some text.link below (λ e. cc)) p.1 in
            let nodes : link.nodes.items ≡ nodes_of ports.ports key.priority stops =
            ap (λ (x : LinkOnGrid). x.nodes) found.2 ∙ ap (λ (i : ℕ). nodes_of ports.ports key.priority (stops_of (paths_of i bs))) number
            in
            let many = ap length nodes in
            let same = length-map stops (node_of ports.ports key.priority stops) in
            let ends = place_within stops (last_of None text.path) some in
            omega (arith, node_is, many, same, ends);
        deadline = subst IsTimeOrNone (sym (ap (λ (x : BranchOnGrid). x.deadline) e)) (All-get_or HasDeadline bs k no_branch (omega (arith, h, n)) deadlines);
      }
