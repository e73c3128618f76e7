-- Ways of branches over the trees of their links.
use Rattle.std.proofs.Common.{◌≡◌, ℕ, zero, suc, ◌+◌, ◌<◌, ◌≤◌, ◌==◌, ◌&&◌, nat_eq, Bool, true, false, cond, List, [], ◌∷◌, map, filter, length, get_or, All, Option, Some, None, Ok, refl, sym, ap, ap₂, subst, ◌∙◌, arith}
use Rattle.std.specs.Prelude.{slice_get, unwrap_or, option_map}
use Rattle.std.specs.List.{list_any, position_from}
use Rattle.std.specs.Map.{lookup}
use Rattle.std.proofs.lemmas.Bool.{eq-eqb}
use Rattle.std.proofs.lemmas.Iterator.Adapters.{position_from-zero}
use Rattle.std.proofs.lemmas.List.{length-map}
use Rattle.std.proofs.lemmas.List.Elements.{All-get_or}
use Rattle.std.proofs.lemmas.Option.{slice_get-get_or, slice_get-map, slice_get_within, get_or_from_slice_get}
use Rattle.tree_network.specs.Networks.{no_node}
use Rattle.tree_network.specs.declared.network.Node.{Node}
use Rattle.document_rows.specs.LinkRows.{frame_on_wire}
use Rattle.document_rows.specs.PortRows.{PortText}
use Rattle.document_tables.specs.declared.links.LinkKeys.{LinkKeys}
use Rattle.document_tables.specs.declared.links.LinkTable.{LinkTable}
use Rattle.document_tables.specs.declared.trees.Tree.{Tree}
use Rattle.document_tables.specs.Documents.{DocumentText, document_with}
use Rattle.document_tables.specs.Grids.{PortOnGrid, branch_on_grid, end_of, link_on_grid, links_from, microsecond, millisecond, node_of, nodes_of, place_of, place_after, port_on_grid, queue_of}
use Rattle.document_tables.specs.Links.{Links, BranchText, links_of, links_view, paths_of}
use Rattle.document_tables.specs.LinkTrees.{AreTrees}
use Rattle.document_tables.specs.Paths.{queue_at}
use Rattle.document_tables.specs.Ports.{Ports}
use Rattle.document_tables.specs.Ranges.{AreLinkKeys}
use Rattle.document_tables.specs.Stops.{Stop, stops_of}
use Rattle.document_tables.specs.Tables.{LineRow}
use Rattle.document_tables.specs.Trees.{comes_after, last_of, same, IsTreeOf}
use Rattle.document_tables.specs.Ways.{HangInTurn, IsBranchOfRow, IsWay, AreBranchesOf, port_of, queue_in}
use Rattle.document_tables.proofs.BranchRows.{HasRows, IsRowOf, rows_read}
use Rattle.document_tables.proofs.Reading.{inner}
use Rattle.document_tables.proofs.RowRanges.{link_says}
use Rattle.document_tables.proofs.SameRounded.{same_down, same_up}
use Rattle.document_tables.proofs.StopOrder.{unwrapped}
use Rattle.document_tables.proofs.TableRanges.{links_in_range}
use Rattle.document_tables.proofs.TreeFacts.{clash, equal, or_left, or_right, same_self}

-- ---- one of a list
some_at : {X : Type 0} (xs : List X) (k : ℕ) → k < length xs → (x : X) × (slice_get xs k ≡ Some x)
some_at [] k h = absurd (omega arith)
some_at (x ∷ xs) zero h = (x, refl)
some_at (x ∷ xs) (suc k) h = some_at xs k (omega arith)

-- ---- where a port stands
-- as a port that comes after this one, or after none
abbrev StopAt : List Stop → ℕ → Option ℕ → Type 0
StopAt stops p x = (i : ℕ) × (place_of stops p ≡ Some i) × (slice_get stops i ≡ Some (p, x))

found_first : (q : ℕ) (y : Option ℕ) (es : List Stop) (n p : ℕ) (x : Option ℕ) (b : Bool) → nat_eq p q ≡ b → cond b (Some y) (lookup (nat_eq p) es) ≡ Some x
    → (lookup (nat_eq p) es ≡ Some x → (i : ℕ) × (position_from (nat_eq p) (n + 1) (map (λ s. s.0) es) ≡ Some (n + 1 + i)) × (slice_get es i ≡ Some (p, x)))
    → (i : ℕ) × (cond b (Some n) (position_from (nat_eq p) (n + 1) (map (λ s. s.0) es)) ≡ Some (n + i)) × (slice_get ((q, y) ∷ es) i ≡ Some (p, x))
found_first q y es n p x true e h rest =
    let after : y ≡ x = inner y x h in
    let port : q ≡ p = sym (equal p q e) in
    (0, ap Some (omega arith), ap₂ (λ (a : ℕ) (b : Option ℕ). Some (a, b)) port after)
found_first q y es n p x false e h rest = let r = rest h in (suc r.0, r.1 ∙ ap Some (omega arith), r.2)

found_from : (es : List Stop) (n p : ℕ) (x : Option ℕ) → lookup (nat_eq p) es ≡ Some x
    → (i : ℕ) × (position_from (nat_eq p) n (map (λ s. s.0) es) ≡ Some (n + i)) × (slice_get es i ≡ Some (p, x))
found_from [] n p x h = cc
found_from (e ∷ es) n p x h = found_first e.0 e.1 es n p x (nat_eq p e.0) refl h (found_from es (n + 1) p x)

stop_at : (es : List Stop) (p : ℕ) (x : Option ℕ) → lookup (nat_eq p) es ≡ Some x → StopAt es p x
stop_at es p x h =
    let f = found_from es 0 p x h in
    (f.0, position_from-zero (nat_eq p) (map (λ (s : Stop). s.0) es) ∙ (f.1 ∙ ap Some (omega arith)), f.2)

-- ---- over a tree
-- the queue of a priority at the port of a number
abbrev queue_over : List PortText → ℕ → ℕ → ℕ
queue_over ports priority port = queue_of (slice_get ports port) priority

module _ (ports : List PortText) (priority : ℕ) (stops : List Stop) where
  abbrev nodes : List Node
  nodes = nodes_of ports priority stops

  node_is : (i p : ℕ) (x : Option ℕ) → slice_get stops i ≡ Some (p, x) → (i < length nodes) × (get_or nodes i no_node ≡ node_of ports priority stops (p, x))
  node_is i p x h =
      let below = slice_get_within stops i (p, x) h in
      let n = length-map stops (node_of ports priority stops) in
      let l : i < length nodes = omega (arith, below, n) in (
        l,
        inner (get_or nodes i no_node) (node_of ports priority stops (p, x))
            (sym (slice_get-get_or nodes i no_node l) ∙ (slice_get-map (node_of ports priority stops) stops i ∙ ap (option_map (node_of ports priority stops)) h)),
      )

  record WayOn (behind : Option ℕ) (path : List ℕ) : Type 0 where
    pub places : List ℕ
    pub hang : HangInTurn nodes (place_after stops behind) places
    pub over : map (port_of nodes) places ≡ path
    pub queues : map (queue_in nodes) places ≡ map (queue_over ports priority) path
    pub ends : last_of (place_after stops behind) places ≡ place_after stops (last_of behind path)

  way_on : (path : List ℕ) (behind : Option ℕ) → ((p : ℕ) (x : Option ℕ) → comes_after p x behind path ≡ true → StopAt stops p x) → WayOn behind path
  unfolding comes_after
  way_on [] behind h = record { places = []; hang = tt; over = refl; queues = refl; ends = refl }
  way_on (port ∷ path) behind h =
      let here : (port == port && same behind behind) ≡ true = (let e : (port == port) ≡ true = eq-eqb port port refl in let s = same_self behind in rw (e, s) refl) in
      let at = h port behind (or_left (port == port && same behind behind) (comes_after port behind (Some port) path) here) in
      let rest = way_on path (Some port) (λ p x c. h p x (or_right (port == p && same behind x) (comes_after p x (Some port) path) c)) in
      let node = node_is at.0 port behind at.2 in
      let is = node.1 in record {
        places = at.0 ∷ rest.places;
        hang = (node.0, ap (λ (n : Node). n.from) is, subst (λ (from : Option ℕ). HangInTurn nodes from rest.places) at.1 rest.hang);
        over = ap₂ (λ (p : ℕ) (ps : List ℕ). p ∷ ps) (ap (λ (n : Node). n.port) is) rest.over;
        queues = ap₂ (λ (q : ℕ) (qs : List ℕ). q ∷ qs) (ap (λ (n : Node). n.queue) is) rest.queues;
        ends = subst (λ (from : Option ℕ). last_of from rest.places ≡ place_after stops (last_of (Some port) path)) at.1 rest.ends;
      }

  last_some : (xs : List ℕ) (i : ℕ) → (j : ℕ) × (last_of (Some i) xs ≡ Some j)
  last_some [] i = (i, refl)
  last_some (x ∷ xs) i = last_some xs x

  ended : (places : List ℕ) (o : Option ℕ) → 1 ≤ length places → last_of None places ≡ o → last_of None places ≡ Some (unwrap_or o 0)
  ended [] o some h = absurd (omega arith)
  ended (i ∷ places) o some h = let l = last_some places i in h ∙ unwrapped o l.0 (sym h ∙ l.1)

  way_whole : (path : List ℕ) → 1 ≤ length path → ((p : ℕ) (x : Option ℕ) → comes_after p x None path ≡ true → StopAt stops p x) → (places : List ℕ) × IsWay nodes path places (end_of stops path) × (map (queue_in nodes) places ≡ map (queue_over ports priority) path)
  way_whole path some h =
      let w = way_on path None h in
      let n = ap length w.over in
      let m = length-map w.places (port_of nodes) in
      (w.places, record { hang = w.hang; over = w.over; ends = ended w.places (place_after stops (last_of None path)) (omega (arith, n, m, some)) w.ends }, w.queues)

-- of a path that is one of those of a tree
way_of : (ports : List PortText) (priority : ℕ) (paths : List (List ℕ)) (tree : Tree) (path : List ℕ) → IsTreeOf paths tree → 1 ≤ length path → ((f : List ℕ → Bool) → f path ≡ true → list_any f paths ≡ true)
    → (places : List ℕ) × IsWay (nodes_of ports priority (stops_of paths)) path places (end_of (stops_of paths) path)
    × (map (queue_in (nodes_of ports priority (stops_of paths))) places ≡ map (queue_over ports priority) path)
way_of ports priority paths tree path t some one =
    way_whole ports priority (stops_of paths) path some
    (λ p x c. stop_at (stops_of paths) p x (subst (λ (es : List Stop). lookup (nat_eq p) es ≡ Some x) t.stops (t.kept.all p x (one (comes_after p x None) c))))

-- ---- paths of a link
own_path : (b : BranchText) (bs : List BranchText) (f : List ℕ → Bool) (t : Bool) → t ≡ true → f b.path ≡ true
    → list_any f (map (λ (b : BranchText). b.path) (cond t (b ∷ filter (λ (c : BranchText). c.link == b.link) bs) (filter (λ (c : BranchText). c.link == b.link) bs))) ≡ true
own_path b bs f true t h = or_left (f b.path) (list_any f (paths_of b.link bs)) h
own_path b bs f false t h = absurd (clash false t refl)

more_paths : (c : BranchText) (k : ℕ) (bs : List BranchText) (f : List ℕ → Bool) (t : Bool) → list_any f (paths_of k bs) ≡ true
    → list_any f (map (λ (b : BranchText). b.path) (cond t (c ∷ filter (λ (b : BranchText). b.link == k) bs) (filter (λ (b : BranchText). b.link == k) bs))) ≡ true
more_paths c k bs f true h = or_right (f c.path) (list_any f (paths_of k bs)) h
more_paths c k bs f false h = h

one_of_paths : (bs : List BranchText) (k : ℕ) (b : BranchText) → slice_get bs k ≡ Some b → (f : List ℕ → Bool) → f b.path ≡ true → list_any f (paths_of b.link bs) ≡ true
one_of_paths [] k b h f t = cc
one_of_paths (c ∷ bs) zero b h f t =
    let e : c ≡ b = inner c b h in
    subst (λ (a : BranchText). list_any f (paths_of b.link (a ∷ bs)) ≡ true) (sym e) (own_path b bs f (b.link == b.link) (eq-eqb b.link b.link refl) t)
one_of_paths (c ∷ bs) (suc k) b h f t = more_paths c b.link bs f (c.link == b.link) (one_of_paths bs k b h f t)

-- ---- links
link_made : (ports : List PortText) (overhead : ℕ) (branches : List BranchText) (number : ℕ) (keys : List LinkKeys) (k : ℕ) (key : LinkKeys) → slice_get keys k ≡ Some key
    → slice_get (links_from ports overhead branches number keys) k ≡ Some (link_on_grid ports overhead key (stops_of (paths_of (number + k) branches)))
unfolding links_from
link_made ports overhead branches number [] k key h = cc
link_made ports overhead branches number (first ∷ keys) zero key h =
    let n : number ≡ number + 0 = omega arith in
    ap₂ (λ (m : ℕ) (key : LinkKeys). Some (link_on_grid ports overhead key (stops_of (paths_of m branches)))) n (inner first key h)
link_made ports overhead branches number (first ∷ keys) (suc k) key h =
    let n : number + 1 + k ≡ number + suc k = omega arith in
    link_made ports overhead branches (number + 1) keys k key h ∙ ap (λ (m : ℕ). Some (link_on_grid ports overhead key (stops_of (paths_of m branches)))) n

-- ---- the ports of a path
-- on the grid
texts_on_grid : (ports : List PortText) (path : List ℕ) (texts : List PortText) → map (slice_get ports) path ≡ map Some texts → map (slice_get (map port_on_grid ports)) path ≡ map Some (map port_on_grid texts)
texts_on_grid ports [] [] e = refl
texts_on_grid ports [] (text ∷ texts) e = cc
texts_on_grid ports (number ∷ path) [] e = cc
texts_on_grid ports (number ∷ path) (text ∷ texts) e =
    let one : slice_get ports number ≡ Some text = cc in
    let more : map (slice_get ports) path ≡ map Some texts = cc in
    ap₂ (λ (o : Option PortOnGrid) (os : List (Option PortOnGrid)). o ∷ os) (slice_get-map port_on_grid ports number ∙ ap (option_map port_on_grid) one) (texts_on_grid ports path texts more)

-- the queues of a priority
queues_there : (ports : List PortText) (priority : ℕ) (path : List ℕ) (texts : List PortText) → map (slice_get ports) path ≡ map Some texts
    → map (queue_over ports priority) path ≡ map (λ (port : PortOnGrid). queue_at port.discipline priority) (map port_on_grid texts)
queues_there ports priority [] [] e = refl
queues_there ports priority [] (text ∷ texts) e = cc
queues_there ports priority (number ∷ path) [] e = cc
queues_there ports priority (number ∷ path) (text ∷ texts) e =
    let one : slice_get ports number ≡ Some text = cc in
    let more : map (slice_get ports) path ≡ map Some texts = cc in
    ap₂ (λ (q : ℕ) (qs : List ℕ). q ∷ qs) (ap (λ (o : Option PortText). queue_of o priority) one) (queues_there ports priority path texts more)

-- ---- a document
module _ (ports : Ports) (overhead : ℕ) (table : LinkTable) (trees : AreTrees table) where
  abbrev links : Links
  links = links_view table

  abbrev document : DocumentText
  document = document_with overhead ports links

  branch_of_row : (rows : List LineRow) (has : HasRows ports rows links) (k : ℕ) (row : LineRow) (b : BranchText) → All AreLinkKeys links.keys → slice_get links.branches k ≡ Some b → IsRowOf ports has.head links row.cells b
      → IsBranchOfRow overhead has.head document row.cells (branch_on_grid links.branches b)
  branch_of_row rows has k row b ranges there is =
      let bs = links.branches in
      let key = is.keys in
      let agree = is.agree in
      let below = slice_get_within links.keys b.link key is.keys_are in
      let range = subst AreLinkKeys (get_or_from_slice_get links.keys b.link key key is.keys_are) (All-get_or AreLinkKeys links.keys b.link key below ranges) in
      let zero_more : 0 + b.link ≡ b.link = omega arith in
      let stops = stops_of (paths_of b.link bs) in
      let count = trees.trees in
      let tree = some_at table.trees.items b.link (omega (arith, below, count)) in
      let says = link_says has.head row.cells is.text is.says in
      let many = ap length is.over in
      let a = length-map b.path (slice_get ports.names) in
      let c = length-map is.text.path Some in
      let way = way_of ports.ports key.priority (paths_of b.link bs) tree.0 b.path (trees.of_paths.each b.link tree.0 tree.1) (omega (arith, many, a, c, says.some_port)) (one_of_paths bs k b there) in record {
        name = is.name;
        is_named = is.is_named;
        of_link = is.of_link;
        text = is.text;
        says = is.says;
        deadline = is.deadline;
        link = link_on_grid ports.ports overhead key stops;
        link_is = link_made ports.ports overhead bs 0 links.keys b.link key is.keys_are ∙ ap (λ (m : ℕ). Some (link_on_grid ports.ports overhead key (stops_of (paths_of m bs)))) zero_more;
        numbers = record {
          frame = ap (λ (bytes : ℕ). frame_on_wire bytes overhead) agree.largest_frame;
          gap = same_down millisecond key.gap is.text.gap range.gap.amount says.gap.amount agree.gap;
          jitter = same_up microsecond key.jitter is.text.jitter range.jitter.amount says.jitter.amount agree.jitter;
        };
        ports = b.path;
        named = is.over;
        places = way.0;
        way = way.1;
        passed = map port_on_grid is.texts;
        passed_are = texts_on_grid ports.ports b.path is.texts is.texts_are;
        queues = way.2 ∙ (queues_there ports.ports key.priority b.path is.texts is.texts_are ∙ ap (λ (p : ℕ). map (λ (port : PortOnGrid). queue_at port.discipline p) (map port_on_grid is.texts)) agree.priority);
      }

  pub branches_are : (rows : List LineRow) → links_of ports overhead rows ≡ Ok links → AreBranchesOf overhead rows document
  branches_are rows h =
      let has = rows_read ports overhead rows links h in
      let ranges = (links_in_range ports overhead rows links h).0 in
      let bs = links.branches in
      let make = branch_on_grid bs in
      let n = length-map bs make in
      let all = has.are.all in record {
        first = has.first;
        behind = has.behind;
        rows_are = has.rows_are;
        head = has.head;
        head_is = has.head_is;
        all = omega (arith, n, all);
        each = λ k row end there at.
            let below = slice_get_within has.behind k row there in
            let b = some_at bs k (omega (arith, below, all)) in
            let same : make b.0 ≡ end = inner (make b.0) end (sym (slice_get-map make bs k ∙ ap (option_map make) b.1) ∙ at) in
            subst (IsBranchOfRow overhead has.head document row.cells) same (branch_of_row rows has k row b.0 ranges b.1 (has.are.each k row there b.0 b.1));
      }
