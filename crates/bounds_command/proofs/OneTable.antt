-- Two networks of one document have one table: port by port in an order, and then along each link.
use Rattle.std.proofs.Common.{◌≡◌, ◌⊎◌, ℕ, zero, suc, ◌<◌, ◌≤◌, ◌+◌, Option, Some, None, List, [], length, get_or, refl, sym, ◌∙◌, ap, ap₂, subst, arith, inl, inr}
use Rattle.std.specs.Prelude.{slice_get, option_map}
use Rattle.std.proofs.lemmas.Bool.{cases_lt, cases_eq}
use Rattle.std.proofs.lemmas.List.{get_or_past, length-map}
use Rattle.std.proofs.lemmas.Option.{slice_get_within, get_or_from_slice_get}
use Rattle.arrival_lines.specs.declared.grid.Queue.{Queue}
use Rattle.arrival_stairs.specs.declared.stairs.Stair.{Stair}
use Rattle.tree_network.specs.Networks.{IsNetwork, IsLink, HangsBefore, queues_of, port_at, node_at, no_node}
use Rattle.tree_network.specs.declared.network.Node.{Node}
use Rattle.tree_network.specs.declared.network.Link.{Link}
use Rattle.tree_network.specs.declared.network.Network.{Network}
use Rattle.tree_network.specs.declared.spots.Spot.{Spot}
use Rattle.tree_network.specs.Spots.{spot_at, spots_of, AreSpots, ComesFrom}
use Rattle.tree_network.specs.Orders.{GoesTo}
use Rattle.tree_network.proofs.InRange.{in_range}
use Rattle.document_tables.specs.Grids.{PortOnGrid, LinkOnGrid, grid_link}
use Rattle.tree_bounds.specs.Bunches.{Arriving, IsRowOf}
use Rattle.tree_bounds.specs.Stairs.{first_stair_of, later_stair}
use Rattle.tree_bounds.specs.Equations.{comes_to}
use Rattle.tree_bounds.specs.Tables.{IsTableOf, items_of, row_in, bounds_in, time_after, time_before}
use Rattle.tree_bounds.specs.declared.analysis.Table.{Table}
use Rattle.tree_bounds.proofs.Done.{arriving_same}
use Rattle.bounds_command.proofs.Alike.{AreAlike, ports_count, port_same, link_same, queues_same, first_same, spots_same}
use Rattle.bounds_command.proofs.Alike.{arriving_same as alike_arriving}
use Rattle.bounds_command.proofs.OneQueue.{row_is_one}
use Rattle.bounds_command.proofs.Places.{past}

-- what comes to the spots of port s, and its rows
record IsSameAt (a : Network) (ta tb : Table) (la lb : ℕ → Option Stair) (s : ℕ) : Type 0 where
  stairs : (n : ℕ) → n < length (spots_of a) → (spot_at (spots_of a) n).port ≡ s → la n ≡ lb n
  rows : (q : ℕ) → q < queues_of (port_at a s).discipline → row_in ta s q ≡ row_in tb s q

module _ (a b : Network) (alike : AreAlike a b) (w : IsNetwork a) (ta tb : Table) (ia : IsTableOf a ta)
    (ib : IsTableOf b tb) where
  abbrev Same : ℕ → Type 0
  Same s = IsSameAt a ta tb ia.stair ib.stair s

  ranged : AreSpots a (spots_of a)
  ranged = in_range a w

  begins : (n : ℕ) → n < length (spots_of a) → (spot_at (spots_of a) n).source ≡ 0 → ia.stair n ≡ ib.stair n
  begins n h e =
      let link = (spot_at (spots_of a) n).link in
      let B : List Spot → Type 0 = λ spots. (n : ℕ) → n < length spots → (spot_at spots n).source ≡ 0
      → ib.stair n ≡ first_stair_of (slice_get b.links.items (spot_at spots n).link) in
      let other = subst B (sym (spots_same a b alike)) ib.equations.begins in
      ia.equations.begins n h e
      ∙ first_same (slice_get a.links.items link) (slice_get b.links.items link) (link_same a b alike link)
      ∙ sym (other n h e)

  came : (n p : ℕ) → n < length (spots_of a) → (spot_at (spots_of a) n).source ≡ suc p
      → ((spot_at (spots_of a) n).from < n) × ((spot_at (spots_of a) (spot_at (spots_of a) n).from).port ≡ p)
  came n p h e =
      let P : ℕ → Type 0 = λ k. ComesFrom (spots_of a) (spot_at (spots_of a) n) n k in
      let c = subst P e (ranged.each n h).comes in
      (c.0, c.1)

  goes_on : (n p : ℕ) → n < length (spots_of a) → (spot_at (spots_of a) n).source ≡ suc p → Same p
      → ia.stair n ≡ ib.stair n
  goes_on n p h e before =
      let m = (spot_at (spots_of a) n).from in
      let q = (spot_at (spots_of a) m).queue in
      let c = came n p h e in
      let early : m < length (spots_of a) = omega (arith, c.0, h) in
      let B : List Spot → Type 0 = λ spots. (n p : ℕ) → n < length spots → (spot_at spots n).source ≡ suc p
      → ib.stair n ≡ later_stair (ib.stair (spot_at spots n).from)
      (row_in tb p (spot_at spots (spot_at spots n).from).queue) in
      let other = subst B (sym (spots_same a b alike)) ib.equations.goes_on in
      let Q : ℕ → Type 0 = λ s. q < queues_of (port_at a s).discipline in
      let known = subst Q c.1 (ranged.each m early).queue in
      ia.equations.goes_on n p h e
      ∙ ap₂ (λ (stair : Option Stair) (row : Option Queue). later_stair stair row) (before.stairs m early c.1)
      (before.rows q known)
      ∙ sym (other n p h e)

  is_before : (n p i : ℕ) → n < length (spots_of a) → i < length a.ports.items → (spot_at (spots_of a) n).source ≡ suc p
      → (spot_at (spots_of a) n).port ≡ get_or ia.order i 0 → ((j : ℕ) → j < i → Same (get_or ia.order j 0)) → Same p
  is_before n p i h hi e at before =
      let small = (ranged.each n h).source in
      let st = ia.goes_forward.every p (omega (arith, small, e)) in
      let inside : st.0 < length a.ports.items = let k = st.1.inside in omega (arith, k, ia.goes_forward.count) in
      let goes : GoesTo (spots_of a) (get_or ia.order st.0 0) (get_or ia.order i 0) = record {
        spot = n;
        inside = h;
        from = e ∙ ap (λ s. suc s) (sym st.1.is);
        to = at;
      } in
      subst Same st.1.is (before st.0 (ia.goes_forward.forward st.0 i inside hi goes))

  one_more : (i : ℕ) → i < length a.ports.items → ((j : ℕ) → j < i → Same (get_or ia.order j 0))
      → Same (get_or ia.order i 0)
  one_more i hi before = record { stairs = stairs; rows = rows }
    where
      stairs : (n : ℕ) → n < length (spots_of a) → (spot_at (spots_of a) n).port ≡ get_or ia.order i 0
          → ia.stair n ≡ ib.stair n
      stairs n h at = by_source (spot_at (spots_of a) n).source refl
        where
          by_source : (k : ℕ) → (spot_at (spots_of a) n).source ≡ k → ia.stair n ≡ ib.stair n
          by_source zero e = begins n h e
          by_source (suc p) e = goes_on n p h e (is_before n p i h hi e at before)

      rows : (q : ℕ) → q < queues_of (port_at a (get_or ia.order i 0)).discipline
          → row_in ta (get_or ia.order i 0) q ≡ row_in tb (get_or ia.order i 0) q
      rows q hq =
          let small = ia.goes_forward.small i hi in
          let known : get_or ia.order i 0 < length b.ports.items = let e = ports_count a b alike in
          omega (arith, small, e) in
          let view = port_same a b alike (get_or ia.order i 0) in
          let queue : q < queues_of (port_at b (get_or ia.order i 0)).discipline =
          let e = queues_same (port_at a (get_or ia.order i 0)) (port_at b (get_or ia.order i 0)) view in
          omega (arith, hq, e) in
          let same : comes_to a ia.stair (get_or ia.order i 0) ≡ comes_to b ib.stair (get_or ia.order i 0) =
          arriving_same a (spots_of a) ia.stair ib.stair (get_or ia.order i 0) stairs
          (queues_of (port_at a (get_or ia.order i 0)).discipline)
          ∙ alike_arriving a b alike ib.stair (get_or ia.order i 0) in
          let R : List Arriving → Type 0 =
          λ xs. IsRowOf (port_at a (get_or ia.order i 0)) xs q (row_in ta (get_or ia.order i 0) q) in
          row_is_one (port_at a (get_or ia.order i 0)) (port_at b (get_or ia.order i 0)) view
          (comes_to b ib.stair (get_or ia.order i 0)) q (row_in ta (get_or ia.order i 0) q)
          (row_in tb (get_or ia.order i 0) q)
          (subst R same (ia.equations.rows (get_or ia.order i 0) q small hq))
          (ib.equations.rows (get_or ia.order i 0) q known queue)

  in_turn : (k : ℕ) → k ≤ length a.ports.items → (i : ℕ) → i < k → Same (get_or ia.order i 0)
  in_turn zero h i lt = absurd (omega (arith, lt))
  in_turn (suc k) h i lt =
      elim (cases_eq i k) [
        | inl last ↦
            let S : ℕ → Type 0 = λ j. Same (get_or ia.order j 0) in
            subst S (sym last) (one_more k (omega (arith, h)) (in_turn k (omega (arith, h))))
        | inr other ↦ in_turn k (omega (arith, h)) i (omega (arith, lt, other))
      ]

  rows_in_range : (s q : ℕ) → s < length a.ports.items → q < queues_of (port_at a s).discipline
      → row_in ta s q ≡ row_in tb s q
  rows_in_range s q h hq =
      let st = ia.goes_forward.every s h in
      let inside : st.0 < length a.ports.items = let k = st.1.inside in omega (arith, k, ia.goes_forward.count) in
      (subst Same st.1.is (in_turn (length a.ports.items) (omega arith) st.0 inside)).rows q hq

  -- beyond the last there is none in both
  no_port_there : (net : Network) (t : Table) (s q : ℕ) → IsTableOf net t → length net.ports.items ≤ s
      → row_in t s q ≡ None
  no_port_there net t s q is h =
      let long = length-map t.rows.items (λ v. v.items) in
      ap (λ (row : List (Option Queue)). get_or row q None)
      (get_or_past (items_of t.rows.items) s [] (omega (arith, long, h, is.ports)))

  no_queue_there : (net : Network) (t : Table) (s q : ℕ) → IsTableOf net t → s < length net.ports.items
      → queues_of (port_at net s).discipline ≤ q → row_in t s q ≡ None
  no_queue_there net t s q is h hq =
      let count = is.queues s h in
      get_or_past (get_or (items_of t.rows.items) s []) q None (omega (arith, count, hq))

  pub rows_are_one : (s q : ℕ) → row_in ta s q ≡ row_in tb s q
  rows_are_one s q =
      elim (cases_lt s (length a.ports.items)) [
        | inl h ↦ inside h (cases_lt q (queues_of (port_at a s).discipline))
        | inr h ↦
            let e = ports_count a b alike in
            no_port_there a ta s q ia h ∙ sym (no_port_there b tb s q ib (omega (arith, h, e)))
      ]
    where
      inside : s < length a.ports.items → (q < queues_of (port_at a s).discipline) ⊎
          (queues_of (port_at a s).discipline ≤ q)
          → row_in ta s q ≡ row_in tb s q
      inside h (inl hq) = rows_in_range s q h hq
      inside h (inr hq) =
          let e = ports_count a b alike in
          let f = queues_same (port_at a s) (port_at b s) (port_same a b alike s) in
          no_queue_there a ta s q ia h hq
          ∙ sym (no_queue_there b tb s q ib (omega (arith, h, e)) (omega (arith, hq, f)))

  -- ---- bounds
  bound_at : (i : ℕ) (l m : Link) → slice_get a.links.items i ≡ Some l → slice_get b.links.items i ≡ Some m
      → grid_link l ≡ grid_link m
      → IsLink a l → (n place : ℕ) → place < n → place < length l.nodes.items
      → get_or (bounds_in ta i) place None ≡ get_or (bounds_in tb i) place None
  bound_at i l m el em same is zero place h k = absurd (omega (arith, h))
  bound_at i l m el em same is (suc n) place h k =
      let nodes : l.nodes.items ≡ m.nodes.items = ap (λ (v : LinkOnGrid). v.nodes) same in
      let long : length l.nodes.items ≡ length m.nodes.items = ap length nodes in
      let node : node_at l place ≡ node_at m place = ap (λ (ns : List Node). get_or ns place no_node) nodes in
      let after : Node → Option ℕ → Option ℕ = λ (x : Node) (t : Option ℕ).
      time_after t (row_in tb x.port x.queue) (port_at b x.port).link in
      let s = (node_at l place).port in
      let q = (node_at l place).queue in
      (ia.bounds i l el).each place k
      ∙ ap (λ (t : Option ℕ). time_after t (row_in ta s q) (port_at a s).link) (before
      (λ q lt e. bound_at i l m el em same is n q (omega (arith, lt, h)) (omega (arith, e, k))) (node_at l place).from
      (is.nodes place k).hangs)
      ∙ ap (λ (r : Option Queue). time_after (time_before (bounds_in tb i) (node_at l place).from) r
      (port_at a s).link) (rows_are_one s q)
      ∙ ap (λ (v : PortOnGrid). time_after (time_before (bounds_in tb i) (node_at l place).from) (row_in tb s q)
      v.link) (port_same a b alike s)
      ∙ ap (λ (x : Node). after x (time_before (bounds_in tb i) x.from)) node
      ∙ sym ((ib.bounds i m em).each place (omega (arith, k, long)))
    where
      before : ((q : ℕ) → q < place → q < length l.nodes.items
          → get_or (bounds_in ta i) q None ≡ get_or (bounds_in tb i) q None)
          → (from : Option ℕ) → HangsBefore place from
          → time_before (bounds_in ta i) from ≡ time_before (bounds_in tb i) from
      before earlier None e = refl
      before earlier (Some p) e = earlier p e (omega (arith, e, k))

  pub bounds_are_one : (i place : ℕ) → get_or (bounds_in ta i) place None ≡ get_or (bounds_in tb i) place None
  bounds_are_one i place =
      by_links (slice_get a.links.items i) (slice_get b.links.items i) refl refl (link_same a b alike i)
    where
      none : (net : Network) (t : Table) → IsTableOf net t → slice_get net.links.items i ≡ None
          → get_or (bounds_in t i) place None ≡ None
      none net t is e =
          let long = length-map t.bounds.items (λ v. v.items) in
          let out = past net.links.items i e in
          ap (λ (xs : List (Option ℕ)). get_or xs place None)
          (get_or_past (items_of t.bounds.items) i [] (omega (arith, long, out, is.links)))

      by_place : (l m : Link) → slice_get a.links.items i ≡ Some l → slice_get b.links.items i ≡ Some m
          → grid_link l ≡ grid_link m
          → (place < length l.nodes.items) ⊎ (length l.nodes.items ≤ place)
          → get_or (bounds_in ta i) place None ≡ get_or (bounds_in tb i) place None
      by_place l m el em same (inl h) =
          let L : Link → Type 0 = λ x. IsLink a x in
          let is = subst L (get_or_from_slice_get a.links.items i l l el)
          (w.links i l (slice_get_within a.links.items i l el)) in
          bound_at i l m el em same is (place + 1) place (omega arith) h
      by_place l m el em same (inr h) =
          let long : length l.nodes.items ≡ length m.nodes.items = ap (λ (v : LinkOnGrid). length v.nodes) same in
          let ca = (ia.bounds i l el).count in
          let cb = (ib.bounds i m em).count in
          get_or_past (bounds_in ta i) place None (omega (arith, ca, h))
          ∙ sym (get_or_past (bounds_in tb i) place None (omega (arith, cb, h, long)))

      by_links : (o p : Option Link) → slice_get a.links.items i ≡ o → slice_get b.links.items i ≡ p
          → option_map grid_link (slice_get a.links.items i) ≡ option_map grid_link (slice_get b.links.items i)
          → get_or (bounds_in ta i) place None ≡ get_or (bounds_in tb i) place None
      by_links None None eo ep same = none a ta ia eo ∙ sym (none b tb ib ep)
      by_links None (Some m) eo ep same =
          let e : None ≡ Some (grid_link m) = ap (option_map grid_link) (sym eo) ∙ same
          ∙ ap (option_map grid_link) ep in
          absurd (cc)
      by_links (Some l) None eo ep same =
          let e : Some (grid_link l) ≡ None = ap (option_map grid_link) (sym eo) ∙ same
          ∙ ap (option_map grid_link) ep in
          absurd (cc)
      by_links (Some l) (Some m) eo ep same =
          let e : Some (grid_link l) ≡ Some (grid_link m) =
          ap (option_map grid_link) (sym eo) ∙ same ∙ ap (option_map grid_link) ep in
          let f : grid_link l ≡ grid_link m = cc in
          by_place l m eo ep f (cases_lt place (length l.nodes.items))
