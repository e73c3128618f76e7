-- What a cell at a server is made of stands at that server too, but for what leaves the hop before.
use Rattle.std.proofs.Common.{◌≡◌, ◌≢◌, ◌⊎◌, ℕ, zero, suc, ◌==◌, List, Bool, true, false, map, refl, sym, ap, ◌∙◌, subst, inl, inr}
use Rattle.std.specs.Prelude.{not}
use Rattle.std.specs.List.{range_with_len}
use Rattle.net_model.specs.Networks.{Net}
use Rattle.net_cells.specs.declared.cell.Cell.{Cell}
use Rattle.net_cells.specs.declared.cell.Kind.{Kind}
use Rattle.net_cells.specs.declared.cell.Kind.TheVariants.{In, Cross, Total, Higher, QueueService, Theta, Residual, QueueDelay, QueueBacklog, HopDelay, ShiftOut, DeconvOut, Out, PathService, Tfa, Sfa, Bound}
use Rattle.net_cells.specs.declared.cell.Scope.TheVariants.{EachPath}
use Rattle.net_cells.specs.Numbered.{server_of_hop, queue_of_hop, service, discipline}
use Rattle.net_cells.specs.declared.visit.Visit.{Visit}
use Rattle.net_cells.specs.Visits.{visits, visits_in, others}
use Rattle.net_cells.specs.QueueParts.{part_of, in_part, part_numbers, by_parts}
use Rattle.net_cells.specs.Cells.{cell_of, scope_of}
use Rattle.net_cells.specs.Order.{at_visit}
use Rattle.net_cells.specs.Formulas.{leaves}
use Rattle.net_cells.specs.CellFormulas.{formula_of, formula, total}
use Rattle.net_cells.proofs.Lists.{Has, map_has, flat_has, filter_has}
use Rattle.net_cells.proofs.Places.{home, visit_has}
use Rattle.net_cells.proofs.LeavesOf.{parts_leaves}
use Rattle.net_cells.proofs.LeftOf.{leaf_is}
use Rattle.net_cells.proofs.Precedes.{leaf_of_sum}

-- it is what leaves the hop before, and the other one is what arrives
pub record IsFromBefore (c d : Cell) : Type 0 where
  pub flow : ℕ
  pub hop : ℕ
  pub arrives : c ≡ cell_of In flow (suc hop)
  pub leaves_it : d ≡ cell_of Out flow hop

-- what a queue's sum is made of comes with a hop there
of_total : (net : Net) (s q : ℕ) (by_links : Bool) (d : Cell) → Has (leaves (total by_links net s q)) d
    → (v : Visit) × Has (visits_in net s q) v × (at_visit In v ≡ d)
of_total net s q false d h =
    map_has (at_visit In) (visits_in net s q) d (leaf_of_sum (map (at_visit In) (visits_in net s q)) d h)
of_total net s q true d h =
    let listed = subst (λ (xs : List Cell). Has xs d) (parts_leaves net s q (part_numbers net)) h in
    let found = map_has (at_visit In) (by_parts net s q (part_numbers net)) d listed in
    let part = flat_has (in_part net s q) (part_numbers net) found.0 found.1 in
    (found.0, (filter_has (λ (v : Visit). part_of net v == part.0) (visits_in net s q) found.0 part.2).0, found.2)

module _ (net : Net) (d : Cell) where
  -- at the server of a cell of a kind
  abbrev IsNear : Kind → ℕ → ℕ → Type 0
  IsNear kind a b = (home net d ≡ home net (cell_of kind a b)) ⊎ IsFromBefore (cell_of kind a b) d

  -- a cell that is known to stand there
  same : (kind : Kind) (a b : ℕ) (x : Cell) → home net x ≡ home net (cell_of kind a b) → x ≡ d → IsNear kind a b
  same kind a b x at e = inl (ap (home net) (sym e) ∙ at)

  -- what comes with a hop of a queue
  of_visit : (s q : ℕ) (v : Visit) → Has (visits_in net s q) v → server_of_hop net v.flow v.hop ≡ s
  of_visit s q v h =
      (visit_has net s v
      (filter_has (λ (u : Visit). queue_of_hop net u.flow u.hop == q) (visits net s) v h).0).1

  service_near : (s q : ℕ) → Has (leaves (formula_of net QueueService s q)) d → IsNear QueueService s q
  service_near s q h = same QueueService s q (cell_of Higher s q) refl (leaf_is net s q (service net s) (discipline net s) d h)

  near : (kind : Kind) (a b : ℕ) → scope_of kind ≢ EachPath → Has (leaves (formula_of net kind a b)) d → IsNear kind a b
  near In i zero n h = absurd h
  near In i (suc k) n (inl e) = inr (record { flow = i; hop = k; arrives = refl; leaves_it = sym e })
  near In i (suc k) n (inr h) = absurd h
  near Cross i k n h =
      let s = server_of_hop net i k in
      let q = queue_of_hop net i k in
      let found = map_has (at_visit In) (others net i s q) d (leaf_of_sum (map (at_visit In) (others net i s q)) d h) in
      let other = filter_has (λ (v : Visit). not (v.flow == i)) (visits_in net s q) found.0 found.1 in
      same Cross i k (at_visit In found.0) (of_visit s q found.0 other.0) found.2
  near Total s q n h =
      let found = of_total net s q (net.version == 2) d h in
      same Total s q (at_visit In found.0) (of_visit s q found.0 found.1) found.2
  near Higher s q n h =
      let found = map_has (cell_of Total s) (range_with_len 0 q) d (leaf_of_sum (map (cell_of Total s) (range_with_len 0 q)) d h) in
      same Higher s q (cell_of Total s found.0) refl found.2
  near QueueService s q n h = service_near s q h
  near Theta i k n (inl e) = same Theta i k (cell_of Cross i k) refl e
  near Theta i k n (inr (inl e)) =
      same Theta i k (cell_of QueueService (server_of_hop net i k) (queue_of_hop net i k)) refl e
  near Theta i k n (inr (inr h)) = absurd h
  near Residual i k n (inl e) =
      same Residual i k (cell_of QueueService (server_of_hop net i k) (queue_of_hop net i k)) refl e
  near Residual i k n (inr (inl e)) = same Residual i k (cell_of Cross i k) refl e
  near Residual i k n (inr (inr (inl e))) = same Residual i k (cell_of Theta i k) refl e
  near Residual i k n (inr (inr (inr h))) = absurd h
  near QueueDelay s q n (inl e) = same QueueDelay s q (cell_of Total s q) refl e
  near QueueDelay s q n (inr (inl e)) = same QueueDelay s q (cell_of QueueService s q) refl e
  near QueueDelay s q n (inr (inr h)) = absurd h
  near QueueBacklog s q n (inl e) = same QueueBacklog s q (cell_of Total s q) refl e
  near QueueBacklog s q n (inr (inl e)) = same QueueBacklog s q (cell_of QueueService s q) refl e
  near QueueBacklog s q n (inr (inr h)) = absurd h
  near HopDelay i k n (inl e) =
      same HopDelay i k (cell_of QueueDelay (server_of_hop net i k) (queue_of_hop net i k)) refl e
  near HopDelay i k n (inr (inl e)) = same HopDelay i k (cell_of In i k) refl e
  near HopDelay i k n (inr (inr (inl e))) = same HopDelay i k (cell_of Residual i k) refl e
  near HopDelay i k n (inr (inr (inr h))) = absurd h
  near ShiftOut i k n (inl e) = same ShiftOut i k (cell_of In i k) refl e
  near ShiftOut i k n (inr (inl e)) = same ShiftOut i k (cell_of HopDelay i k) refl e
  near ShiftOut i k n (inr (inr h)) = absurd h
  near DeconvOut i k n (inl e) = same DeconvOut i k (cell_of In i k) refl e
  near DeconvOut i k n (inr (inl e)) = same DeconvOut i k (cell_of Residual i k) refl e
  near DeconvOut i k n (inr (inr h)) = absurd h
  near Out i k n (inl e) = same Out i k (cell_of ShiftOut i k) refl e
  near Out i k n (inr (inl e)) = same Out i k (cell_of DeconvOut i k) refl e
  near Out i k n (inr (inr h)) = absurd h
  near PathService i b n h = absurd (n refl)
  near Tfa i b n h = absurd (n refl)
  near Sfa i b n h = absurd (n refl)
  near Bound i b n h = absurd (n refl)

pub leaf_near : (net : Net) (c d : Cell) → scope_of c.kind ≢ EachPath → Has (leaves (formula net c)) d
    → (home net d ≡ home net c) ⊎ IsFromBefore c d
leaf_near net c d n h = near net d c.kind c.a c.b n h
