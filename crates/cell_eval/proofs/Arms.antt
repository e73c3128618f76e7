-- What each kind of cell needs of the cells that it is made of, and how its operators are counted.
use Rattle.std.proofs.Common.{◌≡◌, ℕ, suc, ◌<◌, ◌≤◌, ◌+◌, ◌-◌, List, [], ◌∷◌, length, map, refl, sym, ap, ◌∙◌, subst, arith, inl, inr, Bool, true, false}
use Rattle.std.specs.Prelude.{Option, None, Some, Ok, Err, Result, IfOk, ◌==◌}
use Rattle.std.specs.List.{range_with_len}
use Rattle.std.proofs.lemmas.Bool.{ltb-true, and_parts}
use Rattle.rational.specs.Extended.{Ext}
use Rattle.upp_limits.specs.declared.op_kind.OpFault.{OpFault}
use Rattle.upp_limits.specs.declared.op_kind.OpFault.TheVariants.{NoMemory}
use Rattle.upp_curve.specs.Curve.{SpecCurve, value_at}
use Rattle.min_plus.specs.Deviations.{IsHorizontalDeviation}
use Rattle.residuals.specs.left.Left.{Left, all, above, share, EachBefore}
use Rattle.net_model.specs.Networks.{Net}
use Rattle.net_cells.specs.declared.cell.Cell.{Cell}
use Rattle.net_cells.specs.declared.cell.Kind.TheVariants.{In, Cross, Total, Higher, QueueService, Theta, Residual, QueueDelay, QueueBacklog, HopDelay, ShiftOut, DeconvOut, Out, PathService, Tfa, Sfa, Bound}
use Rattle.net_cells.specs.Numbered.{hops, server_of_hop, queue_of_hop, queues, service, discipline, is_live}
use Rattle.net_cells.specs.declared.visit.Visit.{Visit}
use Rattle.net_cells.specs.Visits.{visit, visits_in, others, is_at}
use Rattle.net_cells.specs.QueueParts.{in_part, part_numbers, by_parts}
use Rattle.net_cells.specs.Order.{at_visit}
use Rattle.net_cells.specs.Cells.{cell_of}
use Rattle.net_cells.specs.Left.{left_of}
use Rattle.net_cells.specs.Meanings.{CellTable}
use Rattle.net_cells.specs.Formulas.{leaves}
use Rattle.net_cells.specs.CellFormulas.{left_formula, total}
use Rattle.net_cells.specs.Answers.{Answer, Answers}
use Rattle.net_cells.specs.Work.{total_work}
use Rattle.net_cells.specs.Refusals.{Stops}
use Rattle.net_cells.proofs.LeavesOf.{parts_leaves}
use Rattle.net_cells.proofs.LeftOf.{before_is}
use Rattle.net_cells.proofs.Lists.{map_has, filter_has, has_range, range_has}
use Rattle.net_cells.proofs.Places.{flow_inside}
use Rattle.net_cells.proofs.Precedes.{some_hop}
use Rattle.cell_numbers.specs.declared.found.Pick.{Pick}
use Rattle.net_cells.specs.cell_table.Gives.{Gives}
use Rattle.cell_numbers.specs.declared.found.Pick.TheVariants.{InQueue, InPart}
use Rattle.cell_eval.specs.declared.curve_sums.Partial.{Partial}
use Rattle.cell_numbers.specs.Chosen.{flow_visits, visit_list, picks, is_other, picked, chosen, all_chosen}
use Rattle.cell_eval.specs.Partial.{Adds}
use Rattle.cell_eval.specs.Evaluates.{MayBeMade, Evaluates}
use Rattle.outcomes.specs.Spending.{Counts}
use Rattle.cell_numbers.specs.Shapes.{Rises, Serving, Grows}
use Rattle.cell_numbers.specs.TableValues.{HasCurve, HasNumber, IsCurveAt, IsNumberAt, Deviate}
use Rattle.cell_eval.proofs.Rises.{grows_served}
use Rattle.cell_eval.proofs.Meeting.{InList, meets_below, operand, curve_map, number_map, curve_from, number_from, sum_leaf, served_leaf}
use Rattle.cell_numbers.proofs.Choosing.{queue_visits, other_visits, part_visits}
use Rattle.cell_eval.proofs.Shapes.{in_rises, cross_rises, total_rises, higher_rises, queue_served, hop_served, residual_grows, path_grows, queue_delay_ahead, hop_delay_ahead}
use Rattle.run_laws.proofs.Members.{Has, has_map, has_flat}
use Rattle.min_plus.specs.Functions.{IsNonneg}

-- ---- what stands in the table
some_curve : (at : CellTable) (c : Cell) (Q : SpecCurve → Type 0) → HasCurve at c Q → IsCurveAt at c
some_curve at c Q h = curve_map at c Q (λ f. Unit {0}) h (λ f q. tt)

some_number : (at : CellTable) (c : Cell) (Q : Ext → Type 0) → HasNumber at c Q → IsNumberAt at c
some_number at c Q h = number_map at c Q (λ x. Unit {0}) h (λ x q. tt)

serves : (at : CellTable) (c : Cell) → HasCurve at c Grows → HasCurve at c Serving
serves at c h = curve_map at c Grows Serving h (λ f g. grows_served (value_at f) g)

module _ (net : Net) (at : CellTable) (i k : ℕ) where
  pub theta_cross : MayBeMade net at (cell_of Theta i k) → HasCurve at (cell_of Cross i k) Rises
  theta_cross m =
      cross_rises net at (InList m.below.cells) (meets_below net at (cell_of Theta i k) m.below) m.accepted i k
      (operand net at (cell_of Theta i k) (cell_of Cross i k) m.below (inl refl))

  pub theta_service : MayBeMade net at (cell_of Theta i k) → HasCurve at (cell_of QueueService (server_of_hop net i k) (queue_of_hop net i k)) Serving
  theta_service m =
      hop_served net at (InList m.below.cells) (meets_below net at (cell_of Theta i k) m.below) m.accepted i k (ltb-true k (hops net i) m.exists)
      (operand net at (cell_of Theta i k) (cell_of QueueService (server_of_hop net i k) (queue_of_hop net i k)) m.below (inr (inl refl)))

  pub residual_service : MayBeMade net at (cell_of Residual i k) → HasCurve at (cell_of QueueService (server_of_hop net i k) (queue_of_hop net i k)) Serving
  residual_service m =
      hop_served net at (InList m.below.cells) (meets_below net at (cell_of Residual i k) m.below) m.accepted i k (ltb-true k (hops net i) m.exists)
      (operand net at (cell_of Residual i k) (cell_of QueueService (server_of_hop net i k) (queue_of_hop net i k)) m.below (inl refl))

  pub residual_cross : MayBeMade net at (cell_of Residual i k) → IsCurveAt at (cell_of Cross i k)
  residual_cross m =
      some_curve at (cell_of Cross i k) Rises
      (cross_rises net at (InList m.below.cells) (meets_below net at (cell_of Residual i k) m.below) m.accepted i k
      (operand net at (cell_of Residual i k) (cell_of Cross i k) m.below (inr (inl refl))))

  pub residual_theta : MayBeMade net at (cell_of Residual i k)
      → Deviate at (cell_of Cross i k) (cell_of QueueService (server_of_hop net i k) (queue_of_hop net i k)) (cell_of Theta i k)
  residual_theta m =
      let e = m.below.meet (cell_of Theta i k) (operand net at (cell_of Residual i k) (cell_of Theta i k) m.below (inr (inr (inl refl)))) in
      let f = e.means.operand in
      let g = e.means.gives.operand in
      let x = number_from (IsHorizontalDeviation (value_at f) (value_at g)) e.value e.means.gives.gives in
      record {
        value = f;
        is = e.means.is;
        holds = record { value = g; is = e.means.gives.is; holds = record { value = x.0; is = e.is ∙ ap Some x.1; holds = x.2 } };
      }

  pub hop_comes : MayBeMade net at (cell_of HopDelay i k) → HasCurve at (cell_of In i k) Rises
  hop_comes m =
      in_rises net at (InList m.below.cells) (meets_below net at (cell_of HopDelay i k) m.below) m.accepted k i
      (operand net at (cell_of HopDelay i k) (cell_of In i k) m.below (inr (inl refl)))

  pub hop_served_by : MayBeMade net at (cell_of HopDelay i k) → HasCurve at (cell_of Residual i k) Serving
  hop_served_by m =
      serves at (cell_of Residual i k)
      (residual_grows net at (InList m.below.cells) (meets_below net at (cell_of HopDelay i k) m.below) m.accepted i k (ltb-true k (hops net i) m.exists)
      (operand net at (cell_of HopDelay i k) (cell_of Residual i k) m.below (inr (inr (inl refl)))))

  pub hop_queue : MayBeMade net at (cell_of HopDelay i k) → IsNumberAt at (cell_of QueueDelay (server_of_hop net i k) (queue_of_hop net i k))
  hop_queue m =
      some_number at (cell_of QueueDelay (server_of_hop net i k) (queue_of_hop net i k)) IsNonneg
      (queue_delay_ahead net at (InList m.below.cells) (meets_below net at (cell_of HopDelay i k) m.below) (server_of_hop net i k) (queue_of_hop net i k)
      (operand net at (cell_of HopDelay i k) (cell_of QueueDelay (server_of_hop net i k) (queue_of_hop net i k)) m.below (inl refl)))

  pub shift_comes : MayBeMade net at (cell_of ShiftOut i k) → IsCurveAt at (cell_of In i k)
  shift_comes m =
      some_curve at (cell_of In i k) Rises
      (in_rises net at (InList m.below.cells) (meets_below net at (cell_of ShiftOut i k) m.below) m.accepted k i
      (operand net at (cell_of ShiftOut i k) (cell_of In i k) m.below (inl refl)))

  pub shift_by : MayBeMade net at (cell_of ShiftOut i k) → HasNumber at (cell_of HopDelay i k) IsNonneg
  shift_by m =
      hop_delay_ahead net at (InList m.below.cells) (meets_below net at (cell_of ShiftOut i k) m.below) i k
      (operand net at (cell_of ShiftOut i k) (cell_of HopDelay i k) m.below (inr (inl refl)))

  pub deconv_comes : MayBeMade net at (cell_of DeconvOut i k) → IsCurveAt at (cell_of In i k)
  deconv_comes m =
      some_curve at (cell_of In i k) Rises
      (in_rises net at (InList m.below.cells) (meets_below net at (cell_of DeconvOut i k) m.below) m.accepted k i
      (operand net at (cell_of DeconvOut i k) (cell_of In i k) m.below (inl refl)))

  pub deconv_served_by : MayBeMade net at (cell_of DeconvOut i k) → HasCurve at (cell_of Residual i k) Serving
  deconv_served_by m =
      let on_path = ltb-true (k + 1) (hops net i) m.exists in
      serves at (cell_of Residual i k)
      (residual_grows net at (InList m.below.cells) (meets_below net at (cell_of DeconvOut i k) m.below) m.accepted i k (omega (arith, on_path))
      (operand net at (cell_of DeconvOut i k) (cell_of Residual i k) m.below (inr (inl refl))))

module _ (net : Net) (at : CellTable) (s q : ℕ) where
  pub delay_comes : MayBeMade net at (cell_of QueueDelay s q) → HasCurve at (cell_of Total s q) Rises
  delay_comes m =
      total_rises net at (InList m.below.cells) (meets_below net at (cell_of QueueDelay s q) m.below) m.accepted s q
      (operand net at (cell_of QueueDelay s q) (cell_of Total s q) m.below (inl refl))

  pub delay_served_by : MayBeMade net at (cell_of QueueDelay s q) → HasCurve at (cell_of QueueService s q) Serving
  delay_served_by m =
      queue_served net at (InList m.below.cells) (meets_below net at (cell_of QueueDelay s q) m.below) m.accepted s q (ltb-true q (queues net s) m.exists)
      (operand net at (cell_of QueueDelay s q) (cell_of QueueService s q) m.below (inr (inl refl)))

  pub backlog_comes : MayBeMade net at (cell_of QueueBacklog s q) → IsCurveAt at (cell_of Total s q)
  backlog_comes m =
      some_curve at (cell_of Total s q) Rises
      (total_rises net at (InList m.below.cells) (meets_below net at (cell_of QueueBacklog s q) m.below) m.accepted s q
      (operand net at (cell_of QueueBacklog s q) (cell_of Total s q) m.below (inl refl)))

  pub backlog_served_by : MayBeMade net at (cell_of QueueBacklog s q) → HasCurve at (cell_of QueueService s q) Serving
  backlog_served_by m =
      queue_served net at (InList m.below.cells) (meets_below net at (cell_of QueueBacklog s q) m.below) m.accepted s q (ltb-true q (queues net s) m.exists)
      (operand net at (cell_of QueueBacklog s q) (cell_of QueueService s q) m.below (inr (inl refl)))

-- ---- whole paths
module _ (net : Net) (at : CellTable) (i : ℕ) where
  pub path_some : MayBeMade net at (cell_of PathService i 0) → 0 < hops net i
  path_some m = some_hop net i m.accepted (and_parts (is_live net i) true m.exists).0

  pub path_serves : MayBeMade net at (cell_of PathService i 0) → (j : ℕ) → j < hops net i → HasCurve at (cell_of Residual i j) Serving
  path_serves m j h =
      serves at (cell_of Residual i j)
      (residual_grows net at (InList m.below.cells) (meets_below net at (cell_of PathService i 0) m.below) m.accepted i j h
      (operand net at (cell_of PathService i 0) (cell_of Residual i j) m.below (served_leaf net i (hops net i - 1) j (omega (arith, h)))))

  pub sfa_comes : MayBeMade net at (cell_of Sfa i 0) → HasCurve at (cell_of In i 0) Rises
  sfa_comes m =
      in_rises net at (InList m.below.cells) (meets_below net at (cell_of Sfa i 0) m.below) m.accepted 0 i
      (operand net at (cell_of Sfa i 0) (cell_of In i 0) m.below (inl refl))

  pub sfa_served_by : MayBeMade net at (cell_of Sfa i 0) → HasCurve at (cell_of PathService i 0) Serving
  sfa_served_by m =
      serves at (cell_of PathService i 0)
      (path_grows net at (InList m.below.cells) (meets_below net at (cell_of Sfa i 0) m.below) m.accepted i 0
      (some_hop net i m.accepted (and_parts (is_live net i) true m.exists).0)
      (operand net at (cell_of Sfa i 0) (cell_of PathService i 0) m.below (inr (inl refl))))

  pub tfa_delays : MayBeMade net at (cell_of Tfa i 0) → (k : ℕ) → k < hops net i → IsNumberAt at (cell_of HopDelay i k)
  tfa_delays m k h =
      some_number at (cell_of HopDelay i k) IsNonneg
      (hop_delay_ahead net at (InList m.below.cells) (meets_below net at (cell_of Tfa i 0) m.below) i k
      (operand net at (cell_of Tfa i 0) (cell_of HopDelay i k) m.below
      (has_map (cell_of HopDelay i) (range_with_len 0 (hops net i)) k (has_range 0 (hops net i) k (omega arith) (omega (arith, h))))))

  pub bound_tfa : MayBeMade net at (cell_of Bound i 0) → IsNumberAt at (cell_of Tfa i 0)
  bound_tfa m =
      let e = m.below.meet (cell_of Tfa i 0) (operand net at (cell_of Bound i 0) (cell_of Tfa i 0) m.below (inl refl)) in
      record { value = _; is = e.is ∙ ap Some e.means.gives; holds = tt }

  pub bound_sfa : MayBeMade net at (cell_of Bound i 0) → IsNumberAt at (cell_of Sfa i 0)
  bound_sfa m =
      let e = m.below.meet (cell_of Sfa i 0) (operand net at (cell_of Bound i 0) (cell_of Sfa i 0) m.below (inr (inl refl))) in
      record { value = _; is = e.is ∙ ap Some e.means.gives; holds = tt }

-- ---- what leaves a hop
module _ (net : Net) (at : CellTable) (i k : ℕ) where
  pub out_shifted : MayBeMade net at (cell_of Out i k) → IsCurveAt at (cell_of ShiftOut i k)
  out_shifted m =
      let e = m.below.meet (cell_of ShiftOut i k) (operand net at (cell_of Out i k) (cell_of ShiftOut i k) m.below (inl refl)) in
      let h = curve_from _ e.value e.means.gives.gives in
      record { value = h.0; is = e.is ∙ ap Some h.1; holds = tt }

  pub out_spread : MayBeMade net at (cell_of Out i k) → IsCurveAt at (cell_of DeconvOut i k)
  out_spread m =
      let e = m.below.meet (cell_of DeconvOut i k) (operand net at (cell_of Out i k) (cell_of DeconvOut i k) m.below (inr (inl refl))) in
      let h = curve_from _ e.value e.means.gives.gives in
      record { value = h.0; is = e.is ∙ ap Some h.1; holds = tt }

  -- the curve with which a flow comes past its first hop
  pub in_before : MayBeMade net at (cell_of In i (suc k)) → IsCurveAt at (cell_of Out i k)
  in_before m =
      let e = m.below.meet (cell_of Out i k) (operand net at (cell_of In i (suc k)) (cell_of Out i k) m.below (inl refl)) in
      let h = curve_from _ e.value e.means.gives.gives in
      record { value = h.0; is = e.is ∙ ap Some h.1; holds = tt }

-- ---- sums
is_there : {X : Type 0} (xs : List X) (x : X) → xs ≡ x ∷ [] → Has xs x
is_there xs x e = subst (λ (ys : List _). Has ys x) (sym e) (inl refl)

-- a hop that is chosen is one of those of all flows
chosen_there : (net : Net) (s : ℕ) (pick : Pick) (except : Option ℕ) (j k : ℕ) → chosen net s pick except j ≡ visit_list j (Some k)
    → Has (all_chosen net s pick except (length net.flows)) (visit j k)
chosen_there net s pick except j k e =
    let there = is_there (chosen net s pick except j) (visit j k) e in
    let one = filter_has (is_other except) (picked net s pick j) (visit j k) there in
    let two = filter_has (picks net pick) (flow_visits net s j) (visit j k) one.0 in
    let three = filter_has (is_at net s) (map (visit j) (range_with_len 0 (hops net j))) (visit j k) two.0 in
    let four = map_has (visit j) (range_with_len 0 (hops net j)) (visit j k) three.0 in
    let hop : four.0 ≡ k = ap (λ (v : Visit). v.hop) four.2 in
    let below = range_has 0 (hops net j) four.0 four.1 in
    let inside = flow_inside net j k (omega (arith, hop, below.1)) in
    has_flat (chosen net s pick except) (range_with_len 0 (length net.flows)) j (visit j k)
    (has_range 0 (length net.flows) j (omega arith) (omega (arith, inside))) there

pub cross_ready : (net : Net) (at : CellTable) (i h : ℕ) → MayBeMade net at (cell_of Cross i h) → (j k : ℕ)
    → chosen net (server_of_hop net i h) (InQueue (queue_of_hop net i h)) (Some i) j ≡ visit_list j (Some k) → IsCurveAt at (cell_of In j k)
cross_ready net at i h m j k e =
    let s = server_of_hop net i h in
    let q = queue_of_hop net i h in
    let cells = map (at_visit In) (others net i s q) in
    let there = subst (λ (vs : List Visit). Has vs (visit j k)) (sym (other_visits net i s q)) (chosen_there net s (InQueue q) (Some i) j k e) in
    some_curve at (cell_of In j k) Rises
    (in_rises net at (InList m.below.cells) (meets_below net at (cell_of Cross i h) m.below) m.accepted k j
    (operand net at (cell_of Cross i h) (cell_of In j k) m.below (sum_leaf cells (cell_of In j k) (has_map (at_visit In) (others net i s q) (visit j k) there))))

-- a cell that a queue's sum is made of
total_operand : (net : Net) (at : CellTable) (s q : ℕ) (by_links : Bool) → (net.version == 2) ≡ by_links → MayBeMade net at (cell_of Total s q)
    → (j k : ℕ) → Has (leaves (total by_links net s q)) (cell_of In j k) → IsCurveAt at (cell_of In j k)
total_operand net at s q by_links e m j k there =
    let c = cell_of Total s q in
    some_curve at (cell_of In j k) Rises
    (in_rises net at (InList m.below.cells) (meets_below net at c m.below) m.accepted k j
    (operand net at c (cell_of In j k) m.below (subst (λ b. Has (leaves (total b net s q)) (cell_of In j k)) (sym e) there)))

pub total_ready : (net : Net) (at : CellTable) (s q : ℕ) → (net.version == 2) ≡ false → MayBeMade net at (cell_of Total s q) → (j k : ℕ)
    → chosen net s (InQueue q) None j ≡ visit_list j (Some k) → IsCurveAt at (cell_of In j k)
total_ready net at s q old m j k e =
    let cells = map (at_visit In) (visits_in net s q) in
    let there = subst (λ (vs : List Visit). Has vs (visit j k)) (sym (queue_visits net s q)) (chosen_there net s (InQueue q) None j k e) in
    total_operand net at s q false old m j k (sum_leaf cells (cell_of In j k) (has_map (at_visit In) (visits_in net s q) (visit j k) there))

pub parts_ready : (net : Net) (at : CellTable) (s q : ℕ) → (net.version == 2) ≡ true → MayBeMade net at (cell_of Total s q) → (part j k : ℕ)
    → part ≤ length net.servers → chosen net s (InPart q part) None j ≡ visit_list j (Some k) → IsCurveAt at (cell_of In j k)
parts_ready net at s q new m part j k h e =
    let there = subst (λ (vs : List Visit). Has vs (visit j k)) (sym (part_visits net s q part)) (chosen_there net s (InPart q part) None j k e) in
    let among = has_flat (in_part net s q) (part_numbers net) part (visit j k)
    (has_range 0 (suc (length net.servers)) part (omega arith) (omega (arith, h))) there in
    total_operand net at s q true new m j k
    (subst (λ (cs : List Cell). Has cs (cell_of In j k)) (sym (parts_leaves net s q (part_numbers net)))
    (has_map (at_visit In) (by_parts net s q (part_numbers net)) (visit j k) among))

pub higher_ready : (net : Net) (at : CellTable) (s q : ℕ) → MayBeMade net at (cell_of Higher s q) → (p : ℕ) → p < q → IsCurveAt at (cell_of Total s p)
higher_ready net at s q m p h =
    let cells = map (cell_of Total s) (range_with_len 0 q) in
    some_curve at (cell_of Total s p) Rises
    (total_rises net at (InList m.below.cells) (meets_below net at (cell_of Higher s q) m.below) m.accepted s p
    (operand net at (cell_of Higher s q) (cell_of Total s p) m.below
    (sum_leaf cells (cell_of Total s p) (has_map (cell_of Total s) (range_with_len 0 q) p (has_range 0 q p (omega arith) (omega (arith, h)))))))

-- the curve of the queues before one, where the server leaves what is above it
pub service_above : (net : Net) (at : CellTable) (s q : ℕ) → MayBeMade net at (cell_of QueueService s q)
    → EachBefore (IsCurveAt at) (left_of net s q (discipline net s))
service_above net at s q m =
    before_is net s q (service net s) (discipline net s) (IsCurveAt at) (λ leaf.
    some_curve at (cell_of Higher s q) Rises
    (higher_rises net at (InList m.below.cells) (meets_below net at (cell_of QueueService s q) m.below) m.accepted s q
    (operand net at (cell_of QueueService s q) (cell_of Higher s q) m.below leaf)))

-- what the formula of a queue's service answers, it gives
pub service_given : (at : CellTable) (f : SpecCurve) (l : Left Cell) (r : Answer) → Answers at (left_formula f l) r
    → Gives at (left_formula f l) r
service_given at f all r a = a
service_given at f (above before lower) r a = a
service_given at f (share quanta longest queue) r a = a

-- ---- sums that were made
pub sum_counts : (at : CellTable) (cells : List Cell) (old new : ℕ) (r : Result Partial OpFault) → Adds at [] cells old new r
    → (IfOk r (λ p. new ≡ old + (length cells - 1))) × (old ≤ new) × (new ≤ old + (length cells - 1))
sum_counts at cells old new (Ok p) a = let e = a.1 in (omega (arith, e), omega (arith, e), omega (arith, e))
sum_counts at cells old new (Err e) a = let l = a.1 in let m = a.2 in (tt, l, omega (arith, m))

-- ---- the sum of a queue, by the version
pub total_evaluates : (net : Net) (at : CellTable) (s q : ℕ) (by_links : Bool) (old new : ℕ) (r : Answer) → (net.version == 2) ≡ by_links
    → Gives at (total by_links net s q) r → Counts (total_work by_links net s q) old new r
    → (r ≡ Err NoMemory → Stops at (total by_links net s q) NoMemory (new - old)) → Evaluates net at (cell_of Total s q) old new r
total_evaluates net at s q by_links old new r e gives counts memory = record {
  answer = subst (λ b. Gives at (total b net s q) r) (sym e) gives;
  counts = subst (λ b. Counts (total_work b net s q) old new r) (sym e) counts;
  memory = λ is. subst (λ b. Stops at (total b net s q) NoMemory (new - old)) (sym e) (memory is);
}
