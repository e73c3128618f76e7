-- What the equations say of the cells of a queue, and of the other flows of a hop's queue.
use Rattle.std.specs.Prelude.{◌≡◌, ℕ, ◌<◌, List, [], ◌∷◌, map, Some}
use Rattle.std.specs.List.{range_with_len}
use Rattle.std.proofs.Common.{sym, ap, ◌∙◌, refl, subst, inl, inr}
use Rattle.std.proofs.lemmas.Bool.{lt-ltb}
use Rattle.rational.specs.Rational.{ℚ}
use Rattle.rational.specs.Extended.{Ext, ◌+ₑ◌}
use Rattle.upp_curve.specs.Curve.{SpecCurve, value_at}
use Rattle.min_plus.specs.Pointwise.{packetised}
use Rattle.min_plus.specs.Deviations.{IsHorizontalDeviation, IsVerticalDeviation}
use Rattle.run_laws.specs.Cards.{whole}
use Rattle.residual_laws.specs.PriorityLaws.{IsPriorityService}
use Rattle.residuals.specs.left.Left.{Left, all, above, share, map_left}
use Rattle.residuals.specs.left.Laws.{IsLeft}
use Rattle.net_model.specs.Networks.{Net}
use Rattle.net_cells.specs.declared.cell.Cell.{Cell}
use Rattle.net_cells.specs.declared.cell.Kind.TheVariants.{In, Cross, Total, Higher, QueueService, QueueDelay, QueueBacklog}
use Rattle.net_cells.specs.Numbered.{hops, server_of_hop, queue_of_hop, service, discipline, queues, levels}
use Rattle.net_cells.specs.declared.visit.Visit.{Visit}
use Rattle.net_cells.specs.Visits.{others, longest}
use Rattle.net_cells.specs.Cells.{cell_of}
use Rattle.net_cells.specs.Left.{left_of}
use Rattle.net_cells.specs.Order.{at_visit}
use Rattle.net_cells.specs.Meanings.{Meaning, curve, CellTable, IsCurveIn}
use Rattle.net_cells.specs.CellFormulas.{left_formula}
use Rattle.net_cells.specs.Means.{Means, IsPriorityCurve, IsDrrCurve}
use Rattle.net_cells.specs.Equations.{MeetsEquations}
use Rattle.net_bounds.specs.TableValues.{HasFunction, HasNumber}
use Rattle.net_bounds.proofs.ListSums.{sum_over}
use Rattle.net_bounds.proofs.Cells.{values, of_values, curve_from, curve_map, HasValues, sum_reads, AllCurves}
use Rattle.net_bounds.proofs.FormulaParts.{vertical_same, a_curve, less_reads, number_map, deviation_reads}
use Rattle.net_bounds.proofs.HopCells.{in_curve}
use Rattle.run_laws.proofs.Members.{Has}
use Rattle.net_cells.proofs.TableValues.{has_number}

-- the curve of a flow at a hop, and of a queue
abbrev pub arriving_at : CellTable → Visit → ℚ → Ext
arriving_at at v = values at (at_visit In v)

abbrev pub total_at : CellTable → ℕ → ℕ → ℚ → Ext
total_at at s q = values at (cell_of Total s q)

pub visits_over : (at : CellTable) (vs : List Visit) (t : ℚ)
    → sum_over (values at) (map (at_visit In) vs) t ≡ sum_over (arriving_at at) vs t
visits_over at [] t = refl
visits_over at (v ∷ vs) t = ap (λ (x : Ext). values at (at_visit In v) t +ₑ x) (visits_over at vs t)

queues_over : (at : CellTable) (s : ℕ) (qs : List ℕ) (t : ℚ)
    → sum_over (values at) (map (cell_of Total s) qs) t ≡ sum_over (total_at at s) qs t
queues_over at s [] t = refl
queues_over at s (q ∷ qs) t = ap (λ (x : Ext). values at (cell_of Total s q) t +ₑ x) (queues_over at s qs t)

-- visits of hops that there are
abbrev pub AreHops : Net → List Visit → Type 0
AreHops net vs = (v : Visit) → Has vs v → v.hop < hops net v.flow

pub visit_curves : (net : Net) (at : CellTable) (vs : List Visit) → MeetsEquations net at → AreHops net vs
    → AllCurves at (map (at_visit In) vs)
visit_curves net at [] meets h = tt
visit_curves net at (v ∷ vs) meets h =
    (in_curve net at v.flow v.hop meets (h v (inl refl)), visit_curves net at vs meets (λ w m. h w (inr m)))

-- the curve of a cell that is the sum of those of visits
visit_sum : (net : Net) (at : CellTable) (c : Cell) (vs : List Visit) (v : Meaning) → MeetsEquations net at
    → AreHops net vs
    → at c ≡ Some v → IsCurveIn (λ f. HasValues (sum_over (values at) (map (at_visit In) vs)) (value_at f)) v
    → HasFunction at c (HasValues (sum_over (arriving_at at) vs))
visit_sum net at c vs v meets h is reads =
    curve_from at c (HasValues (sum_over (arriving_at at) vs)) v is
    (curve_map (λ f. HasValues (sum_over (values at) (map (at_visit In) vs)) (value_at f))
    (λ f. HasValues (sum_over (arriving_at at) vs) (value_at f)) v
    (λ f k t p. k t p ∙ visits_over at vs t) reads)

pub cross_is : (net : Net) (at : CellTable) (i k : ℕ) → MeetsEquations net at → k < hops net i
    → AreHops net (others net i (server_of_hop net i k) (queue_of_hop net i k))
    → HasFunction at (cell_of Cross i k)
    (HasValues (sum_over (arriving_at at) (others net i (server_of_hop net i k) (queue_of_hop net i k))))
cross_is net at i k meets h are =
    let e = meets (cell_of Cross i k) (lt-ltb k (hops net i) h) in
    let vs = others net i (server_of_hop net i k) (queue_of_hop net i k) in
    visit_sum net at (cell_of Cross i k) vs e.value meets are e.is
    (sum_reads at (map (at_visit In) vs) e.value (visit_curves net at vs meets are) e.means)

queue_curves : (at : CellTable) (s : ℕ) (qs : List ℕ) → ((q : ℕ) → Has qs q → HasFunction at (cell_of Total s q) a_curve)
    → AllCurves at (map (cell_of Total s) qs)
queue_curves at s [] h = tt
queue_curves at s (q ∷ qs) h = (h q (inl refl), queue_curves at s qs (λ p m. h p (inr m)))

pub higher_is : (net : Net) (at : CellTable) (s q : ℕ) → MeetsEquations net at → q < levels net s
    → ((p : ℕ) → Has (range_with_len 0 q) p → HasFunction at (cell_of Total s p) a_curve)
    → HasFunction at (cell_of Higher s q) (HasValues (sum_over (total_at at s) (range_with_len 0 q)))
higher_is net at s q meets h totals =
    let e = meets (cell_of Higher s q) (lt-ltb q (levels net s) h) in
    let qs = range_with_len 0 q in
    curve_from at (cell_of Higher s q) (HasValues (sum_over (total_at at s) qs)) e.value e.is
    (curve_map (λ f. HasValues (sum_over (values at) (map (cell_of Total s) qs)) (value_at f))
    (λ f. HasValues (sum_over (total_at at s) qs) (value_at f)) e.value
    (λ f k t p. k t p ∙ queues_over at s qs t)
    (sum_reads at (map (cell_of Total s) qs) e.value (queue_curves at s qs totals) e.means))

-- what is left to a queue, as functions of time
abbrev pub left_at : CellTable → Left Cell → Left (ℚ → Ext)
left_at at = map_left (values at)

service_reads : (at : CellTable) (f : SpecCurve) (l : Left Cell) (v : Meaning) → Means at (left_formula f l) v
    → IsCurveIn (λ g. IsLeft (value_at f) (left_at at l) (value_at g)) v
service_reads at f all v m = subst (IsCurveIn (λ g. value_at g ≡ value_at f)) (sym m) refl
service_reads at f (above before lower) v m =
    curve_map (IsPriorityCurve f m.operand lower) (λ g. IsLeft (value_at f) (left_at at (above before lower)) (value_at g)) v
    (λ g k. of_values at before m.operand (λ (a : ℚ → Ext). IsPriorityService (value_at f) a lower (value_at g)) m.is k.serves)
    m.gives
service_reads at f (share quanta longest queue) v m =
    curve_map (IsDrrCurve f quanta longest queue) (λ g. IsLeft (value_at f) (left_at at (share quanta longest queue)) (value_at g)) v
    (λ g k. k.serves) m

pub queue_service_is : (net : Net) (at : CellTable) (s q : ℕ) → MeetsEquations net at → q < queues net s
    → HasFunction at (cell_of QueueService s q) (IsLeft (value_at (service net s)) (left_at at (left_of net s q (discipline net s))))
queue_service_is net at s q meets h =
    let e = meets (cell_of QueueService s q) (lt-ltb q (queues net s) h) in
    let l = left_of net s q (discipline net s) in
    curve_from at (cell_of QueueService s q) (IsLeft (value_at (service net s)) (left_at at l)) e.value e.is
    (service_reads at (service net s) l e.value e.means)

pub queue_delay_is : (net : Net) (at : CellTable) (s q : ℕ) → MeetsEquations net at → q < queues net s
    → HasNumber at (cell_of QueueDelay s q)
    (IsHorizontalDeviation (values at (cell_of Total s q)) (values at (cell_of QueueService s q)))
queue_delay_is net at s q meets h =
    let e = meets (cell_of QueueDelay s q) (lt-ltb q (queues net s) h) in
    let c = cell_of Total s q in
    let d = cell_of QueueService s q in
    has_number at (cell_of QueueDelay s q) (IsHorizontalDeviation (values at c) (values at d)) e.value e.is
    (deviation_reads at c d IsHorizontalDeviation e.value e.means)

pub queue_backlog_is : (net : Net) (at : CellTable) (s q : ℕ) → MeetsEquations net at → q < queues net s
    → HasNumber at (cell_of QueueBacklog s q)
    (IsVerticalDeviation (values at (cell_of Total s q))
    (packetised (values at (cell_of QueueService s q)) (whole (longest net s q))))
queue_backlog_is net at s q meets h =
    let e = meets (cell_of QueueBacklog s q) (lt-ltb q (queues net s) h) in
    let c = cell_of Total s q in
    let less_one = packetised (values at (cell_of QueueService s q)) (whole (longest net s q)) in
    let m = e.means in
    let f = m.operand in
    let g = m.gives.operand in
    has_number at (cell_of QueueBacklog s q) (IsVerticalDeviation (values at c) less_one) e.value e.is
    (number_map (IsVerticalDeviation (value_at f) (value_at g)) (IsVerticalDeviation (values at c) less_one) e.value
    (λ x d.
    of_values at c f (λ (a : ℚ → Ext). IsVerticalDeviation a less_one x) m.is
    (vertical_same (value_at f) (value_at g) less_one x
    (less_reads at (cell_of QueueService s q) (longest net s q) (curve g) m.gives.is) d))
    m.gives.gives)
