-- The calls of each cell's formula have answers, where the cells that it is made of meet their equations.
use Rattle.std.proofs.Common.{◌≡◌, ℕ, zero, suc, ◌<◌, ◌≤◌, ◌+◌, ◌-◌, List, [], ◌∷◌, map, refl, sym, ap, ◌∙◌, subst, arith, inl, inr, true, false, Bool}
use Rattle.std.specs.Prelude.{Some, ◌==◌}
use Rattle.std.specs.List.{range_with_len}
use Rattle.std.proofs.lemmas.Bool.{ltb-true, and_parts}
use Rattle.rational.specs.Extended.{Ext}
use Rattle.rational.specs.declared.Extended.TheVariants.{Fin, Inf}
use Rattle.min_plus.specs.Functions.{IsNonneg}
use Rattle.min_plus.specs.Deviations.{IsHorizontalDeviation}
use Rattle.upp_limits.specs.declared.op_kind.OpKind.TheVariants.{Min, Shift, FifoLeft, Convolve, Deconvolve}
use Rattle.upp_curve.specs.Curve.{SpecCurve, value_at}
use Rattle.upp_curve.specs.Curves.{IsCurve}
use Rattle.run_laws.proofs.Members.{Has, has_map}
use Rattle.curve_call.specs.Answers.{IsMadeBy}
use Rattle.curve_call.specs.Calls.{Applies, AppliesTo}
use Rattle.residuals.specs.calls.PriorityCalls.{MakesPriority}
use Rattle.residuals.specs.left.Left.{Left, all, above, share, EachBefore}
use Rattle.net_model.specs.Networks.{Net}
use Rattle.net_model.specs.Accepted.{IsAccepted}
use Rattle.net_bounds.proofs.Cells.{curve_map as sort_map}
use Rattle.net_cells.specs.declared.cell.Cell.{Cell}
use Rattle.net_cells.specs.declared.cell.Kind.{Kind}
use Rattle.net_cells.specs.declared.cell.Kind.TheVariants.{In, Cross, Total, Higher, QueueService, Theta, Residual, QueueDelay, QueueBacklog, HopDelay, ShiftOut, DeconvOut, Out, PathService, Tfa, Sfa, Bound}
use Rattle.net_cells.specs.Numbered.{hops, server_of_hop, queue_of_hop, queues, discipline, service, packet, is_live}
use Rattle.net_cells.specs.declared.visit.Visit.{Visit}
use Rattle.net_cells.specs.Visits.{visits_in, others, longest}
use Rattle.net_cells.specs.QueueParts.{part_numbers, by_parts}
use Rattle.net_cells.specs.Cells.{cell_of, scope_of, is_in_scope}
use Rattle.net_cells.specs.Left.{left_of}
use Rattle.net_cells.specs.Order.{at_visit}
use Rattle.net_cells.specs.Meanings.{Meaning, CellTable, curve}
use Rattle.net_cells.specs.TableValues.{HasCurve, HasNumber}
use Rattle.net_cells.specs.Formulas.{Formula, leaves, value_of, smaller, horizontal}
use Rattle.net_cells.specs.CellFormulas.{formula_of, value, less, service_at, sum_of_cells, total, left_formula, packets_to, served_to, hop_delay_cells}
use Rattle.net_cells.specs.Means.{HaveNumbers}
use Rattle.net_cells.specs.Answers.{AnswersFrom}
use Rattle.net_cells.proofs.Lists.{map_has}
use Rattle.net_cells.proofs.LeavesOf.{parts_leaves}
use Rattle.net_cells.proofs.LeftOf.{before_is}
use Rattle.net_cells.proofs.Precedes.{some_hop}
use Rattle.cell_numbers.specs.Shapes.{Rises, Serving, Grows}
use Rattle.cell_numbers.proofs.OnCells.{curve_holds}
use Rattle.cell_eval.proofs.Meeting.{Meets, curve_map, has_curve, number_from, sum_leaf, served_leaf}
use Rattle.cell_eval.proofs.Shapes.{in_rises, cross_rises, total_rises, higher_rises, queue_served, hop_served, residual_grows, path_grows, queue_delay_ahead, hop_delay_ahead, IsServerAt, server_there, service_grows}
use Rattle.plain_operators.specs.pointwise.Shifting.{IsAhead}
use Rattle.existence.proofs.curves.Lattices.{lower_answered, above_answered}
use Rattle.existence.proofs.curves.Levels.{minus_answered}
use Rattle.existence.proofs.curves.Moves.{scale_answered, shift_answered}
use Rattle.existence.proofs.curves.Runs.{supremum_answered}
use Rattle.existence.proofs.curves.LeftOvers.{left_over_answered}
use Rattle.existence.proofs.curves.Convolutions.{convolution_answered}
use Rattle.existence.proofs.curves.Deconvolutions.{deconvolution_answered}
use Rattle.existence.specs.curves.Answered.{HasAnswer}
use Rattle.existence.specs.tables.Found.{CallsExist}
use Rattle.existence.specs.tables.Formulas.{GivesCurve, GivesNumber, CallsAreFound}
use Rattle.existence.proofs.tables.Services.{by_priority, by_deficit}
use Rattle.run_watch.specs.simulated_sizes.Laws.{AreCurves}
use Rattle.existence.proofs.tables.Sound.{IsSound, service_curve}
use Rattle.existence.proofs.tables.Found.{IsArriving, IsFiniteCurve, IsServing, CurveIsFound, NumberIsFound, then_found, then_number_found, value_found, number_found, made_found, less_found, horizontal_found, vertical_found}
use Rattle.existence.proofs.tables.Sums.{sum_found, parts_found}

calls_exist : CallsExist
calls_exist = record { pos_diff = above_answered; pos_minus = minus_answered; scale = scale_answered; run_sup = supremum_answered }

ahead : (x : Ext) → IsNonneg x → IsAhead x
ahead Inf h = tt
ahead (Fin x) h = h

-- ---- numbers
smaller_found : (at : CellTable) (F G : Formula) (Q S : Ext → Type 0) → NumberIsFound at F Q → NumberIsFound at G S → CallsAreFound at (smaller F G) []
smaller_found at F G Q S first second = (
  first.calls,
  second.calls,
  then_number_found at F Q (λ x. GivesNumber (AnswersFrom at G []) (λ y. Unit {0})) first
      (λ x q. then_number_found at G S (λ y. Unit {0}) second (λ y s. tt)),
)

numbers_there : (at : CellTable) (cs : List Cell) → ((c : Cell) → Has cs c → HasNumber at c IsNonneg) → (xs : List Ext) × HaveNumbers at cs xs
numbers_there at [] each = ([], tt)
numbers_there at (c ∷ cs) each =
    let first = each c (inl refl) in
    let rest = numbers_there at cs (λ d h. each d (inr h)) in
    (first.value ∷ rest.0, (first.is, rest.1))

-- ---- services along a path
module _ (net : Net) (at : CellTable) (i : ℕ) where
  hop_found : (j : ℕ) → HasCurve at (cell_of Residual i j) IsFiniteCurve → CurveIsFound at (less (value Residual i j) (packet net i)) IsFiniteCurve
  hop_found j h = less_found at (value Residual i j) (packet net i) (value_found at (cell_of Residual i j) IsFiniteCurve h)

  packets_found : (k : ℕ) → ((j : ℕ) → j ≤ k → HasCurve at (cell_of Residual i j) IsFiniteCurve) → CurveIsFound at (packets_to net i k) IsCurve
  packets_found zero each =
      let only = hop_found 0 (each 0 (omega arith)) in
      record { calls = only.calls; means = λ v m. sort_map IsFiniteCurve IsCurve v (λ f q. q.0) (only.means v m) }
  packets_found (suc k) each =
      made_found at Convolve (packets_to net i k) (less (value Residual i (suc k)) (packet net i)) IsCurve IsFiniteCurve
      (packets_found k (λ j h. each j (omega arith))) (hop_found (suc k) (each (suc k) (omega arith))) (λ f g q s. convolution_answered f g q s.0)

  hop_curve : (j : ℕ) → HasCurve at (cell_of Residual i j) IsFiniteCurve → CurveIsFound at (value Residual i j) IsCurve
  hop_curve j h = value_found at (cell_of Residual i j) IsCurve (curve_map at (cell_of Residual i j) IsFiniteCurve IsCurve h (λ f q. q.0))

  served_found : (k : ℕ) → ((j : ℕ) → j ≤ k → HasCurve at (cell_of Residual i j) IsFiniteCurve) → CurveIsFound at (served_to net i k) IsCurve
  served_found zero each = hop_curve 0 (each 0 (omega arith))
  served_found (suc k) each =
      made_found at Convolve (packets_to net i k) (value Residual i (suc k)) IsCurve IsCurve
      (packets_found k (λ j h. each j (omega arith))) (hop_curve (suc k) (each (suc k) (omega arith))) convolution_answered

module _ (net : Net) (at : CellTable) (P : Cell → Type 0) (M : Meets net at P) (S : (c : Cell) (v : Meaning) → P c → at c ≡ Some v → IsSound v)
    (a : IsAccepted net) (H : AreCurves net) where
  -- ---- the cells that others are made of
  also_curve : (c : Cell) (Q : SpecCurve → Type 0) → P c → HasCurve at c Q → HasCurve at c (λ f. IsCurve f × Q f)
  also_curve c Q p h = record { value = h.value; is = h.is; holds = (S c (curve h.value) p h.is, h.holds) }

  only_curve : (c : Cell) (Q : SpecCurve → Type 0) → P c → HasCurve at c Q → HasCurve at c IsCurve
  only_curve c Q p h = record { value = h.value; is = h.is; holds = S c (curve h.value) p h.is }

  serving : (c : Cell) → P c → HasCurve at c Serving → HasCurve at c IsServing
  serving c p h = record { value = h.value; is = h.is; holds = ((S c (curve h.value) p h.is, h.holds.finite), h.holds.rising) }

  growing : (c : Cell) → P c → HasCurve at c Grows → HasCurve at c IsServing
  growing c p h = record { value = h.value; is = h.is; holds = ((S c (curve h.value) p h.is, h.holds.finite), h.holds.rising) }

  finite_curve : (c : Cell) → HasCurve at c IsServing → HasCurve at c IsFiniteCurve
  finite_curve c h = curve_map at c IsServing IsFiniteCurve h (λ f q. q.0)

  visit_curve : (u : Visit) → P (at_visit In u) → HasCurve at (at_visit In u) IsCurve
  visit_curve u p = only_curve (at_visit In u) Rises p (in_rises net at P M a u.hop u.flow p)

  visits_curves : (us : List Visit) → ((d : Cell) → Has (leaves (sum_of_cells (map (at_visit In) us))) d → P d) → (d : Cell) → Has (map (at_visit In) us) d
      → HasCurve at d IsCurve
  visits_curves us leaf d h =
      let w = map_has (at_visit In) us d h in
      subst (λ (x : Cell). HasCurve at x IsCurve) w.2 (visit_curve w.0 (subst P (sym w.2) (leaf d (sum_leaf (map (at_visit In) us) d h))))

  shift_curve : (i k : ℕ) → P (cell_of ShiftOut i k) → HasCurve at (cell_of ShiftOut i k) IsCurve
  shift_curve i k p =
      let e = M.meet (cell_of ShiftOut i k) p in
      has_curve at (cell_of ShiftOut i k) IsCurve e.value e.is
      (sort_map (IsMadeBy (Shift e.means.gives.operand) e.means.operand e.means.operand) IsCurve e.value (λ h b. b.curve) e.means.gives.gives)

  spread_curve : (i k : ℕ) → P (cell_of DeconvOut i k) → HasCurve at (cell_of DeconvOut i k) IsCurve
  spread_curve i k p =
      let e = M.meet (cell_of DeconvOut i k) p in
      has_curve at (cell_of DeconvOut i k) IsCurve e.value e.is
      (sort_map (IsMadeBy Deconvolve e.means.operand e.means.gives.operand) IsCurve e.value (λ h b. b.curve) e.means.gives.gives)

  left_curve : (i k : ℕ) → k < hops net i → P (cell_of Residual i k) → HasCurve at (cell_of Residual i k) IsServing
  left_curve i k h p = growing (cell_of Residual i k) p (residual_grows net at P M a i k h p)

  -- ---- formulas
  total_calls : (s q : ℕ) (by_links : Bool) → ((d : Cell) → Has (leaves (total by_links net s q)) d → P d) → CallsAreFound at (total by_links net s q) []
  total_calls s q false leaf = (sum_found at (map (at_visit In) (visits_in net s q)) (visits_curves (visits_in net s q) leaf)).calls
  total_calls s q true leaf =
      parts_found net at s q a (part_numbers net) [] tt
      (λ u h. visit_curve u (leaf (at_visit In u)
      (subst (λ (cs : List Cell). Has cs (at_visit In u)) (sym (parts_leaves net s q (part_numbers net))) (has_map (at_visit In) (by_parts net s q (part_numbers net)) u h))))

  higher_curves : (s q : ℕ) → ((d : Cell) → Has (leaves (sum_of_cells (map (cell_of Total s) (range_with_len 0 q)))) d → P d) → (d : Cell)
      → Has (map (cell_of Total s) (range_with_len 0 q)) d → HasCurve at d IsCurve
  higher_curves s q leaf d h =
      let w = map_has (cell_of Total s) (range_with_len 0 q) d h in
      let p = subst P (sym w.2) (leaf d (sum_leaf (map (cell_of Total s) (range_with_len 0 q)) d h)) in
      subst (λ (x : Cell). HasCurve at x IsCurve) w.2 (only_curve (cell_of Total s w.0) Rises p (total_rises net at P M a s w.0 p))

  service_calls : (s : ℕ) (l : Left Cell) → IsServerAt net s → EachBefore (λ c. HasCurve at c IsCurve) l
      → CallsAreFound at (left_formula (service net s) l) []
  service_calls s all it found = tt
  service_calls s (above before lower) it found =
      let higher = value_found at before IsCurve found in (
        higher.calls,
        then_found at (value_of before) IsCurve (λ g. HasAnswer (MakesPriority (service net s) g lower)) higher
            (λ g k. by_priority calls_exist (service net s) g lower (service_curve net s H) k (service_grows net s it).finite),
      )
  service_calls s (share quanta longest queue) it found =
      by_deficit calls_exist (service net s) quanta longest queue (service_curve net s H) (service_grows net s it).finite

  residual_calls : (i k : ℕ) → k < hops net i → ((d : Cell) → Has (leaves (formula_of net Residual i k)) d → P d) → CallsAreFound at (formula_of net Residual i k) []
  residual_calls i k h leaf =
      let queue = cell_of QueueService (server_of_hop net i k) (queue_of_hop net i k) in
      let cross = cell_of Cross i k in
      let theta = cell_of Theta i k in
      let queue_there = leaf queue (inl refl) in
      let cross_there = leaf cross (inr (inl refl)) in
      let e = M.meet theta (leaf theta (inr (inr (inl refl)))) in
      let f = e.means.operand in
      let g = e.means.gives.operand in
      let x = number_from (IsHorizontalDeviation (value_at f) (value_at g)) e.value e.means.gives.gives in
      let served = curve_holds at queue Serving g (hop_served net at P M a i k h queue_there) e.means.gives.is in
      let answer = (left_over_answered x.0 g f (S queue (curve g) queue_there e.means.gives.is) (S cross (curve f) cross_there e.means.is) served.finite served.rising served.nonneg x.2) in
      let Last : Ext → Type 0 = λ y. HasAnswer (Applies (FifoLeft y) g f) in
      let Next : SpecCurve → Type 0 = λ u. GivesNumber (AnswersFrom at (value_of theta) []) (λ y. HasAnswer (Applies (FifoLeft y) g u)) in
      let All : SpecCurve → Type 0 = λ w. GivesCurve (AnswersFrom at (value_of cross) []) (λ u. GivesNumber (AnswersFrom at (value_of theta) []) (λ y. HasAnswer (Applies (FifoLeft y) w u))) in
      let last = number_found at theta Last record { value = x.0; is = e.is ∙ ap Some x.1; holds = answer } in
      let next = value_found at cross Next record { value = f; is = e.means.is; holds = then_number_found at (value_of theta) Last Last last (λ y m. m) } in
      let all = value_found at queue All record { value = g; is = e.means.gives.is; holds = then_found at (value_of cross) Next Next next (λ u m. m) } in
      (all.calls, next.calls, last.calls, then_found at (value_of queue) All All all (λ w m. m))

  pub calls_of : (kind : Kind) (x y : ℕ) → is_in_scope net (scope_of kind) x y ≡ true → ((d : Cell) → Has (leaves (formula_of net kind x y)) d → P d)
      → CallsAreFound at (formula_of net kind x y) []
  calls_of In i zero e leaf = tt
  calls_of In i (suc k) e leaf = let m = M.meet (cell_of Out i k) (leaf (cell_of Out i k) (inl refl)) in (m.value, m.is)
  calls_of Cross i k e leaf =
      let us = others net i (server_of_hop net i k) (queue_of_hop net i k) in (sum_found at (map (at_visit In) us) (visits_curves us leaf)).calls
  calls_of Total s q e leaf = total_calls s q (net.version == 2) leaf
  calls_of Higher s q e leaf = (sum_found at (map (cell_of Total s) (range_with_len 0 q)) (higher_curves s q leaf)).calls
  calls_of QueueService s q e leaf =
      service_calls s (left_of net s q (discipline net s)) (server_there net s q a (ltb-true q (queues net s) e))
      (before_is net s q (service net s) (discipline net s) (λ c. HasCurve at c IsCurve) (λ h.
      let p = leaf (cell_of Higher s q) h in
      only_curve (cell_of Higher s q) Rises p (higher_rises net at P M a s q p)))
  calls_of Theta i k e leaf =
      let cross = leaf (cell_of Cross i k) (inl refl) in
      let queue = cell_of QueueService (server_of_hop net i k) (queue_of_hop net i k) in
      let there = leaf queue (inr (inl refl)) in
      (horizontal_found at (value Cross i k) (service_at net i k)
      (value_found at (cell_of Cross i k) IsArriving (also_curve (cell_of Cross i k) Rises cross (cross_rises net at P M a i k cross)))
      (value_found at queue IsServing (serving queue there (hop_served net at P M a i k (ltb-true k (hops net i) e) there)))).calls
  calls_of Residual i k e leaf = residual_calls i k (ltb-true k (hops net i) e) leaf
  calls_of QueueDelay s q e leaf =
      let comes = leaf (cell_of Total s q) (inl refl) in
      let there = leaf (cell_of QueueService s q) (inr (inl refl)) in
      (horizontal_found at (value Total s q) (value QueueService s q)
      (value_found at (cell_of Total s q) IsArriving (also_curve (cell_of Total s q) Rises comes (total_rises net at P M a s q comes)))
      (value_found at (cell_of QueueService s q) IsServing
      (serving (cell_of QueueService s q) there (queue_served net at P M a s q (ltb-true q (queues net s) e) there)))).calls
  calls_of QueueBacklog s q e leaf =
      let comes = leaf (cell_of Total s q) (inl refl) in
      let there = leaf (cell_of QueueService s q) (inr (inl refl)) in
      vertical_found at (value Total s q) (less (value QueueService s q) (longest net s q))
      (value_found at (cell_of Total s q) IsCurve (only_curve (cell_of Total s q) Rises comes (total_rises net at P M a s q comes)))
      (less_found at (value QueueService s q) (longest net s q)
      (value_found at (cell_of QueueService s q) IsFiniteCurve (finite_curve (cell_of QueueService s q)
      (serving (cell_of QueueService s q) there (queue_served net at P M a s q (ltb-true q (queues net s) e) there)))))
  calls_of HopDelay i k e leaf =
      let queue = cell_of QueueDelay (server_of_hop net i k) (queue_of_hop net i k) in
      let comes = leaf (cell_of In i k) (inr (inl refl)) in
      let left = leaf (cell_of Residual i k) (inr (inr (inl refl))) in
      smaller_found at (value_of queue) (horizontal (value In i k) (value Residual i k)) IsNonneg (λ x. Unit {0})
      (number_found at queue IsNonneg (queue_delay_ahead net at P M (server_of_hop net i k) (queue_of_hop net i k) (leaf queue (inl refl))))
      (horizontal_found at (value In i k) (value Residual i k)
      (value_found at (cell_of In i k) IsArriving (also_curve (cell_of In i k) Rises comes (in_rises net at P M a k i comes)))
      (value_found at (cell_of Residual i k) IsServing (left_curve i k (ltb-true k (hops net i) e) left)))
  calls_of ShiftOut i k e leaf =
      let comes = leaf (cell_of In i k) (inl refl) in
      let later = leaf (cell_of HopDelay i k) (inr (inl refl)) in
      let first = value_found at (cell_of In i k) IsCurve (only_curve (cell_of In i k) Rises comes (in_rises net at P M a k i comes)) in
      let second = number_found at (cell_of HopDelay i k) IsNonneg (hop_delay_ahead net at P M i k later) in (
        first.calls,
        second.calls,
        then_found at (value In i k) IsCurve (λ f. GivesNumber (AnswersFrom at (value HopDelay i k) []) (λ x. HasAnswer (AppliesTo (Shift x) f))) first
            (λ f q. then_number_found at (value HopDelay i k) IsNonneg (λ x. HasAnswer (AppliesTo (Shift x) f)) second
            (λ x n. shift_answered x f (ahead x n) q)),
      )
  calls_of DeconvOut i k e leaf =
      let comes = leaf (cell_of In i k) (inl refl) in
      let left = leaf (cell_of Residual i k) (inr (inl refl)) in
      let on_path = ltb-true (k + 1) (hops net i) e in
      (made_found at Deconvolve (value In i k) (less (value Residual i k) (packet net i)) IsCurve IsFiniteCurve
      (value_found at (cell_of In i k) IsCurve (only_curve (cell_of In i k) Rises comes (in_rises net at P M a k i comes)))
      (less_found at (value Residual i k) (packet net i)
      (value_found at (cell_of Residual i k) IsFiniteCurve (finite_curve (cell_of Residual i k) (left_curve i k (omega (arith, on_path)) left))))
      (λ f g q s. deconvolution_answered f g q s.0 s.1)).calls
  calls_of Out i k e leaf =
      (made_found at Min (value ShiftOut i k) (value DeconvOut i k) IsCurve IsCurve
      (value_found at (cell_of ShiftOut i k) IsCurve (shift_curve i k (leaf (cell_of ShiftOut i k) (inl refl))))
      (value_found at (cell_of DeconvOut i k) IsCurve (spread_curve i k (leaf (cell_of DeconvOut i k) (inr (inl refl))))) lower_answered).calls
  calls_of PathService i b e leaf =
      let some = some_hop net i a (and_parts (is_live net i) (b == 0) e).0 in
      (served_found net at i (hops net i - 1)
      (λ j h. finite_curve (cell_of Residual i j) (left_curve i j (omega (arith, h, some)) (leaf (cell_of Residual i j) (served_leaf net i (hops net i - 1) j h))))).calls
  calls_of Tfa i b e leaf =
      numbers_there at (hop_delay_cells net i)
      (λ d h.
      let w = map_has (cell_of HopDelay i) (range_with_len 0 (hops net i)) d h in
      subst (λ (x : Cell). HasNumber at x IsNonneg) w.2 (hop_delay_ahead net at P M i w.0 (subst P (sym w.2) (leaf d h))))
  calls_of Sfa i b e leaf =
      let some = some_hop net i a (and_parts (is_live net i) (b == 0) e).0 in
      let comes = leaf (cell_of In i 0) (inl refl) in
      let there = leaf (cell_of PathService i 0) (inr (inl refl)) in
      let F = horizontal (value In i 0) (value PathService i 0) in
      let first = horizontal_found at (value In i 0) (value PathService i 0)
      (value_found at (cell_of In i 0) IsArriving (also_curve (cell_of In i 0) Rises comes (in_rises net at P M a 0 i comes)))
      (value_found at (cell_of PathService i 0) IsServing (growing (cell_of PathService i 0) there (path_grows net at P M a i 0 some there))) in
      (first.calls, then_number_found at F (λ x. Unit {0}) (λ x. Unit {0}) first (λ x q. tt))
  calls_of Bound i b e leaf =
      let t = M.meet (cell_of Tfa i 0) (leaf (cell_of Tfa i 0) (inl refl)) in
      let s = M.meet (cell_of Sfa i 0) (leaf (cell_of Sfa i 0) (inr (inl refl))) in
      smaller_found at (value Tfa i 0) (value Sfa i 0) (λ x. Unit {0}) (λ x. Unit {0})
      (number_found at (cell_of Tfa i 0) (λ x. Unit {0}) record { value = _; is = t.is ∙ ap Some t.means.gives; holds = tt })
      (number_found at (cell_of Sfa i 0) (λ x. Unit {0}) record { value = _; is = s.is ∙ ap Some s.means.gives; holds = tt })
