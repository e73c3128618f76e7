-- The curves that a table has at the cells of a front of the order are curves, where those of the network are.
use Rattle.std.proofs.Common.{◌≡◌, ℕ, zero, suc, ◌-◌, List, [], ◌∷◌, ◌++◌, map, refl, sym, ap, ◌∙◌, subst, inl, inr, true, false, Bool, append_assoc, append-nil}
use Rattle.std.specs.Prelude.{IsTrue, is_some, Option, Some, None, slice_get, ◌==◌}
use Rattle.std.specs.List.{range_with_len}
use Rattle.std.proofs.lemmas.Option.{slice_get_within}
use Rattle.rational.specs.Extended.{Ext}
use Rattle.min_plus.specs.Functions.{zero_q}
use Rattle.min_plus.specs.Deviations.{IsHorizontalDeviation, IsVerticalDeviation}
use Rattle.upp_limits.specs.declared.op_kind.OpKind.TheVariants.{Sum, Min, Shift, FifoLeft}
use Rattle.upp_curve.specs.Curve.{SpecCurve, value_at}
use Rattle.upp_curve.specs.Curves.{IsCurve}
use Rattle.upp_curve.specs.Kinds.{bucket}
use Rattle.upp_curve.proofs.ReadableKinds.{bucket_curve, zero_small}
use Rattle.run_laws.specs.Cards.{whole}
use Rattle.run_laws.proofs.Members.{Has, has_left, has_right, has_either, has_contains}
use Rattle.curve_call.specs.Answers.{IsMadeBy}
use Rattle.residuals.specs.left.Left as left
use Rattle.net_model.specs.Networks.{Net, NetServer, NetFlow}
use Rattle.net_model.specs.Accepted.{IsAccepted}
use Rattle.net_model.specs.Orders.{IsOrder}
use Rattle.net_cells.specs.declared.cell.Cell.{Cell}
use Rattle.net_cells.specs.declared.cell.Kind.{Kind}
use Rattle.net_cells.specs.declared.cell.Kind.TheVariants.{In, Cross, Total, Higher, QueueService, Theta, Residual, QueueDelay, QueueBacklog, HopDelay, ShiftOut, DeconvOut, Out, PathService, Tfa, Sfa, Bound}
use Rattle.net_cells.specs.Numbered.{zero_curve, flow_at, arrival, arrival_of, service, service_of, hops, server_of_hop, queue_of_hop, discipline}
use Rattle.net_cells.specs.declared.visit.Visit.{Visit}
use Rattle.net_cells.specs.Visits.{visits_in, others}
use Rattle.net_cells.specs.QueueParts.{in_part, part_numbers}
use Rattle.net_cells.specs.Cells.{cell_of}
use Rattle.net_cells.specs.Left.{left_of}
use Rattle.net_cells.specs.Order.{evaluation_order, at_visit}
use Rattle.net_cells.specs.Meanings.{Meaning, curve, number, CellTable, IsCurveIn, IsNumberIn}
use Rattle.net_cells.specs.Formulas.{Formula, leaves, value_of, given, empty_sum, made, made_of, moved, cut, part, no_part, leftover, priority, deficit, horizontal, vertical, smaller, along, delayed}
use Rattle.net_cells.specs.CellFormulas.{formula, formula_of, sum_from, sum_of_cells, part_sum, with_part, parts_sum, total, left_formula, served_to}
use Rattle.net_cells.specs.Means.{MeansFrom, IsSumOnto, IsSumOf, IsPriorityCurve, IsDrrCurve}
use Rattle.net_cells.specs.FirstOver.{IsAnswered, AnswersAll}
use Rattle.net_cells.proofs.AnswersMean.{answers_mean}
use Rattle.net_cells.proofs.Precedes.{leaf_in_front}
use Rattle.existence.specs.tables.Formulas.{EachIsCurve}
use Rattle.run_watch.specs.simulated_sizes.Laws.{AreCurves}

abbrev pub IsSound : Meaning → Type 0
IsSound (curve f) = IsCurve f
IsSound (number x) = Unit {0}

sound_in : (Q : SpecCurve → Type 0) (v : Meaning) → ((f : SpecCurve) → Q f → IsCurve f) → IsCurveIn Q v → IsSound v
sound_in Q (curve f) k h = k f h
sound_in Q (number x) k h = tt

number_sound : (Q : Ext → Type 0) (v : Meaning) → IsNumberIn Q v → IsSound v
number_sound Q (curve f) h = absurd h
number_sound Q (number x) h = tt

pub zero_is : IsCurve zero_curve
zero_is = bucket_curve zero_q zero_q zero_small

-- ---- sums of curves
pub curves_push : (fs : List SpecCurve) (f : SpecCurve) → EachIsCurve fs → IsCurve f → EachIsCurve (fs ++ f ∷ [])
curves_push [] f h k = (k, tt)
curves_push (g ∷ fs) f h k = (h.0, curves_push fs f h.1 k)

sum_onto_sound : (f : SpecCurve) (gs : List SpecCurve) (v : Meaning) → IsCurve f → IsSumOnto f gs v → IsSound v
sum_onto_sound f [] v F m = subst IsSound (sym m) F
sum_onto_sound f (g ∷ gs) v F m = sum_onto_sound m.operand gs v m.is.curve m.gives

sum_sound : (fs : List SpecCurve) (v : Meaning) → EachIsCurve fs → IsSumOf fs v → IsSound v
sum_sound [] v h m = subst IsSound (sym m) zero_is
sum_sound (f ∷ fs) v h m = sum_onto_sound f fs v h.0 m

-- ---- formulas
-- the curves of the network in a formula that its value, or a part's, may be
abbrev pub GivenAreCurves : Formula → Type 0
GivenAreCurves (given f) = IsCurve f
GivenAreCurves (part F G) = GivenAreCurves F × GivenAreCurves G
GivenAreCurves _ = Unit {0}

means_sound : (at : CellTable) (F : Formula) (fs : List SpecCurve) (v : Meaning) → GivenAreCurves F
    → ((c : Cell) (w : Meaning) → Has (leaves F) c → at c ≡ Some w → IsSound w) → EachIsCurve fs → MeansFrom at F fs v → IsSound v
means_sound at (value_of c) fs v g each k m = each c v (inl refl) m
means_sound at (given f) fs v g each k m = subst IsSound (sym m) g
means_sound at empty_sum fs v g each k m = subst IsSound (sym m) zero_is
means_sound at (made op F G) fs v g each k m = sound_in (IsMadeBy op m.operand m.gives.operand) v (λ h b. b.curve) m.gives.gives
means_sound at (made_of op F) fs v g each k m = sound_in (IsMadeBy op m.operand m.operand) v (λ h b. b.curve) m.gives
means_sound at (moved F T) fs v g each k m = sound_in (IsMadeBy (Shift m.gives.operand) m.operand m.operand) v (λ h b. b.curve) m.gives.gives
means_sound at (cut F server bits rate) fs v g each k m = sound_in (IsMadeBy Min m.operand (bucket (whole bits) rate)) v (λ h b. b.curve) m.gives
means_sound at (part F G) fs v g each k m =
    let f = m.operand in
    let first = means_sound at F [] (curve f) g.0 (λ c w h. each c w (has_left (leaves F) (leaves G) c h)) tt m.is in
    means_sound at G (fs ++ f ∷ []) v g.1 (λ c w h. each c w (has_right (leaves F) (leaves G) c h)) (curves_push fs f k first) m.gives
means_sound at no_part fs v g each k m = sum_sound fs v k m
means_sound at (leftover F G T) fs v g each k m =
    sound_in (IsMadeBy (FifoLeft m.gives.gives.operand) m.operand m.gives.operand) v (λ h b. b.curve) m.gives.gives.gives
means_sound at (priority f F lower) fs v g each k m = sound_in (IsPriorityCurve f m.operand lower) v (λ h b. b.curve) m.gives
means_sound at (deficit f quanta longest queue) fs v g each k m = sound_in (IsDrrCurve f quanta longest queue) v (λ h b. b.curve) m
means_sound at (horizontal F G) fs v g each k m =
    number_sound (IsHorizontalDeviation (value_at m.operand) (value_at m.gives.operand)) v m.gives.gives
means_sound at (vertical F G) fs v g each k m =
    number_sound (IsVerticalDeviation (value_at m.operand) (value_at m.gives.operand)) v m.gives.gives
means_sound at (smaller F G) fs v g each k m = subst IsSound (sym m.gives.gives) tt
means_sound at (along cells links) fs v g each k m = subst IsSound (sym m.gives) tt
means_sound at (delayed F links) fs v g each k m = subst IsSound (sym m.gives) tt

-- ---- the curves of a network
service_from : (net : Net) (s : ℕ) (o : Option NetServer) → AreCurves net → slice_get net.servers s ≡ o → IsCurve (service_of o)
service_from net s None H e = zero_is
service_from net s (Some x) H e = subst (λ (o : Option NetServer). IsCurve (service_of o)) e (H.services s (slice_get_within net.servers s x e))

pub service_curve : (net : Net) (s : ℕ) → AreCurves net → IsCurve (service net s)
service_curve net s H = service_from net s (slice_get net.servers s) H refl

arrival_from : (net : Net) (i : ℕ) (o : Option NetFlow) → AreCurves net → flow_at net i ≡ o → IsCurve (arrival_of o)
arrival_from net i None H e = zero_is
arrival_from net i (Some f) H e = subst (λ (o : Option NetFlow). IsCurve (arrival_of o)) e (H.arrivals i (subst (λ (o : Option NetFlow). IsTrue (is_some o)) (sym e) refl))

pub arrival_curve : (net : Net) (i : ℕ) → AreCurves net → IsCurve (arrival net i)
arrival_curve net i H = arrival_from net i (flow_at net i) H refl

-- ---- the formulas of the cells
sum_from_given : (F : Formula) (cs : List Cell) → GivenAreCurves F → GivenAreCurves (sum_from F cs)
sum_from_given F [] g = g
sum_from_given F (c ∷ cs) g = sum_from_given (made Sum F (value_of c)) cs tt

sum_given : (cs : List Cell) → GivenAreCurves (sum_of_cells cs)
sum_given [] = tt
sum_given (c ∷ cs) = sum_from_given (value_of c) cs tt

part_given : (net : Net) (k : ℕ) (vs : List Visit) → GivenAreCurves (part_sum net k vs)
part_given net zero vs = sum_given (map (at_visit In) vs)
part_given net (suc p) vs = tt

with_given : (net : Net) (k : ℕ) (vs : List Visit) (rest : Formula) → GivenAreCurves rest → GivenAreCurves (with_part net k vs rest)
with_given net k [] rest g = g
with_given net k (v ∷ vs) rest g = (part_given net k (v ∷ vs), g)

parts_given : (net : Net) (s q : ℕ) (ks : List ℕ) → GivenAreCurves (parts_sum net s q ks)
parts_given net s q [] = tt
parts_given net s q (k ∷ ks) = with_given net k (in_part net s q k) (parts_sum net s q ks) (parts_given net s q ks)

total_given : (net : Net) (s q : ℕ) (by_links : Bool) → GivenAreCurves (total by_links net s q)
total_given net s q false = sum_given (map (at_visit In) (visits_in net s q))
total_given net s q true = parts_given net s q (part_numbers net)

service_given : (net : Net) (s : ℕ) (l : left.Left Cell) → AreCurves net → GivenAreCurves (left_formula (service net s) l)
service_given net s left.all H = service_curve net s H
service_given net s (left.above before lower) H = tt
service_given net s (left.share quanta longest queue) H = tt

served_given : (net : Net) (i k : ℕ) → GivenAreCurves (served_to net i k)
served_given net i zero = tt
served_given net i (suc k) = tt

cell_given : (net : Net) (kind : Kind) (a b : ℕ) → AreCurves net → GivenAreCurves (formula_of net kind a b)
cell_given net In i zero H = arrival_curve net i H
cell_given net In i (suc k) H = tt
cell_given net Cross i k H = sum_given (map (at_visit In) (others net i (server_of_hop net i k) (queue_of_hop net i k)))
cell_given net Total s q H = total_given net s q (net.version == 2)
cell_given net Higher s q H = sum_given (map (cell_of Total s) (range_with_len 0 q))
cell_given net QueueService s q H = service_given net s (left_of net s q (discipline net s)) H
cell_given net Theta i k H = tt
cell_given net Residual i k H = tt
cell_given net QueueDelay s q H = tt
cell_given net QueueBacklog s q H = tt
cell_given net HopDelay i k H = tt
cell_given net ShiftOut i k H = tt
cell_given net DeconvOut i k H = tt
cell_given net Out i k H = tt
cell_given net PathService i b H = served_given net i (hops net i - 1)
cell_given net Tfa i b H = tt
cell_given net Sfa i b H = tt
cell_given net Bound i b H = tt

-- ---- a front of the order
abbrev pub AllSound : CellTable → List Cell → Type 0
AllSound at cells = (c : Cell) (v : Meaning) → Has cells c → at c ≡ Some v → IsSound v

module _ (net : Net) (order : List ℕ) (at : CellTable) (a : IsAccepted net) (H : AreCurves net) (o : IsOrder net order) where
  next_sound : (front : List Cell) (c : Cell) (back : List Cell) → evaluation_order net order ≡ front ++ c ∷ back → AllSound at front → IsAnswered net at c
      → (v : Meaning) → at c ≡ Some v → IsSound v
  next_sound front c back is all answered v e =
      let both : Some answered.value ≡ Some v = sym answered.is ∙ e in
      let same : answered.value ≡ v = cc in
      subst IsSound same
      (means_sound at (formula net c) [] answered.value (cell_given net c.kind c.a c.b H)
      (λ d w h. all d w (leaf_in_front net order front c back d a o is h)) tt
      (answers_mean at (formula net c) answered.value answered.answers))

  sound_from : (front middle back : List Cell) → evaluation_order net order ≡ front ++ (middle ++ back) → AllSound at front
      → ((c : Cell) → Has middle c → IsAnswered net at c) → AllSound at (front ++ middle)
  sound_from front [] back is all answered = subst (λ (cs : List Cell). AllSound at cs) (sym (append-nil front)) all
  sound_from front (c ∷ cs) back is all answered =
      let here = next_sound front c (cs ++ back) is all (answered c (inl refl)) in
      let grown : AllSound at (front ++ c ∷ []) =
      λ d v h e. elim (has_either front (c ∷ []) d h) [ inl l ↦ all d v l e | inr r ↦ one d v r e here ] in
      subst (λ (ds : List Cell). AllSound at ds) (append_assoc front (c ∷ []) cs)
      (sound_from (front ++ c ∷ []) cs back (is ∙ sym (append_assoc front (c ∷ []) (cs ++ back))) grown (λ d h. answered d (inr h)))
    where
      one : (d : Cell) (v : Meaning) → Has (c ∷ []) d → at d ≡ Some v → ((w : Meaning) → at c ≡ Some w → IsSound w) → IsSound v
      one d v (inl same) e here = here v (ap at same ∙ e)
      one d v (inr bad) e here = absurd bad

  pub front_sound : (before : List Cell) (c : Cell) (after : List Cell) → evaluation_order net order ≡ before ++ c ∷ after → AnswersAll net at before
      → AllSound at before
  front_sound before c after is all =
      sound_from [] before (c ∷ after) is (λ d v h e. absurd h) (λ d h. all d (has_contains before d h))
