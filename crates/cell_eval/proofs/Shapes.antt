-- The shapes of curves and numbers that meet their equations: by the number of the hop, since a network may have a cycle.
use Rattle.std.proofs.Common.{◌≡◌, ℕ, zero, suc, ◌<◌, ◌≤◌, ◌-◌, List, [], ◌∷◌, ◌++◌, length, map, refl, sym, ap, ◌∙◌, subst, arith, inl, inr}
use Rattle.std.specs.Prelude.{◌==◌, Bool, true, false, Option, None, Some, slice_get}
use Rattle.std.specs.List.{range_with_len}
use Rattle.std.proofs.lemmas.Bool.{cases_lt}
use Rattle.std.proofs.lemmas.List.{get_or_default, get_or_past}
use Rattle.std.proofs.lemmas.Option.{slice_get_within, get_or_from_slice_get}
use Rattle.rational.specs.Rational.{ℚ, ◌≤ℚ◌}
use Rattle.rational.specs.Extended.{min_ext}
use Rattle.rational.specs.declared.Extended.TheVariants.{Fin}
use Rattle.rational.proofs.ExtendedOrder.{min_greatest}
use Rattle.rational.proofs.Laws.{le_refl, le_of_lt}
use Rattle.upp_limits.specs.declared.op_kind.OpKind.TheVariants.{Sum, Min, PosMinus, Shift, FifoLeft, Convolve, Deconvolve}
use Rattle.upp_curve.specs.Curve.{SpecCurve, value_at}
use Rattle.upp_curve.specs.Kinds.{bucket}
use Rattle.min_plus.specs.Functions.{IsNonneg, zero_q}
use Rattle.min_plus.specs.Deviations.{IsHorizontalDeviation}
use Rattle.min_plus.proofs.DeviationSigns.{horizontals_are_nonnegative}
use Rattle.run_laws.specs.Cards.{whole}
use Rattle.run_laws.specs.Servers.{queue_count}
use Rattle.run_laws.proofs.Sizes.{whole_nonneg}
use Rattle.curve_call.specs.Answers.{IsMadeBy}
use Rattle.curve_call.proofs.GrowingAnswers.{grown, growing_answers}
use Rattle.residuals.proofs.fifo.FifoGrowth as fifo
use Rattle.residuals.specs.left.Left.{Left, all, above, share, EachBefore, IsFit}
use Rattle.residuals.proofs.left.Laws.{grows as left_grows}
use Rattle.net_model.specs.Networks.{Net, NetServer, NetFlow}
use Rattle.net_model.specs.Accepted.{IsAccepted, IsServer, HasFewQueues}
use Rattle.net_model.proofs.KindsStand.{kinds_may_stand}
use Rattle.net_cells.specs.declared.cell.Cell.{Cell}
use Rattle.net_cells.specs.declared.cell.Kind.TheVariants.{In, Cross, Total, Higher, QueueService, Theta, Residual, QueueDelay, HopDelay, ShiftOut, DeconvOut, Out, PathService}
use Rattle.net_cells.specs.Numbered.{flow_at, arrival, arrival_of, hops, server_of_hop, queue_of_hop, queues, service, service_of, rate, rate_of, discipline, discipline_of, packet}
use Rattle.net_cells.specs.declared.visit.Visit.{Visit}
use Rattle.net_cells.specs.Visits.{visits_in, others, longest_of}
use Rattle.net_cells.specs.QueueParts.{in_part, part_numbers, by_parts}
use Rattle.net_cells.specs.Cells.{cell_of}
use Rattle.net_cells.specs.Left.{left_of}
use Rattle.net_cells.specs.Order.{at_visit}
use Rattle.net_cells.specs.Meanings.{Meaning, curve, number, CellTable, IsCurveIn, IsNumberIn}
use Rattle.net_cells.specs.Formulas.{Formula, leaves, made, value_of, horizontal}
use Rattle.net_cells.specs.CellFormulas.{formula, part_sum, with_part, parts_sum, total, sum_of_cells, sum_from, left_formula, packets_to, served_to, less, service_at, value}
use Rattle.net_cells.specs.Means.{Means, MeansFrom, IsSumOnto, IsSumOf}
use Rattle.net_cells.proofs.Lists.{map_has, has_map, has_left, has_right}
use Rattle.net_cells.proofs.LeavesOf.{parts_leaves}
use Rattle.net_cells.proofs.LeftOf.{before_is, left_fits}
use Rattle.net_cells.proofs.Stored.{server_kept}
use Rattle.net_cells.proofs.Members.{hop_kept}
use Rattle.cell_numbers.specs.Shapes.{Rises, Serving, Grows}
use Rattle.cell_numbers.specs.TableValues.{HasCurve, HasNumber}
use Rattle.cell_numbers.proofs.OnCells.{curve_holds}
use Rattle.cell_eval.proofs.Rises.{sum_rises, min_rises, shift_rises, deconvolution_rises, grows_served, priority_served}
use Rattle.cell_eval.proofs.Meeting.{Meets, curve_from, number_from, has_curve, has_number, number_holds, sum_leaf, served_leaf}
use Rattle.run_laws.proofs.Members.{Has}

-- ---- numbers that are deviations
deviation_ahead : (at : CellTable) (F G : Formula) (v : Meaning) → Means at (horizontal F G) v → IsNumberIn IsNonneg v
deviation_ahead at F G v m =
    let x = number_from (IsHorizontalDeviation (value_at m.operand) (value_at m.gives.operand)) v m.gives.gives in
    subst (IsNumberIn IsNonneg) (sym x.1) (horizontals_are_nonnegative (value_at m.operand) (value_at m.gives.operand) x.0 x.2)

module _ (net : Net) (at : CellTable) (P : Cell → Type 0) (meets : Meets net at P) where
  pub theta_ahead : (i k : ℕ) → P (cell_of Theta i k) → HasNumber at (cell_of Theta i k) IsNonneg
  theta_ahead i k p =
      let e = meets.meet (cell_of Theta i k) p in
      has_number at (cell_of Theta i k) IsNonneg e.value e.is
      (deviation_ahead at (value Cross i k) (service_at net i k) e.value e.means)

  pub queue_delay_ahead : (s q : ℕ) → P (cell_of QueueDelay s q) → HasNumber at (cell_of QueueDelay s q) IsNonneg
  queue_delay_ahead s q p =
      let e = meets.meet (cell_of QueueDelay s q) p in
      has_number at (cell_of QueueDelay s q) IsNonneg e.value e.is
      (deviation_ahead at (value Total s q) (value QueueService s q) e.value e.means)

  pub hop_delay_ahead : (i k : ℕ) → P (cell_of HopDelay i k) → HasNumber at (cell_of HopDelay i k) IsNonneg
  hop_delay_ahead i k p =
      let e = meets.meet (cell_of HopDelay i k) p in
      let queue = cell_of QueueDelay (server_of_hop net i k) (queue_of_hop net i k) in
      let first = number_holds at queue IsNonneg e.means.operand
      (queue_delay_ahead (server_of_hop net i k) (queue_of_hop net i k) (meets.closed (cell_of HopDelay i k) queue p (inl refl))) e.means.is in
      let own = deviation_ahead at (value In i k) (value Residual i k) (number e.means.gives.operand) e.means.gives.is in
      record {
        value = min_ext e.means.operand e.means.gives.operand;
        is = e.is ∙ ap Some e.means.gives.gives;
        holds = min_greatest e.means.operand e.means.gives.operand (Fin zero_q) first own;
      }

-- ---- arrivals
arrival_there : (net : Net) (i : ℕ) (o : Option NetFlow) → IsAccepted net → flow_at net i ≡ o → Rises (arrival_of o)
arrival_there net i None a e = (kinds_may_stand.bucket zero_q zero_q (le_refl zero_q) (le_refl zero_q)).rising
arrival_there net i (Some f) a e =
    elim (cases_lt i (length net.flows)) [
      | inl l ↦ (a.flows f (i, l, get_or_default net.flows i (Some f) None l ∙ e)).arrival.rising
      | inr l ↦ absurd (let bad : None ≡ Some f = sym (get_or_past net.flows i None l) ∙ e in cc)
    ]

pub arrival_rises : (net : Net) (i : ℕ) → IsAccepted net → Rises (arrival net i)
arrival_rises net i a = arrival_there net i (flow_at net i) a refl

module _ (net : Net) (at : CellTable) (P : Cell → Type 0) (meets : Meets net at P) where
  shift_out_rises : (i k : ℕ) → HasCurve at (cell_of In i k) Rises → P (cell_of ShiftOut i k) → HasCurve at (cell_of ShiftOut i k) Rises
  shift_out_rises i k before p =
      let e = meets.meet (cell_of ShiftOut i k) p in
      let f = e.means.operand in
      let x = e.means.gives.operand in
      let h = curve_from (IsMadeBy (Shift x) f f) e.value e.means.gives.gives in
      let ahead = number_holds at (cell_of HopDelay i k) IsNonneg x
      (hop_delay_ahead net at P meets i k (meets.closed (cell_of ShiftOut i k) (cell_of HopDelay i k) p (inr (inl refl)))) e.means.gives.is in
      record {
        value = h.0;
        is = e.is ∙ ap Some h.1;
        holds = shift_rises f h.0 x ahead (curve_holds at (cell_of In i k) Rises f before e.means.is) h.2;
      }

  deconv_out_rises : (i k : ℕ) → HasCurve at (cell_of In i k) Rises → P (cell_of DeconvOut i k) → HasCurve at (cell_of DeconvOut i k) Rises
  deconv_out_rises i k before p =
      let e = meets.meet (cell_of DeconvOut i k) p in
      let f = e.means.operand in
      let g = e.means.gives.operand in
      let h = curve_from (IsMadeBy Deconvolve f g) e.value e.means.gives.gives in
      record {
        value = h.0;
        is = e.is ∙ ap Some h.1;
        holds = deconvolution_rises f g h.0 (curve_holds at (cell_of In i k) Rises f before e.means.is) h.2;
      }

  out_rises : (i k : ℕ) → (P (cell_of In i k) → HasCurve at (cell_of In i k) Rises) → P (cell_of Out i k) → HasCurve at (cell_of Out i k) Rises
  out_rises i k before p =
      let e = meets.meet (cell_of Out i k) p in
      let f = e.means.operand in
      let g = e.means.gives.operand in
      let h = curve_from (IsMadeBy Min f g) e.value e.means.gives.gives in
      let shifted = meets.closed (cell_of Out i k) (cell_of ShiftOut i k) p (inl refl) in
      let spread = meets.closed (cell_of Out i k) (cell_of DeconvOut i k) p (inr (inl refl)) in
      let comes = before (meets.closed (cell_of ShiftOut i k) (cell_of In i k) shifted (inl refl)) in
      record {
        value = h.0;
        is = e.is ∙ ap Some h.1;
        holds = min_rises f g h.0 (curve_holds at (cell_of ShiftOut i k) Rises f (shift_out_rises i k comes shifted) e.means.is)
            (curve_holds at (cell_of DeconvOut i k) Rises g (deconv_out_rises i k comes spread) e.means.gives.is) h.2;
      }

  -- with what curve a flow comes to a hop
  pub in_rises : IsAccepted net → (k i : ℕ) → P (cell_of In i k) → HasCurve at (cell_of In i k) Rises
  in_rises a zero i p =
      let e = meets.meet (cell_of In i 0) p in
      record { value = arrival net i; is = e.is ∙ ap Some e.means; holds = arrival_rises net i a }
  in_rises a (suc k) i p =
      let e = meets.meet (cell_of In i (suc k)) p in
      let out = out_rises i k (in_rises a k i) (meets.closed (cell_of In i (suc k)) (cell_of Out i k) p (inl refl)) in
      record { value = out.value; is = e.is ∙ sym e.means ∙ out.is; holds = out.holds }

-- ---- sums
sum_from_rises : (at : CellTable) (F : Formula) (cs : List Cell) (v : Meaning)
    → ((w : Meaning) → Means at F w → IsCurveIn Rises w) → ((c : Cell) → Has cs c → HasCurve at c Rises)
    → Means at (sum_from F cs) v → IsCurveIn Rises v
sum_from_rises at F [] v first each m = first v m
sum_from_rises at F (c ∷ cs) v first each m =
    sum_from_rises at (made Sum F (value_of c)) cs v next (λ d h. each d (inr h)) m
  where
    next : (w : Meaning) → Means at (made Sum F (value_of c)) w → IsCurveIn Rises w
    next w n =
        let h = curve_from (IsMadeBy Sum n.operand n.gives.operand) w n.gives.gives in
        subst (IsCurveIn Rises) (sym h.1) (sum_rises n.operand n.gives.operand h.0 (first (curve n.operand) n.is)
        (curve_holds at c Rises n.gives.operand (each c (inl refl)) n.gives.is) h.2)

sum_of_rises : (at : CellTable) (cs : List Cell) (v : Meaning) → ((c : Cell) → Has cs c → HasCurve at c Rises)
    → Means at (sum_of_cells cs) v → IsCurveIn Rises v
sum_of_rises at [] v each m =
    subst (IsCurveIn Rises) (sym m) (kinds_may_stand.bucket zero_q zero_q (le_refl zero_q) (le_refl zero_q)).rising
sum_of_rises at (c ∷ cs) v each m = sum_from_rises at (value_of c) cs v first (λ d h. each d (inr h)) m
  where
    first : (w : Meaning) → at c ≡ Some w → IsCurveIn Rises w
    first w is =
        let has = each c (inl refl) in
        let both : Some (curve has.value) ≡ Some w = sym has.is ∙ is in
        let same : curve has.value ≡ w = cc in
        subst (IsCurveIn Rises) same has.holds

-- ---- sums of parts
AllRise : List SpecCurve → Type 0
AllRise [] = Unit {0}
AllRise (f ∷ fs) = Rises f × AllRise fs

rise_push : (fs : List SpecCurve) (f : SpecCurve) → AllRise fs → Rises f → AllRise (fs ++ f ∷ [])
unfolding AllRise
rise_push [] f h k = (k, tt)
rise_push (g ∷ fs) f h k = (h.0, rise_push fs f h.1 k)

sum_onto_rises : (f : SpecCurve) (gs : List SpecCurve) (v : Meaning) → Rises f → AllRise gs → IsSumOnto f gs v → IsCurveIn Rises v
unfolding AllRise
sum_onto_rises f [] v h k m = subst (IsCurveIn Rises) (sym m) h
sum_onto_rises f (g ∷ gs) v h k m = sum_onto_rises m.operand gs v (sum_rises f g m.operand h k.0 m.is) k.1 m.gives

bucket_rises : (burst rate : ℚ) → zero_q ≤ℚ burst → zero_q ≤ℚ rate → Rises (bucket burst rate)
bucket_rises burst rate h k = (kinds_may_stand.bucket burst rate h k).rising

made_rise : (at : CellTable) (fs : List SpecCurve) (v : Meaning) → AllRise fs → IsSumOf fs v → IsCurveIn Rises v
unfolding AllRise
made_rise at [] v h m = subst (IsCurveIn Rises) (sym m) (bucket_rises zero_q zero_q (le_refl zero_q) (le_refl zero_q))
made_rise at (f ∷ fs) v h m = sum_onto_rises f fs v h.0 h.1 m

rate_there : (net : Net) (p : ℕ) (o : Option NetServer) → IsAccepted net → slice_get net.servers p ≡ o → zero_q ≤ℚ rate_of o
rate_there net p None a e = le_refl zero_q
rate_there net p (Some x) a e = le_of_lt (server_kept net p x a e).rate

part_rises : (net : Net) (at : CellTable) (k : ℕ) (vs : List Visit) (w : Meaning) → IsAccepted net
    → ((c : Cell) → Has (map (at_visit In) vs) c → HasCurve at c Rises) → Means at (part_sum net k vs) w → IsCurveIn Rises w
part_rises net at zero vs w a each m = sum_of_rises at (map (at_visit In) vs) w each m
part_rises net at (suc p) vs w a each m =
    let g = m.operand in
    let B = bucket (whole (longest_of net vs)) (rate net p) in
    let h = curve_from (IsMadeBy Min g B) w m.gives in
    subst (IsCurveIn Rises) (sym h.1)
    (min_rises g B h.0 (sum_of_rises at (map (at_visit In) vs) (curve g) each m.is)
    (bucket_rises (whole (longest_of net vs)) (rate net p) (whole_nonneg (longest_of net vs)) (rate_there net p (slice_get net.servers p) a refl)) h.2)

parts_rise : (net : Net) (at : CellTable) (s q : ℕ) (ks : List ℕ) (fs : List SpecCurve) (v : Meaning) → IsAccepted net → AllRise fs
    → ((u : Visit) → Has (by_parts net s q ks) u → HasCurve at (at_visit In u) Rises) → MeansFrom at (parts_sum net s q ks) fs v
    → IsCurveIn Rises v
parts_rise net at s q [] fs v a h each m = made_rise at fs v h m
parts_rise net at s q (k ∷ ks) fs v a h each m =
    one (in_part net s q k) (λ u l. each u (has_left (in_part net s q k) (by_parts net s q ks) u l))
    (λ gs h n. parts_rise net at s q ks gs v a h (λ u l. each u (has_right (in_part net s q k) (by_parts net s q ks) u l)) n) m
  where
    one : (vs : List Visit) → ((u : Visit) → Has vs u → HasCurve at (at_visit In u) Rises)
        → ((gs : List SpecCurve) → AllRise gs → MeansFrom at (parts_sum net s q ks) gs v → IsCurveIn Rises v)
        → MeansFrom at (with_part net k vs (parts_sum net s q ks)) fs v → IsCurveIn Rises v
    one [] here rest n = rest fs h n
    one (u ∷ vs) here rest n =
        let own = part_rises net at k (u ∷ vs) (curve n.operand) a
        (λ d l. let w = map_has (at_visit In) (u ∷ vs) d l in subst (λ (x : Cell). HasCurve at x Rises) w.2 (here w.0 w.1)) n.is in
        rest (fs ++ n.operand ∷ []) (rise_push fs n.operand h own) n.gives

total_made : (net : Net) (at : CellTable) (s q : ℕ) (by_links : Bool) (v : Meaning) → IsAccepted net
    → ((u : Visit) → Has (leaves (total by_links net s q)) (at_visit In u) → HasCurve at (at_visit In u) Rises)
    → Means at (total by_links net s q) v → IsCurveIn Rises v
unfolding AllRise
total_made net at s q false v a come m =
    let cells = map (at_visit In) (visits_in net s q) in
    sum_of_rises at cells v
    (λ d h.
    let w = map_has (at_visit In) (visits_in net s q) d h in
    subst (λ (x : Cell). HasCurve at x Rises) w.2 (come w.0 (subst (Has (leaves (total false net s q))) (sym w.2) (sum_leaf cells d h)))) m
total_made net at s q true v a come m =
    parts_rise net at s q (part_numbers net) [] v a tt
    (λ u h. come u (subst (λ (cs : List Cell). Has cs (at_visit In u)) (sym (parts_leaves net s q (part_numbers net))) (has_map (at_visit In) (by_parts net s q (part_numbers net)) u h))) m

module _ (net : Net) (at : CellTable) (P : Cell → Type 0) (meets : Meets net at P) (a : IsAccepted net) where
  -- a cell that is a sum of cells which rise
  sum_cell : (c : Cell) (cs : List Cell) → formula net c ≡ sum_of_cells cs → P c → ((d : Cell) → Has cs d → P d → HasCurve at d Rises) → HasCurve at c Rises
  sum_cell c cs is p each =
      let e = meets.meet c p in
      has_curve at c Rises e.value e.is
      (sum_of_rises at cs e.value
      (λ d h. each d h (meets.closed c d p (subst (λ (F : Formula). Has (leaves F) d) (sym is) (sum_leaf cs d h))))
      (subst (λ (F : Formula). Means at F e.value) is e.means))

  pub cross_rises : (i k : ℕ) → P (cell_of Cross i k) → HasCurve at (cell_of Cross i k) Rises
  cross_rises i k p =
      sum_cell (cell_of Cross i k) (map (at_visit In) (others net i (server_of_hop net i k) (queue_of_hop net i k))) refl p
      (λ d h q.
      let v = map_has (at_visit In) (others net i (server_of_hop net i k) (queue_of_hop net i k)) d h in
      subst (λ (x : Cell). HasCurve at x Rises) v.2 (in_rises net at P meets a v.0.hop v.0.flow (subst P (sym v.2) q)))

  pub total_rises : (s q : ℕ) → P (cell_of Total s q) → HasCurve at (cell_of Total s q) Rises
  total_rises s q p =
      let e = meets.meet (cell_of Total s q) p in
      has_curve at (cell_of Total s q) Rises e.value e.is
      (total_made net at s q (net.version == 2) e.value a
      (λ u h. in_rises net at P meets a u.hop u.flow (meets.closed (cell_of Total s q) (at_visit In u) p h)) e.means)

  pub higher_rises : (s q : ℕ) → P (cell_of Higher s q) → HasCurve at (cell_of Higher s q) Rises
  higher_rises s q p =
      sum_cell (cell_of Higher s q) (map (cell_of Total s) (range_with_len 0 q)) refl p
      (λ d h r.
      let v = map_has (cell_of Total s) (range_with_len 0 q) d h in
      subst (λ (x : Cell). HasCurve at x Rises) v.2 (total_rises s v.0 (subst P (sym v.2) r)))

-- ---- services of queues
pub record IsServerAt (net : Net) (s : ℕ) : Type 0 where
  pub server : NetServer
  pub is : slice_get net.servers s ≡ Some server
  pub kept : IsServer server

server_found : (net : Net) (s q : ℕ) (o : Option NetServer) → IsAccepted net → slice_get net.servers s ≡ o
    → q < queue_count (discipline_of o) → IsServerAt net s
server_found net s q None a e h = absurd (omega (arith, h))
server_found net s q (Some server) a e h = record {
  server = server;
  is = e;
  kept = a.servers server (s, slice_get_within net.servers s server e, get_or_from_slice_get net.servers s server server e);
}

pub server_there : (net : Net) (s q : ℕ) → IsAccepted net → q < queues net s → IsServerAt net s
server_there net s q a h = server_found net s q (slice_get net.servers s) a refl h

pub service_grows : (net : Net) (s : ℕ) → IsServerAt net s → Grows (service net s)
service_grows net s it =
    let c = it.kept.service in
    subst (λ (o : Option NetServer). Grows (service_of o)) (sym it.is)
    (grown (value_at it.server.service) c.finite c.at_zero c.rising)

pub few_queues : (net : Net) (s : ℕ) → IsServerAt net s → HasFewQueues (discipline net s)
few_queues net s it = subst (λ (o : Option NetServer). HasFewQueues (discipline_of o)) (sym it.is) it.kept.queues

module _ (net : Net) (at : CellTable) (P : Cell → Type 0) (meets : Meets net at P) (a : IsAccepted net) where
  -- by what is left to the queue
  queue_served_by : (s : ℕ) (l : Left Cell) (v : Meaning) → IsServerAt net s → IsFit l → EachBefore (λ c. HasCurve at c Rises) l
      → Means at (left_formula (service net s) l) v → IsCurveIn Serving v
  queue_served_by s all v it fit rise m =
      subst (IsCurveIn Serving) (sym m) (grows_served (value_at (service net s)) (service_grows net s it))
  queue_served_by s (above before lower) v it fit rise m =
      let made = curve_from _ v m.gives in
      let rising = curve_holds at before Rises m.operand rise m.is in
      subst (IsCurveIn Serving) (sym made.1)
      (priority_served (value_at (service net s)) (value_at m.operand) (value_at made.0) lower
      (grows_served (value_at (service net s)) (service_grows net s it)) rising made.2.serves)
  queue_served_by s (share quanta longest queue) v it fit rise m =
      let made = curve_from _ v m in
      subst (IsCurveIn Serving) (sym made.1)
      (grows_served (value_at made.0)
      (left_grows (share quanta longest queue) (value_at (service net s)) (value_at made.0) (service_grows net s it) tt fit made.2.serves))

  pub queue_served : (s q : ℕ) → q < queues net s → P (cell_of QueueService s q) → HasCurve at (cell_of QueueService s q) Serving
  queue_served s q h p =
      let e = meets.meet (cell_of QueueService s q) p in
      let d = discipline net s in
      let it = server_there net s q a h in
      let rise = before_is net s q (service net s) d (λ c. HasCurve at c Rises) (λ leaf.
      higher_rises net at P meets a s q (meets.closed (cell_of QueueService s q) (cell_of Higher s q) p leaf)) in
      has_curve at (cell_of QueueService s q) Serving e.value e.is
      (queue_served_by s (left_of net s q d) e.value it (left_fits net s q d (few_queues net s it) h) rise e.means)

  queue_exists : (i k : ℕ) → k < hops net i → queue_of_hop net i k < queues net (server_of_hop net i k)
  queue_exists i k h =
      let hop = hop_kept net i k a h in
      subst (λ (o : Option NetServer). queue_of_hop net i k < queue_count (discipline_of o)) (sym hop.is) hop.has_queue

  -- the service of a hop's queue
  pub hop_served : (i k : ℕ) → k < hops net i → P (cell_of QueueService (server_of_hop net i k) (queue_of_hop net i k))
      → HasCurve at (cell_of QueueService (server_of_hop net i k) (queue_of_hop net i k)) Serving
  hop_served i k h p = queue_served (server_of_hop net i k) (queue_of_hop net i k) (queue_exists i k h) p

  -- ---- services of flows
  pub residual_grows : (i k : ℕ) → k < hops net i → P (cell_of Residual i k) → HasCurve at (cell_of Residual i k) Grows
  residual_grows i k h p =
      let e = meets.meet (cell_of Residual i k) p in
      let queue = cell_of QueueService (server_of_hop net i k) (queue_of_hop net i k) in
      let β = e.means.operand in
      let cross = e.means.gives.operand in
      let x = e.means.gives.gives.operand in
      let made = curve_from (IsMadeBy (FifoLeft x) β cross) e.value e.means.gives.gives.gives in
      let ahead = number_holds at (cell_of Theta i k) IsNonneg x
      (theta_ahead net at P meets i k (meets.closed (cell_of Residual i k) (cell_of Theta i k) p (inr (inr (inl refl))))) e.means.gives.gives.is in
      let served = curve_holds at queue Serving β (hop_served i k h (meets.closed (cell_of Residual i k) queue p (inl refl))) e.means.is in
      record {
        value = made.0;
        is = e.is ∙ ap Some made.1;
        holds = fifo.service_grows (value_at β) (value_at cross) (value_at made.0) x ahead served.finite made.2.answers;
      }

-- ---- services along a path
less_grows : (at : CellTable) (F : Formula) (bits : ℕ) (v : Meaning) → ((w : Meaning) → Means at F w → IsCurveIn Grows w)
    → Means at (less F bits) v → IsCurveIn Grows v
less_grows at F bits v first m =
    let made = curve_from (IsMadeBy (PosMinus (whole bits)) m.operand m.operand) v m.gives in
    subst (IsCurveIn Grows) (sym made.1)
    (growing_answers (PosMinus (whole bits)) (value_at m.operand) (value_at m.operand) (value_at made.0)
    (whole_nonneg bits, first (curve m.operand) m.is) made.2.answers)

joined_grows : (at : CellTable) (F G : Formula) (v : Meaning) → ((w : Meaning) → Means at F w → IsCurveIn Grows w)
    → ((w : Meaning) → Means at G w → IsCurveIn Grows w) → Means at (made Convolve F G) v → IsCurveIn Grows v
joined_grows at F G v first second m =
    let f = m.operand in
    let g = m.gives.operand in
    let h = curve_from (IsMadeBy Convolve f g) v m.gives.gives in
    subst (IsCurveIn Grows) (sym h.1)
    (growing_answers Convolve (value_at f) (value_at g) (value_at h.0) (first (curve f) m.is, second (curve g) m.gives.is) h.2.answers)

value_grows : (at : CellTable) (c : Cell) → HasCurve at c Grows → (w : Meaning) → at c ≡ Some w → IsCurveIn Grows w
value_grows at c has w is =
    let both : Some (curve has.value) ≡ Some w = sym has.is ∙ is in
    let same : curve has.value ≡ w = cc in
    subst (IsCurveIn Grows) same has.holds

packets_grow : (net : Net) (at : CellTable) (i k : ℕ) → ((j : ℕ) → j ≤ k → HasCurve at (cell_of Residual i j) Grows) → (v : Meaning)
    → Means at (packets_to net i k) v → IsCurveIn Grows v
packets_grow net at i zero each v m =
    less_grows at (value Residual i 0) (packet net i) v (value_grows at (cell_of Residual i 0) (each 0 (omega arith))) m
packets_grow net at i (suc k) each v m =
    joined_grows at (packets_to net i k) (less (value Residual i (suc k)) (packet net i)) v
    (packets_grow net at i k (λ j h. each j (omega arith)))
    (λ w n. less_grows at (value Residual i (suc k)) (packet net i) w (value_grows at (cell_of Residual i (suc k)) (each (suc k) (omega arith))) n) m

served_grows : (net : Net) (at : CellTable) (i k : ℕ) → ((j : ℕ) → j ≤ k → HasCurve at (cell_of Residual i j) Grows) → (v : Meaning)
    → Means at (served_to net i k) v → IsCurveIn Grows v
served_grows net at i zero each v m = value_grows at (cell_of Residual i 0) (each 0 (omega arith)) v m
served_grows net at i (suc k) each v m =
    joined_grows at (packets_to net i k) (value Residual i (suc k)) v (packets_grow net at i k (λ j h. each j (omega arith)))
    (value_grows at (cell_of Residual i (suc k)) (each (suc k) (omega arith))) m

module _ (net : Net) (at : CellTable) (P : Cell → Type 0) (meets : Meets net at P) (a : IsAccepted net) where
  pub path_grows : (i b : ℕ) → 0 < hops net i → P (cell_of PathService i b) → HasCurve at (cell_of PathService i b) Grows
  path_grows i b some p =
      let e = meets.meet (cell_of PathService i b) p in
      has_curve at (cell_of PathService i b) Grows e.value e.is
      (served_grows net at i (hops net i - 1)
      (λ j h. residual_grows net at P meets a i j (omega arith)
      (meets.closed (cell_of PathService i b) (cell_of Residual i j) p (served_leaf net i (hops net i - 1) j h))) e.value e.means)
