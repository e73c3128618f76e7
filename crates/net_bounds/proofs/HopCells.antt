-- What the equations say of the cells of a hop.
use Rattle.std.specs.Prelude.{◌≡◌, ℕ, zero, suc, ◌<◌, ◌+◌, true, nat_lt}
use Rattle.std.proofs.Common.{arith, sym, refl, subst}
use Rattle.std.proofs.lemmas.Bool.{lt-ltb}
use Rattle.rational.specs.Rational.{ℚ, ◌≤ℚ◌}
use Rattle.rational.specs.Extended.{Ext, min_ext}
use Rattle.upp_limits.specs.declared.op_kind.OpKind.TheVariants.{Min, Shift, FifoLeft, Deconvolve}
use Rattle.upp_curve.specs.Curve.{value_at}
use Rattle.min_plus.specs.Functions.{zero_q}
use Rattle.min_plus.specs.Pointwise.{packetised, shifted}
use Rattle.min_plus.specs.Running.{IsFifoLeftover}
use Rattle.min_plus.specs.Convolution.{IsDeconvolution}
use Rattle.min_plus.specs.Deviations.{IsHorizontalDeviation}
use Rattle.curve_call.specs.Answers.{IsMadeBy}
use Rattle.run_laws.specs.Cards.{whole}
use Rattle.net_model.specs.Networks.{Net}
use Rattle.net_cells.specs.declared.cell.Kind.TheVariants.{In, Cross, QueueService, Theta, Residual, QueueDelay, HopDelay, ShiftOut, DeconvOut, Out}
use Rattle.net_cells.specs.Numbered.{packet, arrival, hops, server_of_hop, queue_of_hop}
use Rattle.net_cells.specs.Cells.{cell_of}
use Rattle.net_cells.specs.Meanings.{curve, number, CellTable, IsCurveIn, IsNumberIn}
use Rattle.net_cells.specs.Equations.{MeetsEquations}
use Rattle.net_bounds.specs.TableValues.{HasFunction, HasNumber}
use Rattle.net_bounds.proofs.Cells.{values, size_in, of_values, of_number, curve_from, curve_map, HasValues, made_of_two, same_curve}
use Rattle.net_bounds.proofs.FormulaParts.{deconvolution_same, a_curve, less_reads, deviation_reads}
use Rattle.net_cells.proofs.TableValues.{has_number}

out_cell : (net : Net) (i k : ℕ) → suc k < hops net i → nat_lt (k + 1) (hops net i) ≡ true
out_cell net i k h = lt-ltb (k + 1) (hops net i) (omega (arith, h))

pub out_is : (net : Net) (at : CellTable) (i k : ℕ) → MeetsEquations net at → suc k < hops net i
    → HasFunction at (cell_of Out i k)
    (HasValues (λ t. min_ext (values at (cell_of ShiftOut i k) t) (values at (cell_of DeconvOut i k) t)))
out_is net at i k meets h =
    let e = meets (cell_of Out i k) (out_cell net i k h) in
    curve_from at (cell_of Out i k)
    (HasValues (λ t. min_ext (values at (cell_of ShiftOut i k) t) (values at (cell_of DeconvOut i k) t))) e.value e.is
    (made_of_two at Min (cell_of ShiftOut i k) (cell_of DeconvOut i k) e.value e.means)

pub in_first : (net : Net) (at : CellTable) (i : ℕ) → MeetsEquations net at → 0 < hops net i
    → HasFunction at (cell_of In i 0) (λ f. f ≡ value_at (arrival net i))
in_first net at i meets h =
    let e = meets (cell_of In i 0) (lt-ltb 0 (hops net i) h) in
    curve_from at (cell_of In i 0) (λ f. f ≡ value_at (arrival net i)) e.value e.is
    (subst (IsCurveIn (λ f. value_at f ≡ value_at (arrival net i))) (sym e.means) refl)

pub in_next : (net : Net) (at : CellTable) (i k : ℕ) → MeetsEquations net at → suc k < hops net i
    → HasFunction at (cell_of In i (suc k)) (λ f. f ≡ values at (cell_of Out i k))
in_next net at i k meets h =
    let e = meets (cell_of In i (suc k)) (lt-ltb (suc k) (hops net i) h) in
    let out = out_is net at i k meets h in
    curve_from at (cell_of In i (suc k)) (λ f. f ≡ values at (cell_of Out i k)) e.value e.is
    (same_curve at (cell_of Out i k) e.value record { value = out.value; is = out.is; holds = tt } e.means)

pub in_curve : (net : Net) (at : CellTable) (i k : ℕ) → MeetsEquations net at → k < hops net i
    → HasFunction at (cell_of In i k) a_curve
in_curve net at i zero meets h = let c = in_first net at i meets h in record { value = c.value; is = c.is; holds = tt }
in_curve net at i (suc k) meets h =
    let c = in_next net at i k meets h in record { value = c.value; is = c.is; holds = tt }

pub shift_out_is : (net : Net) (at : CellTable) (i k : ℕ) → MeetsEquations net at → suc k < hops net i
    → HasFunction at (cell_of ShiftOut i k)
    (HasValues (shifted (values at (cell_of In i k)) (size_in at (cell_of HopDelay i k))))
shift_out_is net at i k meets h =
    let e = meets (cell_of ShiftOut i k) (out_cell net i k h) in
    let c = cell_of In i k in
    let d = cell_of HopDelay i k in
    let m = e.means in
    let f = m.operand in
    let x = m.gives.operand in
    curve_from at (cell_of ShiftOut i k) (HasValues (shifted (values at c) (size_in at d))) e.value e.is
    (curve_map (IsMadeBy (Shift x) f f) (λ g. HasValues (shifted (values at c) (size_in at d)) (value_at g)) e.value
    (λ g made t p.
    of_values at c f (λ (a : ℚ → Ext). value_at g t ≡ shifted a (size_in at d) t) m.is
    (of_number at d x (λ (y : Ext). value_at g t ≡ shifted (value_at f) y t) m.gives.is (made.answers t p)))
    m.gives.gives)

pub deconv_out_is : (net : Net) (at : CellTable) (i k : ℕ) → MeetsEquations net at → suc k < hops net i
    → HasFunction at (cell_of DeconvOut i k)
    (λ g. (t : ℚ) → zero_q ≤ℚ t
    → IsDeconvolution (values at (cell_of In i k))
    (packetised (values at (cell_of Residual i k)) (whole (packet net i))) t (g t))
deconv_out_is net at i k meets h =
    let e = meets (cell_of DeconvOut i k) (out_cell net i k h) in
    let c = cell_of In i k in
    let less_one = packetised (values at (cell_of Residual i k)) (whole (packet net i)) in
    let m = e.means in
    let f = m.operand in
    let r = m.gives.operand in
    curve_from at (cell_of DeconvOut i k)
    (λ g. (t : ℚ) → zero_q ≤ℚ t → IsDeconvolution (values at c) less_one t (g t)) e.value e.is
    (curve_map (IsMadeBy Deconvolve f r)
    (λ g. (t : ℚ) → zero_q ≤ℚ t → IsDeconvolution (values at c) less_one t (value_at g t)) e.value
    (λ g made t p.
    of_values at c f (λ (a : ℚ → Ext). IsDeconvolution a less_one t (value_at g t)) m.is
    (deconvolution_same (value_at f) (value_at r) less_one t (value_at g t)
    (less_reads at (cell_of Residual i k) (packet net i) (curve r) m.gives.is) (made.answers t p)))
    m.gives.gives)

pub theta_is : (net : Net) (at : CellTable) (i k : ℕ) → MeetsEquations net at → k < hops net i
    → HasNumber at (cell_of Theta i k)
    (IsHorizontalDeviation (values at (cell_of Cross i k))
    (values at (cell_of QueueService (server_of_hop net i k) (queue_of_hop net i k))))
theta_is net at i k meets h =
    let e = meets (cell_of Theta i k) (lt-ltb k (hops net i) h) in
    let c = cell_of Cross i k in
    let d = cell_of QueueService (server_of_hop net i k) (queue_of_hop net i k) in
    has_number at (cell_of Theta i k) (IsHorizontalDeviation (values at c) (values at d)) e.value e.is
    (deviation_reads at c d IsHorizontalDeviation e.value e.means)

pub residual_is : (net : Net) (at : CellTable) (i k : ℕ) → MeetsEquations net at → k < hops net i
    → HasFunction at (cell_of Residual i k)
    (λ g. (t : ℚ) → zero_q ≤ℚ t
    → IsFifoLeftover (values at (cell_of QueueService (server_of_hop net i k) (queue_of_hop net i k)))
    (values at (cell_of Cross i k))
    (size_in at (cell_of Theta i k)) t (g t))
residual_is net at i k meets h =
    let e = meets (cell_of Residual i k) (lt-ltb k (hops net i) h) in
    let s = cell_of QueueService (server_of_hop net i k) (queue_of_hop net i k) in
    let c = cell_of Cross i k in
    let d = cell_of Theta i k in
    let m = e.means in
    let f = m.operand in
    let o = m.gives.operand in
    let x = m.gives.gives.operand in
    curve_from at (cell_of Residual i k)
    (λ g. (t : ℚ) → zero_q ≤ℚ t → IsFifoLeftover (values at s) (values at c) (size_in at d) t (g t)) e.value e.is
    (curve_map (IsMadeBy (FifoLeft x) f o)
    (λ g. (t : ℚ) → zero_q ≤ℚ t → IsFifoLeftover (values at s) (values at c) (size_in at d) t (value_at g t)) e.value
    (λ g made t p.
    of_values at s f (λ (a : ℚ → Ext). IsFifoLeftover a (values at c) (size_in at d) t (value_at g t)) m.is
    (of_values at c o (λ (b : ℚ → Ext). IsFifoLeftover (value_at f) b (size_in at d) t (value_at g t)) m.gives.is
    (of_number at d x (λ (y : Ext). IsFifoLeftover (value_at f) (value_at o) y t (value_at g t)) m.gives.gives.is
    (made.answers t p))))
    m.gives.gives.gives)

-- the lesser of the queue's delay and the flow's own
pub record IsHopDelay (net : Net) (at : CellTable) (i k : ℕ) (d : Ext) : Type 0 where
  pub own : Ext
  pub is_own : IsHorizontalDeviation (values at (cell_of In i k)) (values at (cell_of Residual i k)) own
  pub is : d ≡ min_ext (size_in at (cell_of QueueDelay (server_of_hop net i k) (queue_of_hop net i k))) own

pub hop_delay_is : (net : Net) (at : CellTable) (i k : ℕ) → MeetsEquations net at → k < hops net i
    → HasNumber at (cell_of HopDelay i k) (IsHopDelay net at i k)
hop_delay_is net at i k meets h =
    let e = meets (cell_of HopDelay i k) (lt-ltb k (hops net i) h) in
    let q = cell_of QueueDelay (server_of_hop net i k) (queue_of_hop net i k) in
    let m = e.means in
    let x = m.operand in
    let y = m.gives.operand in
    let made : IsHopDelay net at i k (min_ext x y) = record {
      own = y;
      is_own = deviation_reads at (cell_of In i k) (cell_of Residual i k) IsHorizontalDeviation (number y) m.gives.is;
      is = of_number at q x (λ (z : Ext). min_ext x y ≡ min_ext z y) m.is refl;
    } in
    has_number at (cell_of HopDelay i k) (IsHopDelay net at i k) e.value e.is
    (subst (IsNumberIn (IsHopDelay net at i k)) (sym m.gives.gives) made)
