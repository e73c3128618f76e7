-- The pieces of a convolution below the end of its call's window: where they stand, and what they read as when they go
-- on.
use Rattle.std.specs.Prelude.{◌≡◌, ◌+◌, pos, List}
use Rattle.std.proofs.Common.{arith, refl, inl}
use Rattle.rational.specs.Rational.{ℚ, ◌+ℚ◌, ◌-ℚ◌, ◌*ℚ◌, ◌≤ℚ◌, ◌<ℚ◌, int}
use Rattle.rational.specs.Extended.{◌<ₑ◌}
use Rattle.rational.proofs.Linear.{with2, with3}
use Rattle.rational.proofs.Laws.{le_of_lt, mul_pos}
use Rattle.rational.proofs.Integers.{nat_lt}
use Rattle.upp_curve.specs.declared.affine_segment.line.Piece.{Piece}
use Rattle.upp_curve.specs.declared.curve.Tail.TheVariants.{Periodic}
use Rattle.upp_curve.specs.affine_segment.Reading.{read}
use Rattle.upp_curve.specs.Curve.{SpecCurve, repeated, value_at}
use Rattle.min_plus.specs.Convolution.{IsConvolution}
use Rattle.min_plus.specs.Functions.{zero_q}
use Rattle.upp_curve.specs.Unrolled.{unroll}
use Rattle.upp_curve.specs.Steady.{rate, rise_over}
use Rattle.upp_limits.specs.Periods.{periods_after}
use Rattle.curve_call.specs.declared.frame.Frame.{Frame}
use Rattle.plain_operators.specs.pointwise.Lattice.{RisesBy}
use Rattle.plain_operators.proofs.pointwise.LatticeCalls.{operands, from_is, some_end}
use Rattle.element_envelope.specs.ConvolutionWindows.{OperandWindows, IsConvolutionWindow}
use Rattle.element_envelope.specs.SumWindows.{SumStart, SumWindow}
use Rattle.element_envelope.specs.Arches.{Arches}
use Rattle.curve_conv.specs.ConvolveCall.{IsConvolveFrame}
use Rattle.curve_conv.proofs.ConvolveAnswers.{convolved_values}

-- the pieces, from when on they repeat, and by how much they rise over a period
pub record IsConvolved (f g : SpecCurve) (r : Frame) (ps : List Piece) (from rise : ℚ) : Type 0 where
  pub frame : IsConvolveFrame f g r
  pub window : IsConvolutionWindow (unroll f r.end) (unroll g r.end) r.end ps
  pub from_is : from ≡ r.end -ℚ r.period
  pub rise_is : RisesBy (rate g <ₑ rate f) (rise_over g r.period) (rise_over f r.period) rise

pub convolved : (f g : SpecCurve) (r : Frame) (ps : List Piece) {from rise : ℚ} → IsConvolveFrame f g r
    → IsConvolutionWindow (unroll f r.end) (unroll g r.end) r.end ps → from ≡ r.end -ℚ r.period
    → RisesBy (rate g <ₑ rate f) (rise_over g r.period) (rise_over f r.period) rise → IsConvolved f g r ps from rise
convolved f g r ps frame window from_is rise_is =
    record { frame = frame; window = window; from_is = from_is; rise_is = rise_is }

-- ---- where they stand
module _ (f g : SpecCurve) (r : Frame) (F : IsConvolveFrame f g r) where
  windows_of : OperandWindows r.end (unroll f r.end) (unroll g r.end)
  windows_of =
      let A = operands f g r.start r.period r.end (F.number + 1) F.sizes (unroll f r.end) (unroll g r.end) F.call refl
      refl in
      record {
        sizes = F.sizes;
        limited = F.call.limited;
        some = some_end f g r.start r.period r.end (F.number + 1) F.sizes F.call;
        left = A.left;
        right = A.right;
      }

  pub stands_of : (ps : List Piece) → IsConvolutionWindow (unroll f r.end) (unroll g r.end) r.end ps
      → SumWindow F.sizes r.end ps
  unfolding windows_of
  stands_of ps M = M.stands windows_of

  pub arches_of : (ps : List Piece) → IsConvolutionWindow (unroll f r.end) (unroll g r.end) r.end ps
      → Arches F.sizes.dt r.end (read ps)
  unfolding windows_of
  arches_of ps M = M.arches windows_of

  -- ---- their times
  pub from_past : r.end -ℚ r.period ≡ periods_after r.start (F.number + 1) r.period → zero_q <ℚ r.end -ℚ r.period
  from_past e =
      let k = F.number + 1 in
      let low = F.call.nonneg in
      let run : zero_q <ℚ int (pos k) *ℚ r.period = mul_pos (nat_lt 0 k (omega arith)) F.call.above in
      at (r.end -ℚ r.period) r.start (int (pos k) *ℚ r.period) e low run
    where
      at : (x s y : ℚ) → x ≡ s +ℚ y → zero_q ≤ℚ s → zero_q <ℚ y → zero_q <ℚ x
      at x s y e a b = with3 x s y (λ c. omega (arith, c.le, c.lt, c.same))

  pub from_some : zero_q <ℚ r.end -ℚ r.period
  from_some = from_past (from_is f g r.start r.period r.end (F.number + 1) F.sizes F.call)

  pub period_in : r.period <ℚ r.end
  period_in = at r.end r.period from_some
    where
      at : (e p : ℚ) → zero_q <ℚ e -ℚ p → p <ℚ e
      at e p h = with2 e p (λ c. omega (arith, c.le, c.lt, c.same))

  pub period_start : SumStart F.sizes r.end r.period
  period_start = record { place = inl F.call.period_whole; nonneg = le_of_lt F.call.above; before = period_in }

-- ---- what they read as
pub convolved_at : (f g : SpecCurve) (r : Frame) (ps : List Piece) (from rise : ℚ) → IsConvolved f g r ps from rise
    → (t : ℚ) → zero_q ≤ℚ t → IsConvolution (value_at f) (value_at g) t (repeated (read ps) from r.period rise t)
unfolding value_at
convolved_at f g r ps from rise C t n =
    convolved_values f g r (unroll f r.end) (unroll g r.end) ps from rise record
    { pieces = ps; tail = Periodic from r.period rise }
    C.frame refl refl C.window C.from_is C.rise_is (λ u m. refl) t n
