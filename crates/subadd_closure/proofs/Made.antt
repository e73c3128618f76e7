-- What the two ways of setting the value at 0 of a convolution's window answer.
use Rattle.std.specs.Prelude.{◌≡◌, ℕ, ◌*◌, pos, List, Ok}
use Prim.Native.Nat.{◌∣◌}
use native.Mathlib.Nat.{dvd-mul_left, dvd_refl, mul-dvd-mul_right}
use Rattle.std.proofs.Common.{arith, sym, refl, ◌∙◌, subst, inl, inr}
use Rattle.rational.specs.Rational.{ℚ, neg_ℚ, ◌+ℚ◌, ◌-ℚ◌, ◌*ℚ◌, ◌≤ℚ◌, ◌<ℚ◌, int}
use Rattle.rational.specs.Extended.{Ext, ◌+ₑ◌}
use Rattle.rational.specs.Grid.{Whole}
use Rattle.rational.specs.declared.Extended.TheVariants.{Fin, Inf}
use Rattle.rational.proofs.Bounds.{infimum_unique}
use Rattle.rational.proofs.Grid.{whole_sub, whole_neg, whole_weaken, within_nonneg, within_neg, within_weaken}
use Rattle.rational.proofs.Laws.{le_refl, le_of_lt, le_trans}
use Rattle.rational.proofs.Linear.{with2, with3}
use Rattle.upp_curve.specs.declared.affine_segment.line.Piece.{Piece}
use Rattle.upp_limits.specs.declared.op_kind.OpKind.TheVariants.{Convolve}
use Rattle.min_plus.specs.Convolution.{IsConvolution, Split}
use Rattle.upp_curve.specs.Curve.{SpecCurve, value_at, repeated}
use Rattle.upp_curve.specs.Curves.{IsCurve}
use Rattle.upp_curve.specs.affine_segment.Fits.{ReadFits}
use Rattle.min_plus.specs.Functions.{zero_q, IsNonnegative}
use Rattle.upp_limits.specs.Limits.{Sizes}
use Rattle.upp_curve.specs.affine_segment.Pieces.{StartsAtZero}
use Rattle.upp_curve.specs.Normal.{IsNormal}
use Rattle.upp_normal.specs.Normalising.{HasValues}
use Rattle.upp_normal.specs.Operand.{answer_room}
use Rattle.upp_curve.specs.Readable.{SumFitsAt}
use Rattle.upp_curve.specs.affine_segment.Reading.{read}
use Rattle.upp_normal.specs.Room.{ValueHasRoom}
use Rattle.upp_limits.specs.Sized.{grid_of, times_largest}
use Rattle.upp_curve.specs.Steady.{Repeats}
use Rattle.upp_normal.proofs.AnswerRoom.{answer_is_room, room_at_start, largest_room, value_in_room}
use Rattle.upp_normal.proofs.NormaliseRoom.{at_fits}
use Rattle.upp_normal.proofs.NormaliseRoomy.{read_fits}
use Rattle.upp_curve.proofs.Repeats.{repeated_first, repeated_rule}
use Rattle.element_envelope.specs.SumWindows.{SumValueAt}
use Rattle.element_envelope.proofs.SumRoom.{pieces_room}
use Rattle.element_envelope.proofs.SumSteps.{sum_read}
use Rattle.curve_call.specs.declared.frame.Frame.{Frame}
use Rattle.curve_call.specs.Calls.{IsApplied}
use Rattle.upp_normal.proofs.UnrollSteps.{ext_cases}
use Rattle.subadd_closure.specs.Starting.{first_at, started_at, KeepsTail, IsStartedAt}
use Rattle.subadd_closure.proofs.Starts.{repeated_past, repeated_zero, repeats_on}
use Rattle.subadd_closure.specs.StartsAt.{ConvolvesFinitely, ConvolvesPastZero, StartsAt}
use Rattle.subadd_closure.proofs.Windowed.{IsConvolved, stands_of, from_some, period_in, period_start, convolved_at}
use Rattle.curve_conv.proofs.ConvolveAnswers.{rise_room}
use Rattle.subadd_closure.proofs.Risen.{convolution_nonneg, rise_nonneg}
use Rattle.subadd_closure.proofs.Kept.{StartsAnew, keeps_tail}
use Rattle.plain_operators.proofs.pointwise.LatticeAnswers.{back}

value_room : (z : Sizes) (end x : ℚ) (grid : ℕ) (v : Ext) → z.dv * z.dt ∣ grid → Whole grid x → SumValueAt z x v
    → ValueHasRoom (answer_room z end) 1 grid v
value_room z end x grid Inf base on V = tt
value_room z end x grid (Fin v) base on V = value_in_room z end 7 grid v (omega arith) (V.whole grid base on) V.within

module _ (f g : SpecCurve) (r : Frame) (ps : List Piece) (from rise : ℚ) (C : IsConvolved f g r ps from rise) where
  turn : ℚ → Ext
  turn = repeated (read ps) from r.period rise

  -- ---- times
  pub starts : StartsAtZero ps
  starts = (stands_of f g r C.frame ps C.window).starts

  late : zero_q <ℚ from
  late = subst (λ x. zero_q <ℚ x) (sym C.from_is) (from_some f g r C.frame)

  pub some : zero_q <ℚ r.period
  some = C.frame.call.above

  early : r.period <ℚ from +ℚ r.period
  early = subst (λ x. r.period <ℚ x) (sym (back r.end r.period from C.from_is)) (period_in f g r C.frame)

  -- ---- what is read a period after 0
  pub period_reads : ReadFits ps r.period
  period_reads =
      let L = C.frame.call in
      let z = C.frame.sizes in
      let high = period_in f g r C.frame in
      let low = L.above in
      read_fits (answer_room z r.end) 1 ps r.period (answer_is_room z r.end L.limited) (omega arith)
      (pieces_room z r.end ps L.limited (stands_of f g r C.frame ps C.window))
      (room_at_start z r.end r.period L.limited L.period_whole (le_of_lt L.above))
      (far r.end r.period low high)
    where
      far : (e p : ℚ) → zero_q <ℚ p → p <ℚ e → p ≤ℚ int (pos 3) *ℚ e
      far e p a b = with2 e p (λ c. omega (arith, c.le, c.lt, c.same))

  period_value : SumValueAt C.frame.sizes r.period (read ps r.period)
  period_value =
      sum_read C.frame.sizes r.end r.period ps C.frame.call.limited (stands_of f g r C.frame ps C.window)
      (period_start f g r C.frame)

  pub rise_less : SumFitsAt (read ps r.period) (neg_ℚ rise)
  rise_less =
      let L = C.frame.call in
      let z = C.frame.sizes in
      let T = room_at_start z r.end r.period L.limited L.period_whole (le_of_lt L.above) in
      let R = rise_room f g r rise C.frame C.rise_is in
      at_fits (answer_room z r.end) 1 r.period (neg_ℚ rise) (read ps r.period) (answer_is_room z r.end L.limited)
      (omega arith)
      T (value_room z r.end r.period T.grid (read ps r.period) T.base T.whole period_value)
      (whole_neg (grid_of z) rise R.whole)
      (within_neg _ rise (within_weaken _ _ rise (largest_room z r.end 8 (omega arith)) R.within))

  at_period : turn r.period ≡ read ps r.period
  unfolding turn
  at_period = repeated_first (read ps) from r.period rise r.period some early

  -- ---- the rise is nowhere below 0, so what is left of the value has room at 0
  turn_is : (t : ℚ) → zero_q ≤ℚ t → IsConvolution (value_at f) (value_at g) t (turn t)
  unfolding turn
  turn_is t n = convolved_at f g r ps from rise C t n

  turn_rule : Repeats turn from r.period rise
  unfolding turn
  turn_rule = repeated_rule (read ps) from r.period rise some

  turn_nonneg : IsNonnegative (value_at f) → IsNonnegative (value_at g) → IsNonnegative turn
  turn_nonneg F G = λ t n. convolution_nonneg (value_at f) (value_at g) t (turn t) F G (turn_is t n)

  turn_rises : IsNonnegative (value_at f) → IsNonnegative (value_at g) → ConvolvesFinitely (value_at f) (value_at g)
      → zero_q ≤ℚ rise
  turn_rises F G finite = elim (ext_cases (turn from)) [
    | inl e ↦ absurd (finite from (turn from) late (turn_is from (le_of_lt late)) e)
    | inr (a, e) ↦ rise_nonneg turn from r.period rise a (le_of_lt late) (le_of_lt some) turn_rule e (turn_nonneg F G)
  ]

  left_room : (v start : ℚ) → SumValueAt C.frame.sizes r.period (Fin v) → v ≡ start +ℚ rise → zero_q ≤ℚ rise
      → zero_q ≤ℚ start
      → SumValueAt C.frame.sizes zero_q (Fin start)
  left_room v start V e up low =
      let z = C.frame.sizes in
      let R = rise_room f g r rise C.frame C.rise_is in
      let on : Whole (z.dv * z.dt) r.period =
      whole_weaken z.dt (z.dv * z.dt) r.period (dvd-mul_left z.dt z.dv) C.frame.call.period_whole in
      let high = V.within.high in
      let left : v -ℚ rise ≡ start = with3 v start rise (λ c. omega (arith, c.le, c.lt, c.same)) in
      let most : start ≤ℚ v = with3 v start rise (λ c. omega (arith, c.le, c.lt, c.same)) in
      let whole : Whole (grid_of z) start =
      subst (Whole (grid_of z)) left (whole_sub (grid_of z) v rise (V.whole (z.dv * z.dt) (dvd_refl (z.dv * z.dt)) on)
      R.whole) in
      record {
        whole = λ grid base w. whole_weaken (grid_of z) (grid * z.ds) start
            (mul-dvd-mul_right (z.dv * z.dt) base z.ds) whole;
        within = within_nonneg (times_largest 7 z) start low (le_trans most high);
      }

  pub start_room : (start : ℚ) → IsNonnegative (value_at f) → IsNonnegative (value_at g)
      → ConvolvesFinitely (value_at f) (value_at g) → zero_q ≤ℚ start
      → read ps r.period ≡ Fin (start +ℚ rise) → SumValueAt C.frame.sizes zero_q (Fin start)
  start_room start F G finite low e =
      left_room (start +ℚ rise) start (subst (SumValueAt C.frame.sizes r.period) e period_value) refl
      (turn_rises F G finite) low

  -- ---- the answers
  values_past : (v : Ext) (c : SpecCurve) → HasValues c (repeated (read (first_at v ps)) from r.period rise)
      → (t : ℚ) → zero_q <ℚ t → value_at c t ≡ turn t
  unfolding turn
  values_past v c H t h = H t (le_of_lt h) ∙ repeated_past v ps starts from r.period rise t late some h

  value_zero : (v : Ext) (c : SpecCurve) → HasValues c (repeated (read (first_at v ps)) from r.period rise)
      → value_at c zero_q ≡ v
  value_zero v c H = H zero_q (le_refl zero_q) ∙ repeated_zero v ps starts from r.period rise late some

  pub started_convolves : (start : ℚ) (c : SpecCurve)
      → HasValues c (repeated (read (first_at (Fin start) ps)) from r.period rise)
      → ConvolvesPastZero f g start c
  started_convolves start c H = (
    value_zero (Fin start) c H,
    λ t h. subst (IsConvolution (value_at f) (value_at g) t) (sym (values_past (Fin start) c H t h))
        (turn_is t (le_of_lt h)),
  )

  starts_anew : (start : ℚ) (c : SpecCurve) → ConvolvesFinitely (value_at f) (value_at g)
      → ¬ (read ps r.period ≡ Fin (start +ℚ rise))
      → HasValues c (repeated (read (first_at Inf ps)) from r.period rise)
      → StartsAnew (value_at c) from r.period rise start
  starts_anew start c finite other H = record {
    zero = value_zero Inf c H;
    finite = λ t h e. finite t (turn t) h (turn_is t (le_of_lt h)) (sym (values_past Inf c H t h) ∙ e);
    late = late;
    some = some;
    rule = repeats_on (value_at c) turn from r.period rise (λ t h. sym (values_past Inf c H t h)) late some turn_rule;
    other = λ e. other (sym at_period ∙ sym (values_past Inf c H r.period some) ∙ e);
  }

  pub open_keeps : (start : ℚ) (c : SpecCurve) → ConvolvesFinitely (value_at f) (value_at g)
      → ¬ (read ps r.period ≡ Fin (start +ℚ rise)) → IsNormal c
      → HasValues c (repeated (read (first_at Inf ps)) from r.period rise)
      → KeepsTail (value_at (started_at (Fin start) c)) c.tail
  open_keeps start c finite other N H = keeps_tail c from r.period rise start N (starts_anew start c finite other H)

  pub open_convolves : (start : ℚ) (c d : SpecCurve)
      → HasValues c (repeated (read (first_at Inf ps)) from r.period rise)
      → IsStartedAt (Fin start) c d → ConvolvesPastZero f g start d
  open_convolves start c d H S = (
    S.zero,
    λ t h. subst (IsConvolution (value_at f) (value_at g) t) (sym (S.past t h ∙ values_past Inf c H t h))
        (turn_is t (le_of_lt h)),
  )

-- ---- what is answered
pub starts_at : (f g w h : SpecCurve) (start : ℚ) → IsApplied Convolve f g w → IsCurve h → ConvolvesPastZero f g start h
    → StartsAt start w (Ok h)
starts_at f g w h start A K (zero, past) = (
  K,
  zero,
  λ t l. infimum_unique {I = Split t} (λ s. value_at f s.first +ₑ value_at g s.second) (value_at h t) (value_at w t)
      (past t l)
      (A.made.answers t (le_of_lt l)),
)
