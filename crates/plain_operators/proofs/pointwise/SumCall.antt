-- The sum of two curves within the limits of the call: each step fits, the pieces of the answer have room, and it repeats with the common period.
use Rattle.std.specs.Prelude.{◌≡◌, ℕ, ◌*◌, pos, List}
use Prim.Native.Nat.{◌∣◌}
use Rattle.std.proofs.Common.{arith, sym, ap, ap₂, ◌∙◌, refl, subst}
use Rattle.rational.specs.Rational.{ℚ, ◌+ℚ◌, ◌≤ℚ◌, ◌<ℚ◌, int}
use Rattle.rational.specs.Ratio.{SumFits}
use Rattle.rational.specs.Grid.{Whole, Within}
use Rattle.rational.specs.Extended.{Ext, ◌+ₑ◌}
use Rattle.rational.specs.declared.Extended.TheVariants.{Fin, Inf}
use Rattle.rational.proofs.Linear.{with4}
use Rattle.rational.proofs.Laws.{le_trans, le_of_lt}
use Rattle.rational.proofs.MinMax.{max_q_ge_left, max_q_ge_right}
use Rattle.rational.proofs.Grid.{whole_add, within_add, within_weaken}
use Rattle.upp_curve.specs.declared.affine_segment.line.Piece.{Piece}
use Rattle.upp_limits.specs.declared.op_kind.OpKind.TheVariants.{Sum}
use Rattle.upp_curve.specs.affine_segment.Reading.{read}
use Rattle.upp_curve.specs.Curve.{SpecCurve, repeated, value_at}
use Rattle.upp_curve.specs.Curves.{IsCurve}
use Rattle.upp_curve.specs.affine_segment.Pieces.{Each}
use Rattle.upp_normal.specs.Normalising.{HasValues}
use Rattle.upp_curve.specs.Unrolled.{unroll}
use Rattle.upp_curve.specs.Steady.{steady, rise_over, IsWholePeriods}
use Rattle.upp_limits.specs.Windows.{window_at}
use Rattle.min_plus.specs.Pointwise.{IsSum}
use Rattle.upp_limits.specs.Limits.{Sizes, curve_numbers}
use Rattle.upp_limits.specs.Sized.{Stands, grid_of, times_largest}
use Rattle.upp_normal.specs.Operand.{OperandPieces, answer_room}
use Rattle.upp_normal.specs.Room.{PieceHasRoom}
use Rattle.upp_limits.proofs.NarrowSizes.{narrow_gauge, small_sum, slope_time_divides}
use Rattle.upp_normal.proofs.NormaliseGrids.{PieceOn, raw_on}
use Rattle.upp_curve.proofs.affine_segment.PieceOrder.{each_map}
use Rattle.upp_curve.proofs.Steady.{steady_rule}
use Rattle.upp_normal.proofs.Below.{unroll_reads}
use Rattle.curve_call.specs.Pointwise.{IsWindowSum, IsSumPiece}
use Rattle.curve_call.proofs.OperandWindows.{StartsWithRoom, sum_room}
use Rattle.curve_call.specs.declared.frame.Frame.{Frame}
use Rattle.curve_call.specs.Frames.{IsFrame, sizes_at}
use Rattle.curve_call.specs.Answering.{IsAnswerWindow}
use Rattle.curve_call.proofs.CallTimes.{first_stands, second_stands}
use Rattle.curve_call.proofs.FrameFacts.{FrameFacts, frame_facts}
use Rattle.curve_call.proofs.Operands.{some_end, unrolled_pieces}
use Rattle.curve_call.proofs.CurveRises.{IsRise, rise_is, common_first, common_second}
use Rattle.curve_call.proofs.Answering.{answer_relation}
use Rattle.plain_operators.proofs.pointwise.LatticeAnswers.{three_apart}

-- ---- what the frame gives
pub record SumCall (f g : SpecCurve) (r : Frame) (z : Sizes) : Type 0 where
  pub first : IsCurve f
  pub second : IsCurve g
  pub facts : FrameFacts Sum f g r z
  pub left : Stands z (curve_numbers r.end f)
  pub right : Stands z (curve_numbers r.end g)
  pub left_rise : IsRise z f r.period
  pub right_rise : IsRise z g r.period
  pub ends : r.end ≡ r.start +ℚ r.period
  pub left_steady : steady f ≤ℚ r.start
  pub right_steady : steady g ≤ℚ r.start
  pub left_whole : IsWholePeriods f.tail r.period
  pub right_whole : IsWholePeriods g.tail r.period

pub sum_call : (f g : SpecCurve) (r : Frame) → IsFrame Sum f g 0 0 r → SumCall f g r (sizes_at Sum f g 0 0)
unfolding window_at
sum_call f g r h =
    let z = sizes_at Sum f g 0 0 in
    let facts = frame_facts Sum f g 0 0 r tt h in
    let left = first_stands Sum z r.end f g facts.stands in
    let right = second_stands Sum z r.end f g facts.stands in
    let p = facts.period in
    let both = facts.early.both in
    let left_steady : steady f ≤ℚ r.start = subst (λ s. steady f ≤ℚ s) (sym h.start) (max_q_ge_left (steady f) (steady g)) in
    let right_steady : steady g ≤ℚ r.start = subst (λ s. steady g ≤ℚ s) (sym h.start) (max_q_ge_right (steady f) (steady g)) in
    let left_whole : IsWholePeriods f.tail r.period = subst (IsWholePeriods f.tail) (sym h.period) (common_first f g h.first h.second) in
    let right_whole : IsWholePeriods g.tail r.period = subst (IsWholePeriods g.tail) (sym h.period) (common_second f g h.first h.second) in
    record {
      first = h.first;
      second = h.second;
      facts = facts;
      left = left;
      right = right;
      left_rise = rise_is z r.end f r.period facts.limited h.first left left_whole p.whole p.above (earlier (steady f) r.start r.period r.end left_steady both);
      right_rise = rise_is z r.end g r.period facts.limited h.second right right_whole p.whole p.above (earlier (steady g) r.start r.period r.end right_steady both);
      ends = h.end ∙ sym (ap₂ (λ (x y : ℚ). x +ℚ y) h.start h.period);
      left_steady = left_steady;
      right_steady = right_steady;
      left_whole = left_whole;
      right_whole = right_whole;
    }
  where
    earlier : (a s p e : ℚ) → a ≤ℚ s → s +ℚ p ≤ℚ e → a +ℚ p ≤ℚ e
    earlier a s p e l m = with4 a s p e (λ c. omega (arith, c.le, c.lt, c.same))

-- ---- the pieces of the operands
pub left_pieces : (f g : SpecCurve) (r : Frame) (z : Sizes) (ps : List Piece) → SumCall f g r z → ps ≡ unroll f r.end → OperandPieces z r.end ps
left_pieces f g r z ps h e = unrolled_pieces z r.end f ps h.first h.facts.limited (some_end Sum f g r z h.facts) h.left e

pub right_pieces : (f g : SpecCurve) (r : Frame) (z : Sizes) (ps : List Piece) → SumCall f g r z → ps ≡ unroll g r.end → OperandPieces z r.end ps
right_pieces f g r z ps h e = unrolled_pieces z r.end g ps h.second h.facts.limited (some_end Sum f g r z h.facts) h.right e

-- ---- the rise
pub rises_fit : (f g : SpecCurve) (r : Frame) (z : Sizes) → SumCall f g r z → SumFits (rise_over f r.period) (rise_over g r.period)
rises_fit f g r z h =
    let a = h.facts.limited in
    let l = a.gauge in
    small_sum z r.end 3 3 (rise_over f r.period) (rise_over g r.period) a.sizes (narrow_gauge z r.end a.sizes (omega arith)) (omega arith)
    h.left_rise.whole h.right_rise.whole h.left_rise.within h.right_rise.within

-- ---- the answer
pub sum_answer : (f g : SpecCurve) (r : Frame) (z : Sizes) (ls rs ps : List Piece) (rise : ℚ) → SumCall f g r z → ls ≡ unroll f r.end → rs ≡ unroll g r.end → IsWindowSum ls rs ps
    → rise ≡ rise_over f r.period +ℚ rise_over g r.period → IsAnswerWindow ps r.start r.period rise r.times r.values
sum_answer f g r z ls rs ps rise h el er sum e =
    let facts = h.facts in
    let a = facts.limited in
    let rooms : Each (StartsWithRoom z r.end) ps =
    each_map (IsSumPiece ls rs) (StartsWithRoom z r.end) (λ p k. sum_room z r.end ls rs p a (left_pieces f g r z ls h el) (right_pieces f g r z rs h er) k) ps sum.each in
    let before : Each (λ p. p.x <ℚ r.start +ℚ r.period) ps =
    each_map (StartsWithRoom z r.end) (λ p. p.x <ℚ r.start +ℚ r.period) (λ p k. subst (λ x. p.x <ℚ x) h.ends k.time.before) ps rooms in
    let total = rise_over f r.period +ℚ rise_over g r.period in
    let whole : Whole (grid_of z) rise = subst (Whole (grid_of z)) (sym e) (whole_add (grid_of z) (rise_over f r.period) (rise_over g r.period) h.left_rise.whole h.right_rise.whole) in
    let within : Within (times_largest 8 z) total =
    within_weaken _ _ total (three_apart z) (within_add (times_largest 3 z) (times_largest 3 z) (rise_over f r.period) (rise_over g r.period) h.left_rise.within h.right_rise.within) in
    record {
      sizes = z;
      end = r.end;
      limited = a;
      times_is = facts.times;
      values_is = facts.values;
      starts = sum.starts;
      before = before;
      room = each_map (StartsWithRoom z r.end) (PieceHasRoom (answer_room z r.end) 1) (λ p k. k.room) ps rooms;
      from_whole = facts.start.whole;
      nonneg = facts.start.nonneg;
      period_whole = facts.period.whole;
      above = facts.period.above;
      early = facts.early.both;
      rise_whole = whole;
      rise_within = subst (Within (times_largest 8 z)) (sym e) within;
      grids = raw_on z.dt z.ds (grid_of z) ps r.start r.period rise (nested z) sum.starts record { nonneg = facts.start.nonneg; some = facts.period.above; starts = before }
          (each_map (StartsWithRoom z r.end) (PieceOn z.dt z.ds (grid_of z)) (λ p k. k.on) ps rooms) facts.start.whole facts.period.whole whole;
    }
  where
    swapped : (s t : ℕ) → s * t ≡ t * s
    swapped s t = omega arith

    nested : (z : Sizes) → z.dt * z.ds ∣ grid_of z
    nested z = subst (λ n. n ∣ grid_of z) (swapped z.ds z.dt) (slope_time_divides z)

-- ---- its values
sums_move : (v w : Ext) (x y : ℚ) → (v +ₑ w) +ₑ Fin (x +ℚ y) ≡ (v +ₑ Fin x) +ₑ (w +ₑ Fin y)
sums_move Inf w x y = refl
sums_move (Fin v) Inf x y = refl
sums_move (Fin v) (Fin w) x y = ap Fin (with4 v w x y (λ c. omega (arith, c.le, c.lt, c.same)))

moved : (v w : Ext) (x y : ℚ) (t : Ext) → t ≡ v +ₑ w → t +ₑ Fin (x +ℚ y) ≡ (v +ₑ Fin x) +ₑ (w +ₑ Fin y)
moved v w x y t e = ap (λ (u : Ext). u +ₑ Fin (x +ℚ y)) e ∙ sums_move v w x y

pub sum_values : (f g : SpecCurve) (r : Frame) (z : Sizes) (ls rs ps : List Piece) (rise : ℚ) (c : SpecCurve) → SumCall f g r z → ls ≡ unroll f r.end → rs ≡ unroll g r.end → IsWindowSum ls rs ps
    → rise ≡ rise_over f r.period +ℚ rise_over g r.period → HasValues c (repeated (read ps) r.start r.period rise)
    → (t : ℚ) → int (pos 0) ≤ℚ t → IsSum (value_at f) (value_at g) t (value_at c t)
sum_values f g r z ls rs ps rise c h el er sum e same =
    let p = h.facts.period in
    let left = steady_rule f r.period h.first.normal.raw h.left_whole (le_of_lt p.above) in
    let right = steady_rule g r.period h.second.normal.raw h.right_whole (le_of_lt p.above) in
    answer_relation (IsSum (value_at f) (value_at g)) c (read ps) r.start r.period rise same h.facts.start.nonneg p.above
    (λ t some early.
    let before : t <ℚ r.end = subst (λ x. t <ℚ x) (sym h.ends) early in
    sum.reads t some
    ∙ ap₂ (λ (v w : Ext). v +ₑ w) (ap (λ us. read us t) el ∙ unroll_reads f r.end t h.first.normal some before) (ap (λ us. read us t) er ∙ unroll_reads g r.end t h.second.normal some before))
    (λ t v late k.
    ap (λ x. v +ₑ Fin x) e ∙ moved (value_at f t) (value_at g t) (rise_over f r.period) (rise_over g r.period) v k
    ∙ sym (ap₂ (λ (a b : Ext). a +ₑ b) (left.rule t (le_trans h.left_steady late)) (right.rule t (le_trans h.right_steady late))))
