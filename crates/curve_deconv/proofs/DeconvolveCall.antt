-- A call of the deconvolution within both limits, where the first curve is not the faster: its times, its operands' pieces, its answer and
-- the answer's values.
use Rattle.std.specs.Prelude.{◌≡◌, pos, List}
use Rattle.std.proofs.Common.{arith, sym, ap, ap₂, ◌∙◌, refl, subst, inl, inr}
use Rattle.rational.specs.Rational.{ℚ, ◌+ℚ◌, ◌-ℚ◌, ◌≤ℚ◌, ◌<ℚ◌, neg_ℚ, int}
use Rattle.rational.specs.Ratio.{SumFits}
use Rattle.rational.specs.Grid.{Whole}
use Rattle.rational.specs.Extended.{Ext, ◌≤ₑ◌, ◌<ₑ◌, ◌+ₑ◌, ◌-ₑ◌}
use Rattle.rational.specs.declared.Extended.TheVariants.{Fin}
use Rattle.rational.proofs.Grid.{whole_sub, whole_add, whole_neg, within_weaken}
use Rattle.rational.proofs.Linear.{with2, with3, with4, with5}
use Rattle.rational.proofs.MinMax.{max_q_ge_left, max_q_ge_right}
use Rattle.rational.proofs.Laws.{le_refl, le_trans, le_of_lt, le_lt_trans, one_mul}
use Rattle.rational.proofs.ExtendedOrder.{same_le_ext}
use Rattle.upp_curve.specs.declared.affine_segment.line.Piece.{Piece}
use Rattle.upp_curve.specs.affine_segment.Values.{line_value}
use Rattle.upp_curve.specs.declared.curve.Tail.{Tail}
use Rattle.upp_curve.specs.declared.curve.Tail.TheVariants.{Periodic, Affine, Infinite}
use Rattle.upp_limits.specs.declared.op_kind.OpKind.TheVariants.{Deconvolve}
use Rattle.upp_curve.specs.affine_segment.Reading.{read}
use Rattle.upp_curve.specs.Curve.{SpecCurve, repeated, value_at}
use Rattle.upp_curve.specs.Curves.{IsCurve}
use Rattle.min_plus.specs.Convolution.{IsDeconvolution}
use Rattle.min_plus.specs.Functions.{IsFinite}
use Rattle.upp_curve.specs.affine_segment.Pieces.{Each}
use Rattle.upp_normal.specs.Normalising.{HasValues}
use Rattle.upp_curve.specs.Unrolled.{unroll}
use Rattle.upp_curve.specs.Steady.{Repeats, steady, rate, rise_over, IsWholePeriods}
use Rattle.upp_limits.specs.Periods.{common_period, both_steady, period_of, period_or}
use Rattle.upp_limits.specs.Windows.{window_at}
use Rattle.upp_limits.specs.Gauges.{IsKnownAtOnce}
use Rattle.upp_limits.specs.Outcome.{IsWithin}
use Rattle.upp_limits.specs.Limits.{Sizes, curve_numbers}
use Rattle.upp_limits.specs.Sized.{Stands, ValueStands, grid_of}
use Rattle.upp_normal.specs.Operand.{AreLimited}
use Rattle.upp_normal.proofs.AnswerRoom.{more_largest}
use Rattle.upp_normal.proofs.Below.{unroll_reads}
use Rattle.upp_limits.proofs.NarrowSizes.{narrow_gauge}
use Rattle.upp_curve.proofs.affine_segment.PieceOrder.{each_map}
use Rattle.upp_curve.proofs.Steady.{steady_rule}
use Rattle.upp_normal.proofs.UnrolledPieces.{PieceStands, pieces_stand, unroll_each}
use Rattle.curve_call.proofs.TailGrids.{TailOf}
use Rattle.curve_call.specs.declared.frame.Frame.{Frame}
use Rattle.curve_call.specs.Answering.{IsAnswerWindow}
use Rattle.curve_call.specs.Frames.{IsFrame, sizes_at}
use Rattle.curve_call.specs.Times.{OneLaterFits}
use Rattle.curve_call.proofs.Answering.{answer_relation}
use Rattle.curve_call.proofs.CallTimes.{first_stands, second_stands}
use Rattle.curve_call.proofs.CurveTimes.{IsPeriod, one_later, own_or_on, steady_whole}
use Rattle.curve_call.proofs.CurveRises.{IsRise, rise_is, common_first, common_second}
use Rattle.curve_call.proofs.FrameFacts.{frame_facts}
use Rattle.curve_call.proofs.Operands.{unrolled_pieces}
use Rattle.curve_deconv.specs.DeconvolutionWindows.{OperandWindows, IsDeconvolutionWindow, IsReached}
use Rattle.curve_deconv.proofs.MirroredRoom.{back_fits}
use Rattle.curve_deconv.proofs.Reduced.{AreRepeating, reduced, moves}
use Rattle.curve_deconv.proofs.Slower.{slower_rise, repeats_from}
use Rattle.upp_curve.proofs.SteadyTimes.{steady_nonneg}

-- ---- the times
-- the period of f's answer: its own, and the common one where it has every period
abbrev pub answer_period : SpecCurve → SpecCurve → ℚ
answer_period f g = period_or (common_period f g) (period_of f.tail)

own_or_whole : (tail : Tail) (d : ℚ) → IsWholePeriods tail (period_or d (period_of tail))
own_or_whole (Periodic rank period rise) d = (1, sym (one_mul period))
own_or_whole (Affine rank) d = tt
own_or_whole (Infinite rank) d = tt

pub record DeconvolveCall (f g : SpecCurve) (r : Frame) (z : Sizes) : Type 0 where
  pub first : IsCurve f
  pub second : IsCurve g
  pub limited : AreLimited z r.end
  pub times : r.times ≡ z.dt
  pub values : r.values ≡ grid_of z
  pub left : Stands z (curve_numbers r.end f)
  pub right : Stands z (curve_numbers r.end g)
  pub from_whole : Whole z.dt (steady f)
  pub from_low : int (pos 0) ≤ℚ steady f
  pub common_is : r.period ≡ common_period f g
  pub common : IsPeriod z.dt r.period
  pub period : IsPeriod z.dt (answer_period f g)
  pub both_low : int (pos 0) ≤ℚ both_steady f g
  pub ends : r.end ≡ steady f +ℚ answer_period f g +ℚ both_steady f g +ℚ r.period
  pub rise : IsRise z f (answer_period f g)

-- how far past a time the first operand is read
abbrev pub reach_of : SpecCurve → SpecCurve → Frame → ℚ
reach_of f g r = (r.end -ℚ steady f) -ℚ answer_period f g

reach_by : (e s p m d : ℚ) → e ≡ s +ℚ p +ℚ m +ℚ d → (e -ℚ s) -ℚ p ≡ m +ℚ d
reach_by e s p m d h = with5 e s p m d (λ c. omega (arith, c.le, c.lt, c.same))

pub reach_is : (f g : SpecCurve) (r : Frame) (z : Sizes) → DeconvolveCall f g r z → reach_of f g r ≡ both_steady f g +ℚ r.period
reach_is f g r z h = reach_by r.end (steady f) (answer_period f g) (both_steady f g) r.period h.ends

early_by : (e s p m d : ℚ) → e ≡ s +ℚ p +ℚ m +ℚ d → int (pos 0) ≤ℚ m → int (pos 0) <ℚ d → s +ℚ p ≤ℚ e
early_by e s p m d h a b = with5 e s p m d (λ c. omega (arith, c.le, c.lt, c.same))

pub deconvolve_call : (f g : SpecCurve) (r : Frame) → IsFrame Deconvolve f g 0 0 r → DeconvolveCall f g r (sizes_at Deconvolve f g 0 0)
unfolding window_at
deconvolve_call f g r h =
    let z = sizes_at Deconvolve f g 0 0 in
    let facts = frame_facts Deconvolve f g 0 0 r tt h in
    let left = first_stands Deconvolve z r.end f g facts.stands in
    let p = answer_period f g in
    let s = steady f in
    let m = both_steady f g in
    let period : IsPeriod z.dt p = own_or_on z r.end (common_period f g) f h.first left (subst (IsPeriod z.dt) h.period facts.period) in
    let both_low = le_trans (steady_nonneg f h.first) (max_q_ge_left (steady f) (steady g)) in
    let ends : r.end ≡ s +ℚ p +ℚ m +ℚ r.period = h.end ∙ ap (λ y. s +ℚ p +ℚ m +ℚ y) (sym h.period) in
    record {
      first = h.first;
      second = h.second;
      limited = facts.limited;
      times = facts.times;
      values = facts.values;
      left = left;
      right = second_stands Deconvolve z r.end f g facts.stands;
      from_whole = steady_whole z r.end f left;
      from_low = steady_nonneg f h.first;
      common_is = h.period;
      common = facts.period;
      period = period;
      both_low = both_low;
      ends = ends;
      rise = rise_is z r.end f p facts.limited h.first left (own_or_whole f.tail (common_period f g)) period.whole period.above (early_by r.end s p m r.period ends both_low facts.period.above);
    }

-- ---- the steps fit
first_early : (f g : SpecCurve) (r : Frame) (z : Sizes) → DeconvolveCall f g r z → steady f +ℚ answer_period f g ≤ℚ r.end
first_early f g r z h = early_by r.end (steady f) (answer_period f g) (both_steady f g) r.period h.ends h.both_low h.common.above

from_early : (f g : SpecCurve) (r : Frame) (z : Sizes) → DeconvolveCall f g r z → steady f ≤ℚ r.end
from_early f g r z h =
    let l = first_early f g r z h in
    let a = h.period.above in
    let s = steady f in
    let p = answer_period f g in
    let e = r.end in
    with3 s p e (λ c. omega (arith, c.le, c.lt, c.same))

pub begin_fits : (f g : SpecCurve) (r : Frame) (z : Sizes) → DeconvolveCall f g r z → OneLaterFits f
begin_fits f g r z h =
    let A = h.limited in
    let n = A.gauge in
    one_later z r.end f A.sizes (narrow_gauge z r.end A.sizes (omega (arith, n))) h.first h.left (from_early f g r z h)

pub past_fits : (f g : SpecCurve) (r : Frame) (z : Sizes) (from : ℚ) → DeconvolveCall f g r z → from ≡ steady f → SumFits r.end (neg_ℚ from)
past_fits f g r z from h e =
    let A = h.limited in
    subst (λ y. SumFits r.end (neg_ℚ y)) (sym e) (back_fits z r.end r.end (steady f) A A.sizes.window h.from_whole A.some (le_refl r.end) h.from_low (from_early f g r z h))

pub reach_fits : (f g : SpecCurve) (r : Frame) (z : Sizes) (from past period : ℚ) → DeconvolveCall f g r z → from ≡ steady f → past ≡ r.end -ℚ from → period ≡ answer_period f g → SumFits past (neg_ℚ period)
reach_fits f g r z from past period h ef ep eq =
    let A = h.limited in
    let s = steady f in
    let p = answer_period f g in
    let e = r.end in
    let l = first_early f g r z h in
    let a = h.period.above in
    let low = h.from_low in
    let past_low : int (pos 0) ≤ℚ e -ℚ s = with3 s p e (λ c. omega (arith, c.le, c.lt, c.same)) in
    let past_high : e -ℚ s ≤ℚ e = with2 s e (λ c. omega (arith, c.le, c.lt, c.same)) in
    let p_high : p ≤ℚ e = with3 s p e (λ c. omega (arith, c.le, c.lt, c.same)) in
    subst (λ y. SumFits y (neg_ℚ period)) (sym (ep ∙ ap (λ y. r.end -ℚ y) ef))
    (subst (λ y. SumFits (r.end -ℚ steady f) (neg_ℚ y)) (sym eq)
    (back_fits z r.end (e -ℚ s) p A (whole_sub z.dt e s A.sizes.window h.from_whole) h.period.whole past_low past_high (le_of_lt a) p_high))

-- ---- the operands
end_some : (f g : SpecCurve) (r : Frame) (z : Sizes) → DeconvolveCall f g r z → int (pos 0) <ℚ r.end
end_some f g r z h =
    let l = first_early f g r z h in
    let a = h.period.above in
    let b = h.from_low in
    let s = steady f in
    let p = answer_period f g in
    let e = r.end in
    with3 s p e (λ c. omega (arith, c.le, c.lt, c.same))

afters : (g : SpecCurve) (r : Frame) (z : Sizes) (rs : List Piece) → IsCurve g → Stands z (curve_numbers r.end g) → rs ≡ unroll g r.end → Each (λ p. ValueStands z (line_value p.line p.x)) rs
afters g r z rs G S e =
    subst (Each (λ p. ValueStands z (line_value p.line p.x))) (sym e)
    (each_map (PieceStands z) (λ p. ValueStands z (line_value p.line p.x)) (λ p P. P.after) (unroll g r.end) (unroll_each (PieceStands z) g r.end G.normal (pieces_stand z r.end g S)))

pub windows : (f g : SpecCurve) (r : Frame) (z : Sizes) (ls rs : List Piece) → DeconvolveCall f g r z → IsFinite (value_at g) → ls ≡ unroll f r.end → rs ≡ unroll g r.end
    → OperandWindows r.end (reach_of f g r) ls rs
windows f g r z ls rs h finite el er =
    let A = h.limited in
    let some = end_some f g r z h in
    let s = steady f in let p = answer_period f g in let e = r.end in
    let m = both_steady f g in let d = r.period in let reach = reach_of f g r in
    let is : reach ≡ m +ℚ d = reach_is f g r z h in
    let m_low = h.both_low in
    let d_some = h.common.above in
    let p_some = h.period.above in
    let s_low = h.from_low in
    let early : reach <ℚ e = with3 e s p (λ c. omega (arith, c.le, c.lt, c.same)) in
    record {
      sizes = z;
      limited = A;
      some = subst (λ y. int (pos 0) <ℚ y) (sym is) (with2 m d (λ c. omega (arith, c.le, c.lt, c.same)));
      early = early;
      whole = whole_sub z.dt (e -ℚ s) p (whole_sub z.dt e s A.sizes.window h.from_whole) h.period.whole;
      left = unrolled_pieces z r.end f ls h.first A some h.left el;
      right = unrolled_pieces z r.end g rs h.second A some h.right er;
      after = afters g r z rs h.second h.right er;
      finite = λ t a b.
          let (v, k) = finite t a in
          (v, ap (λ us. read us t) er ∙ unroll_reads g r.end t h.second.normal a b ∙ k);
    }

-- ---- the answer
ends_by : (e s p reach : ℚ) → reach ≡ (e -ℚ s) -ℚ p → s +ℚ reach +ℚ p ≡ e
ends_by e s p reach h = with4 e s p reach (λ c. omega (arith, c.le, c.lt, c.same))

pub deconvolve_answer : (f g : SpecCurve) (r : Frame) (z : Sizes) (ls rs ps : List Piece) → DeconvolveCall f g r z → IsFinite (value_at g) → ls ≡ unroll f r.end → rs ≡ unroll g r.end
    → IsDeconvolutionWindow r.end (reach_of f g r) ls rs ps → IsAnswerWindow ps (steady f) (answer_period f g) (rise_over f (answer_period f g)) r.times r.values
unfolding windows
deconvolve_answer f g r z ls rs ps h finite el er D =
    let W = windows f g r z ls rs h finite el er in
    let s = steady f in
    let p = answer_period f g in
    let c = rise_over f p in
    let e = r.end in
    let reach = reach_of f g r in
    let some = W.some in
    let low = h.from_low in
    let ends : s +ℚ reach +ℚ p ≡ e = ends_by e s p reach refl in
    let tail : TailOf z e (s +ℚ reach) p (neg_ℚ c) = record {
      nonneg = with2 s reach (λ c. omega (arith, c.le, c.lt, c.same));
      some = h.period.above;
      ends = ends;
      time = whole_add z.dt s reach h.from_whole W.whole;
      whole = h.period.whole;
      value = whole_neg (grid_of z) c h.rise.whole;
    } in
    record {
      sizes = z;
      end = e;
      limited = h.limited;
      times_is = h.times;
      values_is = h.values;
      starts = D.starts;
      before = each_map (λ q. q.x +ℚ reach <ℚ e) (λ q. q.x <ℚ s +ℚ p) (λ q k. sooner q.x reach e s p ends k) ps D.before;
      room = D.room W;
      from_whole = h.from_whole;
      nonneg = h.from_low;
      period_whole = h.period.whole;
      above = h.period.above;
      early = first_early f g r z h;
      rise_whole = h.rise.whole;
      rise_within = within_weaken _ _ _ (more_largest z 3 8 (omega arith)) h.rise.within;
      grids = D.grids W s p c h.from_low tail;
    }
  where
    sooner : (x reach e s p : ℚ) → s +ℚ reach +ℚ p ≡ e → x +ℚ reach <ℚ e → x <ℚ s +ℚ p
    sooner x reach e s p h k = with5 x reach e s p (λ c. omega (arith, c.le, c.lt, c.same))

-- under the names of the code
pub deconvolve_answer_by : (f g : SpecCurve) (r : Frame) (z : Sizes) (ls rs ps : List Piece) (from period reach rise : ℚ) → DeconvolveCall f g r z → IsFinite (value_at g) → ls ≡ unroll f r.end
    → rs ≡ unroll g r.end → from ≡ steady f → period ≡ answer_period f g → reach ≡ reach_of f g r → rise ≡ rise_over f period → IsDeconvolutionWindow r.end reach ls rs ps
    → IsAnswerWindow ps from period rise r.times r.values
deconvolve_answer_by f g r z ls rs ps from period reach rise h finite el er ef ep ex ec D =
    let rise_is : rise ≡ rise_over f (answer_period f g) = ec ∙ ap (rise_over f) ep in
    subst (λ y. IsAnswerWindow ps y period rise r.times r.values) (sym ef)
    (subst (λ y. IsAnswerWindow ps (steady f) y rise r.times r.values) (sym ep)
    (subst (λ y. IsAnswerWindow ps (steady f) (answer_period f g) y r.times r.values) (sym rise_is)
    (deconvolve_answer f g r z ls rs ps h finite el er (subst (λ y. IsDeconvolutionWindow r.end y ls rs ps) ex D))))

pub windows_by : (f g : SpecCurve) (r : Frame) (z : Sizes) (ls rs : List Piece) (reach : ℚ) → DeconvolveCall f g r z → IsFinite (value_at g) → ls ≡ unroll f r.end → rs ≡ unroll g r.end
    → reach ≡ reach_of f g r → OperandWindows r.end reach ls rs
windows_by f g r z ls rs reach h finite el er e = subst (λ y. OperandWindows r.end y ls rs) (sym e) (windows f g r z ls rs h finite el er)

pub reach_named : (f g : SpecCurve) (r : Frame) (from past period reach : ℚ) → from ≡ steady f → past ≡ r.end -ℚ from → period ≡ answer_period f g → reach ≡ past -ℚ period → reach ≡ reach_of f g r
reach_named f g r from past period reach ef ep eq er = er ∙ ap₂ (λ (x y : ℚ). x -ℚ y) (ep ∙ ap (λ y. r.end -ℚ y) ef) eq

-- ---- its values
-- what agrees before the end
agree : (f g p q : ℚ → Ext) (reach end t : ℚ) (v : Ext) → ((s : ℚ) → int (pos 0) ≤ℚ s → s <ℚ end → p s ≡ f s) → ((s : ℚ) → int (pos 0) ≤ℚ s → s <ℚ end → q s ≡ g s) → reach <ℚ end
    → int (pos 0) ≤ℚ t → t +ℚ reach <ℚ end → IsReached p q reach end t v → IsReached f g reach end t v
agree f g p q reach end t v F G short low early (inl (I, e)) = inl (record { at = I.at; late = I.late; early = I.early; top = sym (F I.at (le_trans low I.late) I.early) ∙ I.top }, e)
agree f g p q reach end t v F G short low early (inr (A, S)) =
    inr (
      λ s a b. let (x, e) = A s a b in (x, sym (F s (le_trans low a) b) ∙ e),
      record {
        supremum = record {
          above = λ u.
              let at = u.at in
              let n = u.nonneg in
              let m = u.most in
              let there : t +ℚ at <ℚ end = with4 t at reach end (λ c. omega (arith, c.le, c.lt, c.same)) in
              let nonneg : int (pos 0) ≤ℚ t +ℚ at = with2 t at (λ c. omega (arith, c.le, c.lt, c.same)) in
              subst (λ x. x -ₑ u.level ≤ₑ v) (F (t +ℚ at) nonneg there)
              (S.supremum.above record { at = at; nonneg = n; most = m; level = u.level; is = G at n (le_lt_trans m short) ∙ u.is });
          near = λ y l.
              let (u, k) = S.supremum.near y l in
              let at = u.at in
              let n = u.nonneg in
              let m = u.most in
              let there : t +ℚ at <ℚ end = with4 t at reach end (λ c. omega (arith, c.le, c.lt, c.same)) in
              let nonneg : int (pos 0) ≤ℚ t +ℚ at = with2 t at (λ c. omega (arith, c.le, c.lt, c.same)) in
              (record { at = at; nonneg = n; most = m; level = u.level; is = sym (G at n (le_lt_trans m short)) ∙ u.is }, subst (λ x. Fin y <ₑ x -ₑ u.level) (F (t +ℚ at) nonneg there) k);
        };
        level = S.level;
        is = S.is;
      },
    )

-- the deconvolution at t; a number where the first curve is finite
pub record IsAnswerAt (f g : ℚ → Ext) (t : ℚ) (v : Ext) : Type 0 where
  pub deconvolves : IsDeconvolution f g t v
  pub number : IsFinite f → (q : ℚ) × (v ≡ Fin q)

first_values : (f g : ℚ → Ext) (from d a b reach end t : ℚ) (v : Ext) → AreRepeating f g from d a b reach → int (pos 0) ≤ℚ t → IsReached f g reach end t v → IsAnswerAt f g t v
first_values f g from d a b reach end t v R low h = record { deconvolves = reduced f g from d a b reach end t v R low h; number = λ finite. by h finite }
  where
    by : IsReached f g reach end t v → IsFinite f → (q : ℚ) × (v ≡ Fin q)
    by (inl (I, e)) finite = let (q, k) = finite I.at (le_trans low I.late) in absurd (same_le_ext (sym I.top ∙ k))
    by (inr (F, S)) finite = (S.level, S.is)

next_values : (f g : ℚ → Ext) (first d c t : ℚ) (v : Ext) → Repeats f first d c → first ≤ℚ t → IsAnswerAt f g t v → IsAnswerAt f g (t +ℚ d) (v +ₑ Fin c)
next_values f g first d c t v F late h = record {
  deconvolves = moves f g first d c t v F late h.deconvolves;
  number = λ finite. let (q, e) = h.number finite in (q +ℚ c, ap (λ w. w +ₑ Fin c) e);
}

pub deconvolve_values : (f g : SpecCurve) (r : Frame) (z : Sizes) (ls rs ps : List Piece) (c : SpecCurve) → DeconvolveCall f g r z → IsFinite (value_at g) → ¬ (rate g <ₑ rate f) → ls ≡ unroll f r.end
    → rs ≡ unroll g r.end → IsDeconvolutionWindow r.end (reach_of f g r) ls rs ps → HasValues c (repeated (read ps) (steady f) (answer_period f g) (rise_over f (answer_period f g)))
    → (t : ℚ) → int (pos 0) ≤ℚ t → IsAnswerAt (value_at f) (value_at g) t (value_at c t)
deconvolve_values f g r z ls rs ps c h finite slow el er D same =
    let s = steady f in let p = answer_period f g in let e = r.end in
    let m = both_steady f g in let d = r.period in let reach = reach_of f g r in
    let W = windows f g r z ls rs h finite el er in
    let f_periods : IsWholePeriods f.tail d = subst (IsWholePeriods f.tail) (sym h.common_is) (common_first f g h.first h.second) in
    let g_periods : IsWholePeriods g.tail d = subst (IsWholePeriods g.tail) (sym h.common_is) (common_second f g h.first h.second) in
    let R : AreRepeating (value_at f) (value_at g) m d (rise_over f d) (rise_over g d) reach = record {
      some = h.common.above;
      low = h.both_low;
      left = repeats_from f m d h.first h.common.above f_periods (max_q_ge_left (steady f) (steady g));
      right = repeats_from g m d h.second h.common.above g_periods (max_q_ge_right (steady f) (steady g));
      less = slower_rise f g d h.second h.common.above finite slow;
      reach_is = reach_is f g r z h;
      finite = finite;
    } in
    answer_relation (IsAnswerAt (value_at f) (value_at g)) c (read ps) s p (rise_over f p) same h.from_low h.period.above
    (λ t low early.
    let far : t +ℚ reach <ℚ e = inside t reach e s p early in
    first_values (value_at f) (value_at g) m d (rise_over f d) (rise_over g d) reach e t (read ps t) R low
    (agree (value_at f) (value_at g) (read ls) (read rs) reach e t (read ps t) (λ u n l. ap (λ us. read us u) el ∙ unroll_reads f e u h.first.normal n l)
    (λ u n l. ap (λ us. read us u) er ∙ unroll_reads g e u h.second.normal n l) W.early low far (D.reads t low far)))
    (λ t v late k. next_values (value_at f) (value_at g) s p (rise_over f p) t v (steady_rule f p h.first.normal.raw (own_or_whole f.tail (common_period f g)) (le_of_lt h.period.above)) late k)
  where
    inside : (t reach e s p : ℚ) → t <ℚ s +ℚ p → t +ℚ ((e -ℚ s) -ℚ p) <ℚ e
    inside t reach e s p h = with4 t e s p (λ c. omega (arith, c.le, c.lt, c.same))

pub deconvolve_values_by : (f g : SpecCurve) (r : Frame) (z : Sizes) (ls rs ps : List Piece) (from period reach rise : ℚ) (c : SpecCurve) → DeconvolveCall f g r z → IsFinite (value_at g)
    → ¬ (rate g <ₑ rate f) → ls ≡ unroll f r.end → rs ≡ unroll g r.end → from ≡ steady f → period ≡ answer_period f g → reach ≡ reach_of f g r → rise ≡ rise_over f period
    → IsDeconvolutionWindow r.end reach ls rs ps → HasValues c (repeated (read ps) from period rise) → (t : ℚ) → int (pos 0) ≤ℚ t → IsAnswerAt (value_at f) (value_at g) t (value_at c t)
deconvolve_values_by f g r z ls rs ps from period reach rise c h finite slow el er ef ep ex ec D same =
    let rise_is : rise ≡ rise_over f (answer_period f g) = ec ∙ ap (rise_over f) ep in
    deconvolve_values f g r z ls rs ps c h finite slow el er (subst (λ y. IsDeconvolutionWindow r.end y ls rs ps) ex D)
    (subst (λ y. HasValues c (repeated (read ps) (steady f) (answer_period f g) y)) rise_is
    (subst (λ y. HasValues c (repeated (read ps) (steady f) y rise)) ep (subst (λ y. HasValues c (repeated (read ps) y period rise)) ef same)))

-- ---- the limits
pub known_within : (f g : SpecCurve) → IsKnownAtOnce Deconvolve f g → IsWithin Deconvolve f g
known_within f g known = record { narrow = λ w. w.looks known; few = λ m. m.looks known }
