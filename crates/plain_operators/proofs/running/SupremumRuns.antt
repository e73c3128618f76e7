-- The running supremum of a curve: from its scan in the window to every time.
use Rattle.std.specs.Prelude.{◌≡◌, ℕ, suc, true, ◌+◌, pos, List, None}
use Rattle.std.proofs.Common.{arith, sym, ap, ◌∙◌, subst, inl, inr}
use Rattle.rational.specs.Rational.{ℚ, ◌+ℚ◌, ◌-ℚ◌, ◌*ℚ◌, ◌≤ℚ◌, ◌<ℚ◌, int}
use Rattle.rational.specs.Grid.{Whole, Within}
use Rattle.rational.specs.Extended.{Ext, ◌+ₑ◌}
use Rattle.rational.specs.declared.Extended.TheVariants.{Fin}
use Rattle.rational.proofs.Grid.{whole_sub, within_weaken}
use Rattle.rational.proofs.Integers.{nat_le, nat_nonneg}
use Rattle.rational.proofs.Laws.{le_refl, le_of_lt, le_trans, le_lt_trans, mul_le_mul_right, zero_mul}
use Rattle.rational.proofs.Linear.{with2, with3, with4, with5}
use Rattle.rational.proofs.Whole.{one_more_times}
use Rattle.rational.proofs.Bounds.{same_supremum}
use Rattle.rational.proofs.ExtendedOrder.{same_le_ext}
use Rattle.upp_curve.specs.declared.affine_segment.line.Piece.{Piece}
use Rattle.upp_limits.specs.declared.op_kind.OpKind.TheVariants.{RunSup}
use Rattle.upp_curve.specs.affine_segment.Reading.{read}
use Rattle.upp_curve.specs.Curve.{SpecCurve, value_at, repeated}
use Rattle.min_plus.specs.Functions.{zero_q, UpTo, IsFinite, IsNonnegative}
use Rattle.upp_curve.specs.affine_segment.Pieces.{Each}
use Rattle.upp_normal.specs.Normalising.{HasValues}
use Rattle.min_plus.specs.Running.{IsRunningSupremum}
use Rattle.upp_curve.specs.Steady.{Repeats, steady, rise_over}
use Rattle.upp_limits.specs.Periods.{own_period, periods_after}
use Rattle.upp_limits.specs.Limits.{Sizes}
use Rattle.upp_limits.specs.Sized.{grid_of, times_largest}
use Rattle.upp_normal.specs.Operand.{OperandPieces}
use Rattle.upp_curve.specs.Unrolled.{unroll}
use Rattle.upp_limits.specs.Windows.{window_at}
use Rattle.upp_normal.proofs.Bends.{bends_on}
use Rattle.curve_call.specs.declared.frame.Frame.{Frame}
use Rattle.curve_call.specs.Answering.{IsAnswerWindow}
use Rattle.curve_call.specs.Frames.{IsFrame, sizes_at}
use Rattle.curve_call.proofs.Answering.{answer_relation}
use Rattle.curve_call.proofs.CurveRises.{IsRise}
use Rattle.plain_operators.specs.running.Made.{IsMade, TurnsAfter, IsScan, IsSupremumScan}
use Rattle.plain_operators.specs.running.Periods.{IsCoveredAfter}
use Rattle.plain_operators.specs.running.Runs.{RunsUpTo, IsNumberOf}
use Rattle.plain_operators.proofs.running.LevelSizes.{scan_room, only_bend}
use Rattle.plain_operators.proofs.running.RunFacts.{RunFacts, sup_facts, run_pieces, run_reads, run_rise, run_repeats, run_low}
use Rattle.plain_operators.proofs.running.Shifts.{supremum_repeats, supremum_from_start, supremum_constant}
use Rattle.curve_call.proofs.TailGrids.{grids_nest}

-- ---- the window: k periods, and two more
pub two_more : (start d : ℚ) (k : ℕ) → periods_after start (k + 2) d ≡ periods_after start k d +ℚ d +ℚ d
two_more start d k =
    let e : k + 2 ≡ suc (suc k) = omega arith in
    let a = one_more_times (suc k) d in
    let b = one_more_times k d in
    let p = int (pos (suc (suc k))) *ℚ d in
    let q = int (pos (suc k)) *ℚ d in
    let r = int (pos k) *ℚ d in
    ap (λ n. start +ℚ int (pos n) *ℚ d) e ∙ regroup start d p q r a b
  where
    regroup : (start d p q r : ℚ) → p ≡ q +ℚ d → q ≡ r +ℚ d → start +ℚ p ≡ start +ℚ r +ℚ d +ℚ d
    regroup start d p q r a b = ap (λ x. start +ℚ x) (a ∙ ap (λ x. x +ℚ d) b) ∙ with3 start r d (λ c. omega (arith, c.le, c.lt, c.same))

pub sup_end : (f : SpecCurve) (k : ℕ) (r : Frame) → IsFrame RunSup f f k 0 r → r.end ≡ periods_after r.start k r.period +ℚ r.period +ℚ r.period
unfolding window_at
sup_end f k r h =
    h.end ∙ ap (λ s. periods_after s (k + 2) (own_period f)) (sym h.start) ∙ ap (λ d. periods_after r.start (k + 2) d) (sym h.period) ∙ two_more r.start r.period k

later_start : (start d : ℚ) (k : ℕ) → zero_q <ℚ d → start ≤ℚ periods_after start k d
later_start start d k some =
    let far = int (pos k) *ℚ d in
    let up : zero_q ≤ℚ far = subst (λ x. x ≤ℚ far) (zero_mul d) (mul_le_mul_right d (le_of_lt some) (nat_nonneg k)) in
    with2 start far (λ c. omega (arith, c.le, c.lt, c.same))

pub record SupAnswer (f : SpecCurve) (k : ℕ) (r : Frame) (from : ℚ) : Type 0 where
  pub late : from ≡ periods_after r.start k r.period +ℚ r.period
  pub ends : from +ℚ r.period ≡ r.end
  pub low : zero_q ≤ℚ from
  pub first : r.start +ℚ r.period ≤ℚ from

pub sup_from : (f : SpecCurve) (k : ℕ) (r : Frame) (from : ℚ) → IsFrame RunSup f f k 0 r → from ≡ r.end -ℚ r.period → SupAnswer f k r from
sup_from f k r from h e =
    let F = sup_facts f k r h in
    let z = sup_end f k r h in
    let s = r.start in
    let d = r.period in
    let a = periods_after s k d in
    let b = r.end in
    let l = later_start s d k F.some in
    let low = F.low in
    let some = F.some in
    record {
      late = with4 from a d b (λ c. omega (arith, c.le, c.lt, c.same));
      ends = with3 from d b (λ c. omega (arith, c.le, c.lt, c.same));
      low = with5 from a d b s (λ c. omega (arith, c.le, c.lt, c.same));
      first = with5 from a d b s (λ c. omega (arith, c.le, c.lt, c.same));
    }

pub sup_answer : (f : SpecCurve) (k : ℕ) (r : Frame) (from rise : ℚ) (ps qs : List Piece) → IsFrame RunSup f f k 0 r → from ≡ r.end -ℚ r.period → rise ≡ rise_over f r.period
    → ps ≡ unroll f r.end → IsSupremumScan ps r.end qs → IsAnswerWindow qs from r.period rise r.times r.values
sup_answer f k r from rise ps qs h e g u S = record {
  sizes = z;
  end = r.end;
  limited = F.limited;
  times_is = h.times;
  values_is = h.values;
  starts = S.scan.starts;
  before = before;
  room = scan_room true z r.end (unroll f r.end) qs F.limited O (subst (λ p. IsScanOf p) u S.scan);
  from_whole = from_whole;
  nonneg = A.low;
  period_whole = F.period_whole;
  above = F.some;
  early = subst (λ x. x ≤ℚ r.end) (sym A.ends) (le_refl r.end);
  rise_whole = rise_whole;
  rise_within = subst (Within (times_largest 8 z)) (sym g) (within_weaken (times_largest 3 z) (times_largest 8 z) (rise_over f r.period) more R.within);
  grids = bends_on true z.dt z.ds (grid_of z) qs from r.period rise (grids_nest z) S.scan.starts record { nonneg = A.low; some = F.some; starts = before }
      (only_bend true z r.end (unroll f r.end) qs F.limited O.each (subst (λ p. Each (IsMade r.end p) qs) u S.scan.made)
      (subst (λ p. TurnsAfter true p None qs) u S.scan.turns)) from_whole F.period_whole rise_whole;
}
  where
    z : Sizes
    z = sizes_at RunSup f f k 0

    IsScanOf : List Piece → Type 0
    IsScanOf p = IsScan true p r.end qs

    F : RunFacts f r.start r.period r.end z
    F = sup_facts f k r h

    A : SupAnswer f k r from
    A = sup_from f k r from h e

    O : OperandPieces z r.end (unroll f r.end)
    O = run_pieces f r.start r.period r.end z F

    R : IsRise z f r.period
    R = run_rise f r.start r.period r.end z F

    before : Each (λ p. p.x <ℚ from +ℚ r.period) qs
    before = subst (λ x. Each (λ p. p.x <ℚ x) qs) (sym A.ends) S.scan.before

    from_whole : Whole z.dt from
    from_whole = subst (Whole z.dt) (sym e) (whole_sub z.dt r.end r.period F.limited.sizes.window F.period_whole)

    rise_whole : Whole (grid_of z) rise
    rise_whole = subst (Whole (grid_of z)) (sym g) R.whole

    more : times_largest 3 z ≤ℚ times_largest 8 z
    more = mul_le_mul_right (int (pos z.largest)) (nat_nonneg z.largest) (nat_le 3 8 (omega arith))

-- ---- the value
same_up_to : (f g : ℚ → Ext) (t : ℚ) (v : Ext) → ((s : ℚ) → zero_q ≤ℚ s → s ≤ℚ t → f s ≡ g s) → IsRunningSupremum g t v → IsRunningSupremum f t v
same_up_to f g t v same h =
    same_supremum {I = UpTo t} {J = UpTo t} (λ s. g s.at) (λ s. f s.at) v (λ s. (s, same_le_ext (sym (same s.at s.nonneg s.most))))
    (λ s. (s, same_le_ext (same s.at s.nonneg s.most))) h

shifts : (f : SpecCurve) (start d c : ℚ) (k : ℕ) (t : ℚ) (v : Ext) → zero_q ≤ℚ start → zero_q <ℚ d → zero_q ≤ℚ c → Repeats (value_at f) start d c → IsCoveredAfter f start d c k
    → start +ℚ d ≤ℚ t → periods_after start k d +ℚ d ≤ℚ t → IsRunningSupremum (value_at f) t v → IsRunningSupremum (value_at f) (t +ℚ d) (v +ₑ Fin c)
shifts f start d c k t v low some rise F (inl flat) first late h = supremum_constant (value_at f) start d c t v low (le_of_lt some) flat F first h
shifts f start d c k t v low some rise F (inr (inl none)) first late h = supremum_from_start (value_at f) start d c t v low none (le_of_lt some) rise F first h
shifts f start d c k t v low some rise F (inr (inr (w, W, covered))) first late h =
    supremum_repeats (value_at f) start d c (periods_after start k d) t w v low (le_of_lt some) rise F (later_start start d k some) late W covered h

pub sup_value : (f : SpecCurve) (k : ℕ) (r : Frame) (from rise : ℚ) (ps qs : List Piece) (c : SpecCurve) → IsFinite (value_at f) → IsNonnegative (value_at f)
    → IsNumberOf f k → IsFrame RunSup f f k 0 r
    → from ≡ r.end -ℚ r.period → rise ≡ rise_over f r.period → ps ≡ unroll f r.end → IsSupremumScan ps r.end qs → HasValues c (repeated (read qs) from r.period rise)
    → RunsUpTo f c
sup_value f k r from rise ps qs c finite nonneg N h e g u S V =
    answer_relation (λ t v. IsRunningSupremum (value_at f) t v) c (read qs) from r.period rise V A.low F.some
    (λ t low early. same_up_to (value_at f) (read ps) t (read qs t) (λ s l m. sym (reads s l (le_lt_trans m (before t early)))) (S.reads t low (before t early)))
    (λ t v late k'. shifts f r.start r.period rise k t v F.low F.some rise_low repeats covered (le_trans A.first late) (subst (λ x. x ≤ℚ t) A.late late) k')
  where
    z : Sizes
    z = sizes_at RunSup f f k 0

    F : RunFacts f r.start r.period r.end z
    F = sup_facts f k r h

    A : SupAnswer f k r from
    A = sup_from f k r from h e

    before : (t : ℚ) → t <ℚ from +ℚ r.period → t <ℚ r.end
    before t l = subst (λ x. t <ℚ x) A.ends l

    reads : (s : ℚ) → zero_q ≤ℚ s → s <ℚ r.end → read ps s ≡ value_at f s
    reads s low early = ap (λ q. read q s) u ∙ run_reads f r.start r.period r.end z F s low early

    rise_low : zero_q ≤ℚ rise
    rise_low = subst (λ x. zero_q ≤ℚ x) (sym g) (run_low f r.start r.period r.end z F finite nonneg)

    repeats : Repeats (value_at f) r.start r.period rise
    repeats = subst (λ x. Repeats (value_at f) r.start r.period x) (sym g) (run_repeats f r.start r.period r.end z F)

    covered : IsCoveredAfter f r.start r.period rise k
    covered =
        subst (λ s. IsCoveredAfter f s r.period rise k) (sym F.start_is)
        (subst (λ x. IsCoveredAfter f (steady f) r.period x k) (sym g) (subst (λ d. IsCoveredAfter f (steady f) d (rise_over f d) k) (sym F.period_is) N.covered))
