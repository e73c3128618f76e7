-- The running infimum of a curve: from its scan in the window to every time.
use Rattle.std.specs.Prelude.{◌≡◌, false, pos, List, None}
use Rattle.std.proofs.Common.{arith, sym, ap, ◌∙◌, subst}
use Rattle.rational.specs.Rational.{ℚ, ◌+ℚ◌, ◌*ℚ◌, ◌≤ℚ◌, ◌<ℚ◌, int}
use Rattle.rational.specs.Grid.{Whole, Within}
use Rattle.rational.specs.Extended.{Ext}
use Rattle.rational.proofs.Grid.{within_weaken}
use Rattle.rational.proofs.Integers.{nat_le, nat_nonneg}
use Rattle.rational.proofs.Laws.{le_of_lt, le_trans, lt_le_trans, mul_le_mul_right}
use Rattle.rational.proofs.Linear.{with2}
use Rattle.rational.proofs.Bounds.{same_infimum}
use Rattle.rational.proofs.ExtendedOrder.{same_le_ext}
use Rattle.upp_curve.specs.declared.affine_segment.line.Piece.{Piece}
use Rattle.upp_limits.specs.declared.op_kind.OpKind.TheVariants.{RunInf}
use Rattle.upp_curve.specs.affine_segment.Reading.{read}
use Rattle.upp_curve.specs.Curve.{SpecCurve, value_at, repeated}
use Rattle.min_plus.specs.Functions.{zero_q, IsFinite, IsNonnegative}
use Rattle.upp_curve.specs.affine_segment.Pieces.{Each, StartsAtZero}
use Rattle.upp_normal.specs.Normalising.{HasValues}
use Rattle.upp_normal.specs.Room.{PieceHasRoom}
use Rattle.min_plus.specs.Running.{IsRunningInfimum}
use Rattle.upp_curve.specs.Steady.{Repeats, rise_over}
use Rattle.upp_limits.specs.Periods.{own_period, periods_after}
use Rattle.upp_limits.specs.Limits.{Sizes}
use Rattle.upp_limits.specs.Sized.{grid_of, times_largest}
use Rattle.upp_normal.specs.Operand.{OperandPieces, answer_room}
use Rattle.upp_curve.specs.Unrolled.{unroll}
use Rattle.upp_limits.specs.Windows.{window_at}
use Rattle.upp_normal.proofs.Bends.{bends_on}
use Rattle.curve_call.specs.declared.frame.Frame.{Frame}
use Rattle.curve_call.specs.Answering.{IsAnswerWindow}
use Rattle.curve_call.specs.Frames.{IsFrame, sizes_at}
use Rattle.curve_call.proofs.Answering.{answer_relation}
use Rattle.curve_call.proofs.CurveRises.{IsRise}
use Rattle.plain_operators.specs.running.Made.{IsMade, TurnsAfter, IsScan, IsInfimumScan}
use Rattle.plain_operators.specs.running.Runs.{RunsFrom, IsFrontBefore}
use Rattle.plain_operators.specs.running.Scans.{Until, IsInfimumUntil}
use Rattle.plain_operators.proofs.running.Fronts.{kept_each, kept_starts, kept_reads, kept_bends}
use Rattle.plain_operators.proofs.running.LevelSizes.{scan_room, only_bend}
use Rattle.plain_operators.proofs.running.RunFacts.{RunFacts, inf_facts, run_pieces, run_reads, run_rise, run_repeats, run_low}
use Rattle.plain_operators.proofs.running.Shifts.{infimum_repeats, infimum_until}
use Rattle.curve_call.proofs.TailGrids.{grids_nest}

inf_end : (f : SpecCurve) (r : Frame) → IsFrame RunInf f f 0 0 r → r.end ≡ r.start +ℚ int (pos 2) *ℚ r.period
unfolding window_at
inf_end f r h = h.end ∙ ap (λ s. periods_after s 2 (own_period f)) (sym h.start) ∙ ap (λ d. periods_after r.start 2 d) (sym h.period)

first_some : (f : SpecCurve) (r : Frame) → IsFrame RunInf f f 0 0 r → zero_q <ℚ r.start +ℚ r.period
first_some f r h =
    let F = inf_facts f r h in
    let a = F.low in
    let b = F.some in
    let s = r.start in
    let d = r.period in
    with2 s d (λ c. omega (arith, c.le, c.lt, c.same))

pub inf_answer : (f : SpecCurve) (r : Frame) (to rise : ℚ) (ps qs front : List Piece) → IsFrame RunInf f f 0 0 r → to ≡ r.start +ℚ r.period → rise ≡ rise_over f r.period
    → ps ≡ unroll f r.end
    → IsInfimumScan ps r.end qs → IsFrontBefore qs to front → IsAnswerWindow front r.start r.period rise r.times r.values
inf_answer f r to rise ps qs front h e g u S K = record {
  sizes = z;
  end = r.end;
  limited = F.limited;
  times_is = h.times;
  values_is = h.values;
  starts = starts;
  before = before;
  room = kept_each (PieceHasRoom (answer_room z r.end) 1) qs to front K (scan_room false z r.end (unroll f r.end) qs F.limited O (subst IsScanOf u S.scan));
  from_whole = F.start_whole;
  nonneg = F.low;
  period_whole = F.period_whole;
  above = F.some;
  early = F.both;
  rise_whole = rise_whole;
  rise_within = subst (Within (times_largest 8 z)) (sym g) (within_weaken (times_largest 3 z) (times_largest 8 z) (rise_over f r.period) more R.within);
  grids = bends_on false z.dt z.ds (grid_of z) front r.start r.period rise (grids_nest z) starts record { nonneg = F.low; some = F.some; starts = before }
      (kept_bends false z.dt z.ds (grid_of z) qs to front K
      (only_bend false z r.end (unroll f r.end) qs F.limited O.each (subst (λ p. Each (IsMade r.end p) qs) u S.scan.made)
      (subst (λ p. TurnsAfter false p None qs) u S.scan.turns)))
      F.start_whole F.period_whole rise_whole;
}
  where
    z : Sizes
    z = sizes_at RunInf f f 0 0

    IsScanOf : List Piece → Type 0
    IsScanOf p = IsScan false p r.end qs

    F : RunFacts f r.start r.period r.end z
    F = inf_facts f r h

    O : OperandPieces z r.end (unroll f r.end)
    O = run_pieces f r.start r.period r.end z F

    R : IsRise z f r.period
    R = run_rise f r.start r.period r.end z F

    before : Each (λ p. p.x <ℚ r.start +ℚ r.period) front
    before = subst (λ x. Each (λ p. p.x <ℚ x) front) e K.before

    starts : StartsAtZero front
    starts = kept_starts qs to front K (subst (λ x. zero_q <ℚ x) (sym e) (first_some f r h)) S.scan.starts

    rise_whole : Whole (grid_of z) rise
    rise_whole = subst (Whole (grid_of z)) (sym g) R.whole

    more : times_largest 3 z ≤ℚ times_largest 8 z
    more = mul_le_mul_right (int (pos z.largest)) (nat_nonneg z.largest) (nat_le 3 8 (omega arith))

-- ---- the value
pub same_until : (f g : ℚ → Ext) (end t : ℚ) (v : Ext) → ((s : ℚ) → t ≤ℚ s → s <ℚ end → f s ≡ g s) → IsInfimumUntil g end t v → IsInfimumUntil f end t v
same_until f g end t v same h =
    same_infimum {I = Until t end} {J = Until t end} (λ s. g s.at) (λ s. f s.at) v (λ s. (s, same_le_ext (same s.at s.least s.early)))
    (λ s. (s, same_le_ext (sym (same s.at s.least s.early)))) h

pub inf_value : (f : SpecCurve) (r : Frame) (to rise : ℚ) (ps qs front : List Piece) (c : SpecCurve) → IsFinite (value_at f) → IsNonnegative (value_at f)
    → IsFrame RunInf f f 0 0 r
    → to ≡ r.start +ℚ r.period → rise ≡ rise_over f r.period → ps ≡ unroll f r.end → IsInfimumScan ps r.end qs → IsFrontBefore qs to front
    → HasValues c (repeated (read front) r.start r.period rise) → RunsFrom f c
inf_value f r to rise ps qs front c finite nonneg h e g u S K V =
    answer_relation (λ t v. IsRunningInfimum (value_at f) t v) c (read front) r.start r.period rise V F.low F.some
    (λ t low early. first t low early)
    (λ t v late k. infimum_repeats (value_at f) r.start r.period rise t v (le_of_lt F.some) repeats late k)
  where
    z : Sizes
    z = sizes_at RunInf f f 0 0

    F : RunFacts f r.start r.period r.end z
    F = inf_facts f r h

    rise_low : zero_q ≤ℚ rise
    rise_low = subst (λ x. zero_q ≤ℚ x) (sym g) (run_low f r.start r.period r.end z F finite nonneg)

    repeats : Repeats (value_at f) r.start r.period rise
    repeats = subst (λ x. Repeats (value_at f) r.start r.period x) (sym g) (run_repeats f r.start r.period r.end z F)

    reads : (s : ℚ) → zero_q ≤ℚ s → s <ℚ r.end → value_at f s ≡ read ps s
    reads s low early = sym (ap (λ q. read q s) u ∙ run_reads f r.start r.period r.end z F s low early)

    first : (t : ℚ) → zero_q ≤ℚ t → t <ℚ r.start +ℚ r.period → IsRunningInfimum (value_at f) t (read front t)
    first t low early =
        let soon : t <ℚ to = subst (λ x. t <ℚ x) (sym e) early in
        let starts = kept_starts qs to front K (subst (λ x. zero_q <ℚ x) (sym e) (first_some f r h)) S.scan.starts in
        let same = kept_reads qs to front t K starts soon in
        let until : IsInfimumUntil (value_at f) r.end t (read qs t) =
        same_until (value_at f) (read ps) r.end t (read qs t) (λ s l m. reads s (le_trans low l) m) (S.reads t low (lt_le_trans early F.both)) in
        infimum_until (value_at f) r.start r.period rise t (read front t) F.some rise_low repeats (le_of_lt early)
        (subst (λ x. IsInfimumUntil (value_at f) x t (read front t)) (inf_end f r h) (subst (IsInfimumUntil (value_at f) r.end t) (sym same) until))
