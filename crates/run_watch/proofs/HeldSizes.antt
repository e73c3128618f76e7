-- The steps of the search fit where the numbers stand by the sizes of a gauge.
use Rattle.std.specs.Prelude.{◌≡◌, ℕ, ◌*◌, pos, List, [], ◌∷◌, Option, Some, None}
use Rattle.std.proofs.Common.{arith, inl, inr, refl, sym, subst, ap, ◌∙◌}
use Prim.Native.Nat.{◌∣◌}
use native.Mathlib.Nat.{dvd-mul_right, dvd_trans}
use Rattle.rational.specs.Rational.{ℚ, int, ◌+ℚ◌, ◌-ℚ◌, ◌*ℚ◌, ◌≤ℚ◌, ◌<ℚ◌, neg_ℚ}
use Rattle.rational.specs.Ratio.{SumFits}
use Rattle.rational.specs.Grid.{Whole, Within}
use Rattle.rational.specs.declared.Extended.TheVariants.{Fin, Inf}
use Rattle.rational.specs.Extended.{Ext}
use Rattle.rational.proofs.Laws.{le_refl, le_or_lt, le_of_lt, lt_le_trans, le_lt_trans, add_assoc, add_zero, mul_le_mul, mul_nonneg, zero_mul, mul_zero, one_mul, le_of_mul, div_mul, not_zero}
use Rattle.rational.proofs.Integers.{nat_nonneg}
use Rattle.rational.proofs.Grid.{whole_int, whole_add, whole_sub, whole_neg, whole_weaken, within_neg, within_nonneg}
use Rattle.rational.proofs.Linear.{with2, with3, with_atoms}
use Rattle.rational.proofs.MinMax.{lt_q_not}
use Rattle.rational.proofs.Over.{lt_q_out}
use Rattle.upp_curve.specs.declared.affine_segment.line.Line.{Line}
use Rattle.upp_curve.specs.declared.affine_segment.line.Piece.{Piece}
use Rattle.upp_limits.specs.Limits.{Sizes}
use Rattle.upp_curve.specs.affine_segment.Pieces.{Each, HasStart}
use Rattle.upp_limits.specs.Sized.{IsSlope, ValueStands, grid_of, times_largest}
use Rattle.upp_normal.specs.Operand.{AreLimited, OperandLineAt, OperandPiece, OperandPieces}
use Rattle.run_laws.proofs.Sums.{add_nothing}
use Rattle.flow_watch.specs.watch_laws.Affine.{EachTime}
use Rattle.flow_watch.specs.declared.watch_laws.point.Segment.{Segment}
use Rattle.flow_watch.specs.watch_laws.Shorts.{EachSegment}
use Rattle.flow_watch.specs.watch_laws.Segments.{number_at, slope_of, next_start, segments}
use Rattle.flow_watch.specs.watch_laws.MarkSizes.{IsTime, IsAmount, IsTimeIfAny}
use Rattle.flow_watch.proofs.watch_laws.MarkSizes.{time_whole, time_within, sum_fits, marks_fit, keys_fit}
use Rattle.run_watch.specs.declared.span.Span.{Span}
use Rattle.run_watch.specs.declared.span.Ramp.{Ramp}
use Rattle.run_watch.specs.Ramps.{as_span, amount, pace_in, InOrder, ramps_after, spans_of, part, ReadsRamp, EachRamp}
use Rattle.run_watch.specs.FirstEnds.{mark_of, rule_of, KeySteps, GapSteps}
use Rattle.run_watch.specs.WatchTimes.{point_at, AroundFits, TimesFit}
use Rattle.run_watch.specs.IdleWindows.{TimeFits, SegmentsFit}
use Rattle.run_watch.specs.Held.{IsHeldRamp, AreHeld}
use Rattle.flow_watch.specs.watch_laws.Marks.{FitsRule}
use Rattle.run_watch.proofs.RampLists.{part_first, clip_past, spans_are, pace_is}
use Rattle.upp_curve.proofs.affine_segment.PieceOrder.{each_map}

some_largest : (z : Sizes) → int (pos 0) ≤ℚ times_largest 1 z
some_largest z = mul_nonneg (nat_nonneg 1) (nat_nonneg z.largest)

zero_amount : (z : Sizes) → IsAmount z (int (pos 0))
zero_amount z = record { whole = whole_int (grid_of z) (pos 0); within = within_nonneg (times_largest 1 z) (int (pos 0)) (le_refl (int (pos 0))) (some_largest z) }

-- ---- times
pub length_time : (z : Sizes) (end s t : ℚ) → IsTime z end s → IsTime z end t → s ≤ℚ t → IsTime z end (t -ℚ s)
length_time z end s t S T h = record {
  whole = whole_sub z.dt t s T.whole S.whole;
  low = with2 s t (λ c. omega (arith, c.le, c.lt, c.same));
  high = let a = S.low in let b = T.high in with3 s t end (λ c. omega (arith, c.le, c.lt, c.same));
}

pub times_sum_fit : (z : Sizes) (end s t : ℚ) → AreLimited z end → IsTime z end s → IsTime z end t → SumFits s t
times_sum_fit z end s t A S T = sum_fits z end 1 1 s t A (omega arith) (time_whole z s S.whole) (time_whole z t T.whole) (time_within z end s A S) (time_within z end t A T)

pub times_differ : (z : Sizes) (end s t : ℚ) → AreLimited z end → IsTime z end s → IsTime z end t → SumFits s (neg_ℚ t)
times_differ z end s t A S T =
    sum_fits z end 1 1 s (neg_ℚ t) A (omega arith) (time_whole z s S.whole) (whole_neg (grid_of z) t (time_whole z t T.whole)) (time_within z end s A S) (within_neg (times_largest 1 z) t (time_within z end t A T))

-- ---- reading a ramp
-- a pace times a length of time
record IsRun (z : Sizes) (x : ℚ) : Type 0 where
  whole : Whole (grid_of z) x
  within : Within (times_largest 2 z) x

run_of : (z : Sizes) (end s t : ℚ) → AreLimited z end → IsSlope z s → IsTime z end t → IsRun z (s *ℚ t)
run_of z end s t A S T =
    let n = keys_fit z end (int (pos 0)) s t A (zero_amount z) S T in record {
      whole = whole_flip (grid_of z) (s *ℚ t) n.is.whole;
      within = within_flip (times_largest 2 z) (s *ℚ t) n.is.within;
    }
  where
    whole_flip : (g : ℕ) (x : ℚ) → Whole g (int (pos 0) -ℚ x) → Whole g x
    whole_flip g x h = subst (Whole g) (let y = int (pos 0) in with2 x y (λ c. omega (arith, c.le, c.lt, c.same))) (whole_sub g (int (pos 0)) (int (pos 0) -ℚ x) (whole_int g (pos 0)) h)

    within_flip : (v x : ℚ) → Within v (int (pos 0) -ℚ x) → Within v x
    within_flip v x h =
        let a = h.low in
        let b = h.high in
        record { low = with2 v x (λ c. omega (arith, c.le, c.lt, c.same)); high = with2 v x (λ c. omega (arith, c.le, c.lt, c.same)) }

part_fits : (z : Sizes) (end t : ℚ) (r : Ramp) → AreLimited z end → IsHeldRamp z end r → IsTime z end t → ReadsRamp t r
part_fits z end t r A H T l m =
    let d = length_time z end r.span.start t H.start T (le_of_lt l) in
    let s = H.pace (lt_le_trans l m) in
    let k = keys_fit z end r.before r.pace (t -ℚ r.span.start) A H.before s d in
    let n = run_of z end r.pace (t -ℚ r.span.start) A s d in
    record {
      back = times_differ z end t r.span.start A T H.start;
      product = k.product;
      sum = sum_fits z end 1 2 r.before (r.pace *ℚ (t -ℚ r.span.start)) A (omega arith) H.before.whole n.whole H.before.within n.within;
    }

pub ramps_read : (z : Sizes) (end t : ℚ) (rs : List Ramp) → AreLimited z end → EachRamp (IsHeldRamp z end) rs → IsTime z end t → EachRamp (ReadsRamp t) rs
ramps_read z end t [] A H T = tt
ramps_read z end t (r ∷ rs) A H T = (part_fits z end t r A H.0 T, ramps_read z end t rs A H.1 T)

-- ---- how much there is up to a time
part_between : (z : Sizes) (end t : ℚ) (r : Ramp) → AreLimited z end → IsHeldRamp z end r → IsTime z end t → r.pace ≡ pace_in r.span → r.after ≡ r.before +ℚ r.span.bits → t ≤ℚ r.span.end → IsAmount z (part r t)
part_between z end t r A H T e f l = elim (le_or_lt t r.span.start) [
  | inl k ↦ rw (lt_q_not r.span.start t k) H.before
  | inr k ↦
      let a = r.span.start in
      let b = r.span.end in
      let longer : a <ℚ b = lt_le_trans k l in
      let length = r.span.end -ℚ r.span.start in
      let gone = t -ℚ r.span.start in
      let some : int (pos 0) <ℚ length = with2 a b (λ c. omega (arith, c.le, c.lt, c.same)) in
      let all : r.pace *ℚ length ≡ r.span.bits = ap (λ x. x *ℚ length) (e ∙ pace_is r.span longer) ∙ div_mul r.span.bits length (not_zero length some) in
      let steady : int (pos 0) ≤ℚ r.pace = le_of_mul length (int (pos 0)) r.pace some (subst (λ x. x ≤ℚ r.pace *ℚ length) (sym (zero_mul length)) (subst (λ x. int (pos 0) ≤ℚ x) (sym all) H.some)) in
      let past : int (pos 0) ≤ℚ gone = with2 a t (λ c. omega (arith, c.le, c.lt, c.same)) in
      let less : gone ≤ℚ length = with3 a b t (λ c. omega (arith, c.le, c.lt, c.same)) in
      let most : r.pace *ℚ gone ≤ℚ r.span.bits = subst (λ x. r.pace *ℚ gone ≤ℚ x) all (mul_le_mul r.pace steady less) in
      let n = run_of z end r.pace gone A (H.pace longer) (length_time z end r.span.start t H.start T (le_of_lt k)) in
      rw (lt_q_out r.span.start t k) record {
        whole = whole_add (grid_of z) r.before (r.pace *ℚ gone) H.before.whole n.whole;
        within = between (times_largest 1 z) r.before (r.pace *ℚ gone) r.span.bits r.after f (mul_nonneg steady past) most H.before.within H.after.within;
      }
]
  where
    between : (v b x w a : ℚ) → a ≡ b +ℚ w → int (pos 0) ≤ℚ x → x ≤ℚ w → Within v b → Within v a → Within v (b +ℚ x)
    between v b x w a e h k B A =
        let lo = B.low in
        let hi = A.high in
        record { low = with_atoms (v ∷ b ∷ x ∷ w ∷ a ∷ []) (λ c. omega (arith, c.le, c.lt, c.same)); high = with_atoms (v ∷ b ∷ x ∷ w ∷ a ∷ []) (λ c. omega (arith, c.le, c.lt, c.same)) }

pub amount_stands : (z : Sizes) (end t done from : ℚ) (ss : List Span) → AreLimited z end → InOrder from ss → EachRamp (IsHeldRamp z end) (ramps_after done ss) → IsTime z end t → IsAmount z done → IsAmount z (done +ℚ amount ss t)
amount_stands z end t done from [] A O H T D = subst (IsAmount z) (sym (add_zero done)) D
amount_stands z end t done from (s ∷ ss) A O H T D = elim (le_or_lt t s.end) [
  | inl l ↦
      let r : Ramp = record { span = s; before = done; after = done +ℚ s.bits; pace = pace_in s } in
      subst (IsAmount z) (sym (part_first done t s ss O.1 O.2 l)) (part_between z end t r A H.0 T refl refl l)
  | inr l ↦
      let rest = amount_stands z end t (done +ℚ s.bits) s.end ss A O.2 H.1 T H.0.after in
      subst (IsAmount z) (add_assoc done s.bits (amount ss t) ∙ ap (λ x. done +ℚ (x +ℚ amount ss t)) (sym (clip_past (as_span s) t (le_lt_trans O.1 l) (le_of_lt l)))) rest
]

pub work_stands : (z : Sizes) (end t : ℚ) (rs : List Ramp) → AreLimited z end → AreHeld z end rs → IsTime z end t → IsAmount z (amount (spans_of rs) t)
work_stands z end t rs A H T =
    let R = H.ramps in
    let zero = int (pos 0) in
    let h = amount_stands z end t zero R.from R.spans A R.in_order (subst (EachRamp (IsHeldRamp z end)) R.is H.each) T (zero_amount z) in
    subst (λ (ss : List Span). IsAmount z (amount ss t)) (sym (ap spans_of R.is ∙ spans_are zero R.spans)) (subst (IsAmount z) (add_nothing (amount R.spans t)) h)

-- ---- segments
pub record IsHeldSegment (z : Sizes) (end : ℚ) (s : Segment) : Type 0 where
  pub start : IsTime z end s.start
  pub last : IsTimeIfAny z end s.end
  pub value : IsAmount z s.value
  pub slope : IsSlope z s.slope

value_amount : (z : Sizes) (x : Ext) → ValueStands z x → IsAmount z (number_at x)
value_amount z Inf h = zero_amount z
value_amount z (Fin v) h = record {
  whole = whole_weaken z.dv (grid_of z) v (divides z) h.whole;
  within = subst (λ w. Within w v) (sym (one_mul (int (pos z.largest)))) h.within;
}
  where
    divides : (z : Sizes) → z.dv ∣ grid_of z
    divides z = dvd_trans z.dv (dvd-mul_right z.dv z.dt) (dvd-mul_right (z.dv * z.dt) z.ds)

line_slope : (z : Sizes) (l : Option Line) → OperandLineAt z l → IsSlope z (slope_of l)
line_slope z (Some l) h = h.slope
line_slope z None h = record {
  whole = whole_int z.ds (pos 0);
  within = subst (λ x. Within (int (pos z.steepness)) x) (sym (mul_zero (int (pos 2)))) (within_nonneg (int (pos z.steepness)) (int (pos 0)) (le_refl (int (pos 0))) (nat_nonneg z.steepness));
}

pub piece_time : (z : Sizes) (end : ℚ) (p : Piece) → OperandPiece z end p → IsTime z end p.x
piece_time z end p h = record { whole = h.start; low = h.nonneg; high = le_of_lt h.before }

next_time : (z : Sizes) (end : ℚ) (ps : List Piece) → Each (OperandPiece z end) ps → IsTimeIfAny z end (next_start ps)
next_time z end [] h = tt
next_time z end (p ∷ ps) h = piece_time z end p h.0

pub segments_held : (z : Sizes) (end : ℚ) (ps : List Piece) → Each (OperandPiece z end) ps → EachSegment (IsHeldSegment z end) (segments ps)
segments_held z end [] h = tt
segments_held z end (p ∷ ps) h = (
  record { start = piece_time z end p h.0; last = next_time z end ps h.1; value = value_amount z p.at h.0.at; slope = line_slope z p.line h.0.line },
  segments_held z end ps h.1,
)

pub segment_map : (P Q : Segment → Type 0) → ((s : Segment) → P s → Q s) → (ss : List Segment) → EachSegment P ss → EachSegment Q ss
segment_map P Q f [] h = tt
segment_map P Q f (s ∷ ss) h = (f s h.0, segment_map P Q f ss h.1)

pub gap_steps : (z : Sizes) (end : ℚ) (s : Segment) → AreLimited z end → IsHeldSegment z end s → GapSteps s
gap_steps z end s A h = let k = keys_fit z end s.value s.slope s.start A h.value h.slope h.start in record { product = k.product; difference = k.difference }

pub segments_fit : (z : Sizes) (end : ℚ) (ps : List Piece) → AreLimited z end → OperandPieces z end ps → SegmentsFit (segments ps)
segments_fit z end ps A O =
    let h = segments_held z end ps O.each in record {
      gaps = segment_map (IsHeldSegment z end) GapSteps (λ s k. gap_steps z end s A k) (segments ps) h;
      starts = segment_map (IsHeldSegment z end) (λ s. int (pos 0) ≤ℚ s.start) (λ s k. k.start.low) (segments ps) h;
    }

pub time_fits : (z : Sizes) (end t : ℚ) (ps : List Piece) (works : List Ramp) → AreLimited z end → OperandPieces z end ps → AreHeld z end works → IsTime z end t → TimeFits (segments ps) works t
time_fits z end t ps works A O H T =
    let h = segments_held z end ps O.each in
    let W = work_stands z end t works A H T in record {
      reads = ramps_read z end t works A H.each T;
      keys = segment_map (IsHeldSegment z end) (λ s. KeySteps s.slope (point_at works t))
          (λ s k. let f = keys_fit z end (amount (spans_of works) t) s.slope t A W k.slope T in record { product = f.product; difference = f.difference }) (segments ps) h;
      marks = segment_map (IsHeldSegment z end) (λ s. FitsRule (rule_of s) (mark_of s.slope (point_at works t)))
          (λ s k. marks_fit z end (rule_of s) (mark_of s.slope (point_at works t)) A
          record { least = k.start; most = k.last; gap = (keys_fit z end s.value s.slope s.start A k.value k.slope k.start).is }
          record { time = T; key = (keys_fit z end (amount (spans_of works) t) s.slope t A W k.slope T).is }) (segments ps) h;
    }

-- by one segment alone
pub segment_keys : (z : Sizes) (end t : ℚ) (s : Segment) (works : List Ramp) → AreLimited z end → AreHeld z end works → IsHeldSegment z end s → IsTime z end t
    → KeySteps s.slope (point_at works t) × FitsRule (rule_of s) (mark_of s.slope (point_at works t))
segment_keys z end t s works A H k T =
    let W = work_stands z end t works A H T in
    let f = keys_fit z end (amount (spans_of works) t) s.slope t A W k.slope T in (
      record { product = f.product; difference = f.difference },
      marks_fit z end (rule_of s) (mark_of s.slope (point_at works t)) A
          record { least = k.start; most = k.last; gap = (keys_fit z end s.value s.slope s.start A k.value k.slope k.start).is } record { time = T; key = f.is },
    )

-- ---- moves by the start of a piece
pub moves_fit : (z : Sizes) (end : ℚ) (qs : List Piece) (ps : List ℚ) → AreLimited z end → OperandPieces z end qs → EachTime (IsTime z end) ps → TimesFit qs ps
moves_fit z end qs [] A O h = tt
moves_fit z end qs (p ∷ ps) A O h = (
  each_map (OperandPiece z end) (λ q. AroundFits p q.x)
      (λ q k. record { after = times_sum_fit z end p q.x A h.0 (piece_time z end q k); before = times_differ z end p q.x A h.0 (piece_time z end q k) }) qs O.each,
  moves_fit z end qs ps A O h.1,
)

pub start_time : (z : Sizes) (end x : ℚ) (qs : List Piece) → OperandPieces z end qs → HasStart x qs → IsTime z end x
start_time z end x qs O h = go qs O.each h
  where
    go : (qs : List Piece) → Each (OperandPiece z end) qs → HasStart x qs → IsTime z end x
    go [] e h = absurd h
    go (q ∷ qs) e h = elim h [ inl is ↦ subst (IsTime z end) is (piece_time z end q e.0) | inr k ↦ go qs e.1 k ]
