-- Where a call within the limits takes a curve, the steps by which its pieces are made fit.
use Rattle.std.specs.Prelude.{◌≡◌, ◌^◌, pos, List, [], ◌∷◌, Option, Some, None}
use Rattle.std.specs.List.{AllByRecursion}
use Rattle.std.proofs.Common.{arith, subst}
use Rattle.rational.specs.Rational.{ℚ, ◌+ℚ◌, ◌-ℚ◌, ◌*ℚ◌, ◌≤ℚ◌, ◌<ℚ◌, int, neg_ℚ}
use Rattle.rational.specs.Grid.{Whole, Within}
use Rattle.rational.specs.Extended.{Ext}
use Rattle.rational.specs.declared.Extended.TheVariants.{Fin, Inf}
use Rattle.rational.proofs.Linear.{with1, with3}
use Rattle.rational.proofs.Laws.{le_of_lt}
use Rattle.rational.proofs.Grid.{whole_sub, whole_neg, within_sub, within_neg}
use Rattle.upp_curve.specs.declared.affine_segment.line.Line.{Line}
use Rattle.upp_curve.specs.declared.affine_segment.line.Piece.{Piece}
use Rattle.upp_curve.specs.affine_segment.Values.{line_at, line_value}
use Rattle.upp_curve.specs.declared.curve.Tail.{Tail}
use Rattle.upp_curve.specs.declared.curve.Tail.TheVariants.{Periodic, Affine, Infinite}
use Rattle.upp_curve.specs.Curve.{SpecCurve}
use Rattle.min_plus.specs.Functions.{zero_q}
use Rattle.upp_curve.specs.affine_segment.Fits.{LineFitsAt}
use Rattle.upp_curve.specs.Readable.{LineFitsTo, EachFits}
use Rattle.upp_curve.specs.affine_segment.Pieces.{start_after, Each}
use Rattle.upp_curve.specs.Normal.{IsRaw}
use Rattle.upp_limits.specs.Spans.{spans}
use Rattle.upp_normal.specs.Ahead.{IsOverBy}
use Rattle.upp_limits.specs.Seen.{NextFits}
use Rattle.upp_limits.specs.Limits.{Sizes, curve_numbers}
use Rattle.upp_limits.specs.Sized.{IsValue, IsSlope, AreSizes, ValueStands, LineStands, SpanStands, TailStands, CurveStands, Stands, grid_of, times_largest}
use Rattle.upp_normal.specs.Operand.{AreLimited, OperandLineAt}
use Rattle.subadd_closure.specs.Heavy.{IsHeavy}
use Rattle.subadd_closure.specs.PieceFits.{AtFits, LineFits, DropFits, PieceFits}
use Rattle.upp_limits.proofs.NarrowSizes.{IsNarrow, narrow_gauge, small_number, small_sum, small_slope, value_whole, value_within, line_parts}
use Rattle.upp_limits.proofs.KnownNumbers.{start_fits, span_fits}
use Rattle.upp_normal.proofs.StretchSizes.{time_whole, time_within, starts_over}
use Rattle.upp_limits.proofs.CurveStands.{curve_stands}
use Rattle.upp_limits.proofs.PieceLists.{starts_nonneg}
use Rattle.upp_curve.proofs.RisingCurves.{GoesOn}

-- ---- where pieces stand
pub record PieceStands (z : Sizes) (end : ℚ) (p : Piece) : Type 0 where
  pub start : Whole z.dt p.x
  pub low : zero_q ≤ℚ p.x
  pub high : p.x ≤ℚ end
  pub at : ValueStands z p.at
  pub after : ValueStands z (line_value p.line p.x)
  pub slope : LineStands z p.line

pieces_stand : (z : Sizes) (end : ℚ) (tail : Tail) (ps : List Piece) → GoesOn tail → Each (λ p. p.x <ℚ end) ps
    → AllByRecursion (λ p. zero_q ≤ℚ p.x) ps → AllByRecursion (SpanStands z) (spans tail ps) → Each (PieceStands z end) ps
unfolding spans
pieces_stand z end tail [] g h k s = tt
pieces_stand z end (Periodic r d c) (p ∷ ps) g h k s = (
  record { start = s.0.start; low = k.0; high = le_of_lt h.0; at = s.0.at; after = s.0.after; slope = s.0.slope },
  pieces_stand z end (Periodic r d c) ps g h.1 k.1 s.1,
)
pieces_stand z end (Affine r) (p ∷ ps) g h k s = (
  record { start = s.0.start; low = k.0; high = le_of_lt h.0; at = s.0.at; after = s.0.after; slope = s.0.slope },
  pieces_stand z end (Affine r) ps g h.1 k.1 s.1,
)
pieces_stand z end (Infinite r) (p ∷ ps) g h k s = absurd g

-- the sizes of a call's window that goes past the curve's rank
pub record CallSizes (c : SpecCurve) (z : Sizes) (end : ℚ) : Type 0 where
  pub limited : AreLimited z end
  pub narrow : IsNarrow z (2 ^ 122)
  pub over : IsOverBy end c.tail
  pub stands : CurveStands z c
  pub pieces : Each (PieceStands z end) c.pieces

pub call_sizes : (c : SpecCurve) (z : Sizes) (end : ℚ) → IsRaw c → GoesOn c.tail → AreLimited z end → IsOverBy end c.tail
    → Stands z (curve_numbers end c) → CallSizes c z end
call_sizes c z end raw g A over h =
    let below = starts_over c.pieces c.tail end raw.tail over in
    let stands = curve_stands z end c raw below h in
    let small = A.gauge in
    record {
      limited = A;
      narrow = narrow_gauge z end A.sizes (omega (arith, small));
      over = over;
      stands = stands;
      pieces = pieces_stand z end c.tail c.pieces g below (starts_nonneg c.pieces raw.starts) stands.spans;
    }

-- ---- and what follows
at_fits : (z : Sizes) (end : ℚ) (v : Ext) → AreSizes z end → IsNarrow z (2 ^ 122) → ValueStands z v → AtFits v
at_fits z end Inf a n h = tt
at_fits z end (Fin v) a n h = small_number z end 1 v a n (omega arith) (value_whole z v h) (value_within z v h)

line_fits : (z : Sizes) (end : ℚ) (l : Option Line) → AreSizes z end → IsNarrow z (2 ^ 122) → OperandLineAt z l → LineFits l
line_fits z end None a n h = tt
line_fits z end (Some l) a n h = record {
  icept = small_number z end 2 l.icept a n (omega arith) h.icept h.within;
  slope = small_slope z end l.slope a n h.slope;
}

drop_fits : (z : Sizes) (end : ℚ) (v w : Ext) → AreSizes z end → IsNarrow z (2 ^ 122) → ValueStands z v → ValueStands z w → DropFits v w
drop_fits z end Inf w a n h k = tt
drop_fits z end (Fin v) Inf a n h k = tt
drop_fits z end (Fin v) (Fin w) a n h k =
    let V = int (pos z.largest) in
    let whole = whole_sub (grid_of z) w v (value_whole z w k) (value_whole z v h) in
    let within : Within (times_largest 2 z) (w -ℚ v) = subst (λ m. Within m (w -ℚ v)) (two_ones V)
    (within_sub (times_largest 1 z) (times_largest 1 z) w v (value_within z w k) (value_within z v h)) in
    small_sum z end 1 2 w (neg_ℚ (w -ℚ v)) a n (omega arith) (value_whole z w k) (whole_neg (grid_of z) (w -ℚ v) whole)
    (value_within z w k) (within_neg (times_largest 2 z) (w -ℚ v) within)
  where
    two_ones : (v : ℚ) → int (pos 1) *ℚ v +ℚ int (pos 1) *ℚ v ≡ int (pos 2) *ℚ v
    two_ones v = with1 v (λ c. omega (arith, c.le, c.lt, c.same))

piece_fits : (c : SpecCurve) (z : Sizes) (end : ℚ) (p : Piece) → CallSizes c z end → PieceStands z end p → PieceFits p
piece_fits c z end p O s =
    let a = O.limited.sizes in
    let n = O.narrow in
    record {
      start = small_number z end 1 p.x a n (omega arith) (time_whole z p.x s.start) (time_within z end p.x O.limited s.low s.high);
      at = at_fits z end p.at a n s.at;
      line = line_fits z end p.line a n (line_of p.x p.line O.limited s.start s.low s.high s.after s.slope);
      reads = start_fits z end p.line p.x a n s.start s.low s.high s.slope s.after;
      drop = drop_fits z end p.at (line_value p.line p.x) a n s.at s.after;
    }
  where
    line_of : (x : ℚ) (l : Option Line) → AreLimited z end → Whole z.dt x → zero_q ≤ℚ x → x ≤ℚ end
        → ValueStands z (line_value l x) → LineStands z l → OperandLineAt z l
    line_of x None A w low high v s = tt
    line_of x (Some l) A w low high v s =
        let p = line_parts z end l.icept l.slope x A.sizes s w low high v in
        record { slope = s; icept = p.icept_whole; within = p.icept_within }

each_fits : (c : SpecCurve) (z : Sizes) (end : ℚ) → CallSizes c z end → (ps : List Piece) → Each (PieceStands z end) ps → Each PieceFits ps
each_fits c z end O [] h = tt
each_fits c z end O (p ∷ ps) h = (piece_fits c z end p O h.0, each_fits c z end O ps h.1)

pub pieces_fit : (c : SpecCurve) (z : Sizes) (end : ℚ) → CallSizes c z end → Each PieceFits c.pieces
pieces_fit c z end O = each_fits c z end O c.pieces O.pieces

-- the value of a line at the period, where that is the rise
pub rise_fits : (c : SpecCurve) (z : Sizes) (end R d : ℚ) (l : Line) → CallSizes c z end → c.tail ≡ Periodic R d (line_at l d)
    → IsSlope z l.slope → zero_q ≤ℚ R → zero_q ≤ℚ d → LineFitsAt d (Some l)
rise_fits c z end R d l O e s first low =
    let t = period_of c.tail (line_at l d) O.stands.tail e in
    let over : R +ℚ d ≤ℚ end = subst (IsOverBy end) e O.over in
    start_fits z end (Some l) d O.limited.sizes O.narrow t.0 low (with3 R d end (λ c. omega (arith, c.le, c.lt, c.same))) s t.1
  where
    period_of : (tail : Tail) (rise : ℚ) → TailStands z tail → tail ≡ Periodic R d rise → (Whole z.dt d) × IsValue z rise
    period_of tail rise h e = let k = subst (TailStands z) e h in (k.whole, k.value)

-- the lines of a curve that goes on with its last line are readable
pub lines_read : (c : SpecCurve) (z : Sizes) (end r : ℚ) → CallSizes c z end → c.tail ≡ Affine r → EachFits None c.pieces
unfolding spans
lines_read c z end r O e = by_list c.pieces (subst (λ t. AllByRecursion (SpanStands z) (spans t c.pieces)) e O.stands.spans) O.pieces
  where
    by_list : (ps : List Piece) → AllByRecursion (SpanStands z) (spans (Affine r) ps) → Each (PieceStands z end) ps → EachFits None ps
    by_list [] h k = tt
    by_list (p ∷ ps) h k =
        let s = span_fits z end record { piece = p; next = start_after ps None } O.limited.sizes O.narrow k.0.low k.0.high h.0 in
        (s.start, next_reads p.line (start_after ps None) s.end, by_list ps h.1 k.1)
      where
        next_reads : (l : Option Line) (next : Option ℚ) → NextFits l next → LineFitsTo next l
        next_reads l None h = tt
        next_reads l (Some e) h = h

-- where the pieces of a call's operand would fit, and do not fit, no call takes it
pub heavy_by : (c : SpecCurve) (P : Type 0) → IsRaw c → GoesOn c.tail → ((z : Sizes) (end : ℚ) → CallSizes c z end → P) → ¬ P → IsHeavy c
heavy_by c P raw g f n = λ z end A over h. n (f z end (call_sizes c z end raw g A over h))
