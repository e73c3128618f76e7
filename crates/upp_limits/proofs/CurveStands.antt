-- A curve whose numbers count in a call: its rank, period and rise and each of its pieces stand where the call's sizes say.
use Rattle.std.specs.Prelude.{◌≡◌, ◌<◌, pos, cond, List, [], ◌∷◌, map}
use Rattle.std.proofs.Common.{arith, sym, subst, inl, inr}
use Rattle.std.specs.List.{AllByRecursion, flat_map}
use Rattle.std.proofs.Math.Nat.{le-max_right}
use Rattle.rational.specs.Rational.{ℚ, ◌+ℚ◌, ◌*ℚ◌, ◌≤ℚ◌, ◌<ℚ◌, int}
use Rattle.rational.specs.Grid.{Whole}
use Rattle.rational.proofs.Linear.{with1, with2}
use Rattle.rational.proofs.Laws.{le_or_lt, le_trans, le_lt_trans}
use Rattle.rational.proofs.Integers.{nat_le}
use Rattle.rational.proofs.Over.{lt_q_out}
use Rattle.rational.proofs.MinMax.{lt_q_not}
use Rattle.upp_curve.specs.declared.affine_segment.line.Piece.{Piece}
use Rattle.upp_curve.specs.declared.curve.Tail.{Tail}
use Rattle.upp_curve.specs.declared.curve.Tail.TheVariants.{Periodic, Affine, Infinite}
use Rattle.upp_curve.specs.Curve.{SpecCurve}
use Rattle.upp_curve.specs.Steady.{rank_of, steady, steady_in, last_of}
use Rattle.upp_limits.specs.Periods.{HasPeriod, own_period}
use Rattle.upp_curve.specs.Unrolled.{copies_below}
use Rattle.min_plus.specs.WholeUp.{whole_up}
use Rattle.upp_curve.specs.affine_segment.Pieces.{Each}
use Rattle.upp_curve.specs.Normal.{IsRaw, TailFits}
use Rattle.upp_limits.specs.Spans.{Span, spans, copies_of, once_below, span_below, spans_below}
use Rattle.upp_limits.specs.Limits.{Numbers, Sizes, sizes_of, curve_numbers, span_values, span_slopes, own_end, own_sizes}
use Rattle.upp_limits.specs.Sized.{IsValue, IsSlope, Stands, AreSizes, SpanStands, TailStands, CurveStands, LineStands}
use Rattle.upp_limits.proofs.Every.{every_flat_out, every_map_out, every_weaken}
use Rattle.upp_limits.proofs.CommonDen.{common_den_pos, common_den_each, bound_pos}
use Rattle.upp_limits.proofs.Copies.{copies_out, copy_zero, copy_among}
use Rattle.upp_limits.proofs.Rounding.{whole_up_least}
use Rattle.upp_limits.proofs.Stands.{sizes_stand, span_stands}
use Rattle.upp_curve.proofs.SteadyTimes.{later_at_least}

-- ---- the sizes
pub are_sizes : (end : ℚ) (n : Numbers) → AreSizes (sizes_of end n) end
are_sizes end n =
    let z = sizes_of end n in
    record {
      dv = common_den_pos n.values;
      dt = common_den_pos (end ∷ n.times);
      ds = common_den_pos n.slopes;
      steepness = bound_pos _;
      largest = let h = bound_pos n.values in omega arith;
      window = (common_den_each (end ∷ n.times)).0;
      reach = le_trans (whole_up_least (int (pos z.steepness) *ℚ end)) (nat_le (whole_up (int (pos z.steepness) *ℚ end)) z.largest (le-max_right _ _));
    }

-- ---- the unrolled pieces
zipped : (z : Sizes) (ss : List Span) → AllByRecursion (λ s. Whole z.dt s.piece.x) ss → AllByRecursion (λ s. AllByRecursion (IsValue z) (span_values s)) ss
    → AllByRecursion (λ s. AllByRecursion (IsSlope z) (span_slopes s)) ss → AllByRecursion (SpanStands z) ss
zipped z [] t v s = tt
zipped z (x ∷ xs) t v s = (span_stands z x t.0 v.0 s.0, zipped z xs t.1 v.1 s.1)

unrolled_times : (z : Sizes) (end : ℚ) (ps : List Piece) (tail : Tail) → AllByRecursion (Whole z.dt) (curve_numbers end record { pieces = ps; tail = tail }).times
    → AllByRecursion (Whole z.dt) (map (λ s. s.piece.x) (spans_below record { pieces = ps; tail = tail } end))
unrolled_times z end ps (Periodic rank period rise) h = h.1.1
unrolled_times z end ps (Affine rank) h = h.1
unrolled_times z end ps (Infinite rank) h = h.1

unrolled_values : (z : Sizes) (end : ℚ) (ps : List Piece) (tail : Tail) → AllByRecursion (IsValue z) (curve_numbers end record { pieces = ps; tail = tail }).values
    → AllByRecursion (IsValue z) (flat_map span_values (spans_below record { pieces = ps; tail = tail } end))
unrolled_values z end ps (Periodic rank period rise) h = h.1
unrolled_values z end ps (Affine rank) h = h
unrolled_values z end ps (Infinite rank) h = h

-- each unrolled piece below the window's end stands
pub unrolled_stand : (z : Sizes) (end : ℚ) (c : SpecCurve) → Stands z (curve_numbers end c) → AllByRecursion (SpanStands z) (spans_below c end)
unrolled_stand z end c h =
    let ss = spans_below c end in
    zipped z ss
    (every_map_out (Whole z.dt) (λ s. s.piece.x) ss (unrolled_times z end c.pieces c.tail h.times))
    (every_flat_out (IsValue z) span_values ss (unrolled_values z end c.pieces c.tail h.values))
    (every_flat_out (IsSlope z) span_slopes ss h.slopes)

-- ---- the pieces themselves
pub once_out : (P : Span → Type 0) (end : ℚ) (s : Span) → s.piece.x <ℚ end → AllByRecursion P (once_below end s) → P s
once_out P end s l h =
    let k : AllByRecursion P (s ∷ []) = subst (λ b. AllByRecursion P (cond b (s ∷ []) [])) (lt_q_out s.piece.x end l) h in k.0

first_below : (end d : ℚ) (p : Piece) → int (pos 0) <ℚ d → p.x <ℚ end → 0 < copies_below d end p
first_below end d p some l =
    copies_out d end p 0 some (subst (λ y. y <ℚ end) (sym (first p.x d)) l)
  where
    first : (x d : ℚ) → x +ℚ int (pos 0) *ℚ d ≡ x
    first x d = with2 x (int (pos 0) *ℚ d) (λ c. omega (arith, c.le, c.lt, c.same, zero_product d))
      where
        zero_product : (d : ℚ) → int (pos 0) *ℚ d ≡ int (pos 0)
        zero_product d = with1 d (λ c. omega (arith, c.le, c.lt, c.same))

pub copies_first : (P : Span → Type 0) (end d c : ℚ) (s : Span) → int (pos 0) <ℚ d → s.piece.x <ℚ end
    → AllByRecursion P (copies_of d c s (copies_below d end s.piece)) → P s
copies_first P end d c s some l h =
    subst P (copy_zero d c s) (copy_among P d c s (copies_below d end s.piece) 0 (first_below end d s.piece some l) h)

itself_out : (P : Span → Type 0) (end : ℚ) (tail : Tail) (s : Span) → HasPeriod tail → s.piece.x <ℚ end → AllByRecursion P (span_below tail end s) → P s
itself_out P end (Affine rank) s some l h = once_out P end s l h
itself_out P end (Infinite rank) s some l h = once_out P end s l h
itself_out P end (Periodic rank period rise) s some l h = elim (le_or_lt rank s.piece.x) [
  | inl k ↦ copies_first P end period rise s some l (subst (λ b. AllByRecursion P (cond b (once_below end s) (copies_of period rise s (copies_below period end s.piece)))) (lt_q_not s.piece.x rank k) h)
  | inr k ↦ once_out P end s l (subst (λ b. AllByRecursion P (cond b (once_below end s) (copies_of period rise s (copies_below period end s.piece)))) (lt_q_out s.piece.x rank k) h)
]

-- each piece that starts below the window's end stands
pub each_stands : (P : Span → Type 0) (end : ℚ) (c : SpecCurve) → HasPeriod c.tail → AllByRecursion P (spans_below c end)
    → AllByRecursion (λ s. s.piece.x <ℚ end → P s) (spans c.tail c.pieces)
unfolding spans_below
each_stands P end c some h =
    every_weaken (λ s k l. itself_out P end c.tail s some l k) (spans c.tail c.pieces) (every_flat_out P (span_below c.tail end) (spans c.tail c.pieces) h)

pub has_period : (ps : List Piece) (tail : Tail) → TailFits ps tail → HasPeriod tail
has_period ps (Periodic rank period rise) h = h.some
has_period ps (Affine rank) h = tt
has_period ps (Infinite rank) h = tt

below_all : (P : Span → Type 0) (end : ℚ) (tail : Tail) (ps : List Piece) → Each (λ p. p.x <ℚ end) ps → AllByRecursion (λ s. s.piece.x <ℚ end → P s) (spans tail ps)
    → AllByRecursion P (spans tail ps)
unfolding spans
below_all P end tail [] h k = tt
below_all P end tail (p ∷ ps) h k = (k.0 h.0, below_all P end tail ps h.1 k.1)

rank_stands : (z : Sizes) (end : ℚ) (c : SpecCurve) → Stands z (curve_numbers end c) → Whole z.dt (rank_of c.tail)
rank_stands z end c h = h.times.0

pub tail_stands : (z : Sizes) (end : ℚ) (ps : List Piece) (tail : Tail) → Stands z (curve_numbers end record { pieces = ps; tail = tail }) → TailStands z tail
tail_stands z end ps (Periodic rank period rise) h = record { whole = h.times.1.0; value = h.values.0 }
tail_stands z end ps (Affine rank) h = tt
tail_stands z end ps (Infinite rank) h = tt

-- a curve all of whose pieces start below the window's end
pub curve_stands : (z : Sizes) (end : ℚ) (c : SpecCurve) → IsRaw c → Each (λ p. p.x <ℚ end) c.pieces → Stands z (curve_numbers end c) → CurveStands z c
curve_stands z end c raw starts h = record {
  rank = rank_stands z end c h;
  tail = tail_stands z end c.pieces c.tail h;
  spans = below_all (SpanStands z) end c.tail c.pieces starts (each_stands (SpanStands z) end c (has_period c.pieces c.tail raw.tail) (unrolled_stand z end c h));
}

-- ---- a curve by itself
pub each_up : (ps : List Piece) (s t : ℚ) → s <ℚ t → Each (λ p. p.x ≤ℚ s) ps → Each (λ p. p.x <ℚ t) ps
each_up [] s t l h = tt
each_up (p ∷ ps) s t l h = (le_lt_trans h.0 l, each_up ps s t l h.1)

-- each piece starts below the end of the curve's own window
pub starts_below_own_end : (c : SpecCurve) → IsRaw c → Each (λ p. p.x <ℚ own_end c) c.pieces
unfolding own_end steady own_period
starts_below_own_end c raw = by_tail c.pieces c.tail raw.tail
  where
    by_tail : (ps : List Piece) (tail : Tail) → TailFits ps tail → Each (λ p. p.x <ℚ own_end record { pieces = ps; tail = tail }) ps
    by_tail ps (Periodic rank period rise) h = h.starts
    by_tail ps (Affine rank) h =
        let s = steady_in ps (Affine rank) in
        let l : rank ≤ℚ s = later_at_least _ rank in
        each_up ps rank (s +ℚ int (pos 1)) (with2 rank s (λ c. omega (arith, c.le, c.lt, c.same))) h.starts
    by_tail ps (Infinite rank) h =
        let s = steady_in ps (Infinite rank) in
        let l : rank ≤ℚ s = later_at_least _ rank in
        each_up ps rank (s +ℚ int (pos 1)) (with2 rank s (λ c. omega (arith, c.le, c.lt, c.same))) h.starts

pub own_are_sizes : (c : SpecCurve) → AreSizes (own_sizes c) (own_end c)
unfolding own_sizes
own_are_sizes c = are_sizes (own_end c) (curve_numbers (own_end c) c)

pub own_stands : (c : SpecCurve) → IsRaw c → CurveStands (own_sizes c) c
unfolding own_sizes
own_stands c raw = curve_stands (own_sizes c) (own_end c) c raw (starts_below_own_end c raw) (sizes_stand (own_end c) (curve_numbers (own_end c) c))

-- the slope of the last line counts
pub last_slope : (z : Sizes) (rank : ℚ) (p : Piece) (ps : List Piece) → AllByRecursion (SpanStands z) (spans (Affine rank) (p ∷ ps)) → LineStands z (last_of p ps).line
unfolding spans
last_slope z rank p [] h = h.0.slope
last_slope z rank p (q ∷ qs) h = last_slope z rank q qs h.1
