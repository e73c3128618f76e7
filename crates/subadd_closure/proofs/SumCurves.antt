-- The pieces of the closure of a segment stand within the sizes of sums of its values; so do the numbers of a curve of such
-- pieces, up to two periods after its rank, and there it is readable.
use Rattle.std.specs.Prelude.{◌≡◌, ℕ, suc, ◌+◌, ◌<◌, ◌≤◌, ◌^◌, pos, cond, Bool, List, [], ◌∷◌, ◌++◌, Option, Some, None}
use Rattle.std.specs.List.{AllByRecursion}
use Rattle.std.proofs.Common.{arith, refl, ap, ◌∙◌, sym, subst, inl, inr}
use Rattle.rational.specs.Rational.{ℚ, ◌+ℚ◌, ◌-ℚ◌, ◌*ℚ◌, ◌/ℚ◌, ◌≤ℚ◌, ◌<ℚ◌, int}
use Rattle.rational.specs.Extended.{Ext}
use Rattle.rational.specs.declared.Extended.TheVariants.{Fin, Inf}
use Rattle.rational.specs.Grid.{Whole}
use Rattle.rational.proofs.Grid.{whole_add, whole_int, whole_times}
use Rattle.rational.proofs.Integers.{nat_le, nat_nonneg}
use Rattle.rational.proofs.Laws.{add_zero, le_lt_trans, le_of_lt, le_or_lt, le_refl, le_trans, mul_le_mul_right, mul_nonneg, mul_zero, not_zero, one_mul, zero_mul}
use Rattle.rational.proofs.Linear.{with1, with2, with3, with4}
use Rattle.rational.proofs.MinMax.{lt_q_not}
use Rattle.rational.proofs.Over.{lt_q_out}
use Rattle.rational.proofs.Quotients.{div_le}
use Rattle.min_plus.specs.Functions.{zero_q}
use Rattle.min_plus.specs.closure_laws.Star.{nat_times}
use Rattle.upp_curve.specs.declared.affine_segment.line.Line.{Line}
use Rattle.upp_curve.specs.declared.affine_segment.line.Piece.{Piece}
use Rattle.upp_curve.specs.affine_segment.Pieces.{Each, StartsAtZero, start_after}
use Rattle.upp_curve.specs.affine_segment.Reading.{nothing_at, read}
use Rattle.upp_curve.specs.affine_segment.Values.{line_at, line_value}
use Rattle.upp_curve.specs.declared.curve.Tail.{Tail}
use Rattle.upp_curve.specs.declared.curve.Tail.TheVariants.{Periodic, Affine, Infinite}
use Rattle.upp_curve.specs.Curve.{SpecCurve}
use Rattle.upp_curve.specs.Curves.{IsCurve}
use Rattle.upp_curve.specs.Normal.{IsNormal}
use Rattle.upp_curve.specs.Readable.{EachFits, LineFitsTo, SumFitsAt}
use Rattle.upp_curve.specs.Steady.{rank_of}
use Rattle.upp_curve.specs.Unrolled.{copies_below}
use Rattle.upp_limits.specs.Covered.{MostCopies}
use Rattle.upp_limits.specs.Limits.{Sizes, curve_numbers, finite, gauge_of, limit_before, line_slope, span_slopes, span_values}
use Rattle.upp_limits.specs.Seen.{NextFits}
use Rattle.upp_limits.specs.Sized.{IsSlope, IsValue, LineStands, SpanStands, Stands, TailStands, ValueStands}
use Rattle.upp_limits.specs.Spans.{Span, once, span_below, spans, spans_below}
use Rattle.upp_limits.proofs.CoveredCounts.{once_few}
use Rattle.upp_limits.proofs.Every.{every_append, every_flat, every_map, every_weaken}
use Rattle.upp_limits.proofs.KnownNumbers.{span_fits}
use Rattle.upp_limits.proofs.NarrowSizes.{small_sum, value_whole, value_within}
use Rattle.upp_limits.proofs.Rounding.{whole_up_most}
use Rattle.upp_normal.specs.Operand.{AreLimited}
use Rattle.upp_normal.proofs.GaugeRises.{reach_within}
use Rattle.upp_normal.proofs.StretchSizes.{small_quotient, time_whole, time_within, times_fit}
use Rattle.subadd_closure.specs.ElementCurves.{all_stretches, turn}
use Rattle.subadd_closure.specs.Starting.{first_at}
use Rattle.subadd_closure.proofs.NormalClosures.{all_each}
use Rattle.subadd_closure.proofs.SmallPieces.{CallSizes, PieceStands, call_sizes}
use Rattle.subadd_closure.proofs.SumSizes.{sum_sizes, sums_are, sums_end}
use Rattle.subadd_closure.proofs.SumPieces.{IsSumPiece, IsTimeBy, LineStandsIn, affine_spans, once_in, periodic_spans, read_stands, span_below_stands, span_stands, sum_is_value}

-- ---- the pieces
module _ (z : Sizes) (w : ℚ) (q : ℕ) (l : Line) where
  nothing_is : (x : ℚ) → IsTimeBy z w x → IsSumPiece z w q l (nothing_at x)
  nothing_is x t = record { time = t; at = tt; line = tt }

  pub turn_is_sum : (x : ℚ) (i j : ℕ) → IsTimeBy z w x → i ≤ q → j ≤ q → IsSumPiece z w q l (turn x l i j)
  turn_is_sum x i j t hi hj = record { time = t; at = (i, hi, refl); line = (j, hj, refl, refl) }

  none_there : (x : ℚ) → x ≡ zero_q → zero_q ≡ nat_times 0 l.icept +ℚ l.slope *ℚ x
  none_there x e =
      let r = l.slope *ℚ x in
      let f : nat_times 0 l.icept ≡ zero_q = zero_mul l.icept in
      let g : r ≡ zero_q = ap (λ y. l.slope *ℚ y) e ∙ mul_zero l.slope in
      sym (ap (λ y. y +ℚ r) f ∙ ap (λ y. zero_q +ℚ y) g ∙ add_zero zero_q)

  -- with 0 at 0
  pub first_sums : (ps : List Piece) → StartsAtZero ps → Each (IsSumPiece z w q l) ps → Each (IsSumPiece z w q l) (first_at (Fin zero_q) ps)
  first_sums [] s h = tt
  first_sums (p ∷ ps) s h = (record { time = h.0.time; at = (0, omega arith, none_there p.x s.0); line = h.0.line }, h.1)

  pub sum_pieces : (a b : ℚ) (m : ℕ) → zero_q ≤ℚ a → a <ℚ b
      → ((i : ℕ) → 1 ≤ i → suc i ≤ suc m → nat_times i b ≤ℚ nat_times (suc i) a) → Whole z.dt a → Whole z.dt b → suc m ≤ q
      → nat_times (suc m) a ≤ℚ w → (rest : List Piece) → Each (IsSumPiece z w q l) rest
      → Each (IsSumPiece z w q l) (all_stretches a b l m rest)
  sum_pieces a b m low proper apart on_a on_b few reach rest last =
      let top = nat_times (suc m) a in
      let base : zero_q ≤ℚ top = mul_nonneg (nat_nonneg (suc m)) low in
      all_each a b l low proper (IsSumPiece z w q l) rest m
      (nothing_is zero_q record { whole = whole_int z.dt (pos 0); low = le_refl zero_q; high = le_trans base reach })
      (λ i x y. record {
        time = record {
          whole = whole_times z.dt (pos i) a on_a;
          low = mul_nonneg (nat_nonneg i) low;
          high = le_trans (mul_le_mul_right a low (nat_le i (suc m) y)) reach;
        };
        at = tt;
        line = (i, omega (arith, y, few), refl, refl);
      })
      (λ i x y. nothing_is (nat_times i b) record {
        whole = whole_times z.dt (pos i) b on_b;
        low = mul_nonneg (nat_nonneg i) (le_of_lt (le_lt_trans low proper));
        high = le_trans (le_trans (apart i x y) (mul_le_mul_right a low (nat_le (suc i) (suc m) y))) reach;
      })
      last

-- ---- from spans to the numbers of a curve
finite_in : (z : Sizes) (x : Ext) → ValueStands z x → AllByRecursion (IsValue z) (finite x)
finite_in z Inf h = tt
finite_in z (Fin v) h = (h, tt)

values_in : (z : Sizes) (s : Span) → SpanStands z s → AllByRecursion (IsValue z) (span_values s)
values_in z s h =
    let at = finite s.piece.at in
    let after = finite (line_value s.piece.line s.piece.x) in
    let before = finite (limit_before s.piece.line s.next) in
    every_append (IsValue z) (at ++ after) before
    (every_append (IsValue z) at after (finite_in z s.piece.at h.at) (finite_in z (line_value s.piece.line s.piece.x) h.after))
    (finite_in z (limit_before s.piece.line s.next) h.before)

slopes_in : (z : Sizes) (l : Option Line) → LineStands z l → AllByRecursion (IsSlope z) (line_slope l)
slopes_in z None h = tt
slopes_in z (Some l) h = (h, tt)

pub numbers_stand : (z : Sizes) (end : ℚ) (ps : List Piece) (tail : Tail) → Whole z.dt (rank_of tail) → TailStands z tail
    → AllByRecursion (SpanStands z) (spans_below record { pieces = ps; tail = tail } end)
    → Stands z (curve_numbers end record { pieces = ps; tail = tail })
numbers_stand z end ps (Periodic R d c) rank t h =
    let ss = spans_below record { pieces = ps; tail = Periodic R d c } end in
    record {
      times = (rank, (t.whole, every_map (Whole z.dt) (λ s. s.piece.x) ss (every_weaken (λ s k. k.start) ss h)));
      values = (t.value, every_flat (IsValue z) span_values ss (every_weaken (λ s k. values_in z s k) ss h));
      slopes = every_flat (IsSlope z) span_slopes ss (every_weaken (λ s k. slopes_in z s.piece.line k.slope) ss h);
    }
numbers_stand z end ps (Affine R) rank t h =
    let ss = spans_below record { pieces = ps; tail = Affine R } end in
    record {
      times = (rank, every_map (Whole z.dt) (λ s. s.piece.x) ss (every_weaken (λ s k. k.start) ss h));
      values = every_flat (IsValue z) span_values ss (every_weaken (λ s k. values_in z s k) ss h);
      slopes = every_flat (IsSlope z) span_slopes ss (every_weaken (λ s k. slopes_in z s.piece.line k.slope) ss h);
    }
numbers_stand z end ps (Infinite R) rank t h =
    let ss = spans_below record { pieces = ps; tail = Infinite R } end in
    record {
      times = (rank, every_map (Whole z.dt) (λ s. s.piece.x) ss (every_weaken (λ s k. k.start) ss h));
      values = every_flat (IsValue z) span_values ss (every_weaken (λ s k. values_in z s k) ss h);
      slopes = every_flat (IsSlope z) span_slopes ss (every_weaken (λ s k. slopes_in z s.piece.line k.slope) ss h);
    }

-- ---- a curve of such pieces
-- that repeats from R on, a period d later and higher by the line's value there
pub record IsSumCycle (z : Sizes) (q : ℕ) (l : Line) (ps : List Piece) (R d : ℚ) : Type 0 where
  pub pieces : Each (IsSumPiece z (R +ℚ d) q l) ps
  pub some : zero_q <ℚ d
  pub low : zero_q ≤ℚ R
  pub rank : Whole z.dt R
  pub period : Whole z.dt d

-- k periods after R
abbrev pub cycle_end : ℚ → ℚ → ℕ → ℚ
cycle_end R d k = R +ℚ int (pos k) *ℚ d

module _ (z : Sizes) (end : ℚ) (l : Line) (h : LineStandsIn z end l) (n : ℕ) (some : 1 ≤ n) where
  -- a time of the longer window may end it
  pub limited_to : (e : ℚ) → gauge_of (sum_sizes n z) < 2 ^ 120 → IsTimeBy z (sums_end n end) e → AreLimited (sum_sizes n z) e
  limited_to e small t =
      let Z = sum_sizes n z in
      let a = sums_are z end h.sizes n some in
      record {
        sizes = record {
          dv = a.dv;
          dt = a.dt;
          ds = a.ds;
          steepness = a.steepness;
          largest = a.largest;
          window = t.whole;
          reach = reach_within Z.steepness Z.steepness Z.largest e (sums_end n end) (omega arith) t.high a.reach;
        };
        gauge = small;
        some = t.low;
      }

  pub affine_stands : (ps : List Piece) (R w e : ℚ) (q : ℕ) → Each (IsSumPiece z w q l) ps → Whole z.dt R → w ≤ℚ sums_end n end → q ≤ n
      → Stands (sum_sizes n z) (curve_numbers e record { pieces = ps; tail = Affine R })
  unfolding spans_below
  affine_stands ps R w e q pieces rank reach few =
      let P = SpanStands (sum_sizes n z) in
      numbers_stand (sum_sizes n z) e ps (Affine R) rank tt
      (every_flat P (span_below (Affine R) e) (spans (Affine R) ps)
      (every_weaken (λ s k. once_in P e s (span_stands z end l h n some w q s reach few k)) (spans (Affine R) ps) (affine_spans z w q l R ps pieces)))

  module _ (ps : List Piece) (R d : ℚ) (q : ℕ) (C : IsSumCycle z q l ps R d) (few : q + 1 ≤ n) (reach : cycle_end R d 2 ≤ℚ sums_end n end) where
    two_is : int (pos 2) *ℚ d ≡ d +ℚ d
    two_is = with1 d (λ c. omega (arith, c.le, c.lt, c.same))

    once_reach : R +ℚ d ≤ℚ cycle_end R d 2
    once_reach =
        let above = C.some in
        let T = int (pos 2) *ℚ d in
        let two = two_is in
        with3 R d T (λ c. omega (arith, c.le, c.lt, c.same))

    pub end_time : (k : ℕ) → k ≤ 2 → IsTimeBy z (sums_end n end) (cycle_end R d k)
    end_time k by =
        let low = C.low in
        let K = int (pos k) *ℚ d in
        let T = int (pos 2) *ℚ d in
        let w = sums_end n end in
        let up : zero_q ≤ℚ K = mul_nonneg (nat_nonneg k) (le_of_lt C.some) in
        let less : K ≤ℚ T = mul_le_mul_right d (le_of_lt C.some) (nat_le k 2 by) in
        record {
          whole = whole_add z.dt R K C.rank (whole_times z.dt (pos k) d C.period);
          low = with2 R K (λ c. omega (arith, c.le, c.lt, c.same));
          high = with4 R K T w (λ c. omega (arith, c.le, c.lt, c.same));
        }

    rise_stands : IsValue (sum_sizes n z) (line_at l d)
    rise_stands =
        let low = C.low in
        let above = C.some in
        let reach_once = once_reach in
        let w = sums_end n end in
        let T = cycle_end R d 2 in
        subst (λ x. IsValue (sum_sizes n z) (x +ℚ l.slope *ℚ d)) (one_mul l.icept)
        (sum_is_value z end l h n some 1 d (omega (arith, few)) record {
          whole = C.period;
          low = le_of_lt above;
          high = with4 R d T w (λ c. omega (arith, c.le, c.lt, c.same));
        })

    pub cycle_stands : Stands (sum_sizes n z) (curve_numbers (cycle_end R d 2) record { pieces = ps; tail = Periodic R d (line_at l d) })
    unfolding spans_below
    cycle_stands =
        let P = SpanStands (sum_sizes n z) in
        let e = cycle_end R d 2 in
        let tail = Periodic R d (line_at l d) in
        let low = C.low in
        let above = C.some in
        numbers_stand (sum_sizes n z) e ps tail C.rank record { whole = C.period; value = rise_stands }
        (every_flat P (span_below tail e) (spans tail ps)
        (every_weaken (λ s k. span_below_stands z end l h n some R d q s C.some C.period few reach k) (spans tail ps)
        (periodic_spans z (R +ℚ d) q l R d (line_at l d) ps C.pieces record {
          whole = whole_add z.dt R d C.rank C.period;
          low = with2 R d (λ c. omega (arith, c.le, c.lt, c.same));
          high = le_refl (R +ℚ d);
        })))

    -- ---- it is readable
    next_reads : (m : Option Line) (next : Option ℚ) → NextFits m next → LineFitsTo next m
    next_reads m None k = tt
    next_reads m (Some e) k = k

    lines_fit : (qs : List Piece) → (A : AreLimited (sum_sizes n z) (cycle_end R d 2)) (c : SpecCurve) → CallSizes c (sum_sizes n z) (cycle_end R d 2)
        → AllByRecursion (SpanStands (sum_sizes n z)) (spans (Periodic R d (line_at l d)) qs)
        → Each (PieceStands (sum_sizes n z) (cycle_end R d 2)) qs → EachFits (Some (R +ℚ d)) qs
    unfolding spans
    lines_fit [] A c O s k = tt
    lines_fit (p ∷ qs) A c O s k =
        let next = start_after qs (Some (R +ℚ d)) in
        let f = span_fits (sum_sizes n z) (cycle_end R d 2) record { piece = p; next = next } A.sizes O.narrow k.0.low k.0.high s.0 in
        (f.start, next_reads p.line next f.end, lines_fit qs A c O s.1 k.1)

    sum_fits : (A : AreLimited (sum_sizes n z) (cycle_end R d 2)) (c : SpecCurve) → CallSizes c (sum_sizes n z) (cycle_end R d 2)
        → (v : Ext) → ValueStands (sum_sizes n z) v → SumFitsAt v (line_at l d)
    sum_fits A c O Inf k = tt
    sum_fits A c O (Fin v) k =
        let Z = sum_sizes n z in
        let rise = rise_stands in
        small_sum Z (cycle_end R d 2) 1 1 v (line_at l d) A.sizes O.narrow (omega arith) (value_whole Z v k) (value_whole Z (line_at l d) rise)
        (value_within Z v k) (value_within Z (line_at l d) rise)

    pub cycle_curve : IsNormal record { pieces = ps; tail = Periodic R d (line_at l d) } → gauge_of (sum_sizes n z) < 2 ^ 120
        → IsCurve record { pieces = ps; tail = Periodic R d (line_at l d) }
    cycle_curve normal small =
        let Z = sum_sizes n z in
        let e = cycle_end R d 2 in
        let c : SpecCurve = record { pieces = ps; tail = Periodic R d (line_at l d) } in
        let A = limited_to e small (end_time 2 (omega arith)) in
        let O = call_sizes c Z e normal.raw tt A once_reach cycle_stands in
        let low = C.low in
        let above = C.some in
        let over = once_reach in
        let until_rank : R ≤ℚ e = with3 R d e (λ c. omega (arith, c.le, c.lt, c.same)) in
        let until_period : d ≤ℚ e = with3 R d e (λ c. omega (arith, c.le, c.lt, c.same)) in
        let rise = rise_stands in
        record {
          normal = normal;
          readable = record {
            end = (times_fit Z e R d A C.rank C.period low until_rank (le_of_lt above) until_period).0;
            rate = small_quotient Z e 1 1 (line_at l d) d A (omega arith) (omega arith) (not_zero d above) (value_whole Z (line_at l d) rise)
                (time_whole Z d C.period) (value_within Z (line_at l d) rise) (time_within Z e d A (le_of_lt above) until_period);
            next = sum_fits A c O (read ps R) (read_stands z end l h n some (R +ℚ d) q ps R (le_trans over reach) (omega (arith, few))
                record { whole = C.rank; low = low; high = with2 R d (λ c. omega (arith, c.le, c.lt, c.same)) } C.pieces);
            lines = lines_fit ps A c O O.stands.spans O.pieces;
          };
        }

    -- ---- in k periods after the rank there are at most k copies
    pub cycle_copies : (k : ℕ) → 1 ≤ k → MostCopies (Periodic R d (line_at l d)) (cycle_end R d k) k
    cycle_copies k one p =
        let e = cycle_end R d k in
        let choice = λ (b : Bool). cond b (once e p) (copies_below d e p) ≤ k in
        elim (le_or_lt R p.x) [
          | inl past ↦ subst choice (sym (lt_q_not p.x R past)) (whole_up_most ((e -ℚ p.x) /ℚ d) k ((div_le (e -ℚ p.x) d (int (pos k)) C.some).1 (under p.x past)))
          | inr early ↦ subst choice (sym (lt_q_out p.x R early)) (let f = once_few e p in omega (arith, f, one))
        ]
      where
        under : (x : ℚ) → R ≤ℚ x → cycle_end R d k -ℚ x ≤ℚ int (pos k) *ℚ d
        under x past =
            let K = int (pos k) *ℚ d in
            with3 R x K (λ c. omega (arith, c.le, c.lt, c.same))
