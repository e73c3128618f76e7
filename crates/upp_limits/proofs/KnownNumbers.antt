-- Where the gauge is below 2 ^ 128 every step to the numbers of a curve fits.
use Rattle.std.specs.Prelude.{◌≡◌, ℕ, zero, suc, ◌*◌, ◌-◌, ◌<◌, ◌≤◌, ◌^◌, pos, cond, List, [], ◌∷◌, Option, Some, None}
use Rattle.std.specs.List.{AllByRecursion}
use Rattle.std.proofs.Common.{arith, sym, ◌∙◌, refl, subst}
use Rattle.std.proofs.lemmas.Int.{ints}
use Rattle.rational.specs.Rational.{ℚ, ◌+ℚ◌, ◌-ℚ◌, ◌*ℚ◌, ◌≤ℚ◌, ◌<ℚ◌, int}
use Rattle.rational.specs.Grid.{Whole, Within}
use Rattle.rational.specs.Extended.{Ext, ◌+ₑ◌}
use Rattle.rational.specs.declared.Extended.TheVariants.{Fin, Inf}
use Rattle.rational.proofs.Linear.{with1, with2, with3}
use Rattle.rational.proofs.Laws.{le_trans, le_of_lt, mul_le_mul, mul_le_mul_right, mul_assoc, mul_comm, mul_one, mul_pos, mul_nonneg}
use Rattle.rational.proofs.Integers.{int_le, int_lt_out, nat_le, nat_le_out, nat_nonneg, nat_lt, mul_whole}
use Rattle.rational.proofs.Over.{lt_q_out}
use Rattle.rational.proofs.MinMax.{lt_q_not}
use Rattle.rational.proofs.Grid.{whole_sub, within_sub}
use Rattle.upp_curve.specs.declared.affine_segment.line.Line.{Line}
use Rattle.upp_curve.specs.declared.affine_segment.line.Piece.{Piece}
use Rattle.upp_curve.specs.affine_segment.Values.{line_value}
use Rattle.upp_curve.specs.declared.curve.Tail.{Tail}
use Rattle.upp_curve.specs.declared.curve.Tail.TheVariants.{Periodic, Affine, Infinite}
use Rattle.upp_curve.specs.Curve.{SpecCurve}
use Rattle.upp_curve.specs.affine_segment.Fits.{LineFitsAt}
use Rattle.upp_curve.specs.affine_segment.Pieces.{StartsAtZero}
use Rattle.upp_curve.specs.Unrolled.{copies_below}
use Rattle.upp_limits.specs.Periods.{HasPeriod}
use Rattle.upp_limits.specs.Spans.{Span, copy_of, copies_of, once_below, span_below, spans, spans_below}
use Rattle.upp_limits.specs.Limits.{Sizes, limit_before, gauge_of, curve_numbers}
use Rattle.upp_limits.specs.Sized.{grid_of, times_largest, IsValue, AreSizes, Stands, ValueStands, LineStands, SpanStands, TailStands}
use Rattle.upp_limits.specs.Seen.{seen_of, NextFits, SpanFits, ValueRises, SeenRises, CopiesFit, Knows}
use Rattle.upp_limits.proofs.Every.{every_weaken, every_flat_out, every_both}
use Rattle.upp_limits.proofs.Copies.{copies_in, copy_zero, copy_among}
use Rattle.upp_limits.proofs.ClosedForms.{line_moved, before_moved}
use Rattle.upp_limits.proofs.NarrowSizes.{IsNarrow, LineParts, line_parts, small_number, small_sum, value_whole, value_within, narrow_gauge}
use Rattle.upp_limits.proofs.CurveStands.{unrolled_stand, tail_stands, once_out}
use Rattle.upp_limits.proofs.PieceLists.{starts_nonneg}

-- ---- the lines
-- at a start up to the window's end
pub start_fits : (z : Sizes) (end : ℚ) (l : Option Line) (x : ℚ) → AreSizes z end → IsNarrow z (2 ^ 122) → Whole z.dt x → int (pos 0) ≤ℚ x → x ≤ℚ end → LineStands z l
    → ValueStands z (line_value l x) → LineFitsAt x l
start_fits z end None x a n w some h s v = tt
start_fits z end (Some l) x a n w some h s v =
    let p = line_parts z end l.icept l.slope x a s w some h v in
    record {
      product = small_number z end 1 (l.slope *ℚ x) a n (omega arith) p.run_whole p.run_within;
      sum = small_sum z end 2 1 l.icept (l.slope *ℚ x) a n (omega arith) p.icept_whole p.run_whole p.icept_within p.run_within;
    }

three_times : (v : ℚ) → int (pos 1) *ℚ v +ℚ int (pos 2) *ℚ v ≡ int (pos 3) *ℚ v
three_times v = with1 v (λ c. omega (arith, c.le, c.lt, c.same))

-- at the next start, wherever that is
next_line_fits : (z : Sizes) (end : ℚ) (l : Line) (x e : ℚ) → AreSizes z end → IsNarrow z (2 ^ 122) → LineParts z l.icept l.slope x → IsValue z (l.icept +ℚ l.slope *ℚ e)
    → LineFitsAt e (Some l)
next_line_fits z end l x e a n p v =
    let k = l.icept in
    let y = l.slope *ℚ e in
    let V = int (pos z.largest) in
    let same : (k +ℚ y) -ℚ k ≡ y = with2 k y (λ c. omega (arith, c.le, c.lt, c.same)) in
    let w : Whole (grid_of z) y = subst (λ q. Whole (grid_of z) q) same (whole_sub (grid_of z) (k +ℚ y) k (value_whole z (k +ℚ y) v) p.icept_whole) in
    let i : Within (times_largest 3 z) y =
    subst (λ m. Within m y) (three_times V) (subst (λ q. Within (times_largest 1 z +ℚ times_largest 2 z) q) same (within_sub (times_largest 1 z) (times_largest 2 z) (k +ℚ y) k (value_within z (k +ℚ y) v) p.icept_within)) in
    record {
      product = small_number z end 3 y a n (omega arith) w i;
      sum = small_sum z end 2 3 k y a n (omega arith) p.icept_whole w p.icept_within i;
    }

next_fits : (z : Sizes) (end : ℚ) (l : Option Line) (next : Option ℚ) (x : ℚ) → AreSizes z end → IsNarrow z (2 ^ 122) → Whole z.dt x → int (pos 0) ≤ℚ x → x ≤ℚ end → LineStands z l
    → ValueStands z (line_value l x) → ValueStands z (limit_before l next) → NextFits l next
next_fits z end l None x a n w some h s v u = tt
next_fits z end None (Some e) x a n w some h s v u = tt
next_fits z end (Some l) (Some e) x a n w some h s v u = next_line_fits z end l x e a n (line_parts z end l.icept l.slope x a s w some h v) u

pub span_fits : (z : Sizes) (end : ℚ) (s : Span) → AreSizes z end → IsNarrow z (2 ^ 122) → int (pos 0) ≤ℚ s.piece.x → s.piece.x ≤ℚ end → SpanStands z s → SpanFits s
span_fits z end s a n some h t = record {
  start = start_fits z end s.piece.line s.piece.x a n t.start some h t.slope t.after;
  end = next_fits z end s.piece.line s.next s.piece.x a n t.start some h t.slope t.after t.before;
}

-- ---- a rise, from a value and the value of a copy
risen_is : (v y : ℚ) → (v +ℚ y) -ℚ v ≡ y
risen_is v y = with2 v y (λ c. omega (arith, c.le, c.lt, c.same))

pub two_ones : (v : ℚ) → int (pos 1) *ℚ v +ℚ int (pos 1) *ℚ v ≡ int (pos 2) *ℚ v
two_ones v = with1 v (λ c. omega (arith, c.le, c.lt, c.same))

pub value_rises : (z : Sizes) (end : ℚ) (v : Ext) (n rise : ℚ) → AreSizes z end → IsNarrow z (2 ^ 122) → ValueStands z v → ValueStands z (v +ₑ Fin (n *ℚ rise)) → ValueRises v n rise
value_rises z end Inf n rise a b h k = tt
value_rises z end (Fin v) n rise a b h k =
    let y = n *ℚ rise in
    let V = int (pos z.largest) in
    let same = risen_is v y in
    let w : Whole (grid_of z) y = subst (λ q. Whole (grid_of z) q) same (whole_sub (grid_of z) (v +ℚ y) v (value_whole z (v +ℚ y) k) (value_whole z v h)) in
    let i : Within (times_largest 2 z) y =
    subst (λ m. Within m y) (two_ones V) (subst (λ q. Within (times_largest 1 z +ℚ times_largest 1 z) q) same (within_sub (times_largest 1 z) (times_largest 1 z) (v +ℚ y) v (value_within z (v +ℚ y) k) (value_within z v h))) in
    record {
      product = small_number z end 2 y a b (omega arith) w i;
      sum = small_sum z end 1 2 v y a b (omega arith) (value_whole z v h) w (value_within z v h) i;
    }

pub seen_rises : (z : Sizes) (end : ℚ) (s : Span) (period rise : ℚ) (m : ℕ) → AreSizes z end → IsNarrow z (2 ^ 122) → SpanStands z s → SpanStands z (copy_of period rise s m)
    → SeenRises (seen_of s) (int (pos m)) rise
seen_rises z end s period rise m a n h k =
    let y = int (pos m) *ℚ period in
    let c = int (pos m) *ℚ rise in
    record {
      first = value_rises z end s.piece.at (int (pos m)) rise a n h.at k.at;
      second = value_rises z end (line_value s.piece.line s.piece.x) (int (pos m)) rise a n h.after (subst (ValueStands z) (line_moved s.piece.line y c s.piece.x) k.after);
      third = value_rises z end (limit_before s.piece.line s.next) (int (pos m)) rise a n h.before (subst (ValueStands z) (before_moved s.piece.line s.next y c) k.before);
    }

-- ---- the number of copies
pub one_step : (n : ℕ) (d : ℚ) → int (pos 0) <ℚ d → 0 < n → Whole n d → int (pos 1) ≤ℚ d *ℚ int (pos n)
one_step n d some pos_n w =
    let p : int (pos 0) <ℚ d *ℚ int (pos n) = mul_pos some (nat_lt 0 n pos_n) in
    let q : int (pos 0) <ℚ int w.steps = subst (λ y. int (pos 0) <ℚ y) w.is p in
    let l = int_lt_out (pos 0) w.steps q in
    subst (λ y. int (pos 1) ≤ℚ y) (sym w.is) (int_le (pos 1) w.steps (omega (arith, ints, l)))

-- m periods before the window's end: m is at most the largest value times dt
pub few_periods : (z : Sizes) (end d : ℚ) (m : ℕ) → AreSizes z end → int (pos 0) <ℚ d → Whole z.dt d → int (pos m) *ℚ d ≤ℚ end → m ≤ z.largest * z.dt
few_periods z end d m a some w h =
    let M = int (pos m) in
    let T = int (pos z.dt) in
    let S = int (pos z.steepness) in
    let V = int (pos z.largest) in
    let one = one_step z.dt d some a.dt w in
    let e0 : int (pos 0) ≤ℚ end = le_trans (mul_nonneg (nat_nonneg m) (le_of_lt some)) h in
    let e1 : end ≤ℚ S *ℚ end = subst (λ y. y ≤ℚ S *ℚ end) (mul_comm (int (pos 1)) end ∙ mul_one end) (mul_le_mul_right end e0 (nat_le 1 z.steepness a.steepness)) in
    let far : M *ℚ d ≤ℚ V = le_trans h (le_trans e1 a.reach) in
    let l : M *ℚ int (pos 1) ≤ℚ M *ℚ (d *ℚ T) = mul_le_mul M (nat_nonneg m) one in
    let r : (M *ℚ d) *ℚ T ≤ℚ V *ℚ T = mul_le_mul_right T (nat_nonneg z.dt) far in
    let q : M ≤ℚ V *ℚ T = le_trans (subst (λ y. y ≤ℚ M *ℚ (d *ℚ T)) (mul_one M) l) (subst (λ y. y ≤ℚ V *ℚ T) (mul_assoc M d T) r) in
    nat_le_out m (z.largest * z.dt) (subst (λ y. M ≤ℚ y) (mul_whole (pos z.largest) (pos z.dt) 0) q)

few_copies : (z : Sizes) (end d : ℚ) (p : Piece) (n : ℕ) → AreSizes z end → IsNarrow z (2 ^ 122) → int (pos 0) <ℚ d → Whole z.dt d → int (pos 0) ≤ℚ p.x → n ≡ copies_below d end p → n < 2 ^ 127
few_copies z end d p zero a b some w h e = omega arith
few_copies z end d p (suc m) a b some w h e =
    let x = p.x in
    let l : x +ℚ int (pos m) *ℚ d <ℚ end = copies_in d end p m some (omega (arith, e)) in
    let k = few_periods z end d m a some w (with3 x end (int (pos m) *ℚ d) (λ c. omega (arith, c.le, c.lt, c.same))) in
    let t = b.times in
    omega (arith, k, t)

-- ---- a span
copies_fit : (z : Sizes) (end period rise : ℚ) (s : Span) (n : ℕ) → AreSizes z end → IsNarrow z (2 ^ 122) → int (pos 0) <ℚ period → Whole z.dt period → int (pos 0) ≤ℚ s.piece.x
    → n ≡ copies_below period end s.piece → AllByRecursion (SpanStands z) (copies_of period rise s n) → CopiesFit s n rise
copies_fit z end period rise s n a b some w h e all = record {
  few = few_copies z end period s.piece n a b some w h e;
  first = λ k. span_fits z end s a b h (before 0 (omega (arith, k))) (itself k);
  last = λ k. seen_rises z end s period rise (n - 1) a b (itself (omega (arith, k))) (copy_among (SpanStands z) period rise s n (n - 1) (omega (arith, k)) all);
}
  where
    itself : 1 ≤ n → SpanStands z s
    itself k = subst (SpanStands z) (copy_zero period rise s) (copy_among (SpanStands z) period rise s n 0 (omega (arith, k)) all)

    before : (m : ℕ) → m < n → s.piece.x ≤ℚ end
    before m l =
        let x = s.piece.x in
        let q : x +ℚ int (pos m) *ℚ period <ℚ end = copies_in period end s.piece m some (omega (arith, e, l)) in
        let p : int (pos 0) ≤ℚ int (pos m) *ℚ period = mul_nonneg (nat_nonneg m) (le_of_lt some) in
        with3 x end (int (pos m) *ℚ period) (λ c. omega (arith, c.le, c.lt, c.same))

pub span_known : (z : Sizes) (end : ℚ) (tail : Tail) (s : Span) → AreSizes z end → IsNarrow z (2 ^ 122) → HasPeriod tail → TailStands z tail → int (pos 0) ≤ℚ s.piece.x
    → AllByRecursion (SpanStands z) (span_below tail end s) → Knows tail end s
span_known z end (Periodic rank period rise) s a n some t h all = (
  λ l k. span_fits z end s a n h (le_of_lt k) (once_out (SpanStands z) end s k (subst (λ b. AllByRecursion (SpanStands z) (cond b (once_below end s) (copies_of period rise s (copies_below period end s.piece)))) (lt_q_out s.piece.x rank l) all)),
  λ l. copies_fit z end period rise s (copies_below period end s.piece) a n some t.whole h refl
      (subst (λ b. AllByRecursion (SpanStands z) (cond b (once_below end s) (copies_of period rise s (copies_below period end s.piece)))) (lt_q_not s.piece.x rank l) all),
)
span_known z end (Affine rank) s a n some t h all = λ k. span_fits z end s a n h (le_of_lt k) (once_out (SpanStands z) end s k all)
span_known z end (Infinite rank) s a n some t h all = λ k. span_fits z end s a n h (le_of_lt k) (once_out (SpanStands z) end s k all)

-- ---- a curve
pub nonneg_spans : (tail : Tail) (ps : List Piece) → AllByRecursion (λ p. int (pos 0) ≤ℚ p.x) ps → AllByRecursion (λ s. int (pos 0) ≤ℚ s.piece.x) (spans tail ps)
unfolding spans
nonneg_spans tail [] h = tt
nonneg_spans tail (p ∷ ps) h = (h.0, nonneg_spans tail ps h.1)

-- below a gauge of 2 ^ 128 all its numbers are known
pub curve_known : (z : Sizes) (end : ℚ) (c : SpecCurve) → AreSizes z end → gauge_of z < 2 ^ 128 → StartsAtZero c.pieces → HasPeriod c.tail → Stands z (curve_numbers end c)
    → AllByRecursion (Knows c.tail end) (spans c.tail c.pieces)
unfolding spans_below
curve_known z end c a small starts some h =
    let ss = spans c.tail c.pieces in
    let n = narrow_gauge z end a small in
    let t = tail_stands z end c.pieces c.tail h in
    let below = every_flat_out (SpanStands z) (span_below c.tail end) ss (unrolled_stand z end c h) in
    every_weaken (λ s k. span_known z end c.tail s a n some t k.0 k.1) ss
    (every_both (λ s. int (pos 0) ≤ℚ s.piece.x) (λ s. AllByRecursion (SpanStands z) (span_below c.tail end s)) ss (nonneg_spans c.tail c.pieces (starts_nonneg c.pieces starts)) below)
