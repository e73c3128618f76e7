-- Where the numbers of a curve up to the end of its window are held, each step to those at the end fits.
use Rattle.std.proofs.Common.{◌≡◌, ℕ, zero, suc, ◌<◌, ◌^◌, List, [], ◌∷◌, map, refl, sym, ap, ◌∙◌, subst, arith, inl, inr}
use Rattle.std.specs.Prelude.{Bool, true, false, cond, pos}
use Rattle.std.specs.List.{flat_map, AllByRecursion}
use Rattle.std.proofs.lemmas.Bool.{cases_eq}
use Rattle.rational.specs.Rational.{ℚ, ◌+ℚ◌, ◌*ℚ◌, ◌≤ℚ◌, ◌<ℚ◌, int, lt_q}
use Rattle.rational.specs.Grid.{Whole}
use Rattle.rational.proofs.Linear.{with2, with3}
use Rattle.rational.proofs.Laws.{le_of_lt, mul_nonneg, antisym}
use Rattle.rational.proofs.Integers.{nat_nonneg}
use Rattle.rational.proofs.Over.{lt_q_out}
use Rattle.rational.proofs.MinMax.{lt_q_not}
use Rattle.upp_curve.specs.declared.curve.Tail.{Tail}
use Rattle.upp_curve.specs.declared.curve.Tail.TheVariants.{Periodic, Affine, Infinite}
use Rattle.upp_curve.specs.Curve.{SpecCurve}
use Rattle.upp_curve.specs.Curves.{IsCurve}
use Rattle.upp_curve.specs.Unrolled.{copies_below}
use Rattle.upp_limits.specs.Periods.{HasPeriod}
use Rattle.upp_limits.specs.Spans.{Span, copy_of, copies_of, once_below, span_below, spans, spans_below}
use Rattle.upp_limits.specs.Limits.{Numbers, Sizes, span_values, span_slopes, curve_numbers}
use Rattle.upp_limits.specs.Sized.{AreSizes, IsValue, IsSlope, SpanStands, TailStands, Stands, HeldBy}
use Rattle.upp_limits.specs.Seen.{SpanFits}
use Rattle.upp_limits.proofs.Every.{every_weaken, every_flat_out}
use Rattle.upp_limits.proofs.Copies.{copies_in, copy_zero, copy_among}
use Rattle.upp_limits.proofs.CurveStands.{unrolled_stand, tail_stands}
use Rattle.upp_limits.proofs.KnownNumbers.{span_fits, seen_rises, few_periods, nonneg_spans}
use Rattle.upp_limits.proofs.NarrowSizes.{IsNarrow, narrow_gauge}
use Rattle.upp_limits.proofs.Operands.{curve_period}
use Rattle.upp_limits.proofs.PieceLists.{starts_nonneg}
use Rattle.upp_limits.proofs.Stands.{stands_left, stands_right, span_stands}
use Rattle.sim_bounds.specs.Gauge.{spans_at, numbers_to}
use Rattle.sim_bounds.specs.window_numbers.CurveEnds.{itself_at, next_copy, copy_at, at_end, CopyFits, KnowsEnd}
use Rattle.sim_bounds.proofs.window_numbers.EndSpans.{starts_true, next_from, curve_at_end}

-- the values and the slopes of a span are held
pub record NumbersStand (z : Sizes) (s : Span) : Type 0 where
  pub values : AllByRecursion (IsValue z) (span_values s)
  pub slopes : AllByRecursion (IsSlope z) (span_slopes s)

if_true : (P : Span → Type 0) (b : Bool) (s : Span) → b ≡ true → AllByRecursion P (cond b (s ∷ []) []) → P s
if_true P true s e h = h.0
if_true P false s e h = absurd (cc)

if_false : (P : Span → Type 0) (b : Bool) (s : Span) → b ≡ false → AllByRecursion P (cond b [] (s ∷ [])) → P s
if_false P false s e h = h.0
if_false P true s e h = absurd (cc)

-- ---- a span that starts at the end
itself_known : (z : Sizes) (end : ℚ) (s : Span) → AreSizes z end → IsNarrow z (2 ^ 122) → int (pos 0) ≤ℚ s.piece.x → AllByRecursion (NumbersStand z) (itself_at end s)
    → s.piece.x ≡ end → SpanFits s
itself_known z end s a n some h e =
    let k = if_true (NumbersStand z) (Rattle.sim_bounds.specs.Gauge.starts_at end s) s (starts_true end s e) h in
    let by : s.piece.x ≤ℚ end = with2 s.piece.x end (λ c. omega (arith, c.le, c.lt, c.same)) in
    span_fits z end s a n some by (span_stands z s (subst (λ x. Whole z.dt x) (sym e) a.window) k.values k.slopes)

-- ---- a copy that does
few_copies : (z : Sizes) (end d : ℚ) (s : Span) (n : ℕ) → AreSizes z end → IsNarrow z (2 ^ 122) → int (pos 0) <ℚ d → Whole z.dt d → int (pos 0) ≤ℚ s.piece.x
    → n ≡ copies_below d end s.piece → n < 2 ^ 127
few_copies z end d s zero a b some w h e = omega arith
few_copies z end d s (suc m) a b some w h e =
    let x = s.piece.x in
    let l : x +ℚ int (pos m) *ℚ d <ℚ end = copies_in d end s.piece m some (omega (arith, e)) in
    let k = few_periods z end d m a some w (with3 x end (int (pos m) *ℚ d) (λ c. omega (arith, c.le, c.lt, c.same))) in
    let t = b.times in
    omega (arith, k, t)

copy_known : (z : Sizes) (end period rise : ℚ) (s : Span) → AreSizes z end → IsNarrow z (2 ^ 122) → int (pos 0) <ℚ period → Whole z.dt period → int (pos 0) ≤ℚ s.piece.x
    → AllByRecursion (SpanStands z) (copies_of period rise s (copies_below period end s.piece)) → AllByRecursion (NumbersStand z) (copy_at period rise end s)
    → CopyFits period rise end s
copy_known z end period rise s a b some w h below at = record {
  few = few_copies z end period s k a b some w h refl;
  span = λ l. span_fits z end s a b h (by l) (first l);
  rises = λ l. seen_rises z end s period rise k a b (first l) (copy l);
}
  where
    k : ℕ
    k = copies_below period end s.piece

    same : next_copy period end s ≤ℚ end → next_copy period end s ≡ end
    same l = antisym (l, next_from period end s some)

    by : next_copy period end s ≤ℚ end → s.piece.x ≤ℚ end
    by l =
        let p : int (pos 0) ≤ℚ int (pos k) *ℚ period = mul_nonneg (nat_nonneg k) (le_of_lt some) in
        with3 s.piece.x end (int (pos k) *ℚ period) (λ c. omega (arith, c.le, c.lt, c.same))

    copy : next_copy period end s ≤ℚ end → SpanStands z (copy_of period rise s k)
    copy l =
        let n = if_false (NumbersStand z) (lt_q end (next_copy period end s)) (copy_of period rise s k) (lt_q_not end (next_copy period end s) l) at in
        span_stands z (copy_of period rise s k) (subst (λ x. Whole z.dt x) (sym (same l)) a.window) n.values n.slopes

    first : next_copy period end s ≤ℚ end → SpanStands z s
    first l = elim (cases_eq k 0) [
      | inl e ↦ subst (SpanStands z) (ap (copy_of period rise s) e ∙ copy_zero period rise s) (copy l)
      | inr d ↦ subst (SpanStands z) (copy_zero period rise s) (copy_among (SpanStands z) period rise s k 0 (omega (arith, d)) below)
    ]

-- ---- any span
end_known : (z : Sizes) (end : ℚ) (tail : Tail) (s : Span) → AreSizes z end → IsNarrow z (2 ^ 122) → HasPeriod tail → TailStands z tail → int (pos 0) ≤ℚ s.piece.x
    → AllByRecursion (SpanStands z) (span_below tail end s) → AllByRecursion (NumbersStand z) (at_end tail end s) → KnowsEnd tail end s
end_known z end (Periodic rank period rise) s a n some t h below at = (
  λ l. itself_known z end s a n h
      (subst (λ b. AllByRecursion (NumbersStand z) (cond b (itself_at end s) (copy_at period rise end s))) (lt_q_out s.piece.x rank l) at),
  λ l. copy_known z end period rise s a n some t.whole h
      (subst (λ b. AllByRecursion (SpanStands z) (cond b (once_below end s) (copies_of period rise s (copies_below period end s.piece)))) (lt_q_not s.piece.x rank l) below)
      (subst (λ b. AllByRecursion (NumbersStand z) (cond b (itself_at end s) (copy_at period rise end s))) (lt_q_not s.piece.x rank l) at),
)
end_known z end (Affine rank) s a n some t h below at = itself_known z end s a n h at
end_known z end (Infinite rank) s a n some t h below at = itself_known z end s a n h at

-- ---- a curve
pub record SpanKnown (z : Sizes) (end : ℚ) (tail : Tail) (s : Span) : Type 0 where
  pub some : int (pos 0) ≤ℚ s.piece.x
  pub below : AllByRecursion (SpanStands z) (span_below tail end s)
  pub at : AllByRecursion (NumbersStand z) (at_end tail end s)

zip_numbers : (z : Sizes) (ss : List Span) → AllByRecursion (λ s. AllByRecursion (IsValue z) (span_values s)) ss → AllByRecursion (λ s. AllByRecursion (IsSlope z) (span_slopes s)) ss
    → AllByRecursion (NumbersStand z) ss
zip_numbers z [] h k = tt
zip_numbers z (s ∷ ss) h k = (record { values = h.0; slopes = k.0 }, zip_numbers z ss h.1 k.1)

zip_known : (z : Sizes) (end : ℚ) (tail : Tail) (ss : List Span) → AllByRecursion (λ s. int (pos 0) ≤ℚ s.piece.x) ss
    → AllByRecursion (λ s. AllByRecursion (SpanStands z) (span_below tail end s)) ss → AllByRecursion (λ s. AllByRecursion (NumbersStand z) (at_end tail end s)) ss
    → AllByRecursion (SpanKnown z end tail) ss
zip_known z end tail [] h k l = tt
zip_known z end tail (s ∷ ss) h k l = (record { some = h.0; below = k.0; at = l.0 }, zip_known z end tail ss h.1 k.1 l.1)

pub ends_known : (z : Sizes) (end : ℚ) (c : SpecCurve) → IsCurve c → HeldBy z end (numbers_to end c) → AllByRecursion (KnowsEnd c.tail end) (spans c.tail c.pieces)
unfolding spans_below
ends_known z end c is h =
    let some = curve_period c is in
    let ss = spans c.tail c.pieces in
    let us = spans_at c end in
    let last : Numbers = record { times = map (λ p. p.x) c.pieces; values = flat_map span_values us; slopes = flat_map span_slopes us } in
    let own : Stands z (curve_numbers end c) = stands_left z (curve_numbers end c) last h.stands in
    let ends : Stands z last = stands_right z (curve_numbers end c) last h.stands in
    let there : AllByRecursion (NumbersStand z) us = zip_numbers z us (every_flat_out (IsValue z) span_values us ends.values) (every_flat_out (IsSlope z) span_slopes us ends.slopes) in
    let at = every_flat_out (NumbersStand z) (at_end c.tail end) ss (subst (λ ys. AllByRecursion (NumbersStand z) ys) (curve_at_end c end some) there) in
    let below = every_flat_out (SpanStands z) (span_below c.tail end) ss (unrolled_stand z end c own) in
    let n = narrow_gauge z end h.sizes h.gauge in
    let t = tail_stands z end c.pieces c.tail own in
    every_weaken (λ s k. end_known z end c.tail s h.sizes n some t k.some k.below k.at) ss
    (zip_known z end c.tail ss (nonneg_spans c.tail c.pieces (starts_nonneg c.pieces is.normal.raw.starts)) below at)
