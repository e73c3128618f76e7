-- The rise over a period of a curve that is finite somewhere in the window: on the grid of sums, within three times the largest value.
use Rattle.std.specs.Prelude.{◌≡◌, ℕ, suc, pos, cond, List, [], ◌∷◌, Option, Some, None}
use Rattle.std.specs.List.{AllByRecursion}
use Rattle.std.proofs.Common.{arith, sym, ap, ◌∙◌, refl, subst, inl, inr}
use Rattle.rational.specs.Rational.{ℚ, ◌+ℚ◌, ◌-ℚ◌, ◌*ℚ◌, ◌/ℚ◌, ◌≤ℚ◌, ◌<ℚ◌, int}
use Rattle.rational.specs.Grid.{Whole, Within}
use Rattle.rational.specs.Whole.{periods}
use Rattle.rational.specs.Extended.{◌+ₑ◌}
use Rattle.rational.specs.declared.Extended.TheVariants.{Fin}
use Rattle.rational.proofs.Linear.{with1, with2, with3, with6}
use Rattle.rational.proofs.Laws.{le_or_lt, le_refl, le_trans, le_of_lt, mul_comm, mul_one, mul_nonneg, not_zero}
use Rattle.rational.proofs.Quotients.{mul_div}
use Rattle.rational.proofs.Integers.{nat_nonneg}
use Rattle.rational.proofs.Whole.{one_more_times, periods_low}
use Rattle.rational.proofs.Grid.{whole_int, whole_add, whole_sub, within_nonneg, within_add, within_weaken}
use Rattle.rational.proofs.ExtendedOrder.{finite_sum}
use Rattle.rational.proofs.Over.{le_q_out}
use Rattle.rational.proofs.MinMax.{le_q_not}
use Rattle.upp_curve.specs.declared.affine_segment.line.Line.{Line}
use Rattle.upp_curve.specs.declared.affine_segment.line.Piece.{Piece}
use Rattle.upp_curve.specs.affine_segment.Values.{line_at, line_value}
use Rattle.upp_curve.specs.declared.curve.Tail.{Tail}
use Rattle.upp_curve.specs.declared.curve.Tail.TheVariants.{Periodic, Affine, Infinite}
use Rattle.upp_curve.specs.affine_segment.Reading.{piece_in, piece_value, read}
use Rattle.upp_curve.specs.Curve.{SpecCurve, value_at}
use Rattle.upp_curve.specs.affine_segment.Pieces.{Each, HasStart, StartsAtZero}
use Rattle.upp_curve.specs.Normal.{FitsPeriod}
use Rattle.upp_curve.specs.Steady.{rank_of, last_line, slope_times, rise_in, rise_over, IsWholePeriods}
use Rattle.upp_limits.specs.Spans.{Span, span_below, spans}
use Rattle.upp_limits.specs.Limits.{Sizes}
use Rattle.upp_limits.specs.Sized.{IsValue, IsSlope, ValueStands, LineStands, SpanStands, PeriodStands, TailStands, CurveStands, grid_of, times_largest}
use Rattle.upp_normal.specs.Operand.{AreLimited}
use Rattle.upp_normal.specs.Ahead.{HasWindow, IsGridValue}
use Rattle.upp_limits.proofs.ClosedForms.{line_moved}
use Rattle.upp_limits.proofs.CurveStands.{curve_stands, tail_stands, last_slope}
use Rattle.upp_limits.proofs.NarrowSizes.{value_whole, value_within, run_whole, run_within}
use Rattle.upp_normal.proofs.StretchPieces.{span_in, found_from}
use Rattle.upp_normal.proofs.StretchTurns.{repeated_at}
use Rattle.upp_normal.proofs.StretchSizes.{CopiesStand, copies_of_span, each_below, some_period, starts_over, RiseParts, rise_parts}
use Rattle.upp_normal.proofs.StretchValues.{value_periodic, with_pieces}
use Rattle.upp_curve.proofs.Finite.{each_in}
use Rattle.curve_call.proofs.RateRises.{some_periods}
use Rattle.upp_normal.proofs.UnrollSteps.{IsSomewhere}
use Rattle.upp_curve.proofs.affine_segment.LineValues.{line_found}

many : (v : ℚ) → int (pos 0) ≤ℚ v → int (pos 1) *ℚ v ≤ℚ int (pos 3) *ℚ v
many v h = with1 v (λ c. omega (arith, c.le, c.lt, c.same))

two_and_one : (v : ℚ) → int (pos 2) *ℚ v +ℚ int (pos 1) *ℚ v ≡ int (pos 3) *ℚ v
two_and_one v = with1 v (λ c. omega (arith, c.le, c.lt, c.same))

zero_stands : (z : Sizes) → IsGridValue z (int (pos 0))
zero_stands z =
    let V = int (pos z.largest) in
    let some = nat_nonneg z.largest in
    record {
      whole = whole_int (grid_of z) (pos 0);
      within = within_nonneg (times_largest 3 z) (int (pos 0)) (le_refl (int (pos 0))) (with1 V (λ c. omega (arith, c.le, c.lt, c.same)));
    }

-- ---- a line
run_stands : (z : Sizes) (end s d : ℚ) → AreLimited z end → IsSlope z s → Whole z.dt d → int (pos 0) ≤ℚ d → d ≤ℚ end → IsGridValue z (s *ℚ d)
run_stands z end s d A h on low high =
    let V = int (pos z.largest) in
    let one : int (pos 1) *ℚ V ≡ V = mul_comm (int (pos 1)) V ∙ mul_one V in
    record {
      whole = run_whole z s d h on;
      within = within_weaken (int (pos z.largest)) (times_largest 3 z) (s *ℚ d) (subst (λ m. m ≤ℚ int (pos 3) *ℚ V) one (many V (nat_nonneg z.largest))) (run_within z end s d A.sizes h low high);
    }

line_stands : (z : Sizes) (rank : ℚ) (ps : List Piece) → AllByRecursion (SpanStands z) (spans (Affine rank) ps) → LineStands z (last_line ps)
line_stands z rank [] h = tt
line_stands z rank (p ∷ ps) h = last_slope z rank p ps h

slope_stands : (z : Sizes) (end d : ℚ) (l : Option Line) → AreLimited z end → LineStands z l → Whole z.dt d → int (pos 0) ≤ℚ d → d ≤ℚ end → IsGridValue z (slope_times l d)
slope_stands z end d None A h on low high = zero_stands z
slope_stands z end d (Some l) A h on low high = run_stands z end l.slope d A h on low high

-- ---- a finite value is a piece's value or on its line

finite_piece : (q : Piece) (t w : ℚ) → piece_value q t ≡ Fin w → IsSomewhere q
unfolding piece_value
finite_piece q t w e = elim (le_or_lt t q.x) [
  | inl l ↦ inl (w, sym (ap (λ b. cond b q.at (line_value q.line t)) (le_q_out t q.x l)) ∙ e)
  | inr l ↦ inr (line_found q.line t w (sym (ap (λ b. cond b q.at (line_value q.line t)) (le_q_not t q.x l)) ∙ e))
]

-- ---- the rise up to the last copy
up_to_last : (z : Sizes) (s : Span) (period rise : ℚ) (m : ℕ) → IsSomewhere s.piece → CopiesStand z s period rise m → RiseParts z (int (pos m) *ℚ rise)
up_to_last z s period rise m (inl (a, e)) C =
    let y = int (pos m) *ℚ rise in
    rise_parts z a y (subst (ValueStands z) e C.first.at) (subst (λ v. ValueStands z (v +ₑ Fin y)) e C.present.at)
up_to_last z s period rise m (inr (l, e)) C =
    let y = int (pos m) *ℚ rise in
    let d = int (pos m) *ℚ period in
    let x = s.piece.x in
    rise_parts z (line_at l x) y (subst (λ k. ValueStands z (line_value k x)) e C.first.after)
    (subst (λ k. ValueStands z (line_value k x +ₑ Fin y)) e (subst (ValueStands z) (line_moved s.piece.line d y x) C.present.after))

one_more_rise : (z : Sizes) (m : ℕ) (rise : ℚ) → RiseParts z (int (pos m) *ℚ rise) → IsValue z rise → IsGridValue z (int (pos (suc m)) *ℚ rise)
one_more_rise z m rise R h =
    let y = int (pos m) *ℚ rise in
    let V = int (pos z.largest) in
    let e : int (pos (suc m)) *ℚ rise ≡ y +ℚ rise = one_more_times m rise in
    record {
      whole = subst (Whole (grid_of z)) (sym e) (whole_add (grid_of z) y rise R.whole (value_whole z rise h));
      within = subst (Within (times_largest 3 z)) (sym e) (subst (λ v. Within v (y +ℚ rise)) (two_and_one V) (within_add (times_largest 2 z) (times_largest 1 z) y rise R.within (value_within z rise h)));
    }

-- the copies of the piece at a time past the rank
present_copies : (z : Sizes) (from d : ℚ) (c : SpecCurve) (rank period rise t : ℚ) (m : ℕ) (p : Piece) (ps : List Piece) → HasWindow z (from +ℚ d) c → c.tail ≡ Periodic rank period rise → c.pieces ≡ p ∷ ps
    → d ≡ int (pos (suc m)) *ℚ period → rank ≤ℚ from → rank ≤ℚ t
    → (next : Option ℚ) × CopiesStand z record { piece = piece_in p ps (t -ℚ int (pos (periods rank period t)) *ℚ period); next = next } period rise m
present_copies z from d c rank period rise t m p ps window e f whole early past =
    let curve = window.curve in
    let tail = Periodic rank period rise in
    let n = periods rank period t in
    let sooner = t -ℚ int (pos n) *ℚ period in
    let q = piece_in p ps sooner in
    let fits : FitsPeriod c.pieces rank period = some_period c rank period rise curve e in
    let starts : StartsAtZero (p ∷ ps) = subst StartsAtZero f curve.normal.raw.starts in
    let has : HasStart rank (p ∷ ps) = subst (λ k. HasStart (rank_of k) (p ∷ ps)) e (subst (λ qs. HasStart (rank_of c.tail) qs) f curve.normal.rank_is_start) in
    let low : rank ≤ℚ sooner = periods_past rank period t fits.some past in
    let from_rank : rank ≤ℚ q.x = found_from p ps rank sooner starts.1 has low in
    let before : q.x <ℚ rank +ℚ period = each_in (λ r. r.x <ℚ rank +ℚ period) p ps sooner (subst (Each (λ r. r.x <ℚ rank +ℚ period)) f fits.starts) in
    let below : AllByRecursion (λ s. AllByRecursion (SpanStands z) (span_below tail (from +ℚ d) s)) (spans tail (p ∷ ps)) =
    subst (λ k. AllByRecursion (λ s. AllByRecursion (SpanStands z) (span_below k (from +ℚ d) s)) (spans k (p ∷ ps))) e
    (subst (λ qs. AllByRecursion (λ s. AllByRecursion (SpanStands z) (span_below c.tail (from +ℚ d) s)) (spans c.tail qs)) f (each_below z (from +ℚ d) c window.stands)) in
    let (next, all) = span_in (λ s. AllByRecursion (SpanStands z) (span_below tail (from +ℚ d) s)) tail p ps sooner below in
    let y = int (pos m) *ℚ period in
    let x = q.x in
    let more : d ≡ y +ℚ period = whole ∙ one_more_times m period in
    let by : int (pos 0) ≤ℚ y = mul_nonneg (nat_nonneg m) (le_of_lt fits.some) in
    let end = from +ℚ d in
    let moved : x +ℚ y <ℚ from +ℚ d = last_before x y rank period from d more before early in
    (next, copies_of_span z (from +ℚ d) rank period rise (x +ℚ y) x record { piece = q; next = next } m fits.some (with2 x y (λ c. omega (arith, c.le, c.lt, c.same))) by (le_refl x) moved (inr from_rank) all)
  where
    last_before : (x y rank period from d : ℚ) → d ≡ y +ℚ period → x <ℚ rank +ℚ period → rank ≤ℚ from → x +ℚ y <ℚ from +ℚ d
    last_before x y rank period from d e h k = with6 x y rank period from d (λ c. omega (arith, c.le, c.lt, c.same))

    periods_past : (rank period t : ℚ) → int (pos 0) <ℚ period → rank ≤ℚ t → rank ≤ℚ t -ℚ int (pos (periods rank period t)) *ℚ period
    periods_past rank period t some h = let l = periods_low rank period t some h in let y = int (pos (periods rank period t)) *ℚ period in with3 rank y t (λ c. omega (arith, c.le, c.lt, c.same))

-- ---- a periodic curve
periodic_stands : (z : Sizes) (from d : ℚ) (c : SpecCurve) (rank period rise t v : ℚ) (m : ℕ) → HasWindow z (from +ℚ d) c → c.tail ≡ Periodic rank period rise → d ≡ int (pos (suc m)) *ℚ period
    → rank ≤ℚ from → from ≤ℚ t → value_at c t ≡ Fin v → IsGridValue z (int (pos (suc m)) *ℚ rise)
unfolding read
periodic_stands z from d c rank period rise t v m window e whole early h finite =
    let n = periods rank period t in
    let sooner = t -ℚ int (pos n) *ℚ period in
    let tail : PeriodStands z period rise = subst (TailStands z) e (tail_stands z (from +ℚ d) c.pieces c.tail window.stands) in
    with_pieces {G = IsGridValue z (int (pos (suc m)) *ℚ rise)} c.pieces window.curve.normal.raw.starts (λ p ps f.
    let (next, copies) = present_copies z from d c rank period rise t m p ps window e f whole early (le_trans early h) in
    let now : value_at c t ≡ piece_value (piece_in p ps sooner) sooner +ₑ Fin (int (pos n) *ℚ rise) =
    value_periodic c rank period rise t e ∙ repeated_at (read c.pieces) rank period rise t n refl ∙ ap (λ qs. read qs sooner +ₑ Fin (int (pos n) *ℚ rise)) f in
    let parts = finite_sum (piece_value (piece_in p ps sooner) sooner) (Fin (int (pos n) *ℚ rise)) v (sym now ∙ finite) in
    one_more_rise z m rise (up_to_last z record { piece = piece_in p ps sooner; next = next } period rise m (finite_piece (piece_in p ps sooner) sooner parts.0 parts.2) copies) tail.value)

whole_rise : (n : ℕ) (period rise d : ℚ) → int (pos 0) <ℚ period → d ≡ int (pos n) *ℚ period → rise *ℚ (d /ℚ period) ≡ int (pos n) *ℚ rise
whole_rise n period rise d some e = ap (λ y. rise *ℚ (y /ℚ period)) e ∙ ap (λ y. rise *ℚ y) (mul_div (int (pos n)) period (not_zero period some)) ∙ mul_comm rise (int (pos n))

-- ---- any curve
pub rise_stands : (z : Sizes) (from d : ℚ) (c : SpecCurve) (t v : ℚ) → HasWindow z (from +ℚ d) c → Whole z.dt from → int (pos 0) ≤ℚ from → int (pos 0) <ℚ d → rank_of c.tail ≤ℚ from
    → IsWholePeriods c.tail d → from ≤ℚ t → value_at c t ≡ Fin v → IsGridValue z (rise_over c d)
unfolding rise_over
rise_stands z from d c t v window on low some early whole h finite = by_tail c.tail refl whole
  where
    end : ℚ
    end = from +ℚ d

    period_on : Whole z.dt d
    period_on = subst (Whole z.dt) (with2 from d (λ c. omega (arith, c.le, c.lt, c.same))) (whole_sub z.dt (from +ℚ d) from window.limited.sizes.window on)

    stands : CurveStands z c
    stands = curve_stands z (from +ℚ d) c window.curve.normal.raw (starts_over c.pieces c.tail (from +ℚ d) window.curve.normal.raw.tail window.over) window.stands

    by_tail : (tail : Tail) → c.tail ≡ tail → IsWholePeriods tail d → IsGridValue z (rise_in c.pieces c.tail d)
    by_tail (Periodic rank period rise) e w =
        let (n, f) = w in
        let fits : FitsPeriod c.pieces rank period = some_period c rank period rise window.curve e in
        let (m, g) = some_periods n d period f some in
        let k : d ≡ int (pos (suc m)) *ℚ period = f ∙ ap (λ i. int (pos i) *ℚ period) g in
        subst (λ y. IsGridValue z y) (sym (ap (λ u. rise_in c.pieces u d) e ∙ whole_rise (suc m) period rise d fits.some k))
        (periodic_stands z from d c rank period rise t v m window e k (subst (λ u. rank_of u ≤ℚ from) e early) h finite)
    by_tail (Affine rank) e w =
        subst (λ u. IsGridValue z (rise_in c.pieces u d)) (sym e)
        (slope_stands z (from +ℚ d) d (last_line c.pieces) window.limited (line_stands z rank c.pieces (subst (λ u. AllByRecursion (SpanStands z) (spans u c.pieces)) e stands.spans)) period_on (le_of_lt some) (with2 from d (λ c. omega (arith, c.le, c.lt, c.same))))
    by_tail (Infinite rank) e w = subst (λ u. IsGridValue z (rise_in c.pieces u d)) (sym e) (zero_stands z)
