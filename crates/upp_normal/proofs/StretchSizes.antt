-- How a periodic curve goes on from a time of a window: every step there fits.
use Rattle.std.specs.Prelude.{◌≡◌, ◌≢◌, ℕ, ◌*◌, ◌≤◌, cond, pos, List, [], ◌∷◌, Option, Some, None, ◌⊎◌}
use Rattle.std.specs.List.{AllByRecursion}
use Rattle.std.proofs.Common.{arith, sym, ap, ◌∙◌, subst, inl, inr}
use native.Mathlib.Nat.{dvd-mul_left, mul-le-mul_right}
use Rattle.rational.specs.Rational.{ℚ, ◌+ℚ◌, ◌-ℚ◌, ◌*ℚ◌, ◌/ℚ◌, ◌≤ℚ◌, ◌<ℚ◌, int, neg_ℚ}
use Rattle.rational.specs.Ratio.{IsSmall, SumFits}
use Rattle.rational.specs.Grid.{Whole, Within}
use Rattle.rational.specs.Whole.{periods}
use Rattle.rational.specs.Extended.{Ext, ◌+ₑ◌}
use Rattle.rational.specs.declared.Extended.TheVariants.{Fin}
use Rattle.rational.proofs.Linear.{with1, with2, with3, with4}
use Rattle.rational.proofs.Laws.{le_or_lt, le_trans, le_of_lt, lt_le_trans, not_le_of_lt, not_zero, mul_comm, mul_one, mul_le_mul_right}
use Rattle.rational.proofs.Integers.{nat_le}
use Rattle.rational.proofs.Over.{lt_q_out}
use Rattle.rational.proofs.MinMax.{lt_q_not}
use Rattle.rational.proofs.Grid.{whole_add, whole_sub, whole_times, whole_weaken, whole_both, whole_neg, within_nonneg, within_sub, within_neg, within_add}
use Rattle.rational.proofs.Sizes.{largest_part, quotient_on_grid}
use Rattle.upp_curve.specs.declared.affine_segment.line.Line.{Line}
use Rattle.upp_curve.specs.declared.affine_segment.line.Piece.{Piece}
use Rattle.upp_curve.specs.affine_segment.Values.{line_at, line_value}
use Rattle.upp_curve.specs.declared.curve.Tail.{Tail}
use Rattle.upp_curve.specs.declared.curve.Tail.TheVariants.{Periodic, Affine, Infinite}
use Rattle.upp_curve.specs.Curve.{SpecCurve}
use Rattle.upp_curve.specs.Curves.{IsCurve}
use Rattle.upp_curve.specs.affine_segment.Reading.{piece_in}
use Rattle.upp_curve.specs.Steady.{rank_of}
use Rattle.upp_limits.specs.Periods.{period_of}
use Rattle.upp_curve.specs.affine_segment.Pieces.{Each, HasStart, StartsAtZero}
use Rattle.upp_curve.specs.Normal.{FitsPeriod, TailFits}
use Rattle.upp_curve.specs.affine_segment.Fits.{LineFitsAt}
use Rattle.upp_curve.specs.Unrolled.{copies_below, line_later}
use Rattle.upp_limits.specs.Spans.{Span, copy_of, copies_of, once_below, span_below, spans, spans_below}
use Rattle.upp_limits.specs.Limits.{Sizes, curve_numbers}
use Rattle.upp_limits.specs.Sized.{IsValue, IsSlope, Stands, ValueStands, LineStands, SpanStands, TailStands, CurveStands, PeriodStands, grid_of, times_largest}
use Rattle.upp_limits.specs.Seen.{ValueRises}
use Rattle.upp_normal.specs.Operand.{AreLimited, OperandLineAt}
use Rattle.upp_normal.specs.Ahead.{IsOverBy, AtNext, TimesStand, HasWindow, IsTimeIn, GridValue, IsGridValue}
use Rattle.upp_normal.specs.Copied.{LineRises}
use Rattle.upp_limits.proofs.Every.{every_flat_out}
use Rattle.upp_limits.proofs.Copies.{copies_out, copy_zero, copy_among}
use Rattle.upp_limits.proofs.ClosedForms.{line_moved}
use Rattle.upp_limits.proofs.NarrowSizes.{scaled_fits, grid_pos, line_parts, small_number, small_sum, value_whole, value_within, run_whole, run_within}
use Rattle.upp_normal.proofs.AnswerRoom.{operand_line_fits, operand_line_value, stands_operand_value, wide_narrow}
use Rattle.upp_limits.proofs.CurveStands.{unrolled_stand, curve_stands, tail_stands, once_out, copies_first, each_up}
use Rattle.upp_limits.proofs.KnownNumbers.{value_rises, two_ones}
use Rattle.upp_normal.proofs.StretchPieces.{span_in, found_from}
use Rattle.upp_normal.proofs.StretchTurns.{Turned, turned}
use Rattle.upp_normal.proofs.NormaliseRoomy.{found_early}

-- ---- the first and the present copy of the piece at a time
pub record CopiesStand (z : Sizes) (s : Span) (period rise : ℚ) (n : ℕ) : Type 0 where
  pub first : SpanStands z s
  pub present : SpanStands z (copy_of period rise s n)

pub each_below : (z : Sizes) (end : ℚ) (c : SpecCurve) → Stands z (curve_numbers end c) → AllByRecursion (λ s. AllByRecursion (SpanStands z) (span_below c.tail end s)) (spans c.tail c.pieces)
unfolding spans_below
each_below z end c h = every_flat_out (SpanStands z) (span_below c.tail end) (spans c.tail c.pieces) (unrolled_stand z end c h)

pub copies_of_span : (z : Sizes) (end rank period rise t early : ℚ) (s : Span) (n : ℕ) → int (pos 0) <ℚ period → early ≡ t -ℚ int (pos n) *ℚ period → int (pos 0) ≤ℚ int (pos n) *ℚ period
    → s.piece.x ≤ℚ early → t <ℚ end → (n ≡ 0) ⊎ (rank ≤ℚ s.piece.x) → AllByRecursion (SpanStands z) (span_below (Periodic rank period rise) end s) → CopiesStand z s period rise n
copies_of_span z end rank period rise t early s n some e by early_start before past all = elim (le_or_lt rank s.piece.x) [
  | inl k ↦
      let copies : AllByRecursion (SpanStands z) (copies_of period rise s (copies_below period end s.piece)) =
      subst (λ b. AllByRecursion (SpanStands z) (cond b (once_below end s) (copies_of period rise s (copies_below period end s.piece)))) (lt_q_not s.piece.x rank k) all in
      record {
        first = copies_first (SpanStands z) end period rise s some starts copies;
        present = copy_among (SpanStands z) period rise s (copies_below period end s.piece) n (copies_out period end s.piece n some moved) copies;
      }
  | inr k ↦
      let first : SpanStands z s =
      once_out (SpanStands z) end s starts (subst (λ b. AllByRecursion (SpanStands z) (cond b (once_below end s) (copies_of period rise s (copies_below period end s.piece)))) (lt_q_out s.piece.x rank k) all) in
      record { first = first; present = elim past [ inl i ↦ subst (SpanStands z) (sym (ap (copy_of period rise s) i ∙ copy_zero period rise s)) first | inr i ↦ absurd (not_le_of_lt k i) ] }
]
  where
    starts : s.piece.x <ℚ end
    starts = let x = s.piece.x in let y = int (pos n) *ℚ period in with4 x y t end (λ c. omega (arith, c.le, c.lt, c.same))

    moved : s.piece.x +ℚ int (pos n) *ℚ period <ℚ end
    moved = let x = s.piece.x in let y = int (pos n) *ℚ period in with4 x y t end (λ c. omega (arith, c.le, c.lt, c.same))

-- that of a curve, at a time of its window
pub copies_stand : (z : Sizes) (end : ℚ) (c : SpecCurve) (rank period rise t : ℚ) (p : Piece) (ps : List Piece) → IsCurve c → HasWindow z end c → IsTimeIn z end t
    → c.tail ≡ Periodic rank period rise → c.pieces ≡ p ∷ ps → (n : ℕ) → n ≡ periods rank period t → (early : ℚ) → early ≡ t -ℚ int (pos n) *ℚ period
    → (next : Option ℚ) × CopiesStand z record { piece = piece_in p ps early; next = next } period rise n
copies_stand z end c rank period rise t p ps curve window time e f n count early back =
    let tail = Periodic rank period rise in
    let fits : FitsPeriod (p ∷ ps) rank period = subst (λ k. TailFits (p ∷ ps) k) e (subst (λ qs. TailFits qs c.tail) f curve.normal.raw.tail) in
    let starts : StartsAtZero (p ∷ ps) = subst StartsAtZero f curve.normal.raw.starts in
    let has : HasStart rank (p ∷ ps) = subst (λ k. HasStart (rank_of k) (p ∷ ps)) e (subst (λ qs. HasStart (rank_of c.tail) qs) f curve.normal.rank_is_start) in
    let turn : Turned rank period t n = subst (Turned rank period t) (sym count) (turned rank period t fits.nonneg fits.some time.nonneg) in
    let low : int (pos 0) ≤ℚ early = subst (λ y. int (pos 0) ≤ℚ y) (sym back) turn.low in
    let first : p.x ≤ℚ early = subst (λ x. x ≤ℚ early) (sym starts.0) low in
    let below : AllByRecursion (λ s. AllByRecursion (SpanStands z) (span_below tail end s)) (spans tail (p ∷ ps)) =
    subst (λ k. AllByRecursion (λ s. AllByRecursion (SpanStands z) (span_below k end s)) (spans k (p ∷ ps))) e
    (subst (λ qs. AllByRecursion (λ s. AllByRecursion (SpanStands z) (span_below c.tail end s)) (spans c.tail qs)) f (each_below z end c window.stands)) in
    let (next, all) = span_in (λ s. AllByRecursion (SpanStands z) (span_below tail end s)) tail p ps early below in
    let past : (n ≡ 0) ⊎ (rank ≤ℚ (piece_in p ps early).x) = elim turn.past [
      | inl i ↦ inl i
      | inr i ↦ inr (found_from p ps rank early starts.1 has (subst (λ y. rank ≤ℚ y) (sym back) i))
    ] in
    (next, copies_of_span z end rank period rise t early record { piece = piece_in p ps early; next = next } n fits.some back turn.by (found_early p ps early first) time.before past all)

-- ---- steps with times

pub time_whole : (z : Sizes) (t : ℚ) → Whole z.dt t → Whole (grid_of z) t
time_whole z t w = whole_both (z.dv * z.dt) z.ds t (whole_weaken z.dt (z.dv * z.dt) t (dvd-mul_left z.dt z.dv) w)

pub end_at_most : (z : Sizes) (end : ℚ) → AreLimited z end → end ≤ℚ int (pos z.largest)
end_at_most z end A =
    le_trans (subst (λ y. y ≤ℚ int (pos z.steepness) *ℚ end) (mul_comm (int (pos 1)) end ∙ mul_one end) (mul_le_mul_right end A.some (nat_le 1 z.steepness A.sizes.steepness))) A.sizes.reach

pub time_within : (z : Sizes) (end t : ℚ) → AreLimited z end → int (pos 0) ≤ℚ t → t ≤ℚ end → Within (times_largest 1 z) t
time_within z end t A low high =
    let V = int (pos z.largest) in
    let e : int (pos 1) *ℚ V ≡ V = mul_comm (int (pos 1)) V ∙ mul_one V in
    subst (λ m. Within m t) (sym e) (within_nonneg V t low (le_trans high (end_at_most z end A)))

pub times_fit : (z : Sizes) (end t u : ℚ) → AreLimited z end → Whole z.dt t → Whole z.dt u → int (pos 0) ≤ℚ t → t ≤ℚ end → int (pos 0) ≤ℚ u → u ≤ℚ end → SumFits t u × SumFits t (neg_ℚ u)
times_fit z end t u A v w low high early late =
    let N = wide_narrow z end A in
    let i = time_within z end t A low high in
    let j = time_within z end u A early late in (
      small_sum z end 1 1 t u A.sizes N (omega arith) (time_whole z t v) (time_whole z u w) i j,
      small_sum z end 1 1 t (neg_ℚ u) A.sizes N (omega arith) (time_whole z t v) (whole_neg (grid_of z) u (time_whole z u w)) i (within_neg (times_largest 1 z) u j),
    )

many_fits : (z : Sizes) (end : ℚ) (k : ℕ) → AreLimited z end → k ≤ 31 → times_largest k z *ℚ int (pos (grid_of z)) ≤ℚ int (pos largest_part)
many_fits z end k A h =
    let g = (wide_narrow z end A).grid in
    let m : k * (z.largest * grid_of z) ≤ 31 * (z.largest * grid_of z) = mul-le-mul_right (z.largest * grid_of z) h in
    scaled_fits k z.largest (grid_of z) largest_part (omega (arith, m, g))

-- a quotient of numbers up to 31 times the largest value
pub small_quotient : (z : Sizes) (end : ℚ) (k j : ℕ) (p q : ℚ) → AreLimited z end → k ≤ 31 → j ≤ 31 → q ≢ int (pos 0) → Whole (grid_of z) p → Whole (grid_of z) q
    → Within (times_largest k z) p → Within (times_largest j z) q → IsSmall (p /ℚ q)
small_quotient z end k j p q A h l some wp wq ip iq =
    quotient_on_grid (grid_of z) (times_largest k z) (times_largest j z) p q (grid_pos z end A.sizes) some (many_fits z end k A h) (many_fits z end j A l) wp wq ip iq

-- the steps to a time as one of the first period
pub record TurnSteps (rank period t : ℚ) (n : ℕ) : Type 0 where
  pub past : SumFits t (neg_ℚ rank)
  pub count : IsSmall ((t -ℚ rank) /ℚ period)
  pub by : IsSmall (int (pos n) *ℚ period)
  pub early : SumFits t (neg_ℚ (int (pos n) *ℚ period))
  pub end : SumFits rank period

-- where rank and period stand
pub record TailTimes (z : Sizes) (end r d : ℚ) : Type 0 where
  pub rank : Whole z.dt r
  pub period : Whole z.dt d
  pub nonneg : int (pos 0) ≤ℚ r
  pub some : int (pos 0) <ℚ d
  pub over : r +ℚ d ≤ℚ end

pub some_period : (c : SpecCurve) (rank period rise : ℚ) → IsCurve c → c.tail ≡ Periodic rank period rise → FitsPeriod c.pieces rank period
some_period c rank period rise curve e = subst (TailFits c.pieces) e curve.normal.raw.tail

pub tail_times : (z : Sizes) (end : ℚ) (c : SpecCurve) (rank period rise : ℚ) → IsCurve c → HasWindow z end c → c.tail ≡ Periodic rank period rise → TailTimes z end rank period
tail_times z end c rank period rise curve window e =
    let fits = some_period c rank period rise curve e in
    let tail : PeriodStands z period rise = subst (TailStands z) e (tail_stands z end c.pieces c.tail window.stands) in
    let on : Whole z.dt rank = subst (λ k. Whole z.dt (rank_of k)) e window.stands.times.0 in
    let over : rank +ℚ period ≤ℚ end = subst (IsOverBy end) e window.over in
    record { rank = on; period = tail.whole; nonneg = fits.nonneg; some = fits.some; over = over }

pub turn_steps : (z : Sizes) (end : ℚ) (c : SpecCurve) (rank period rise t : ℚ) → IsCurve c → HasWindow z end c → IsTimeIn z end t → c.tail ≡ Periodic rank period rise
    → (n : ℕ) → n ≡ periods rank period t → TurnSteps rank period t n
turn_steps z end c rank period rise t curve window time e n count =
    let T = tail_times z end c rank period rise curve window e in
    let A = window.limited in
    let N = wide_narrow z end A in
    let turn : Turned rank period t n = subst (Turned rank period t) (sym count) (turned rank period t T.nonneg T.some time.nonneg) in
    let y = int (pos n) *ℚ period in
    let rank_high : rank ≤ℚ end = (let l = T.over in let s = T.some in with3 rank period end (λ c. omega (arith, c.le, c.lt, c.same))) in
    let period_high : period ≤ℚ end = (let l = T.over in let s = T.nonneg in with3 rank period end (λ c. omega (arith, c.le, c.lt, c.same))) in
    let period_low : int (pos 0) ≤ℚ period = le_of_lt T.some in
    let high : t ≤ℚ end = le_of_lt time.before in
    let by_high : y ≤ℚ end = le_trans turn.at_most high in
    let by_on : Whole z.dt y = whole_times z.dt (pos n) period T.period in
    let V = int (pos z.largest) in
    record {
      past = (times_fit z end t rank A time.whole T.rank time.nonneg high T.nonneg rank_high).1;
      count =
          small_quotient z end 2 1 (t -ℚ rank) period A (omega arith) (omega arith) (not_zero period T.some)
          (whole_sub (grid_of z) t rank (time_whole z t time.whole) (time_whole z rank T.rank)) (time_whole z period T.period)
          (subst (λ m. Within m (t -ℚ rank)) (two_ones V) (within_sub (times_largest 1 z) (times_largest 1 z) t rank (time_within z end t A time.nonneg high) (time_within z end rank A T.nonneg rank_high)))
          (time_within z end period A period_low period_high);
      by = small_number z end 1 y A.sizes N (omega arith) (time_whole z y by_on) (time_within z end y A turn.by by_high);
      early = (times_fit z end t y A time.whole by_on time.nonneg high turn.by by_high).1;
      end = (times_fit z end rank period A T.rank T.period T.nonneg rank_high period_low period_high).0;
    }

-- ---- the present copy of a piece
four : (v : ℚ) → int (pos 2) *ℚ v +ℚ int (pos 2) *ℚ v ≡ int (pos 4) *ℚ v
four v = with1 v (λ c. omega (arith, c.le, c.lt, c.same))

-- what lies between a value and its copy
pub record RiseParts (z : Sizes) (y : ℚ) : Type 0 where
  pub whole : Whole (grid_of z) y
  pub within : Within (times_largest 2 z) y

pub rise_parts : (z : Sizes) (v y : ℚ) → IsValue z v → IsValue z (v +ℚ y) → RiseParts z y
rise_parts z v y h k =
    let V = int (pos z.largest) in
    let same : (v +ℚ y) -ℚ v ≡ y = with2 v y (λ c. omega (arith, c.le, c.lt, c.same)) in
    record {
      whole = subst (λ q. Whole (grid_of z) q) same (whole_sub (grid_of z) (v +ℚ y) v (value_whole z (v +ℚ y) k) (value_whole z v h));
      within = subst (λ m. Within m y) (two_ones V) (subst (λ q. Within (times_largest 1 z +ℚ times_largest 1 z) q) same (within_sub (times_largest 1 z) (times_largest 1 z) (v +ℚ y) v (value_within z (v +ℚ y) k) (value_within z v h)));
    }

line_steps : (z : Sizes) (end x by n rise : ℚ) (l : Option Line) → AreLimited z end → Whole z.dt x → int (pos 0) ≤ℚ x → x ≤ℚ end → Whole z.dt by → int (pos 0) ≤ℚ by → by ≤ℚ end
    → LineStands z l → ValueStands z (line_value l x) → ValueStands z (line_value l x +ₑ Fin (n *ℚ rise)) → LineRises l by n rise
line_steps z end x by n rise None A on low high on_by by_low by_high s v k = tt
line_steps z end x by n rise (Some l) A on low high on_by by_low by_high s v k =
    let N = wide_narrow z end A in
    let y = n *ℚ rise in
    let back = l.slope *ℚ by in
    let V = int (pos z.largest) in
    let L = line_parts z end l.icept l.slope x A.sizes s on low high v in
    let R = rise_parts z (line_at l x) y v k in
    let B = line_back z end l.slope by A s on_by by_low by_high in
    record {
      product = small_number z end 2 y A.sizes N (omega arith) R.whole R.within;
      moved = record {
        risen = small_sum z end 2 2 l.icept y A.sizes N (omega arith) L.icept_whole R.whole L.icept_within R.within;
        back = small_number z end 1 back A.sizes N (omega arith) B.0 B.1;
        moved =
            small_sum z end 4 1 (l.icept +ℚ y) (neg_ℚ back) A.sizes N (omega arith) (whole_add (grid_of z) l.icept y L.icept_whole R.whole) (whole_neg (grid_of z) back B.0)
            (subst (λ m. Within m (l.icept +ℚ y)) (four V) (within_add (times_largest 2 z) (times_largest 2 z) l.icept y L.icept_within R.within)) (within_neg (times_largest 1 z) back B.1);
      };
    }
  where
    line_back : (z : Sizes) (end s by : ℚ) → AreLimited z end → IsSlope z s → Whole z.dt by → int (pos 0) ≤ℚ by → by ≤ℚ end → Whole (grid_of z) (s *ℚ by) × Within (times_largest 1 z) (s *ℚ by)
    line_back z end s by A h on low high =
        let V = int (pos z.largest) in
        let e : int (pos 1) *ℚ V ≡ V = mul_comm (int (pos 1)) V ∙ mul_one V in
        (run_whole z s by h on, subst (λ m. Within m (s *ℚ by)) (sym e) (run_within z end s by A.sizes h low high))

stands_line : (z : Sizes) (end x : ℚ) (l : Option Line) → AreLimited z end → Whole z.dt x → int (pos 0) ≤ℚ x → x ≤ℚ end → LineStands z l → ValueStands z (line_value l x) → OperandLineAt z l
stands_line z end x None A on low high s v = tt
stands_line z end x (Some l) A on low high s v =
    let p = line_parts z end l.icept l.slope x A.sizes s on low high v in
    record { slope = s; icept = p.icept_whole; within = p.icept_within }

-- the line of a piece that stands
pub span_line : (z : Sizes) (end : ℚ) (s : Span) → AreLimited z end → int (pos 0) ≤ℚ s.piece.x → s.piece.x ≤ℚ end → SpanStands z s → OperandLineAt z s.piece.line
span_line z end s A low high h = stands_line z end s.piece.x s.piece.line A h.start low high h.slope h.after

-- all steps to the present copy of a piece at a time, and the sizes of what is found
pub record CopySteps (z : Sizes) (t n by rise : ℚ) (p : Piece) : Type 0 where
  pub rises : ValueRises p.at n rise
  pub line : LineRises p.line by n rise
  pub fits : LineFitsAt t (line_later by (n *ℚ rise) p.line)
  pub line_stands : OperandLineAt z (line_later by (n *ℚ rise) p.line)
  pub at_start : GridValue z (p.at +ₑ Fin (n *ℚ rise))
  pub past : GridValue z (line_value (line_later by (n *ℚ rise) p.line) t)

pub copy_steps : (z : Sizes) (end period rise t : ℚ) (s : Span) (n : ℕ) → AreLimited z end → IsTimeIn z end t → Whole z.dt period → int (pos 0) <ℚ period → int (pos 0) ≤ℚ s.piece.x
    → int (pos 0) ≤ℚ int (pos n) *ℚ period → s.piece.x +ℚ int (pos n) *ℚ period ≤ℚ t → CopiesStand z s period rise n → CopySteps z t (int (pos n)) (int (pos n) *ℚ period) rise s.piece
copy_steps z end period rise t s n A time on some low by_low start C =
    let x = s.piece.x in
    let by = int (pos n) *ℚ period in
    let y = int (pos n) *ℚ rise in
    let later = line_later by y s.piece.line in
    let first = C.first in
    let present = C.present in
    let early : t ≤ℚ end = le_of_lt time.before in
    let x_high : x ≤ℚ end = with4 x by t end (λ c. omega (arith, c.le, c.lt, c.same)) in
    let by_high : by ≤ℚ end = with4 x by t end (λ c. omega (arith, c.le, c.lt, c.same)) in
    let moved_low : int (pos 0) ≤ℚ x +ℚ by = with2 x by (λ c. omega (arith, c.le, c.lt, c.same)) in
    let moved_high : x +ℚ by ≤ℚ end = with4 x by t end (λ c. omega (arith, c.le, c.lt, c.same)) in
    let after : ValueStands z (line_value s.piece.line x +ₑ Fin y) = subst (ValueStands z) (line_moved s.piece.line by y x) present.after in
    let line_stands : OperandLineAt z later = stands_line z end (x +ℚ by) later A present.start moved_low moved_high present.slope present.after in
    record {
      rises = value_rises z end s.piece.at (int (pos n)) rise A.sizes (wide_narrow z end A) first.at present.at;
      line = line_steps z end x by (int (pos n)) rise s.piece.line A first.start low x_high (whole_times z.dt (pos n) period on) by_low by_high first.slope first.after after;
      fits = operand_line_fits z end t later A line_stands time.whole time.nonneg early;
      line_stands = line_stands;
      at_start = (stands_operand_value z (s.piece.at +ₑ Fin y) present.at);
      past = (operand_line_value z end t later A line_stands time.whole time.nonneg early);
    }

-- ---- all starts stand

pub starts_over : (ps : List Piece) (tail : Tail) (end : ℚ) → TailFits ps tail → IsOverBy end tail → Each (λ p. p.x <ℚ end) ps
starts_over ps (Periodic rank period rise) end fits over = each_before ps (rank +ℚ period) end over fits.starts
  where
    each_before : (ps : List Piece) (s end : ℚ) → s ≤ℚ end → Each (λ p. p.x <ℚ s) ps → Each (λ p. p.x <ℚ end) ps
    each_before [] s end l h = tt
    each_before (p ∷ ps) s end l h = (lt_le_trans h.0 l, each_before ps s end l h.1)
starts_over ps (Affine rank) end fits over = each_up ps rank end over fits.starts
starts_over ps (Infinite rank) end fits over = each_up ps rank end over fits.starts

spans_start : (z : Sizes) (tail : Tail) (ps : List Piece) → AllByRecursion (SpanStands z) (spans tail ps) → Each (λ p. Whole z.dt p.x) ps
unfolding spans
spans_start z tail [] h = tt
spans_start z tail (p ∷ ps) h = (h.0.start, spans_start z tail ps h.1)

pub times_stand : (z : Sizes) (end : ℚ) (c : SpecCurve) → IsCurve c → HasWindow z end c → TimesStand z.dt c
times_stand z end c curve window =
    let raw = curve.normal.raw in
    let stands : CurveStands z c = curve_stands z end c raw (starts_over c.pieces c.tail end raw.tail window.over) window.stands in
    record { rank = stands.rank; period = period_stands c.tail stands.tail; starts = spans_start z c.tail c.pieces stands.spans }
  where
    period_stands : (tail : Tail) → TailStands z tail → AtNext (Whole z.dt) (period_of tail)
    period_stands (Periodic rank period rise) h = h.whole
    period_stands (Affine rank) h = tt
    period_stands (Infinite rank) h = tt

-- a finite value on the grid
pub grid_value : (z : Sizes) (x : Ext) (v : ℚ) → x ≡ Fin v → GridValue z x → IsGridValue z v
grid_value z x v e h = subst (GridValue z) e h
