-- A star of a segment that the zero curve makes nothing of: where few numbers tell that the calls on it are within their
-- limits, its convolution with the zero curve is the zero curve.
use Rattle.std.specs.Prelude.{◌≡◌, ◌≢◌, ℕ, zero, suc, ◌+◌, ◌*◌, ◌<◌, ◌≤◌, ◌^◌, pos, Bool, true, false, List, [], ◌∷◌, length, Option, Some, None, Ok}
use Rattle.std.proofs.Common.{arith, refl, ap, ◌∙◌, sym, subst, inl, inr}
use native.Mathlib.Nat.{mul-le-mul}
use Rattle.rational.specs.Rational.{ℚ, ◌+ℚ◌, ◌*ℚ◌, ◌≤ℚ◌, ◌<ℚ◌, int}
use Rattle.rational.specs.Extended.{Ext, ◌≤ₑ◌, ◌<ₑ◌, ◌+ₑ◌}
use Rattle.rational.specs.declared.Extended.TheVariants.{Fin, Inf}
use Rattle.rational.specs.Grid.{Whole}
use Rattle.rational.proofs.Bounds.{all_infinite, greatest, infimum_unique}
use Rattle.rational.proofs.ExtendedOrder.{le_ext_refl}
use Rattle.rational.proofs.Grid.{whole_add, whole_int, whole_times}
use Rattle.rational.proofs.Integers.{int_add, mul_whole, nat_le, nat_nonneg}
use Rattle.rational.proofs.Laws.{add_mul, antisym, le_lt_trans, le_of_lt, le_of_mul, le_or_lt, le_refl, le_trans, lt_irrefl, lt_le_trans, mul_assoc, mul_le_mul, mul_le_mul_right, mul_nonneg, mul_one, one_mul, zero_mul}
use Rattle.rational.proofs.Linear.{with1, with2, with3, with4, with5}
use Rattle.rational.proofs.MinMax.{max_q_is_left}
use Rattle.rational.proofs.Quotients.{div_nonneg}
use Rattle.min_plus.specs.Functions.{zero_q, IsFinite, IsNonnegative}
use Rattle.min_plus.specs.Convolution.{Parts, sum_at}
use Rattle.min_plus.specs.closure_laws.Star.{nat_times}
use Rattle.min_plus.proofs.closure_laws.KeptShapes.{total_nonneg}
use Rattle.upp_curve.specs.declared.affine_segment.line.Line.{Line}
use Rattle.upp_curve.specs.declared.affine_segment.line.Piece.{Piece}
use Rattle.upp_curve.specs.declared.affine_segment.element.Element.{Element}
use Rattle.upp_curve.specs.declared.affine_segment.element.Element.TheVariants.{Open}
use Rattle.upp_curve.specs.affine_segment.Elements.{element_value}
use Rattle.upp_curve.specs.affine_segment.Values.{line_at}
use Rattle.upp_curve.specs.declared.curve.Tail.{Tail}
use Rattle.upp_curve.specs.declared.curve.Tail.TheVariants.{Periodic, Affine, Infinite}
use Rattle.upp_curve.specs.Curve.{SpecCurve, value_at}
use Rattle.upp_curve.specs.Curves.{IsCurve}
use Rattle.upp_curve.specs.Normal.{IsNormal}
use Rattle.upp_curve.specs.affine_segment.Pieces.{Each, StartsAtZero}
use Rattle.upp_curve.specs.Steady.{Repeats, last_line, later_unless, rate, slope_of, steady}
use Rattle.upp_curve.specs.Unrolled.{count}
use Rattle.upp_curve.proofs.RisingCurves.{GoesOn, infinite_is_not_finite}
use Rattle.upp_limits.specs.declared.op_kind.OpKind.TheVariants.{Min}
use Rattle.upp_limits.specs.Limits.{Sizes, curve_numbers, gauge_of, own_end, own_gauge, own_sizes}
use Rattle.upp_limits.specs.Periods.{common_period}
use Rattle.upp_limits.specs.Sized.{Stands}
use Rattle.upp_limits.specs.Windows.{window_at}
use Rattle.upp_limits.proofs.CoveredCounts.{count_few, once_few}
use Rattle.upp_normal.proofs.GaugeRises.{curve_earlier}
use Rattle.curve_call.specs.Calls.{Applies}
use Rattle.curve_call.proofs.Levels.{zero_window}
use Rattle.outcomes.specs.Calls.{Then, goes_on}
use Rattle.subadd_closure.specs.declared.part.Copies.{Copies}
use Rattle.subadd_closure.specs.CurveParts.{copies_of, part_of}
use Rattle.subadd_closure.specs.ElementAnswers.{IsElementClosure, IsOpenPart}
use Rattle.subadd_closure.specs.ElementClosures.{IsSegmentClosure, Turn}
use Rattle.subadd_closure.specs.ElementCurves.{all_stretches, falling_closure, level_closure, line_times, rising_closure, turn}
use Rattle.subadd_closure.specs.Folds.{CopiedAnswer, ElementAnswer, LeavesAsIs, LoweredAnswer, SegmentWithin, segment_number}
use Rattle.subadd_closure.specs.FoldWork.{copies_work, part_work}
use Rattle.subadd_closure.specs.IdleParts.{ClosureLeaves, LeavesZero}
use Rattle.subadd_closure.specs.Lattices.{origin_curve}
use Rattle.subadd_closure.specs.PartStars.{turn_of}
use Rattle.subadd_closure.specs.SegmentLimits.{IsElementOf}
use Rattle.subadd_closure.specs.Starting.{IsStartedAt, KeepsTail, first_at, started_at}
use Rattle.subadd_closure.proofs.ClosureValues.{falling_values, rising_values}
use Rattle.subadd_closure.proofs.ElementFits.{element_nonneg}
use Rattle.subadd_closure.proofs.ElementNumbers.{IsTimeTo, segment_line, segment_times}
use Rattle.subadd_closure.proofs.FewCopies.{few_pieces}
use Rattle.subadd_closure.proofs.LatticeCurves.{origin_is_curve}
use Rattle.subadd_closure.proofs.NormalClosures.{all_last}
use Rattle.subadd_closure.proofs.SegmentAnswers.{ready_falling, ready_level, ready_rising}
use Rattle.subadd_closure.proofs.SmallPieces.{call_sizes, lines_read}
use Rattle.subadd_closure.proofs.StartCurves.{started_curve, started_values}
use Rattle.subadd_closure.proofs.Starts.{line_kept, repeated_past, repeated_zero}
use Rattle.subadd_closure.proofs.SumCurves.{IsSumCycle, affine_stands, cycle_copies, cycle_curve, cycle_end, cycle_stands, end_time, first_sums, limited_to, sum_pieces, turn_is_sum}
use Rattle.subadd_closure.proofs.SumPieces.{IsSumPiece, IsTimeBy, LineStandsIn}
use Rattle.subadd_closure.proofs.SumSizes.{sum_sizes, sums_are, sums_end, sums_gauge}
use Rattle.subadd_closure.proofs.ZeroCalls.{convolve_within, min_made, min_within, origin_steady, zero_curve, zero_made, zero_meets, zero_window_is}

length_kept : (v : Ext) (ps : List Piece) → length (first_at v ps) ≡ length ps
length_kept v [] = refl
length_kept v (p ∷ ps) = refl

few_pairs : (x y n : ℕ) → x ≤ 1 → y ≤ n → n ≤ 2 ^ 20 → x * y ≤ 2 ^ 20
few_pairs x y n h k l = let p : x * y ≤ 1 * n = mul-le-mul h k in omega (arith, p, l)

-- ---- a closure is nowhere below 0
closure_low : (a b : ℚ) (l : Line) (c : SpecCurve) → IsNonnegative (element_value (Open a (Fin b) l))
    → IsElementClosure (Open a (Fin b) l) c → IsNonnegative (value_at c)
closure_low a b l c low h t from =
    greatest (λ (p : Parts t). sum_at (element_value (Open a (Fin b) l)) (p.first ∷ p.others)) (value_at c t) (Fin zero_q)
    (h.closes t from) (λ p. total_nonneg (element_value (Open a (Fin b) l)) (p.first ∷ p.others) p.nonneg low)

-- ---- where it turns it does not repeat from 0 on
module _ (a b : ℚ) (l : Line) where
  times_more : (n : ℕ) (x : ℚ) → zero_q ≤ℚ x → x ≤ℚ int (pos (suc n)) *ℚ x
  times_more n x low = subst (λ y. y ≤ℚ int (pos (suc n)) *ℚ x) (one_mul x) (mul_le_mul_right x low (nat_le 1 (suc n) (omega arith)))

  no_turn : zero_q <ℚ a → Turn a (Fin b) a → ⊥
  no_turn late t =
      let above = t.above in
      let more = times_more t.less_one t.share (le_of_lt (lt_le_trans late (le_of_lt above))) in
      lt_irrefl a (lt_le_trans above (subst (λ y. t.share ≤ℚ y) (sym t.is) more))

  pub falls_past : (v : Ext) (x : ℚ) → zero_q <ℚ a → IsSegmentClosure a (Fin b) l a v → v ≢ Fin x
  falls_past v x late h e =
      let F = λ (n : Turn a (Fin b) a). Fin (int (pos (suc n.less_one)) *ℚ l.icept +ℚ l.slope *ℚ a) in
      let none : v ≡ Inf = infimum_unique F v Inf h (all_infinite F (λ n. absurd (no_turn late n))) in
      let both : Inf ≡ Fin x = sym none ∙ e in
      cc

  two_turns : (n : ℕ) (share : ℚ) → b ≡ int (pos (suc n)) *ℚ share → share <ℚ b → 1 ≤ n
  two_turns zero share is less = absurd (lt_irrefl share (subst (λ y. share <ℚ y) (is ∙ one_mul share) less))
  two_turns (suc n) share is less = omega arith

  pub rises_past : (v : Ext) → zero_q <ℚ l.icept → IsSegmentClosure a (Fin b) l b v → v ≢ Fin (line_at l b)
  rises_past v up h e =
      let k = l.icept in
      let r = l.slope *ℚ b in
      let F = λ (n : Turn a (Fin b) b). Fin (int (pos (suc n.less_one)) *ℚ k +ℚ r) in
      let two = int (pos 2) *ℚ k in
      let least : Fin (two +ℚ r) ≤ₑ v =
      greatest F v (Fin (two +ℚ r)) h (λ n.
      let N = int (pos (suc n.less_one)) *ℚ k in
      let some = two_turns n.less_one n.share n.is n.below in
      let more : two ≤ℚ N = mul_le_mul_right k (le_of_lt up) (nat_le 2 (suc n.less_one) (omega (arith, some))) in
      with3 two N r (λ c. omega (arith, c.le, c.lt, c.same))) in
      let under : two +ℚ r ≤ℚ k +ℚ r = subst (λ y. Fin (two +ℚ r) ≤ₑ y) e least in
      let is : two ≡ k +ℚ k = with1 k (λ c. omega (arith, c.le, c.lt, c.same)) in
      lt_irrefl zero_q (with3 two k r (λ c. omega (arith, c.le, c.lt, c.same)))

-- on the grid of times, and within 1 of the rank
record IsSteadyBy (z : Sizes) (R s : ℚ) : Type 0 where
  whole : Whole z.dt s
  from : R ≤ℚ s
  to : s ≤ℚ R +ℚ int (pos 1)

-- ---- a curve of such pieces, within sizes of a small gauge
module _ (z : Sizes) (end : ℚ) (l : Line) (h : LineStandsIn z end l) (m : ℕ) (small : gauge_of (sum_sizes (5 * suc m) z) < 2 ^ 120)
    (few : m ≤ 2 ^ 17) where
  abbrev n : ℕ
  n = 5 * suc m

  abbrev Z : Sizes
  Z = sum_sizes n z

  abbrev far : ℚ
  far = sums_end n end

  some : 1 ≤ n
  some = omega arith

  zero_curves : (e : ℚ) → IsTimeBy z far e → zero_q <ℚ e → Stands Z (curve_numbers e zero_curve) × IsCurve zero_curve
  zero_curves e t late = let w = zero_window Z e (limited_to z end l h n some e small t) late in (w.stands, w.curve)

  one_zero : (e : ℚ) → IsCurve zero_curve → count zero_curve e ≤ 1
  one_zero e curve = count_few zero_curve e 1 1 curve (λ p. once_few e p) refl

  one_origin : (e : ℚ) → count origin_curve e ≤ 1
  one_origin e = count_few origin_curve e 1 1 origin_is_curve (λ p. once_few e p) refl

  -- ---- that repeats
  module _ (ps : List Piece) (R d : ℚ) (C : IsSumCycle z (m + 2) l ps R d) (reach : cycle_end R d 2 ≤ℚ far)
      (count_by : length ps ≤ 2 * m + 3) (late : zero_q +ℚ int (pos 1) ≤ℚ R) (rises : zero_q ≤ℚ line_at l d)
      (starts : StartsAtZero ps) where
    abbrev turned : SpecCurve
    turned = record { pieces = ps; tail = Periodic R d (line_at l d) }

    abbrev turned_star : SpecCurve
    turned_star = started_at (Fin zero_q) turned

    room : (m + 2) + 1 ≤ n
    room = omega arith

    past_zero : zero_q <ℚ R
    past_zero = with1 R (λ c. omega (arith, c.le, c.lt, c.same))

    C_star : IsSumCycle z (m + 2) l (first_at (Fin zero_q) ps) R d
    C_star = record {
      pieces = first_sums z (R +ℚ d) (m + 2) l ps starts C.pieces;
      some = C.some;
      low = C.low;
      rank = C.rank;
      period = C.period;
    }

    star_past : (t : ℚ) → zero_q <ℚ t → value_at turned_star t ≡ value_at turned t
    unfolding value_at
    star_past t past = repeated_past (Fin zero_q) ps starts R d (line_at l d) t past_zero C.some past

    star_zero : value_at turned_star zero_q ≡ Fin zero_q
    unfolding value_at
    star_zero = repeated_zero (Fin zero_q) ps starts R d (line_at l d) past_zero C.some

    zero_add : (x : ℚ) → zero_q +ℚ x ≡ x
    zero_add x = antisym (with1 x (λ c. omega (arith, c.le, c.lt, c.same)))

    no_rule : value_at turned d ≢ Fin (line_at l d) → ¬ (Repeats (value_at turned_star) zero_q d (line_at l d))
    no_rule bent r =
        bent (sym (star_past d C.some) ∙ ap (value_at turned_star) (sym (zero_add d)) ∙ r.rule zero_q (le_refl zero_q)
        ∙ ap (λ v. v +ₑ Fin (line_at l d)) star_zero ∙ ap Fin (zero_add (line_at l d)))

    star_low : IsNonnegative (value_at turned) → IsNonnegative (value_at turned_star)
    star_low low t from = elim (le_or_lt t zero_q) [
      | inl early ↦
          let at : t ≡ zero_q = antisym (early, from) in
          subst (λ v. Fin zero_q ≤ₑ v) (sym (ap (value_at turned_star) at ∙ star_zero)) (le_ext_refl (Fin zero_q))
      | inr past ↦ subst (λ v. Fin zero_q ≤ₑ v) (sym (star_past t past)) (low t from)
    ]

    star_rises : ¬ (rate turned_star <ₑ Fin zero_q)
    unfolding rate
    star_rises less = lt_irrefl zero_q (le_lt_trans (div_nonneg (line_at l d) d C.some rises) less)

    star_steady : steady turned_star ≡ R
    unfolding steady
    star_steady = refl

    star_period : common_period zero_curve turned_star ≡ d
    unfolding common_period
    star_period = refl

    min_end : window_at Min turned origin_curve 0 0 ≡ cycle_end R d 1
    unfolding window_at steady common_period
    min_end = ap (λ x. x +ℚ int (pos 1) *ℚ d) (max_q_is_left R (steady origin_curve) (subst (λ y. y ≤ℚ R) (sym origin_steady) late))

    time : (k : ℕ) → k ≤ 2 → IsTimeBy z far (cycle_end R d k)
    time k by = end_time z end l h n some ps R d (m + 2) C room reach k by

    earlier : cycle_end R d 1 ≤ℚ cycle_end R d 2
    earlier =
        let E = int (pos 1) *ℚ d in
        let T = int (pos 2) *ℚ d in
        let less : E ≤ℚ T = mul_le_mul_right d (le_of_lt C.some) (nat_le 1 2 (omega arith)) in
        with3 R E T (λ c. omega (arith, c.le, c.lt, c.same))

    late_end : zero_q <ℚ cycle_end R d 2
    late_end =
        let above = past_zero in
        let T = int (pos 2) *ℚ d in
        let up : zero_q ≤ℚ T = mul_nonneg (nat_nonneg 2) (le_of_lt C.some) in
        with2 R T (λ c. omega (arith, c.le, c.lt, c.same))

    few_sums : IsCurve turned → count turned (cycle_end R d 1) + count origin_curve (cycle_end R d 1) ≤ 2 ^ 20
    few_sums curve =
        let x = count_few turned (cycle_end R d 1) 1 (length ps * 1) curve
        (cycle_copies z end l h n some ps R d (m + 2) C room reach 1 (omega arith)) refl in
        let y = one_origin (cycle_end R d 1) in
        let count_all = count_by in
        omega (arith, x, y, count_all, few)

    few_all : IsCurve turned_star → IsCurve zero_curve → count zero_curve (cycle_end R d 2) * count turned_star (cycle_end R d 2) ≤ 2 ^ 20
    few_all curve first =
        let e = cycle_end R d 2 in
        let same = length_kept (Fin zero_q) ps in
        let x = count_few turned_star e 2 (length (first_at (Fin zero_q) ps) * 2) curve
        (cycle_copies z end l h n some (first_at (Fin zero_q) ps) R d (m + 2) C_star room reach 2 (omega arith)) refl in
        let count_all = count_by in
        let most : count turned_star e ≤ 2 ^ 20 = omega (arith, x, same, count_all, few) in
        few_pairs (count zero_curve e) (count turned_star e) (2 ^ 20) (one_zero e first) most (omega arith)

    pub turned_leaves : IsNormal turned → IsNonnegative (value_at turned) → value_at turned d ≢ Fin (line_at l d) → LeavesZero turned
    turned_leaves normal low bent =
        let e = cycle_end R d 2 in
        let keeps : KeepsTail (value_at turned_star) turned.tail = (past_zero, no_rule bent) in
        let curve = cycle_curve z end l h n some ps R d (m + 2) C room reach normal small in
        let star = started_curve (Fin zero_q) turned curve keeps in
        let (zero_stands, zero_kept) = zero_curves e (time 2 (omega arith)) late_end in
        let sizes = sums_are z end h.sizes n some in
        let stands = cycle_stands z end l h n some ps R d (m + 2) C room reach in
        record {
          star = turned_star;
          lowered = min_made turned turned_star low star (started_values (Fin zero_q) turned normal keeps)
              (min_within Z far sizes small turned (cycle_end R d 1) min_end (time 1 (omega arith)).whole (time 1 (omega arith)).high
              (curve_earlier Z (cycle_end R d 1) e turned C.some earlier stands) (few_sums curve));
          convolved = zero_made turned_star (star_low low) star_zero zero_kept
              (convolve_within Z far sizes small turned_star zero_curve e (zero_meets turned_star star_rises)
              (zero_window_is turned_star R d star_steady star_period) (time 2 (omega arith)).whole reach zero_stands
              (cycle_stands z end l h n some (first_at (Fin zero_q) ps) R d (m + 2) C_star room reach) (few_all star zero_kept));
        }

  -- ---- that goes on with a line
  module _ (ps : List Piece) (R w : ℚ) (pieces : Each (IsSumPiece z w (m + 2) l) ps) (by : w ≤ℚ far) (rank : Whole z.dt R)
      (reach : R +ℚ int (pos 3) ≤ℚ far) (count_by : length ps ≤ 2 * m + 3) (late : zero_q +ℚ int (pos 1) ≤ℚ R)
      (slope : Line) (last : last_line ps ≡ Some slope) (rises : zero_q ≤ℚ slope.slope) (starts : StartsAtZero ps) where
    abbrev level : SpecCurve
    level = record { pieces = ps; tail = Affine R }

    abbrev level_star : SpecCurve
    level_star = started_at (Fin zero_q) level

    level_few : (m + 2) ≤ n
    level_few = omega arith

    later_by : (b : Bool) → IsSteadyBy z R (later_unless b R)
    later_by true = record { whole = rank; from = le_refl R; to = with1 R (λ c. omega (arith, c.le, c.lt, c.same)) }
    later_by false = record {
      whole = whole_add z.dt R (int (pos 1)) rank (whole_int z.dt (pos 1));
      from = with1 R (λ c. omega (arith, c.le, c.lt, c.same));
      to = le_refl (R +ℚ int (pos 1));
    }

    own_steady : IsSteadyBy z R (steady level)
    unfolding steady
    own_steady = later_by _

    star_own_steady : IsSteadyBy z R (steady level_star)
    unfolding steady
    star_own_steady = later_by _

    ends_by : (s : ℚ) (k : ℕ) → IsSteadyBy z R s → k ≤ 2 → IsTimeBy z far (s +ℚ int (pos k) *ℚ int (pos 1))
    ends_by s k S few_periods =
        let from = S.from in
        let to = S.to in
        let K = int (pos k) *ℚ int (pos 1) in
        let is : K ≡ int (pos k) = mul_one (int (pos k)) in
        let low : zero_q ≤ℚ int (pos k) = nat_nonneg k in
        let most : int (pos k) ≤ℚ int (pos 2) = nat_le k 2 few_periods in
        let N = int (pos k) in
        let e = far in
        record {
          whole = whole_add z.dt s K S.whole (whole_times z.dt (pos k) (int (pos 1)) (whole_int z.dt (pos 1)));
          low = with4 R s K N (λ c. omega (arith, c.le, c.lt, c.same));
          high = with5 R s K N e (λ c. omega (arith, c.le, c.lt, c.same));
        }

    level_stands : (e : ℚ) → Stands Z (curve_numbers e level)
    level_stands e = affine_stands z end l h n some ps R w e (m + 2) pieces rank by level_few

    star_stands : (e : ℚ) → Stands Z (curve_numbers e level_star)
    star_stands e =
        affine_stands z end l h n some (first_at (Fin zero_q) ps) R w e (m + 2) (first_sums z w (m + 2) l ps starts pieces) rank by level_few

    level_curve_is : IsNormal level → IsCurve level
    level_curve_is normal =
        let e = steady level +ℚ int (pos 1) *ℚ int (pos 1) in
        let S = own_steady in
        let from = S.from in
        let s = steady level in
        let E = int (pos 1) *ℚ int (pos 1) in
        let is : E ≡ int (pos 1) = mul_one (int (pos 1)) in
        let over : R <ℚ e = with3 R s E (λ c. omega (arith, c.le, c.lt, c.same)) in
        let A = limited_to z end l h n some e small (ends_by s 1 S (omega arith)) in
        record { normal = normal; readable = lines_read level Z e R (call_sizes level Z e normal.raw tt A over (level_stands e)) refl }

    level_period : common_period zero_curve level_star ≡ int (pos 1)
    unfolding common_period
    level_period = refl

    level_min_end : window_at Min level origin_curve 0 0 ≡ steady level +ℚ int (pos 1) *ℚ int (pos 1)
    unfolding window_at common_period
    level_min_end =
        ap (λ x. x +ℚ int (pos 1) *ℚ int (pos 1))
        (max_q_is_left (steady level) (steady origin_curve) (subst (λ y. y ≤ℚ steady level) (sym origin_steady) (le_trans late own_steady.from)))

    level_rises : ¬ (rate level_star <ₑ Fin zero_q)
    unfolding rate
    level_rises less =
        let is : last_line (first_at (Fin zero_q) ps) ≡ Some slope = line_kept (Fin zero_q) ps ∙ last in
        lt_irrefl zero_q (le_lt_trans rises (subst (λ o. slope_of o <ₑ Fin zero_q) is less))

    level_sums : IsCurve level → (e : ℚ) → count level e + count origin_curve e ≤ 2 ^ 20
    level_sums curve e =
        let x = count_few level e 1 (length ps * 1) curve (λ p. once_few e p) refl in
        let y = one_origin e in
        let count_all = count_by in
        omega (arith, x, y, count_all, few)

    level_all : IsCurve level_star → IsCurve zero_curve → (e : ℚ) → count zero_curve e * count level_star e ≤ 2 ^ 20
    level_all curve first e =
        let same = length_kept (Fin zero_q) ps in
        let x = count_few level_star e 1 (length (first_at (Fin zero_q) ps) * 1) curve (λ p. once_few e p) refl in
        let count_all = count_by in
        let most : count level_star e ≤ 2 ^ 19 = omega (arith, x, same, count_all, few) in
        few_pairs (count zero_curve e) (count level_star e) (2 ^ 19) (one_zero e first) most (omega arith)

    level_star_low : IsNonnegative (value_at level) → IsStartedAt (Fin zero_q) level level_star → IsNonnegative (value_at level_star)
    level_star_low low started t from = elim (le_or_lt t zero_q) [
      | inl early ↦
          let at : t ≡ zero_q = antisym (early, from) in
          subst (λ v. Fin zero_q ≤ₑ v) (sym (ap (value_at level_star) at ∙ started.zero)) (le_ext_refl (Fin zero_q))
      | inr past ↦ subst (λ v. Fin zero_q ≤ₑ v) (sym (started.past t past)) (low t from)
    ]

    pub level_leaves : IsNormal level → IsNonnegative (value_at level) → LeavesZero level
    level_leaves normal low =
        let S = own_steady in
        let T = star_own_steady in
        let first = ends_by (steady level) 1 S (omega arith) in
        let second = ends_by (steady level_star) 2 T (omega arith) in
        let e = steady level_star +ℚ int (pos 2) *ℚ int (pos 1) in
        let curve = level_curve_is normal in
        let started = started_values (Fin zero_q) level normal tt in
        let star = started_curve (Fin zero_q) level curve tt in
        let from = T.from in
        let s = steady level_star in
        let E = int (pos 2) *ℚ int (pos 1) in
        let is : E ≡ int (pos 2) = mul_one (int (pos 2)) in
        let (zero_stands, zero_kept) = zero_curves e second (with3 R s E (λ c. omega (arith, c.le, c.lt, c.same))) in
        let sizes = sums_are z end h.sizes n some in
        record {
          star = level_star;
          lowered = min_made level level_star low star started
              (min_within Z far sizes small level (steady level +ℚ int (pos 1) *ℚ int (pos 1)) level_min_end first.whole first.high
              (level_stands (steady level +ℚ int (pos 1) *ℚ int (pos 1))) (level_sums curve (steady level +ℚ int (pos 1) *ℚ int (pos 1))));
          convolved = zero_made level_star (level_star_low low started) started.zero zero_kept
              (convolve_within Z far sizes small level_star zero_curve e (zero_meets level_star level_rises)
              (zero_window_is level_star (steady level_star) (int (pos 1)) refl level_period) second.whole second.high zero_stands
              (star_stands e) (level_all star zero_kept e));
        }

-- ---- the closure of a segment
goes_by : (ps : List Piece) (tail : Tail) → IsNormal record { pieces = ps; tail = tail } → IsFinite (value_at record { pieces = ps; tail = tail })
    → GoesOn tail
goes_by ps (Periodic R d c) normal finite = tt
goes_by ps (Affine R) normal finite = tt
goes_by ps (Infinite R) normal finite = absurd (infinite_is_not_finite ps R normal finite)

module _ (f : SpecCurve) (a b : ℚ) (l : Line) (m : ℕ) (normal : IsNormal f) (finite : IsFinite (value_at f))
    (nonneg : IsNonnegative (value_at f)) (k : IsElementOf f (Open a (Fin b) l)) (part : IsOpenPart a (Fin b) l m)
    (few : m ≤ 2 ^ 17) (small : 3 * (5 * suc m) * (own_gauge f * own_gauge f) < 2 ^ 120) (late : zero_q <ℚ a)
    (enough : int (pos 1) ≤ℚ nat_times (suc m) a) (low_a : zero_q ≤ℚ line_at l a) (low_b : zero_q ≤ℚ line_at l b) where
  abbrev own : Sizes
  own = own_sizes f

  abbrev until : ℚ
  until = own_end f

  in_f : LineStandsIn own until l
  in_f = segment_line f a b l normal (goes_by f.pieces f.tail normal finite) k

  times : IsTimeTo own until a × IsTimeTo own until b
  times = segment_times f a b l normal k

  low : zero_q ≤ℚ a
  low = part.stretch.nonneg

  late_b : zero_q <ℚ b
  late_b = lt_le_trans late (le_of_lt part.stretch.proper)

  apart : (i : ℕ) → 1 ≤ i → suc i ≤ suc m → nat_times i b ≤ℚ nat_times (suc i) a
  apart i x y = part.stretch.meet.apart i x y

  joined : (i : ℕ) → suc m ≤ i → nat_times (suc i) a <ℚ nat_times i b
  joined i x = part.stretch.meet.joined i x

  gauge : gauge_of (sum_sizes (5 * suc m) own) < 2 ^ 120
  gauge = let g = sums_gauge own until (5 * suc m) in_f.sizes in omega (arith, g, small)

  nonneg_by : (c : SpecCurve) → IsElementClosure (Open a (Fin b) l) c → IsNonnegative (value_at c)
  nonneg_by c h = closure_low a b l c (element_nonneg f (Open a (Fin b) l) normal finite nonneg k) h

  -- so many times a time of the curve is in the longer window
  times_to : (i : ℕ) (x : ℚ) → zero_q ≤ℚ x → IsTimeTo own until x → i ≤ 5 * suc m → nat_times i x ≤ℚ sums_end (5 * suc m) until
  times_to i x from t by =
      le_trans (mul_le_mul_right x from (nat_le i (5 * suc m) by)) (mul_le_mul (int (pos (5 * suc m))) (nat_nonneg (5 * suc m)) t.by)

  more_times : (i j : ℕ) (x : ℚ) → nat_times i x +ℚ int (pos j) *ℚ x ≡ nat_times (i + j) x
  more_times i j x = sym (add_mul (int (pos i)) (int (pos j)) x) ∙ ap (λ y. y *ℚ x) (int_add (pos i) (pos j))

  one_to : (i : ℕ) → suc m ≤ i → zero_q +ℚ int (pos 1) ≤ℚ nat_times i a
  one_to i by =
      let x = nat_times (suc m) a in
      let y = nat_times i a in
      let up : x ≤ℚ y = mul_le_mul_right a low (nat_le (suc m) i by) in
      let first = enough in
      with2 x y (λ c. omega (arith, c.le, c.lt, c.same))

  -- ---- that turns at R, with a period of one of the two times
  cycle : (R d : ℚ) (i j : ℕ) → i ≤ m + 2 → j ≤ m + 2 → zero_q <ℚ d → Whole own.dt d → Whole own.dt R → nat_times (suc m) a ≤ℚ R
      → IsSumCycle own (m + 2) l (all_stretches a b l m (turn R l i j ∷ [])) R d
  cycle R d i j hi hj some on_d on_R past =
      let top = nat_times (suc m) a in
      let base : zero_q ≤ℚ top = mul_nonneg (nat_nonneg (suc m)) low in
      let above : R ≤ℚ R +ℚ d = with2 R d (λ c. omega (arith, c.le, c.lt, c.same)) in
      record {
        pieces = sum_pieces own (R +ℚ d) (m + 2) l a b m low part.stretch.proper apart times.0.whole times.1.whole (omega arith)
            (le_trans past above) (turn R l i j ∷ [])
            (turn_is_sum own (R +ℚ d) (m + 2) l R i j record { whole = on_R; low = le_trans base past; high = above } hi hj, tt);
        some = some;
        low = le_trans base past;
        rank = on_R;
        period = on_d;
      }

  count_turn : (q : Piece) → length (all_stretches a b l m (q ∷ [])) ≤ 2 * m + 3
  count_turn q = let x = few_pieces a b l m (q ∷ []) in omega (arith, x)

  falling : l.icept <ℚ zero_q → ClosureLeaves (Open a (Fin b) l)
  falling down =
      let R = nat_times (suc (suc m)) a in
      let q = turn R l (suc m) (suc (suc m)) in
      let c = falling_closure a b l m in
      let h = ready_falling a b l m part down in
      let past : nat_times (suc m) a ≤ℚ R = mul_le_mul_right a low (nat_le (suc m) (suc (suc m)) (omega arith)) in
      let C = cycle R a (suc m) (suc (suc m)) (omega arith) (omega arith) late times.0.whole (whole_times own.dt (pos (suc (suc m))) a times.0.whole) past in
      let reach : cycle_end R a 2 ≤ℚ sums_end (5 * suc m) until =
      subst (λ x. x ≤ℚ sums_end (5 * suc m) until) (sym (more_times (suc (suc m)) 2 a)) (times_to (suc (suc m) + 2) a low times.0 (omega arith)) in
      record {
        closure = c;
        closes = h;
        leaves = turned_leaves own until l in_f m gauge few (all_stretches a b l m (q ∷ [])) R a C reach (count_turn q) (one_to (suc (suc m)) (omega arith)) low_a
            h.normal.raw.starts h.normal (nonneg_by c h)
            (falls_past a b l (value_at c a) (line_at l a) late (falling_values a b l m low part.stretch.proper apart joined late (le_of_lt down) a low));
      }

  rising : zero_q <ℚ l.icept → ClosureLeaves (Open a (Fin b) l)
  rising up =
      let R = nat_times (suc m) b in
      let q = turn R l (suc (suc m)) (suc (suc m)) in
      let c = rising_closure a b l m in
      let h = ready_rising a b l m part up in
      let past : nat_times (suc m) a ≤ℚ R = mul_le_mul (int (pos (suc m))) (nat_nonneg (suc m)) (le_of_lt part.stretch.proper) in
      let C = cycle R b (suc (suc m)) (suc (suc m)) (omega arith) (omega arith) late_b times.1.whole (whole_times own.dt (pos (suc m)) b times.1.whole) past in
      let reach : cycle_end R b 2 ≤ℚ sums_end (5 * suc m) until =
      subst (λ x. x ≤ℚ sums_end (5 * suc m) until) (sym (more_times (suc m) 2 b)) (times_to (suc m + 2) b (le_of_lt late_b) times.1 (omega arith)) in
      record {
        closure = c;
        closes = h;
        leaves = turned_leaves own until l in_f m gauge few (all_stretches a b l m (q ∷ [])) R b C reach (count_turn q) (le_trans (one_to (suc m) (omega arith)) past) low_b
            h.normal.raw.starts h.normal (nonneg_by c h)
            (rises_past a b l (value_at c b) up (rising_values a b l m low part.stretch.proper apart joined (le_of_lt up) b (le_of_lt late_b)));
      }

  slope_up : l.icept ≡ zero_q → zero_q ≤ℚ l.slope
  slope_up flat =
      let x = l.icept in
      let y = l.slope *ℚ b in
      let k0 = low_b in
      let up : zero_q ≤ℚ y = with2 x y (λ c. omega (arith, c.le, c.lt, c.same)) in
      le_of_mul b zero_q l.slope late_b (subst (λ v. v ≤ℚ y) (sym (zero_mul b)) up)

  level_reach : nat_times (suc m) a +ℚ int (pos 3) ≤ℚ sums_end (5 * suc m) until
  level_reach =
      let E = int (pos (suc m)) *ℚ until in
      let R = nat_times (suc m) a in
      let by : R ≤ℚ E = mul_le_mul (int (pos (suc m))) (nat_nonneg (suc m)) times.0.by in
      let first = enough in
      let five : int (pos 5) *ℚ E ≡ sums_end (5 * suc m) until =
      sym (mul_assoc (int (pos 5)) (int (pos (suc m))) until) ∙ ap (λ x. x *ℚ until) (mul_whole (pos 5) (pos (suc m)) 0) in
      subst (λ x. R +ℚ int (pos 3) ≤ℚ x) five (with2 R E (λ c. omega (arith, c.le, c.lt, c.same)))

  flat : l.icept ≡ zero_q → ClosureLeaves (Open a (Fin b) l)
  flat is =
      let R = nat_times (suc m) a in
      let c = level_closure a b l m in
      let h = ready_level a b l m part is in
      record {
        closure = c;
        closes = h;
        leaves = level_leaves own until l in_f m gauge few (all_stretches a b l m []) R R
            (sum_pieces own R (m + 2) l a b m low part.stretch.proper apart times.0.whole times.1.whole (omega arith) (le_refl R) [] tt)
            (times_to (suc m) a low times.0 (omega arith)) (whole_times own.dt (pos (suc m)) a times.0.whole) level_reach
            (let x = few_pieces a b l m [] in omega (arith, x)) (one_to (suc m) (omega arith)) (line_times (suc m) l)
            (all_last a b l low part.stretch.proper m) (slope_up is) h.normal.raw.starts h.normal (nonneg_by c h);
      }

  pub closure_leaves : ClosureLeaves (Open a (Fin b) l)
  closure_leaves = elim (le_or_lt zero_q l.icept) [
    | inr down ↦ falling down
    | inl up ↦ elim (le_or_lt l.icept zero_q) [ inl by ↦ flat (antisym (by, up)) | inr more ↦ rising more ]
  ]

-- ---- the part
star_of : (f : SpecCurve) (e : Element) (o : Option Copies) → turn_of o ≡ None → SegmentWithin f (segment_number e) → (c star : SpecCurve)
    → IsElementClosure e c → Applies Min c origin_curve (Ok star)
    → Then (ElementAnswer f e) (λ d. Then (CopiedAnswer o d) LoweredAnswer) (Ok star)
star_of f e None is within c star closes lowered = goes_on c (within, closes) (goes_on c refl lowered)
star_of f e (Some k) is within c star closes lowered = absurd cc

pub part_leaves : (f sofar : SpecCurve) (e : Element) → turn_of (part_of f.tail e).copies ≡ None → SegmentWithin f (segment_number e)
    → sofar ≡ zero_curve → ClosureLeaves e → LeavesAsIs f sofar (part_of f.tail e)
part_leaves f sofar e alone within is h =
    subst (λ s. LeavesAsIs f s (part_of f.tail e)) (sym is) (
      h.leaves.star,
      star_of f e (copies_of f.tail e) alone within h.closure h.leaves.star h.closes h.leaves.lowered,
      h.leaves.convolved,
    )

work_alone : (o : Option Copies) → turn_of o ≡ None → copies_work o ≡ 1
work_alone None is = refl
work_alone (Some k) is = absurd cc

pub part_alone : (f : SpecCurve) (e : Element) → turn_of (part_of f.tail e).copies ≡ None → part_work (part_of f.tail e) ≡ 1
part_alone f e is = work_alone (copies_of f.tail e) is
