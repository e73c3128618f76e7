-- The gauge of a call never falls as its window grows; where it is small, times of the window's grid are small, and the operands stand.
use Rattle.std.specs.Prelude.{◌≡◌, ℕ, ◌*◌, ◌<◌, ◌≤◌, ◌^◌, pos, Bool, cond, [], ◌∷◌, map}
use Rattle.std.proofs.Common.{arith, sym, subst, inl, inr}
use Rattle.std.specs.List.{AllByRecursion, flat_map}
use Rattle.std.proofs.Math.Nat.{max-le}
use native.Mathlib.Nat.{le_of_dvd, mul-le-mul}
use Rattle.rational.specs.Rational.{ℚ, ◌*ℚ◌, ◌≤ℚ◌, ◌<ℚ◌, int}
use Rattle.rational.specs.Ratio.{IsSmall}
use Rattle.rational.specs.Grid.{Whole, Within}
use Rattle.rational.specs.Gauge.{bound_of, common_den}
use Rattle.rational.proofs.Integers.{nat_le, nat_nonneg}
use Rattle.rational.proofs.Laws.{le_or_lt, le_of_lt, le_trans, lt_le_trans, mul_le_mul, mul_le_mul_right, mul_zero}
use Rattle.rational.proofs.MinMax.{lt_q_not}
use Rattle.rational.proofs.Over.{lt_q_out}
use Rattle.upp_curve.specs.declared.curve.Tail.{Tail}
use Rattle.upp_curve.specs.declared.curve.Tail.TheVariants.{Periodic, Affine, Infinite}
use Rattle.upp_limits.specs.declared.op_kind.OpKind.{OpKind}
use Rattle.upp_limits.specs.declared.op_kind.Operands.{Operands}
use Rattle.upp_limits.specs.declared.op_kind.Operands.TheVariants.{First, Both, FirstScaled}
use Rattle.upp_curve.specs.Curve.{SpecCurve}
use Rattle.upp_limits.specs.Gauges.{gauge_over, kind_numbers, numbers_over, operand_numbers, operands_of, scaled_curve}
use Rattle.upp_limits.specs.Limits.{Numbers, Sizes, curve_numbers, gauge_of, joined, sizes_of, span_slopes, span_values, stored_period, stored_rise, twice}
use Rattle.upp_normal.specs.Operand.{AreLimited}
use Rattle.upp_limits.specs.Periods.{HasPeriod}
use Rattle.upp_limits.specs.Sized.{AreSizes, IsSlope, IsValue, Stands}
use Rattle.upp_limits.specs.Spans.{Span, copies_of, once_below, span_below, spans, spans_below}
use Rattle.upp_curve.specs.Unrolled.{copies_below}
use Rattle.upp_normal.specs.Unrolling.{IsOperandTo}
use Rattle.upp_limits.proofs.CommonDen.{bound_least, common_den_least}
use Rattle.upp_limits.proofs.Copies.{copies_in, copies_out, copy_among, every_copy}
use Rattle.upp_limits.proofs.CurveStands.{are_sizes, once_out}
use Rattle.upp_limits.proofs.Every.{every_append, every_flat, every_flat_out, every_left, every_map, every_map_out, every_right, every_weaken}
use Rattle.upp_limits.proofs.NarrowSizes.{narrow_gauge}
use Rattle.upp_limits.proofs.Rounding.{whole_up_most}
use Rattle.upp_limits.proofs.ScaledCurves.{period_scaled}
use Rattle.upp_limits.proofs.Stands.{sizes_stand, stands_left, stands_right}
use Rattle.upp_normal.proofs.UnrollSteps.{time_small}

-- ---- what starts below an end starts below a later one
once_earlier : (P : Span → Type 0) (end far : ℚ) (s : Span) → end ≤ℚ far → AllByRecursion P (once_below far s) → AllByRecursion P (once_below end s)
once_earlier P end far s l h = elim (le_or_lt end s.piece.x) [
  | inl k ↦ subst (λ b. AllByRecursion P (cond b (s ∷ []) [])) (sym (lt_q_not s.piece.x end k)) tt
  | inr k ↦ subst (λ b. AllByRecursion P (cond b (s ∷ []) [])) (sym (lt_q_out s.piece.x end k)) (once_out P far s (lt_le_trans k l) h, tt)
]

copies_earlier : (P : Span → Type 0) (end far d c : ℚ) (s : Span) → int (pos 0) <ℚ d → end ≤ℚ far → AllByRecursion P (copies_of d c s (copies_below d far s.piece))
    → AllByRecursion P (copies_of d c s (copies_below d end s.piece))
copies_earlier P end far d c s some l h =
    every_copy P d c s (copies_below d end s.piece)
    (λ n k. copy_among P d c s (copies_below d far s.piece) n (copies_out d far s.piece n some (lt_le_trans (copies_in d end s.piece n some k) l)) h)

span_earlier : (P : Span → Type 0) (end far : ℚ) (tail : Tail) (s : Span) → HasPeriod tail → end ≤ℚ far → AllByRecursion P (span_below tail far s) → AllByRecursion P (span_below tail end s)
span_earlier P end far (Affine rank) s some l h = once_earlier P end far s l h
span_earlier P end far (Infinite rank) s some l h = once_earlier P end far s l h
span_earlier P end far (Periodic rank d c) s some l h =
    let choice = λ (e : ℚ) (b : Bool). AllByRecursion P (cond b (once_below e s) (copies_of d c s (copies_below d e s.piece))) in
    elim (le_or_lt rank s.piece.x) [
      | inl k ↦ let e = lt_q_not s.piece.x rank k in subst (choice end) (sym e) (copies_earlier P end far d c s some l (subst (choice far) e h))
      | inr k ↦ let e = lt_q_out s.piece.x rank k in subst (choice end) (sym e) (once_earlier P end far s l (subst (choice far) e h))
    ]

pub spans_earlier : (P : Span → Type 0) (end far : ℚ) (c : SpecCurve) → HasPeriod c.tail → end ≤ℚ far → AllByRecursion P (spans_below c far) → AllByRecursion P (spans_below c end)
unfolding spans_below
spans_earlier P end far c some l h =
    let all = spans c.tail c.pieces in
    every_flat P (span_below c.tail end) all
    (every_weaken {P = λ s. AllByRecursion P (span_below c.tail far s)} {Q = λ s. AllByRecursion P (span_below c.tail end s)}
    (λ s k. span_earlier P end far c.tail s some l k) all (every_flat_out P (span_below c.tail far) all h))

-- ---- numbers that hold a longer window's numbers hold a shorter one's
pub curve_earlier : (z : Sizes) (end far : ℚ) (c : SpecCurve) → HasPeriod c.tail → end ≤ℚ far → Stands z (curve_numbers far c) → Stands z (curve_numbers end c)
curve_earlier z end far c some l h =
    let W = Whole z.dt in
    let rest = stored_period c.tail in
    let rise = stored_rise c.tail in
    let near = spans_below c end in
    let wide = spans_below c far in
    record {
      times = (
        h.times.0,
        every_append W rest (map (λ s. s.piece.x) near) (every_left W rest (map (λ s. s.piece.x) wide) h.times.1)
            (every_map W (λ s. s.piece.x) near (spans_earlier (λ s. W s.piece.x) end far c some l
            (every_map_out W (λ s. s.piece.x) wide (every_right W rest (map (λ s. s.piece.x) wide) h.times.1)))),
      );
      values = every_append (IsValue z) rise (flat_map span_values near) (every_left (IsValue z) rise (flat_map span_values wide) h.values)
          (every_flat (IsValue z) span_values near (spans_earlier (λ s. AllByRecursion (IsValue z) (span_values s)) end far c some l
          (every_flat_out (IsValue z) span_values wide (every_right (IsValue z) rise (flat_map span_values wide) h.values))));
      slopes = every_flat (IsSlope z) span_slopes near (spans_earlier (λ s. AllByRecursion (IsSlope z) (span_slopes s)) end far c some l
          (every_flat_out (IsSlope z) span_slopes wide h.slopes));
    }

stands_both : (z : Sizes) (a b : Numbers) → Stands z a → Stands z b → Stands z (joined a b)
stands_both z a b h k = record {
  times = every_append (Whole z.dt) a.times b.times h.times k.times;
  values = every_append (IsValue z) a.values b.values h.values k.values;
  slopes = every_append (IsSlope z) a.slopes b.slopes h.slopes k.slopes;
}

two_earlier : (z : Sizes) (end far : ℚ) (f g : SpecCurve) → HasPeriod f.tail → HasPeriod g.tail → end ≤ℚ far
    → Stands z (joined (curve_numbers far f) (curve_numbers far g)) → Stands z (joined (curve_numbers end f) (curve_numbers end g))
two_earlier z end far f g some_f some_g l h =
    stands_both z (curve_numbers end f) (curve_numbers end g) (curve_earlier z end far f some_f l (stands_left z (curve_numbers far f) (curve_numbers far g) h))
    (curve_earlier z end far g some_g l (stands_right z (curve_numbers far f) (curve_numbers far g) h))

operands_earlier : (z : Sizes) (end far : ℚ) (which : Operands) (f g : SpecCurve) → HasPeriod f.tail → HasPeriod g.tail → end ≤ℚ far → Stands z (operand_numbers which far f g)
    → Stands z (operand_numbers which end f g)
operands_earlier z end far First f g some_f some_g l h = curve_earlier z end far f some_f l h
operands_earlier z end far Both f g some_f some_g l h = two_earlier z end far f g some_f some_g l h
operands_earlier z end far (FirstScaled q) f g some_f some_g l h = two_earlier z end far f (scaled_curve q f) some_f (period_scaled q f.tail some_f) l h

numbers_earlier : (z : Sizes) (end far : ℚ) (op : OpKind) (f g : SpecCurve) → HasPeriod f.tail → HasPeriod g.tail → end ≤ℚ far → Stands z (numbers_over op f g far) → Stands z (numbers_over op f g end)
numbers_earlier z end far op f g some_f some_g l h =
    let own = kind_numbers op in
    stands_both z own (operand_numbers (operands_of op) end f g) (stands_left z own (operand_numbers (operands_of op) far f g) h)
    (operands_earlier z end far (operands_of op) f g some_f some_g l (stands_right z own (operand_numbers (operands_of op) far f g) h))

-- ---- the sizes of numbers are the least that hold them
pub product_grows : (a b c d e v w x y z : ℕ) → a ≤ v → b ≤ w → c ≤ x → d ≤ y → e ≤ z → 64 * (a * b * c * d * e * e) ≤ 64 * (v * w * x * y * z * z)
product_grows a b c d e v w x y z ha hb hc hd he =
    let all = mul-le-mul (mul-le-mul (mul-le-mul (mul-le-mul (mul-le-mul ha hb) hc) hd) he) he in
    omega (arith, all)

pub reach_within : (s t v : ℕ) (end far : ℚ) → s ≤ t → end ≤ℚ far → int (pos t) *ℚ far ≤ℚ int (pos v) → int (pos s) *ℚ end ≤ℚ int (pos v)
reach_within s t v end far steeper l reach = elim (le_or_lt (int (pos 0)) end) [
  | inl low ↦ le_trans (mul_le_mul_right end low (nat_le s t steeper)) (le_trans (mul_le_mul (int (pos t)) (nat_nonneg t) l) reach)
  | inr high ↦
      let S = int (pos s) in
      let some = nat_nonneg s in
      let nonneg = nat_nonneg v in
      let down : S *ℚ end ≤ℚ S *ℚ int (pos 0) = mul_le_mul S some (le_of_lt high) in
      le_trans (subst (λ x. S *ℚ end ≤ℚ x) (mul_zero S) down) nonneg
]

pub least_sizes : (z : Sizes) (end far : ℚ) (n : Numbers) → AreSizes z far → Stands z n → end ≤ℚ far → Whole z.dt end → gauge_of (sizes_of end n) ≤ gauge_of z
unfolding gauge_of
least_sizes z end far n a h l on =
    let dv = le_of_dvd a.dv (common_den_least z.dv n.values (every_weaken (λ v k. k.whole) n.values h.values)) in
    let dt = le_of_dvd a.dt (common_den_least z.dt (end ∷ n.times) (on, h.times)) in
    let ds = le_of_dvd a.ds (common_den_least z.ds n.slopes (every_weaken (λ s k. k.whole) n.slopes h.slopes)) in
    let steep : bound_of (twice n.slopes) ≤ z.steepness =
    bound_least z.steepness (twice n.slopes) a.steepness
    (every_map (Within (int (pos z.steepness))) (λ s. int (pos 2) *ℚ s) n.slopes (every_weaken (λ s k. k.within) n.slopes h.slopes)) in
    let values : bound_of n.values ≤ z.largest = bound_least z.largest n.values a.largest (every_weaken (λ v k. k.within) n.values h.values) in
    let far_reach = whole_up_most (int (pos (bound_of (twice n.slopes))) *ℚ end) z.largest (reach_within (bound_of (twice n.slopes)) z.steepness z.largest end far steep l a.reach) in
    product_grows (sizes_of end n).largest (bound_of (twice n.slopes)) (common_den n.values) (common_den (end ∷ n.times)) (common_den n.slopes)
    z.largest z.steepness z.dv z.dt z.ds (max-le values far_reach) steep dv dt ds

-- the gauge of a call never falls: for a window that ends at a time of the longer window's grid
pub gauge_rises : (op : OpKind) (f g : SpecCurve) (end far : ℚ) → HasPeriod f.tail → HasPeriod g.tail → end ≤ℚ far → Whole (sizes_of far (numbers_over op f g far)).dt end
    → gauge_over op f g end ≤ gauge_over op f g far
unfolding gauge_over
gauge_rises op f g end far some_f some_g l on =
    let n = numbers_over op f g far in
    let z = sizes_of far n in
    least_sizes z end far (numbers_over op f g end) (are_sizes far n) (numbers_earlier z end far op f g some_f some_g l (sizes_stand far n)) l on

-- ---- where the gauge is small
-- a time of the window's grid inside the window is small
pub small_time : (op : OpKind) (f g : SpecCurve) (end q : ℚ) → gauge_over op f g end < 2 ^ 120 → Whole (sizes_of end (numbers_over op f g end)).dt q → int (pos 0) ≤ℚ q → q ≤ℚ end → IsSmall q
unfolding gauge_over
small_time op f g end q h on low high =
    let n = numbers_over op f g end in
    let z = sizes_of end n in
    let a = are_sizes end n in
    let small : gauge_of z < 2 ^ 128 = omega (arith, h) in
    time_small z end q a (narrow_gauge z end a small) on low high

pub limited_over : (op : OpKind) (f g : SpecCurve) (end : ℚ) → int (pos 0) ≤ℚ end → gauge_over op f g end < 2 ^ 120 → AreLimited (sizes_of end (numbers_over op f g end)) end
unfolding gauge_over
limited_over op f g end some h = record { sizes = are_sizes end (numbers_over op f g end); gauge = h; some = some }

first_stands : (z : Sizes) (end : ℚ) (which : Operands) (f g : SpecCurve) → Stands z (operand_numbers which end f g) → Stands z (curve_numbers end f)
first_stands z end First f g h = h
first_stands z end Both f g h = stands_left z (curve_numbers end f) (curve_numbers end g) h
first_stands z end (FirstScaled q) f g h = stands_left z (curve_numbers end f) (curve_numbers end (scaled_curve q f)) h

second_stands : (z : Sizes) (end : ℚ) (which : Operands) (f g : SpecCurve) → which ≡ Both → Stands z (operand_numbers which end f g) → Stands z (curve_numbers end g)
second_stands z end which f g e h =
    stands_right z (curve_numbers end f) (curve_numbers end g) (subst (λ w. Stands z (operand_numbers w end f g)) e h)

-- the first curve of a call is an operand to the end of its window
pub first_operand : (op : OpKind) (f g : SpecCurve) (end : ℚ) → int (pos 0) ≤ℚ end → gauge_over op f g end < 2 ^ 120 → IsOperandTo end f
first_operand op f g end some h =
    let n = numbers_over op f g end in
    let z = sizes_of end n in
    record {
      sizes = z;
      limited = limited_over op f g end some h;
      stands = first_stands z end (operands_of op) f g (stands_right z (kind_numbers op) (operand_numbers (operands_of op) end f g) (sizes_stand end n));
    }

-- and so is the second, of a kind that takes two
pub second_operand : (op : OpKind) (f g : SpecCurve) (end : ℚ) → operands_of op ≡ Both → int (pos 0) ≤ℚ end → gauge_over op f g end < 2 ^ 120 → IsOperandTo end g
second_operand op f g end both some h =
    let n = numbers_over op f g end in
    let z = sizes_of end n in
    record {
      sizes = z;
      limited = limited_over op f g end some h;
      stands = second_stands z end (operands_of op) f g both (stands_right z (kind_numbers op) (operand_numbers (operands_of op) end f g) (sizes_stand end n));
    }
