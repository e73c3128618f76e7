-- Two calls on a curve whose numbers stand within sizes of a small gauge: its minimum with the point 0 at 0, and the
-- convolution of the zero curve with what that makes.
use Rattle.std.specs.Prelude.{◌≡◌, ℕ, ◌+◌, ◌*◌, ◌<◌, ◌≤◌, ◌^◌, pos, Bool, true, false, cond, [], ◌∷◌, Option, None, Ok}
use Rattle.std.specs.List.{AllByRecursion}
use Rattle.std.proofs.Common.{arith, refl, ap, ◌∙◌, sym, subst, inl, inr}
use Rattle.rational.specs.Rational.{ℚ, ◌+ℚ◌, ◌*ℚ◌, ◌≤ℚ◌, ◌<ℚ◌, int}
use Rattle.rational.specs.Extended.{Ext, ◌≤ₑ◌, ◌<ₑ◌, ◌+ₑ◌, min_ext}
use Rattle.rational.specs.declared.Extended.TheVariants.{Fin, Inf}
use Rattle.rational.specs.Grid.{Whole}
use Rattle.rational.proofs.Grid.{whole_int, within_nonneg}
use Rattle.rational.proofs.Integers.{nat_nonneg}
use Rattle.rational.proofs.Laws.{add_zero, antisym, le_lt_trans, le_of_lt, le_or_lt, le_refl, lt_irrefl, zero_mul}
use Rattle.rational.proofs.Linear.{with1, with3}
use Rattle.rational.proofs.MinMax.{lt_q_not, max_q_ge_right}
use Rattle.rational.proofs.ExtendedOrder.{le_inf, min_ext_comm, min_ext_of_le, zero_add_ext}
use Rattle.min_plus.specs.Functions.{zero_q, IsNonnegative}
use Rattle.min_plus.proofs.closure_laws.StarSums.{origin_past, origin_zero}
use Rattle.upp_curve.specs.declared.affine_segment.line.Line.{Line}
use Rattle.upp_curve.specs.affine_segment.Reading.{read}
use Rattle.upp_curve.specs.declared.curve.Tail.TheVariants.{Infinite}
use Rattle.upp_curve.specs.Curve.{SpecCurve, value_at}
use Rattle.upp_curve.specs.Curves.{IsCurve}
use Rattle.upp_curve.specs.Steady.{later_unless, rate, same_ext, steady}
use Rattle.upp_curve.specs.Unrolled.{count}
use Rattle.upp_curve.proofs.affine_segment.PieceIn.{read_one, value_by}
use Rattle.upp_limits.specs.declared.op_kind.OpKind.TheVariants.{Convolve, Min}
use Rattle.upp_limits.specs.Gauges.{gauge_over, tally_over, numbers_over}
use Rattle.upp_limits.specs.Limits.{Numbers, Sizes, curve_numbers, gauge_of, joined, no_numbers}
use Rattle.upp_limits.specs.Outcome.{IsWithin}
use Rattle.upp_limits.specs.Periods.{both_steady, common_period}
use Rattle.upp_limits.specs.Sized.{AreSizes, IsSlope, IsValue, SpanStands, Stands}
use Rattle.upp_limits.specs.Spans.{span_below, spans, spans_below}
use Rattle.upp_limits.specs.Windows.{IsLeast, Meets, window_at}
use Rattle.upp_limits.proofs.AtRank.{same_by}
use Rattle.upp_limits.proofs.Copies.{plus_zero}
use Rattle.upp_limits.proofs.Every.{every_append, every_flat, every_weaken}
use Rattle.upp_normal.proofs.GaugeRises.{least_sizes}
use Rattle.curve_call.specs.Calls.{Applies}
use Rattle.curve_call.specs.Levels.{level_curve}
use Rattle.curve_call.proofs.Levels.{level_value}
use Rattle.curve_call.proofs.Limited.{convolve_least, min_least, within_at_least}
use Rattle.subadd_closure.specs.Lattices.{origin_curve}
use Rattle.subadd_closure.specs.Starting.{IsStartedAt}
use Rattle.subadd_closure.proofs.LatticeCurves.{lattice_values}
use Rattle.subadd_closure.proofs.PointAnswers.{point_piece}
use Rattle.subadd_closure.proofs.SumCurves.{numbers_stand}
use Rattle.subadd_closure.proofs.SumPieces.{once_in}

-- ---- the numbers of a call
stands_both : (z : Sizes) (a b : Numbers) → Stands z a → Stands z b → Stands z (joined a b)
stands_both z a b h k = record {
  times = every_append (Whole z.dt) a.times b.times h.times k.times;
  values = every_append (IsValue z) a.values b.values h.values k.values;
  slopes = every_append (IsSlope z) a.slopes b.slopes h.slopes k.slopes;
}

call_numbers : (z : Sizes) (e : ℚ) (f g : SpecCurve) → Stands z (curve_numbers e f) → Stands z (curve_numbers e g)
    → Stands z (joined no_numbers (joined (curve_numbers e f) (curve_numbers e g)))
call_numbers z e f g h k =
    stands_both z no_numbers (joined (curve_numbers e f) (curve_numbers e g)) record { times = tt; values = tt; slopes = tt }
    (stands_both z (curve_numbers e f) (curve_numbers e g) h k)

-- ---- the point 0 at 0
zero_value : (z : Sizes) → IsValue z zero_q
zero_value z = record {
  whole = whole_int z.dv (pos 0);
  within = within_nonneg (int (pos z.largest)) zero_q (nat_nonneg 0) (nat_nonneg z.largest);
}

no_line : (b : Bool) → (let o : Option Line = None in cond b o o ≡ o)
no_line true = refl
no_line false = refl

origin_span : (z : Sizes) → AllByRecursion (SpanStands z) (spans (Infinite zero_q) (point_piece zero_q zero_q ∷ []))
unfolding spans
origin_span z = (
  rw (lt_q_not zero_q zero_q (le_refl zero_q)) record {
    start = whole_int z.dt (pos 0);
    at = zero_value z;
    after = tt;
    before = tt;
    slope = tt;
  },
  tt,
)

pub origin_stands : (z : Sizes) (e : ℚ) → Stands z (curve_numbers e origin_curve)
unfolding spans_below
origin_stands z e =
    let P = SpanStands z in
    let ps = point_piece zero_q zero_q ∷ [] in
    numbers_stand z e ps (Infinite zero_q) (whole_int z.dt (pos 0)) tt
    (every_flat P (span_below (Infinite zero_q) e) (spans (Infinite zero_q) ps)
    (every_weaken (λ s k. once_in P e s k) (spans (Infinite zero_q) ps) (origin_span z)))

origin_read : read (point_piece zero_q zero_q ∷ []) zero_q ≡ Fin zero_q
origin_read = read_one (point_piece zero_q zero_q) zero_q ∙ value_by (point_piece zero_q zero_q) zero_q (le_refl zero_q)

pub origin_steady : steady origin_curve ≡ zero_q +ℚ int (pos 1)
unfolding steady same_ext
origin_steady = ap (λ v. later_unless (same_ext v Inf) zero_q) origin_read

origin_rate : (y : Ext) → rate origin_curve <ₑ y → ⊥
unfolding rate
origin_rate y h = h

origin_infinite : (t : ℚ) → zero_q <ℚ t → value_at origin_curve t ≡ Inf
origin_infinite t h = lattice_values.origin t (le_of_lt h) ∙ origin_past t h

-- ---- the minimum
-- no period is needed
min_meets : (c : SpecCurve) → Meets Min c origin_curve 0
min_meets c = record {
  first = λ slower t late early.
      let d = common_period c origin_curve in
      let s = both_steady c origin_curve in
      let none : int (pos 0) *ℚ d ≡ zero_q = zero_mul d in
      let one : zero_q +ℚ int (pos 1) ≤ℚ s = subst (λ x. x ≤ℚ s) origin_steady (max_q_ge_right (steady c) (steady origin_curve)) in
      let D = int (pos 0) *ℚ d in
      let past : zero_q <ℚ t = with3 t s D (λ o. omega (arith, o.le, o.lt, o.same)) in
      subst (λ v. value_at c t ≤ₑ v) (sym (origin_infinite t past)) (le_inf (value_at c t));
  second = λ faster. absurd (origin_rate (rate c) faster);
}

least_none : (P : ℕ → Type 0) → P 0 → IsLeast P 0
least_none P h = record { meets = h; least = λ i less k. let no : ⊥ = omega (arith, less) in no }

module _ (z : Sizes) (far : ℚ) (a : AreSizes z far) (small : gauge_of z < 2 ^ 120) where
  pub min_within : (c : SpecCurve) (e : ℚ) → window_at Min c origin_curve 0 0 ≡ e → Whole z.dt e → e ≤ℚ far
      → Stands z (curve_numbers e c) → count c e + count origin_curve e ≤ 2 ^ 20 → IsWithin Min c origin_curve
  unfolding gauge_over tally_over
  min_within c e is on by stands few =
      within_at_least Min c origin_curve 0 0 (min_least c origin_curve 0 (least_none (Meets Min c origin_curve) (min_meets c)))
      (subst (λ x. gauge_over Min c origin_curve x < 2 ^ 120) (sym is) gauge)
      (subst (λ x. tally_over Min c origin_curve x ≤ 2 ^ 20) (sym is) few)
    where
      gauge : gauge_over Min c origin_curve e < 2 ^ 120
      gauge =
          let l = least_sizes z e far (numbers_over Min c origin_curve e) a (call_numbers z e c origin_curve stands (origin_stands z e)) by on in
          omega (arith, l, small)

  pub convolve_within : (c zero : SpecCurve) (e : ℚ) → Meets Convolve zero c 0 → window_at Convolve zero c 0 0 ≡ e → Whole z.dt e → e ≤ℚ far
      → Stands z (curve_numbers e zero) → Stands z (curve_numbers e c) → count zero e * count c e ≤ 2 ^ 20 → IsWithin Convolve zero c
  unfolding gauge_over tally_over
  convolve_within c zero e meets is on by first stands few =
      within_at_least Convolve zero c 0 0 (convolve_least zero c 0 (least_none (Meets Convolve zero c) meets))
      (subst (λ x. gauge_over Convolve zero c x < 2 ^ 120) (sym is) gauge)
      (subst (λ x. tally_over Convolve zero c x ≤ 2 ^ 20) (sym is) few)
    where
      gauge : gauge_over Convolve zero c e < 2 ^ 120
      gauge =
          let l = least_sizes z e far (numbers_over Convolve zero c e) a (call_numbers z e zero c first stands) by on in
          omega (arith, l, small)

-- the lesser of a curve and the point is the curve with 0 at 0
pub min_made : (c d : SpecCurve) → IsNonnegative (value_at c) → IsCurve d → IsStartedAt (Fin zero_q) c d → IsWithin Min c origin_curve
    → Applies Min c origin_curve (Ok d)
min_made c d low curve started within = record {
  within = within;
  made = record {
    curve = curve;
    answers = λ t from. elim (le_or_lt t zero_q) [
      | inl early ↦
          let at : t ≡ zero_q = antisym (early, from) in
          subst (λ v. value_at d t ≡ min_ext (value_at c t) v) (sym (lattice_values.origin t from ∙ origin_zero t early))
          (ap (value_at d) at ∙ started.zero ∙ sym (min_ext_of_le (Fin zero_q) (value_at c t) (low t from)) ∙ min_ext_comm (Fin zero_q) (value_at c t))
      | inr past ↦
          subst (λ v. value_at d t ≡ min_ext (value_at c t) v) (sym (origin_infinite t past))
          (started.past t past ∙ sym (min_ext_comm (value_at c t) Inf))
    ];
  };
}

-- ---- the convolution with the zero curve
abbrev pub zero_curve : SpecCurve
zero_curve = level_curve zero_q

zero_steady : steady zero_curve ≡ zero_q
unfolding steady value_at
zero_steady =
    ap (λ b. later_unless b zero_q)
    (sym (same_by _ _ (level_value zero_q zero_q (le_refl zero_q) ∙ ap Fin (sym (plus_zero zero_q zero_q)))))

zero_rate : rate zero_curve ≡ Fin zero_q
unfolding rate
zero_rate = refl

pub zero_meets : (d : SpecCurve) → ¬ (rate d <ₑ Fin zero_q) → Meets Convolve zero_curve d 0
zero_meets d rises = record {
  first = λ slower t late early b sums s before after.
      let none : s.first <ℚ zero_q = subst (λ x. s.first <ℚ x) zero_steady before in
      absurd (lt_irrefl zero_q (le_lt_trans s.first_nonneg none));
  second = λ slower. absurd (rises (subst (λ x. rate d <ₑ x) zero_rate slower));
}

pub zero_window_is : (d : SpecCurve) (s p : ℚ) → steady d ≡ s → common_period zero_curve d ≡ p
    → window_at Convolve zero_curve d 0 0 ≡ s +ℚ int (pos 2) *ℚ p
unfolding window_at
zero_window_is d s p e f =
    ap (λ x. (x +ℚ steady d) +ℚ int (pos 2) *ℚ common_period zero_curve d) zero_steady
    ∙ ap (λ x. (zero_q +ℚ x) +ℚ int (pos 2) *ℚ common_period zero_curve d) e
    ∙ ap (λ x. (zero_q +ℚ s) +ℚ int (pos 2) *ℚ x) f
    ∙ ap (λ x. x +ℚ int (pos 2) *ℚ p) (zero_add s)
  where
    zero_add : (x : ℚ) → zero_q +ℚ x ≡ x
    zero_add x = antisym (with1 x (λ o. omega (arith, o.le, o.lt, o.same)))

pub zero_made : (d : SpecCurve) → IsNonnegative (value_at d) → value_at d zero_q ≡ Fin zero_q → IsCurve zero_curve
    → IsWithin Convolve zero_curve d → Applies Convolve zero_curve d (Ok zero_curve)
zero_made d low at curve within = record {
  within = within;
  made = record {
    curve = curve;
    answers = λ t from. record {
      below = λ s.
          subst (λ v. v ≤ₑ value_at zero_curve s.first +ₑ value_at d s.second) (sym (level_value zero_q t from))
          (subst (λ v. Fin zero_q ≤ₑ v +ₑ value_at d s.second) (sym (level_value zero_q s.first s.first_nonneg))
          (subst (λ v. Fin zero_q ≤ₑ v) (sym (zero_add_ext (value_at d s.second))) (low s.second s.second_nonneg)));
      near = λ y less. (
        record { first = t; second = zero_q; first_nonneg = from; second_nonneg = le_refl zero_q; whole = add_zero t },
        subst (λ v. value_at zero_curve t +ₑ v <ₑ Fin y) (sym at)
            (subst (λ v. v +ₑ Fin zero_q <ₑ Fin y) (sym (level_value zero_q t from))
            (subst (λ v. v <ₑ Fin y) (sym (zero_add_ext (Fin zero_q))) (subst (λ v. v <ₑ Fin y) (level_value zero_q t from) less))),
      );
    };
  };
}
