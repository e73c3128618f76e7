-- The numbers of periods that are found: they are the least ones, or the call is too wide.
use Rattle.std.specs.Prelude.{◌≡◌, ◌≢◌, ℕ, suc, ◌-◌, ◌<◌, ◌≤◌, ◌^◌, pos, List, [], ◌∷◌, Option, Some, None}
use Rattle.std.proofs.Common.{arith, sym, ap, ◌∙◌, refl, subst, inl, inr}
use Rattle.std.proofs.lemmas.Bool.{cases_lt}
use Rattle.rational.specs.Rational.{ℚ, ◌+ℚ◌, ◌-ℚ◌, ◌*ℚ◌, ◌≤ℚ◌, ◌<ℚ◌, int}
use Rattle.rational.specs.Extended.{Ext, ◌≤ₑ◌, ◌<ₑ◌, ◌+ₑ◌}
use Rattle.rational.specs.declared.Extended.TheVariants.{Fin, Inf}
use Rattle.rational.proofs.Linear.{with1, with2, with3}
use Rattle.rational.proofs.Laws.{le_refl, le_trans, le_of_lt, le_or_lt, lt_le_trans, lt_irrefl, mul_zero, mul_le_mul_right, not_zero}
use Rattle.rational.proofs.Integers.{nat_le}
use Rattle.rational.proofs.Quotients.{times_above, mul_zero_cases}
use Rattle.rational.proofs.ExtendedOrder.{le_ext_trans, lt_le_ext, lt_ext_irrefl, antisym_ext, fin_same, same_le_ext}
use Rattle.fraction128.specs.declared.fault.Wide.{Wide}
use Rattle.upp_curve.specs.declared.affine_segment.line.Line.{Line}
use Rattle.upp_curve.specs.declared.affine_segment.line.Piece.{Piece}
use Rattle.upp_curve.specs.declared.curve.Tail.{Tail}
use Rattle.upp_curve.specs.declared.curve.Tail.TheVariants.{Periodic, Affine, Infinite}
use Rattle.upp_limits.specs.declared.op_kind.OpKind.TheVariants.{Horizontal}
use Rattle.upp_limits.specs.declared.op_kind.OpFault.{OpFault}
use Rattle.upp_limits.specs.declared.op_kind.OpFault.TheVariants.{TooMany, TooWide, NoMemory}
use Rattle.upp_curve.specs.Steps.{IsWideLine, IsWideRead, IsWideAt, IsWideValueAt}
use Rattle.upp_curve.specs.affine_segment.Fits.{LineFitsAt}
use Rattle.upp_curve.specs.affine_segment.Reading.{piece_in, line_in}
use Rattle.upp_curve.specs.Curve.{SpecCurve, value_at}
use Rattle.upp_curve.specs.Curves.{IsCurve}
use Rattle.min_plus.specs.Functions.{IsFinite, IsRising}
use Rattle.upp_curve.specs.Steady.{steady, steady_in, rise_over, rate}
use Rattle.upp_limits.specs.Periods.{common_period, periods_after}
use Rattle.upp_limits.specs.Windows.{window_at, IsConstantFrom, IsLeastPeriods, Reaches, Meets}
use Rattle.upp_limits.specs.Limits.{Sizes}
use Rattle.upp_normal.specs.Ahead.{IsTimeIn}
use Rattle.upp_limits.specs.Gauges.{IsKnownAtOnce, gauge_at, IsTooWide}
use Rattle.upp_limits.specs.Outcome.{IsWithin, IsCauseOf}
use Rattle.upp_normal.proofs.AnswerRoom.{operand_line_fits, wide_narrow}
use Rattle.curve_call.specs.declared.frame.Frame.{Frame}
use Rattle.curve_call.specs.Frames.{IsFrame, IsRefusedAt, sizes_at}
use Rattle.curve_call.specs.Times.{OneLaterFits}
use Rattle.curve_call.proofs.CurveTimes.{steady_whole, one_later, common_some}
use Rattle.curve_call.proofs.FirstGate.{gauge_grows}
use Rattle.curve_call.proofs.Limited.{refused_cause, frame_within}
use Rattle.curve_call.proofs.Shifts.{later_value}
use Rattle.upp_normal.proofs.UnrollSteps.{ext_cases}
use Rattle.curve_call.proofs.RateRises.{rate_rise, infinite_value}
use Rattle.curve_deviation.specs.Parts.{IsFiniteInSizes}
use Rattle.curve_deviation.proofs.EarlyParts.{endless, early_here}
use Rattle.curve_deviation.specs.declared.horizontals.Periods.{Periods}
use Rattle.curve_deviation.specs.declared.horizontals.Turn.{Turn}
use Rattle.curve_deviation.specs.Stages.{AreFinite, HasLeft, HasReached, settled, IsPast, IsWideCall, IsFirst, IsSettledAt, AreFound, Meets as StageMeets}
use Rattle.curve_deviation.specs.declared.search.Stage.{Stage}
use Rattle.curve_deviation.proofs.Searching.{unmet_before}
use Rattle.curve_deviation.proofs.KnownLags.{first_repeats}
use Rattle.curve_deviation.proofs.WindowTimes.{times_at, periods_low}
use Rattle.upp_curve.proofs.RisingCurves.{GoesOn}
use Rattle.upp_curve.proofs.SteadyTimes.{steady_nonneg}
use Rattle.upp_limits.proofs.LeastNumbers.{least_unique}

-- ---- a curve of rate 0 is constant from when it repeats
pub level_constant : (f g : SpecCurve) → IsCurve f → IsCurve g → IsFinite (value_at f) → IsRising (value_at f) → rate f ≡ Fin (int (pos 0)) → IsConstantFrom (value_at f) (steady f)
level_constant f g F G finite up e t h =
    let d = common_period f g in
    let T = steady f in
    let some = common_some f g F G in
    let low = steady_nonneg f F in
    let (v, k) = finite T low in
    let (n, over) = times_above (t -ℚ T) d some in
    let N = int (pos n) in
    let y = N *ℚ d in
    let none : rise_over f d ≡ int (pos 0) = sym (rate_rise f d (int (pos 0)) e) ∙ (with1 d (λ c. omega (arith, c.le, c.lt, c.same))) in
    let is : value_at f (T +ℚ y) ≡ value_at f T =
    later_value (value_at f) T d (rise_over f d) T n (le_of_lt some) (first_repeats f g F G) (le_refl T) ∙ ap (λ x. value_at f T +ₑ Fin (N *ℚ x)) none ∙ ap (λ x. value_at f T +ₑ Fin x) (mul_zero N) ∙ stays (value_at f T) in
    let far : t ≤ℚ T +ℚ y = with3 t T y (λ c. omega (arith, c.le, c.lt, c.same)) in
    antisym_ext (value_at f t) (value_at f T) (subst (λ x. value_at f t ≤ₑ x) is (up t (T +ℚ y) (le_trans low h) far)) (up T t low h)
  where
    stays : (x : Ext) → x +ₑ Fin (int (pos 0)) ≡ x
    stays Inf = refl
    stays (Fin x) = ap Fin (with1 x (λ c. omega (arith, c.le, c.lt, c.same)))

-- and no other is
pub constant_level : (f g : SpecCurve) → IsCurve f → IsCurve g → IsFinite (value_at f) → IsConstantFrom (value_at f) (steady f) → rate f ≡ Fin (int (pos 0))
constant_level f g F G finite level =
    let d = common_period f g in
    let T = steady f in
    let some = common_some f g F G in
    let low = steady_nonneg f F in
    let (v, k) = finite T low in
    elim (ext_cases (rate f)) [
      | inl e ↦ absurd (same_le_ext (sym (infinite_value f T F e (le_refl T)) ∙ k))
      | inr (r, e) ↦
          let a = rise_over f d in
          let same : Fin (v +ℚ a) ≡ Fin v = sym ((first_repeats f g F G).rule T (le_refl T) ∙ ap (λ x. x +ₑ Fin a) k) ∙ level (T +ℚ d) (with2 T d (λ c. omega (arith, c.le, c.lt, c.same))) ∙ k in
          let none : r *ℚ d ≡ int (pos 0) = rate_rise f d r e ∙ zero_rise v a (fin_same same) in
          elim (mul_zero_cases r d none) [
            | inl z ↦ e ∙ ap Fin z
            | inr z ↦ absurd (not_zero d some z)
          ]
    ]
  where
    zero_rise : (v a : ℚ) → v +ℚ a ≡ v → a ≡ int (pos 0)
    zero_rise v a e = with2 v a (λ c. omega (arith, c.le, c.lt, c.same))

-- ---- the value when g begins to repeat
line_not_wide : (l : Option Line) (t : ℚ) (w : Wide) → LineFitsAt t l → IsWideLine l t w → ⊥
line_not_wide None t w h k = k
line_not_wide (Some l) t w h (inl a) = a.1 h.product
line_not_wide (Some l) t w h (inr b) = b.1 h.sum

read_not_wide : (ps : List Piece) (t : ℚ) (w : Wide) → LineFitsAt t (line_in ps t) → IsWideRead ps t w → ⊥
read_not_wide [] t w h k = k
read_not_wide (p ∷ ps) t w h k = line_not_wide (piece_in p ps t).line t w h k

pub steady_in_window : (z : Sizes) (end : ℚ) (c : SpecCurve) → IsFiniteInSizes z end c → steady c <ℚ end → IsTimeIn z end (steady c)
steady_in_window z end c S h = record { whole = steady_whole z end c S.stands; nonneg = steady_nonneg c S.curve; before = h }

pub steady_not_wide : (z : Sizes) (end time : ℚ) (c : SpecCurve) (w : Wide) → IsFiniteInSizes z end c → time ≡ steady c → steady c <ℚ end → IsWideValueAt c time w → ⊥
unfolding steady
steady_not_wide z end time c w S e h wide =
    let T = steady c in
    let time_in = steady_in_window z end c S h in
    let here = early_here z end c T S time_in in
    let fits = operand_line_fits z end T (line_in c.pieces T) S.limited here.line time_in.whole time_in.nonneg (le_of_lt h) in
    by_tail c.pieces c.tail (endless c S.curve S.finite) fits (subst (λ t. IsWideAt c.pieces c.tail t w) e wide)
  where
    by_tail : (ps : List Piece) (tail : Tail) → GoesOn tail → LineFitsAt (steady_in ps tail) (line_in ps (steady_in ps tail)) → IsWideAt ps tail (steady_in ps tail) w → ⊥
    by_tail ps (Periodic rank period rise) k fits (inl a) = read_not_wide ps rank w fits a.1
    by_tail ps (Periodic rank period rise) k fits (inr b) = lt_irrefl rank b.0
    by_tail ps (Affine rank) k fits a = read_not_wide ps (steady_in ps (Affine rank)) w fits a
    by_tail ps (Infinite rank) k fits a = k

pub steady_one_later : (z : Sizes) (end : ℚ) (c : SpecCurve) → IsFiniteInSizes z end c → steady c <ℚ end → OneLaterFits c
steady_one_later z end c S h = one_later z end c S.limited.sizes (wide_narrow z end S.limited) S.curve S.stands (le_of_lt h)

-- ---- the window of a call whose first curve is not constant ends after the second begins to repeat
least_past_steady : (f g : SpecCurve) (k m : ℕ) → IsCurve f → IsCurve g → AreFinite f g → rate f ≢ Fin (int (pos 0)) → IsLeastPeriods Horizontal f g k m → gauge_at Horizontal f g k m < 2 ^ 120
    → steady g <ℚ window_at Horizontal f g k m
least_past_steady f g k m F G both not least small = elim least.first.meets [
  | inl level ↦ absurd (not (constant_level f g F G both.first level))
  | inr above ↦
      let d = common_period f g in
      let W = times_at f g k m F G both.first both.second small in
      let some = common_some f g F G in
      let T = steady f in
      let s = periods_after T k d in
      let t = settled f g k in
      let u = periods_after t m d in
      let low : int (pos 0) ≤ℚ s = le_trans (steady_nonneg f F) (periods_low T d k some) in
      let step : s ≤ℚ t = periods_step T d k some in
      let rises = both.first_rises s t low step in
      let reach : value_at f t ≤ₑ value_at g u = least.second.meets in
      let more : value_at g (steady g) <ₑ value_at g u = lt_le_ext (value_at g (steady g)) (value_at f s) (value_at g u) above (le_ext_trans (value_at f s) (value_at f t) (value_at g u) rises reach) in
      let low_u : int (pos 0) ≤ℚ u = le_trans low (le_trans step (periods_low t d m some)) in
      elim (le_or_lt u (steady g)) [
        | inl h ↦ absurd (lt_ext_irrefl (value_at g (steady g)) (lt_le_ext (value_at g (steady g)) (value_at g u) (value_at g (steady g)) more (both.second_rises u (steady g) low_u h)))
        | inr h ↦
            let H = window_at Horizontal f g k m in
            let is : H -ℚ d ≡ u = W.is in
            let S = steady g in
            late S u H d h is some
      ]
]
  where
    late : (S u H d : ℚ) → S <ℚ u → H -ℚ d ≡ u → int (pos 0) <ℚ d → S <ℚ H
    late S u H d h e some = lt_le_trans h (with3 u H d (λ c. omega (arith, c.le, c.lt, c.same)))

    periods_step : (T d : ℚ) (k : ℕ) → int (pos 0) <ℚ d → periods_after T k d ≤ℚ periods_after T (suc k) d
    periods_step T d k some =
        let m = mul_le_mul_right d (le_of_lt some) (nat_le k (suc k) (omega arith)) in
        let x = int (pos k) *ℚ d in
        let y = int (pos (suc k)) *ℚ d in
        with3 T x y (λ c. omega (arith, c.le, c.lt, c.same))

-- where the value when g begins to repeat is not to be had, the call is too wide
pub no_level : (f g : SpecCurve) → IsCurve f → IsCurve g → AreFinite f g → rate f ≢ Fin (int (pos 0)) → ((z : Sizes) (end : ℚ) → IsFiniteInSizes z end g → steady g <ℚ end → ⊥) → IsWideCall f g
no_level f g F G both not none k m least = elim (cases_lt (gauge_at Horizontal f g k m) (2 ^ 120)) [
  | inl small ↦
      let W = times_at f g k m F G both.first both.second small in
      absurd (none (sizes_at Horizontal f g k m) (window_at Horizontal f g k m) W.seen.second (least_past_steady f g k m F G both not least small))
  | inr over ↦ omega (arith, over)
]

-- ---- the first number
pub first_level : (f g : SpecCurve) → IsCurve f → IsCurve g → AreFinite f g → rate f ≡ Fin (int (pos 0)) → IsFirst f g 0
first_level f g F G both e = record { below = λ i h. absurd (omega (arith, h)); past = inl (inl (level_constant f g F G both.first both.first_rises e)) }

pub first_left : (f g : SpecCurve) (level : ℚ) (j : ℕ) → IsCurve f → IsCurve g → AreFinite f g → rate f ≢ Fin (int (pos 0)) → value_at g (steady g) ≡ Fin level
    → ((i : ℕ) → i < j → ¬ (HasLeft level f g i)) → IsPast (HasLeft level f g j) (gauge_at Horizontal f g j 0) → IsFirst f g j
first_left f g level j F G both not e below past = record {
  below = λ i h meets. below i h (left i meets);
  past = elim past [ inl h ↦ inl (inr (subst (λ x. x <ₑ value_at f (periods_after (steady f) j (common_period f g))) (sym e) h)) | inr over ↦ inr over ];
}
  where
    left : (i : ℕ) → Meets Horizontal f g i → HasLeft level f g i
    left i (inl constant) = absurd (not (constant_level f g F G both.first constant))
    left i (inr above) = subst (λ x. x <ₑ value_at f (periods_after (steady f) i (common_period f g))) e above

-- no least number is below it
first_least : (f g : SpecCurve) (j k m : ℕ) → IsFirst f g j → IsLeastPeriods Horizontal f g k m → j ≤ k
first_least f g j k m first least = elim (cases_lt k j) [
  | inl h ↦ absurd (first.below k h least.first.meets)
  | inr h ↦ omega (arith, h)
]

pub no_turn : (f g : SpecCurve) (j : ℕ) → IsCurve f → IsCurve g → IsFirst f g j → 2 ^ 120 ≤ gauge_at Horizontal f g j 0 → IsWideCall f g
no_turn f g j F G first over k m least =
    let rises = gauge_grows Horizontal f g j 0 k m F G tt (first_least f g j k m first least) (omega arith) in
    omega (arith, over, rises)

-- ---- both numbers
-- within the limit they are the least
pub found_least : (f g : SpecCurve) (p : Periods) → IsCurve f → IsCurve g → AreFound f g p → gauge_at Horizontal f g p.first p.second < 2 ^ 120 → IsLeastPeriods Horizontal f g p.first p.second
found_least f g p F G A small = record {
  first = record {
    meets = elim A.first.past [
      | inl h ↦ h
      | inr over ↦
          let rises = gauge_grows Horizontal f g p.first 0 p.first p.second F G tt (omega arith) (omega arith) in
          absurd (omega (arith, over, rises, small))
    ];
    least = A.first.below;
  };
  second = record {
    meets = elim A.past [ inl h ↦ h | inr over ↦ absurd (omega (arith, over, small)) ];
    least = A.below;
  };
}

-- over it, the call is too wide
pub found_wide : (f g : SpecCurve) (p : Periods) → IsCurve f → IsCurve g → AreFound f g p → 2 ^ 120 ≤ gauge_at Horizontal f g p.first p.second → IsWideCall f g
found_wide f g p F G A over k m least = elim A.first.past [
  | inr early ↦ no_turn f g p.first F G A.first early k m least
  | inl meets ↦
      let same : p.first ≡ k = least_unique (Meets Horizontal f g) p.first k record { meets = meets; least = A.first.below } least.first in
      let low : p.second ≤ m = elim (cases_lt m p.second) [
        | inl h ↦ absurd (A.below m h (subst (λ n. Reaches Horizontal f g n m) (sym same) least.second.meets))
        | inr h ↦ omega (arith, h)
      ] in
      let rises = gauge_grows Horizontal f g p.first p.second k m F G tt (omega (arith, same)) low in
      omega (arith, over, rises)
]

pub wide_call : (f g : SpecCurve) → ¬ (IsKnownAtOnce Horizontal f g) → IsWideCall f g → IsTooWide Horizontal f g
wide_call f g looks wide = record { looks = looks; gauge = wide }

-- ---- the limits
pub found_refused : (f g : SpecCurve) (p : Periods) (e : OpFault) → IsCurve f → IsCurve g → ¬ (IsKnownAtOnce Horizontal f g) → AreFound f g p → IsRefusedAt Horizontal f g p.first p.second e → IsCauseOf Horizontal f g e
found_refused f g p TooMany F G looks A h = refused_cause Horizontal f g p.first p.second TooMany looks (found_least f g p F G A h.0) h
found_refused f g p TooWide F G looks A h = wide_call f g looks (found_wide f g p F G A h)
found_refused f g p NoMemory F G looks A h = absurd h

pub found_within : (f g : SpecCurve) (p : Periods) (r : Frame) → IsCurve f → IsCurve g → AreFound f g p → IsFrame Horizontal f g p.first p.second r → IsWithin Horizontal f g
found_within f g p r F G A h = frame_within Horizontal f g p.first p.second r (found_least f g p F G A h.gauge) h

pub not_memory : (f g : SpecCurve) (k m : ℕ) (e : OpFault) → IsRefusedAt Horizontal f g k m e → ¬ (e ≡ NoMemory)
not_memory f g k m e h same = subst (IsRefusedAt Horizontal f g k m) same h

-- ---- as guessed
-- a call that is not too wide with some periods is not with fewer
pub narrow_with : (f g : SpecCurve) (k m i j : ℕ) → IsCurve f → IsCurve g → k ≤ i → m ≤ j → gauge_at Horizontal f g i j < 2 ^ 120 → gauge_at Horizontal f g k m < 2 ^ 120
narrow_with f g k m i j F G h l small = let rises = gauge_grows Horizontal f g k m i j F G tt h l in omega (arith, rises, small)

-- not met one before, so never before
pub unmet_all : (stage : Stage) (f g : SpecCurve) (k i : ℕ) → IsCurve f → IsCurve g → AreFinite f g → ¬ (StageMeets stage f g (k - 1)) → i < k → ¬ (StageMeets stage f g i)
unmet_all stage f g k i F G both unmet h = unmet_before stage f g (k - 1) F G both unmet i (omega (arith, h))

pub first_none : (f g : SpecCurve) (k : ℕ) → IsCurve f → IsCurve g → AreFinite f g → rate f ≡ Fin (int (pos 0)) → k ≡ 0 → IsFirst f g k
first_none f g k F G both e none = subst (IsFirst f g) (sym none) (first_level f g F G both e)

pub first_guessed : (f g : SpecCurve) (level : ℚ) (j : ℕ) → IsCurve f → IsCurve g → AreFinite f g → rate f ≢ Fin (int (pos 0)) → value_at g (steady g) ≡ Fin level
    → ((i : ℕ) → i < j → ¬ (HasLeft level f g i)) → HasLeft level f g j → IsFirst f g j
first_guessed f g level j F G both not e below left = first_left f g level j F G both not e below (inl left)

pub guessed_found : (f g : SpecCurve) (first second : ℕ) (t : Turn) → IsFirst f g first → IsSettledAt f g first t → ((i : ℕ) → i < second → ¬ (HasReached first t.level f g i)) → HasReached first t.level f g second
    → AreFound f g record { first = first; second = second; until = t.time }
guessed_found f g first second t F at below reached =
    let level : value_at f (settled f g first) ≡ Fin t.level = sym (ap (value_at f) at.time) ∙ at.level in
    record {
      first = F;
      below = λ i h met. below i h (subst (λ x. x ≤ₑ value_at g (periods_after (settled f g first) i (common_period f g))) level met);
      past = inl (subst (λ x. x ≤ₑ value_at g (periods_after (settled f g first) second (common_period f g))) (sym level) reached);
      until = at.time;
    }
