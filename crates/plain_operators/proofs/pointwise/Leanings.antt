-- Lines of a curve's own rate that it lies under, or over: step by step over a period of its own, and so ever after; and how
-- many periods are enough by them.
use Rattle.std.specs.Prelude.{◌≡◌, ℕ, pos, [], ◌∷◌, Option, Some, None}
use Rattle.std.proofs.Common.{arith, sym, ap, ap₂, ◌∙◌, subst, inl, inr}
use Rattle.std.proofs.lemmas.Bool.{cases_lt}
use Rattle.rational.specs.Rational.{ℚ, ◌+ℚ◌, ◌-ℚ◌, ◌*ℚ◌, ◌/ℚ◌, ◌≤ℚ◌, ◌<ℚ◌, int}
use Rattle.rational.specs.Grid.{Whole}
use Rattle.rational.specs.Gauge.{size_up}
use Rattle.rational.specs.Line.{line_at as line_of}
use Rattle.rational.specs.MinMax.{max_q, min_q}
use Rattle.rational.specs.Extended.{Ext, ◌≤ₑ◌, ◌<ₑ◌, ◌+ₑ◌}
use Rattle.rational.specs.declared.Extended.TheVariants.{Fin}
use Rattle.rational.proofs.Linear.{with_atoms, with2, with3, with4, with5, with6}
use Rattle.rational.proofs.Laws.{le_refl, le_trans, le_of_lt, lt_cases, mul_add, sub_mul, mul_comm, mul_nonneg, mul_le_mul, zero_mul}
use Rattle.rational.proofs.Integers.{nat_nonneg}
use Rattle.rational.proofs.Quotients.{div_le}
use Rattle.rational.proofs.MinMax.{max_q_le, max_q_ge_left, max_q_ge_right, min_q_le_left, min_q_le_right, min_q_one}
use Rattle.rational.proofs.Stretch.{line_supremum}
use Rattle.rational.proofs.ExtendedOrder.{le_ext_trans, add_le_ext, le_ext_refl}
use Rattle.upp_limits.proofs.CommonDen.{size_up_within}
use Rattle.upp_curve.specs.declared.affine_segment.line.Line.{Line}
use Rattle.upp_curve.specs.affine_segment.Values.{line_at, line_value}
use Rattle.upp_curve.specs.Curve.{SpecCurve, value_at}
use Rattle.upp_curve.specs.Steady.{Repeats, rate, rise_over}
use Rattle.upp_limits.specs.Limits.{Sizes}
use Rattle.upp_limits.specs.Periods.{periods_after}
use Rattle.upp_limits.specs.Windows.{IsBelowFor, IsLeast}
use Rattle.upp_normal.specs.declared.ahead.Stretch.{Stretch}
use Rattle.upp_normal.specs.Ahead.{IsBeforeNext, AtNext, TimesStand, HasWindow, IsTimeIn, GoesOn}
use Rattle.upp_normal.proofs.StretchSizes.{times_stand}
use Rattle.curve_call.specs.declared.gaps.Gap.{Gap}
use Rattle.curve_call.specs.declared.gaps.Gap.TheVariants.{NoTime, Never, Is}
use Rattle.curve_call.specs.Gaps.{InWindow, IsGap}
use Rattle.curve_call.specs.GapSteps.{earlier_of, IsUntil}
use Rattle.curve_call.specs.Compared.{AreCompared, IsLookedAt}
use Rattle.curve_call.specs.Bounds.{AreBounds, own_or}
use Rattle.curve_call.proofs.GapParts.{before_next}
use Rattle.curve_call.proofs.GapWalk.{earlier_past, earlier_high}
use Rattle.curve_call.proofs.MostAbove.{moved_back, own_repeats, rates_order, times_rate}
use Rattle.curve_call.proofs.OwnPeriods.{own_period_is, own_looked, looked_window, first_looked, second_looked}
use Rattle.curve_call.proofs.RateRises.{rate_rise}
use Rattle.curve_call.proofs.GapThere.{gap_there}
use Rattle.curve_call.proofs.LeastNumber.{IsBelowAfter, compared_window, largest_finite, lead_is, least_none, least_endless, least_gap}
use Rattle.curve_call.proofs.BoundedNumber.{least_found}
use Rattle.plain_operators.specs.declared.pointwise.leaning.Reached.{Reached}
use Rattle.plain_operators.specs.declared.pointwise.leaning.Lines.{Lines}
use Rattle.plain_operators.specs.pointwise.Leaning.{IsUnder, IsOver, IsSpan, IsOnWay, IsUnderUntil, IsOverUntil, AreOwnLines}

-- ---- one value
pub through : (v k y x : ℚ) → y ≡ x → k ≡ v -ℚ y → v ≡ k +ℚ x
through v k y x e f = with4 v k y x (λ c. omega (arith, c.le, c.lt, c.same))

pub higher_is : (v icept k m y : ℚ) → v ≡ k +ℚ y → m ≡ max_q icept k → (icept ≤ℚ m) × (v ≤ℚ m +ℚ y)
higher_is v icept k m y e f =
    let low : k ≤ℚ m = subst (λ x. k ≤ℚ x) (sym f) (max_q_ge_right icept k) in
    (subst (λ x. icept ≤ℚ x) (sym f) (max_q_ge_left icept k), with4 v k m y (λ c. omega (arith, c.le, c.lt, c.same)))

pub lower_is : (v icept k m y : ℚ) → v ≡ k +ℚ y → m ≡ min_q icept k → (m ≤ℚ icept) × (m +ℚ y ≤ℚ v)
lower_is v icept k m y e f =
    let low : m ≤ℚ k = subst (λ x. x ≤ℚ k) (sym f) (min_q_le_right icept k) in
    (subst (λ x. x ≤ℚ icept) (sym f) (min_q_le_left icept k), with4 v k m y (λ c. omega (arith, c.le, c.lt, c.same)))

-- ---- a line under another at two times is so between
apart : (k l r q u : ℚ) → line_of (k -ℚ l) (r -ℚ q) u ≡ k +ℚ r *ℚ u -ℚ (l +ℚ q *ℚ u)
apart k l r q u = let e = sub_mul r q u in with5 k l (r *ℚ u) (q *ℚ u) ((r -ℚ q) *ℚ u) (λ c. omega (arith, c.le, c.lt, c.same))

below_between : (k r l q x t u : ℚ) → x <ℚ t → t <ℚ u → k +ℚ r *ℚ x ≤ℚ l +ℚ q *ℚ x → k +ℚ r *ℚ u ≤ℚ l +ℚ q *ℚ u → k +ℚ r *ℚ t ≤ℚ l +ℚ q *ℚ t
below_between k r l q x t u past before first last =
    let gap = λ (s : ℚ). line_of (k -ℚ l) (r -ℚ q) s in
    let low : gap x ≤ℚ int (pos 0) = subst (λ y. y ≤ℚ int (pos 0)) (sym (apart k l r q x)) (under (k +ℚ r *ℚ x) (l +ℚ q *ℚ x) first) in
    let high : gap u ≤ℚ int (pos 0) = subst (λ y. y ≤ℚ int (pos 0)) (sym (apart k l r q u)) (under (k +ℚ r *ℚ u) (l +ℚ q *ℚ u) last) in
    let S = line_supremum x u (k -ℚ l) (r -ℚ q) (both x t u past before) in
    let bound : gap t ≤ℚ max_q (gap x) (gap u) = S.above record { at = t; above = past; below = before } in
    over (k +ℚ r *ℚ t) (l +ℚ q *ℚ t) (subst (λ y. y ≤ℚ int (pos 0)) (apart k l r q t) (le_trans bound (max_q_le (gap x) (gap u) (int (pos 0)) low high)))
  where
    under : (a b : ℚ) → a ≤ℚ b → a -ℚ b ≤ℚ int (pos 0)
    under a b h = with2 a b (λ c. omega (arith, c.le, c.lt, c.same))

    over : (a b : ℚ) → a -ℚ b ≤ℚ int (pos 0) → a ≤ℚ b
    over a b h = with2 a b (λ c. omega (arith, c.le, c.lt, c.same))

    both : (x t u : ℚ) → x <ℚ t → t <ℚ u → x <ℚ u
    both x t u a b = with3 x t u (λ c. omega (arith, c.le, c.lt, c.same))

under_between : (line : Option Line) (k r x t u : ℚ) → x <ℚ t → t <ℚ u → line_value line x ≤ₑ Fin (k +ℚ r *ℚ x) → line_value line u ≤ₑ Fin (k +ℚ r *ℚ u) → line_value line t ≤ₑ Fin (k +ℚ r *ℚ t)
under_between None k r x t u past before first last = absurd first
under_between (Some l) k r x t u past before first last = below_between l.icept l.slope k r x t u past before first last

over_between : (line : Option Line) (k r x t u : ℚ) → x <ℚ t → t <ℚ u → Fin (k +ℚ r *ℚ x) ≤ₑ line_value line x → Fin (k +ℚ r *ℚ u) ≤ₑ line_value line u → Fin (k +ℚ r *ℚ t) ≤ₑ line_value line t
over_between None k r x t u past before first last = tt
over_between (Some l) k r x t u past before first last = below_between k r l.icept l.slope x t u past before first last

raised : (f : Ext) (k m y : ℚ) → k ≤ℚ m → f ≤ₑ Fin (k +ℚ y) → f ≤ₑ Fin (m +ℚ y)
raised f k m y h l = le_ext_trans f (Fin (k +ℚ y)) (Fin (m +ℚ y)) l (more k m y h)
  where
    more : (k m y : ℚ) → k ≤ℚ m → k +ℚ y ≤ℚ m +ℚ y
    more k m y h = with3 k m y (λ c. omega (arith, c.le, c.lt, c.same))

sunk : (f : Ext) (k m y : ℚ) → m ≤ℚ k → Fin (k +ℚ y) ≤ₑ f → Fin (m +ℚ y) ≤ₑ f
sunk f k m y h l = le_ext_trans (Fin (m +ℚ y)) (Fin (k +ℚ y)) f (less k m y h) l
  where
    less : (k m y : ℚ) → m ≤ℚ k → m +ℚ y ≤ℚ k +ℚ y
    less k m y h = with3 k m y (λ c. omega (arith, c.le, c.lt, c.same))

-- ---- the way
pub way_start : (c : SpecCurve) (from end : ℚ) → IsSpan c from end → IsOnWay c from end from
way_start c from end (z, W, T) = record { late = le_refl from; most = le_of_lt T.before; grid = λ n C f e. f }

pub way_time : (c : SpecCurve) (from end t : ℚ) → IsSpan c from end → IsOnWay c from end t → t <ℚ end → (z : Sizes) × (e : ℚ) × HasWindow z e c × IsTimeIn z e t
way_time c from end t (z, W, T) P before =
    (z, end, W, record { whole = P.grid z.dt (times_stand z end c W.curve W) T.whole W.limited.sizes.window; nonneg = le_trans T.nonneg P.late; before = before })

pub span_time : (c : SpecCurve) (from end : ℚ) → IsSpan c from end → (z : Sizes) × (e : ℚ) × HasWindow z e c × IsTimeIn z e from
span_time c from end (z, W, T) = (z, end, W, T)

earlier_on : (n : ℕ) (end : ℚ) (a : Option ℚ) → Whole n end → AtNext (Whole n) a → Whole n (earlier_of end a)
earlier_on n end None h k = h
earlier_on n end (Some e) h k = elim (min_q_one end e) [ inl i ↦ subst (Whole n) (sym i) h | inr i ↦ subst (Whole n) (sym i) k ]

earlier_is : (end : ℚ) (a : Option ℚ) → IsUntil (earlier_of end a) a
earlier_is end None = tt
earlier_is end (Some e) = min_q_le_right end e

record Onward (c : SpecCurve) (from end x u : ℚ) (next : Option ℚ) : Type 0 where
  way : IsOnWay c from end u
  past : x <ℚ u
  until : IsUntil u next

onward : (c : SpecCurve) (from end x u : ℚ) (next : Option ℚ) → IsOnWay c from end x → x <ℚ end → IsBeforeNext x next → ((n : ℕ) → TimesStand n c → AtNext (Whole n) next) → u ≡ earlier_of end next
    → Onward c from end x u next
onward c from end x u next P before early times e =
    let past : x <ℚ u = subst (λ y. x <ℚ y) (sym e) (earlier_past x end next before early) in
    record {
      way = record {
        late = le_trans P.late (le_of_lt past);
        most = subst (λ y. y ≤ℚ end) (sym e) (earlier_high end next);
        grid = λ n C f g. subst (Whole n) (sym e) (earlier_on n end next g (times n C));
      };
      past = past;
      until = subst (λ y. IsUntil y next) (sym e) (earlier_is end next);
    }

-- ---- one step
pub under_on : (c : SpecCurve) (from end r : ℚ) (s : Reached) (here : Stretch) (u first second icept : ℚ) → IsUnderUntil c from end r s → s.until <ℚ end → GoesOn (value_at c) s.until here
    → ((n : ℕ) → TimesStand n c → AtNext (Whole n) here.next) → u ≡ earlier_of end here.next → (s.icept ≤ℚ first) × (here.at ≤ₑ Fin (first +ℚ r *ℚ s.until))
    → (first ≤ℚ second) × (line_value here.line s.until ≤ₑ Fin (second +ℚ r *ℚ s.until)) → (second ≤ℚ icept) × (line_value here.line u ≤ₑ Fin (icept +ℚ r *ℚ u))
    → IsUnderUntil c from end r record { until = u; icept = icept }
under_on c from end r s here u first second icept L before H times e (a, p) (b, q) (d, w) = record { way = O.way; line = line }
  where
    O : Onward c from end s.until u here.next
    O = onward c from end s.until u here.next L.way before H.next times e

    line : IsUnder (value_at c) from u r icept
    line t i = elim (lt_cases t s.until) [
      | inl l ↦ raised (value_at c t) s.icept icept (r *ℚ t) (le_trans a (le_trans b d)) (L.line t record { start = i.start; before = l })
      | inr (inl same) ↦
          let there : value_at c s.until ≤ₑ Fin (icept +ℚ r *ℚ s.until) = subst (λ v. v ≤ₑ Fin (icept +ℚ r *ℚ s.until)) H.at (raised here.at first icept (r *ℚ s.until) (le_trans b d) p) in
          subst (λ y. value_at c y ≤ₑ Fin (icept +ℚ r *ℚ y)) (sym same) there
      | inr (inr l) ↦
          let is = H.line t l (before_next t u here.next i.before O.until) in
          subst (λ v. v ≤ₑ Fin (icept +ℚ r *ℚ t)) (sym is) (under_between here.line icept r s.until t u l i.before (raised (line_value here.line s.until) second icept (r *ℚ s.until) d q) w)
    ]

pub over_on : (c : SpecCurve) (from end r : ℚ) (s : Reached) (here : Stretch) (u first second icept : ℚ) → IsOverUntil c from end r s → s.until <ℚ end → GoesOn (value_at c) s.until here
    → ((n : ℕ) → TimesStand n c → AtNext (Whole n) here.next) → u ≡ earlier_of end here.next → (first ≤ℚ s.icept) × (Fin (first +ℚ r *ℚ s.until) ≤ₑ here.at)
    → (second ≤ℚ first) × (Fin (second +ℚ r *ℚ s.until) ≤ₑ line_value here.line s.until) → (icept ≤ℚ second) × (Fin (icept +ℚ r *ℚ u) ≤ₑ line_value here.line u)
    → IsOverUntil c from end r record { until = u; icept = icept }
over_on c from end r s here u first second icept L before H times e (a, p) (b, q) (d, w) = record { way = O.way; line = line }
  where
    O : Onward c from end s.until u here.next
    O = onward c from end s.until u here.next L.way before H.next times e

    line : IsOver (value_at c) from u r icept
    line t i = elim (lt_cases t s.until) [
      | inl l ↦ sunk (value_at c t) s.icept icept (r *ℚ t) (le_trans d (le_trans b a)) (L.line t record { start = i.start; before = l })
      | inr (inl same) ↦
          let there : Fin (icept +ℚ r *ℚ s.until) ≤ₑ value_at c s.until = subst (λ v. Fin (icept +ℚ r *ℚ s.until) ≤ₑ v) H.at (sunk here.at first icept (r *ℚ s.until) (le_trans d b) p) in
          subst (λ y. Fin (icept +ℚ r *ℚ y) ≤ₑ value_at c y) (sym same) there
      | inr (inr l) ↦
          let is = H.line t l (before_next t u here.next i.before O.until) in
          subst (λ v. Fin (icept +ℚ r *ℚ t) ≤ₑ v) (sym is) (over_between here.line icept r s.until t u l i.before (sunk (line_value here.line s.until) second icept (r *ℚ s.until) d q) w)
    ]

-- ---- before the first step
nothing_in : (from t : ℚ) → InWindow from from t → ⊥
nothing_in from t i = let a = i.start in let b = i.before in with2 from t (λ c. omega (arith, c.le, c.lt, c.same))

pub under_start : (c : SpecCurve) (from end r icept : ℚ) → IsSpan c from end → IsUnderUntil c from end r record { until = from; icept = icept }
under_start c from end r icept S = record { way = way_start c from end S; line = λ t i. absurd (nothing_in from t i) }

pub over_start : (c : SpecCurve) (from end r icept : ℚ) → IsSpan c from end → IsOverUntil c from end r record { until = from; icept = icept }
over_start c from end r icept S = record { way = way_start c from end S; line = λ t i. absurd (nothing_in from t i) }

-- and after the last
pub under_all : (c : SpecCurve) (from end r : ℚ) (s : Reached) → IsUnderUntil c from end r s → end ≤ℚ s.until → IsUnder (value_at c) from end r s.icept
under_all c from end r s L h = λ t i. L.line t record { start = i.start; before = past t end s.until i.before h }
  where
    past : (t e u : ℚ) → t <ℚ e → e ≤ℚ u → t <ℚ u
    past t e u a b = with3 t e u (λ c. omega (arith, c.le, c.lt, c.same))

pub over_all : (c : SpecCurve) (from end r : ℚ) (s : Reached) → IsOverUntil c from end r s → end ≤ℚ s.until → IsOver (value_at c) from end r s.icept
over_all c from end r s L h = λ t i. L.line t record { start = i.start; before = past t end s.until i.before h }
  where
    past : (t e u : ℚ) → t <ℚ e → e ≤ℚ u → t <ℚ u
    past t e u a b = with3 t e u (λ c. omega (arith, c.le, c.lt, c.same))

-- ---- ever after
record Early (f : ℚ → Ext) (from p r t : ℚ) : Type 0 where
  time : ℚ
  gain : ℚ
  among : InWindow from (from +ℚ p) time
  is : f t ≡ f time +ₑ Fin gain
  same : r *ℚ t ≡ r *ℚ time +ℚ gain

early : (f : ℚ → Ext) (from p r a t : ℚ) → int (pos 0) <ℚ p → Repeats f from p a → r *ℚ p ≡ a → from ≤ℚ t → Early f from p r t
early f from p r a t some R e h =
    let B = moved_back f from p a t some R h in
    let y = int (pos B.number) *ℚ p in
    let gain : int (pos B.number) *ℚ a ≡ r *ℚ y = times_rate (int (pos B.number)) r p a e in
    record {
      time = B.early;
      gain = int (pos B.number) *ℚ a;
      among = B.among;
      is = B.is;
      same = ap (λ s. r *ℚ s) (sym B.back) ∙ mul_add r B.early y ∙ ap (λ s. r *ℚ B.early +ℚ s) (sym gain);
    }

under_ever : (f : ℚ → Ext) (from p r a k t : ℚ) → int (pos 0) <ℚ p → Repeats f from p a → r *ℚ p ≡ a → IsUnder f from (from +ℚ p) r k → from ≤ℚ t → f t ≤ₑ Fin (k +ℚ r *ℚ t)
under_ever f from p r a k t some R e U h =
    let E = early f from p r a t some R e h in
    let w : f t ≤ₑ Fin (k +ℚ r *ℚ E.time +ℚ E.gain) = subst (λ v. v ≤ₑ Fin (k +ℚ r *ℚ E.time +ℚ E.gain)) (sym E.is) (add_le_ext (f E.time) (Fin (k +ℚ r *ℚ E.time)) (Fin E.gain) (Fin E.gain) (U E.time E.among) (le_ext_refl (Fin E.gain))) in
    subst (λ v. f t ≤ₑ Fin v) (joined k (r *ℚ E.time) E.gain (r *ℚ t) E.same) w
  where
    joined : (k x g y : ℚ) → y ≡ x +ℚ g → k +ℚ x +ℚ g ≡ k +ℚ y
    joined k x g y e = with4 k x g y (λ c. omega (arith, c.le, c.lt, c.same))

over_ever : (f : ℚ → Ext) (from p r a k t : ℚ) → int (pos 0) <ℚ p → Repeats f from p a → r *ℚ p ≡ a → IsOver f from (from +ℚ p) r k → from ≤ℚ t → Fin (k +ℚ r *ℚ t) ≤ₑ f t
over_ever f from p r a k t some R e U h =
    let E = early f from p r a t some R e h in
    let w : Fin (k +ℚ r *ℚ E.time +ℚ E.gain) ≤ₑ f t = subst (λ v. Fin (k +ℚ r *ℚ E.time +ℚ E.gain) ≤ₑ v) (sym E.is) (add_le_ext (Fin (k +ℚ r *ℚ E.time)) (f E.time) (Fin E.gain) (Fin E.gain) (U E.time E.among) (le_ext_refl (Fin E.gain))) in
    subst (λ v. Fin v ≤ₑ f t) (joined k (r *ℚ E.time) E.gain (r *ℚ t) E.same) w
  where
    joined : (k x g y : ℚ) → y ≡ x +ℚ g → k +ℚ x +ℚ g ≡ k +ℚ y
    joined k x g y e = with4 k x g y (λ c. omega (arith, c.le, c.lt, c.same))

-- ---- the number
lines_apart : (top bottom gained n x v w : ℚ) → top -ℚ bottom -ℚ gained ≤ℚ n → x ≡ w -ℚ v → gained +ℚ n ≤ℚ x → top +ℚ v ≤ℚ bottom +ℚ w
lines_apart top bottom gained n x v w a e b = with_atoms (top ∷ bottom ∷ gained ∷ n ∷ x ∷ v ∷ w ∷ []) (λ c. omega (arith, c.le, c.lt, c.same))

-- where the one line is no higher than the other, so is the slower curve
pub below_there : (z : Sizes) (from d t : ℚ) (slow fast : SpecCurve) (l : Lines) → AreCompared z from d slow fast → AreOwnLines slow fast from d l → from ≤ℚ t
    → l.low.icept +ℚ l.low.slope *ℚ t ≤ℚ l.high.icept +ℚ l.high.slope *ℚ t → value_at slow t ≤ₑ value_at fast t
below_there z from d t slow fast l C L begun apart =
    let F = first_looked z from d slow fast C in
    let G = second_looked z from d slow fast C in
    let A = own_period_is z from d slow F in
    let B = own_period_is z from d fast G in
    let r = l.low.slope in
    let s = l.high.slope in
    let low = under_ever (value_at slow) from (own_or d slow) r (rise_over slow (own_or d slow)) l.low.icept t A.some (own_repeats z from d slow F) (rate_rise slow (own_or d slow) r L.low_rate) L.under begun in
    let high = over_ever (value_at fast) from (own_or d fast) s (rise_over fast (own_or d fast)) l.high.icept t B.some (own_repeats z from d fast G) (rate_rise fast (own_or d fast) s L.high_rate) L.over begun in
    let between : Fin (l.low.icept +ℚ r *ℚ t) ≤ₑ Fin (l.high.icept +ℚ s *ℚ t) = apart in
    le_ext_trans (value_at slow t) (Fin (l.low.icept +ℚ r *ℚ t)) (value_at fast t) low (le_ext_trans (Fin (l.low.icept +ℚ r *ℚ t)) (Fin (l.high.icept +ℚ s *ℚ t)) (value_at fast t) between high)

pub number_enough : (z : Sizes) (from d faster gained lead both gap : ℚ) (slow fast : SpecCurve) (l : Lines) (k : ℕ) → rate slow <ₑ rate fast → AreCompared z from d slow fast → AreOwnLines slow fast from d l
    → faster ≡ l.high.slope -ℚ l.low.slope → gained ≡ faster *ℚ from → lead ≡ faster *ℚ d → both ≡ l.low.icept -ℚ l.high.icept → gap ≡ both -ℚ gained → gap ≤ℚ int (pos k) *ℚ lead
    → IsBelowFor (value_at slow) (value_at fast) (periods_after from k d) d
number_enough z from d faster gained lead both gap slow fast l k less C L ea eg el eb eq bound = λ t late before.
    let r = l.low.slope in
    let s = l.high.slope in
    let top = l.low.icept in
    let bottom = l.high.icept in
    let kd = int (pos k) *ℚ d in
    let nd : int (pos 0) ≤ℚ kd = mul_nonneg (nat_nonneg k) (le_of_lt C.some) in
    let begun : from ≤ℚ t = past from kd t nd late in
    let up : int (pos 0) ≤ℚ faster = rising r s faster ea (rates_order slow fast r s L.low_rate L.high_rate less) in
    let gain : int (pos k) *ℚ lead ≡ faster *ℚ kd = times_rate (int (pos k)) faster d lead (sym el) in
    let whole : faster *ℚ (from +ℚ kd) ≡ gained +ℚ int (pos k) *ℚ lead = mul_add faster from kd ∙ ap₂ (λ (x y : ℚ). x +ℚ y) (sym eg) (sym gain) in
    let far : gained +ℚ int (pos k) *ℚ lead ≤ℚ faster *ℚ t = subst (λ x. x ≤ℚ faster *ℚ t) whole (mul_le_mul faster up late) in
    let same : faster *ℚ t ≡ s *ℚ t -ℚ r *ℚ t = ap (λ x. x *ℚ t) ea ∙ sub_mul s r t in
    let need : top -ℚ bottom -ℚ gained ≤ℚ int (pos k) *ℚ lead = subst (λ x. x ≤ℚ int (pos k) *ℚ lead) (eq ∙ ap (λ x. x -ℚ gained) eb) bound in
    below_there z from d t slow fast l C L begun (lines_apart top bottom gained (int (pos k) *ℚ lead) (faster *ℚ t) (r *ℚ t) (s *ℚ t) need same far)
  where
    past : (from w t : ℚ) → int (pos 0) ≤ℚ w → from +ℚ w ≤ℚ t → from ≤ℚ t
    past from w t a b = with3 from w t (λ c. omega (arith, c.le, c.lt, c.same))

    rising : (r s f : ℚ) → f ≡ s -ℚ r → r ≤ℚ s → int (pos 0) ≤ℚ f
    rising r s f e h = with3 r s f (λ c. omega (arith, c.le, c.lt, c.same))

-- ---- from when on
pub crossed : (l : Lines) (faster gap zero q t : ℚ) → faster ≡ l.high.slope -ℚ l.low.slope → gap ≡ l.low.icept -ℚ l.high.icept → zero ≡ int (pos 0) → zero <ℚ faster → q ≡ gap /ℚ faster → q ≤ℚ t
    → line_at l.low t ≤ℚ line_at l.high t
crossed l faster gap zero q t ea eb ez some eq h =
    let r = l.low.slope in
    let s = l.high.slope in
    let bound : gap ≤ℚ t *ℚ faster = (div_le gap faster t (subst (λ z. z <ℚ faster) ez some)).0 (subst (λ x. x ≤ℚ t) eq h) in
    let same : t *ℚ faster ≡ s *ℚ t -ℚ r *ℚ t = mul_comm t faster ∙ ap (λ x. x *ℚ t) ea ∙ sub_mul s r t in
    over l.low.icept l.high.icept gap (t *ℚ faster) (r *ℚ t) (s *ℚ t) eb bound same
  where
    over : (top bottom gap x v w : ℚ) → gap ≡ top -ℚ bottom → gap ≤ℚ x → x ≡ w -ℚ v → top +ℚ v ≤ℚ bottom +ℚ w
    over top bottom gap x v w e h f = with6 top bottom gap x v w (λ c. omega (arith, c.le, c.lt, c.same))

-- the least number is there, and it is no more
pub high_bounds : (z : Sizes) (from d : ℚ) (slow fast : SpecCurve) (k : ℕ) → rate slow <ₑ rate fast → AreCompared z from d slow fast → IsBelowFor (value_at slow) (value_at fast) (periods_after from k d) d
    → AreBounds (IsBelowAfter slow fast from d) record { low = 0; high = k }
high_bounds z from d slow fast k less C enough =
    let (V, W, T) = compared_window z from d slow fast C.first.curve C.second.curve C in
    let (gap, G) = gap_there z slow fast from (from +ℚ d) V W T in
    by_gap gap G
  where
    bounded : (n : ℕ) → IsLeast (IsBelowAfter slow fast from d) n → AreBounds (IsBelowAfter slow fast from d) record { low = 0; high = k }
    bounded n least = record { number = n; least = least; low = omega arith; high = elim (cases_lt k n) [ inl l ↦ absurd (least.least k l enough) | inr l ↦ l ] }

    by_gap : (gap : Gap) → IsGap (InWindow from (from +ℚ d)) (value_at slow) (value_at fast) gap → AreBounds (IsBelowAfter slow fast from d) record { low = 0; high = k }
    by_gap NoTime G = bounded 0 (least_none z from d slow fast C.first.curve C.second.curve C G)
    by_gap Never G = absurd (least_endless z from d slow fast C.first.curve C.second.curve C G k enough)
    by_gap (Is q) G =
        let finite = largest_finite from (from +ℚ d) q slow fast G in
        let L = lead_is z from d slow fast less C finite.0 finite.1 in
        let (n, least) = least_found q (rise_over fast d -ℚ rise_over slow d) L.some in
        bounded n (least_gap z from d slow fast q n C.first.curve C.second.curve C G least)

-- ---- one division
pub times_is : (gap lead q : ℚ) (m : ℕ) → int (pos 0) <ℚ lead → q ≡ gap /ℚ lead → m ≡ size_up q → gap ≤ℚ int (pos m) *ℚ lead
times_is gap lead q m some e f = (div_le gap lead (int (pos m)) some).0 (subst (λ x. x ≤ℚ int (pos m)) e (subst (λ i. q ≤ℚ int (pos i)) (sym f) (size_up_within q).high))

pub times_none : (gap lead zero : ℚ) → zero ≡ int (pos 0) → gap ≤ℚ zero → gap ≤ℚ int (pos 0) *ℚ lead
times_none gap lead zero e h = let l = zero_mul lead in with4 gap lead zero (int (pos 0) *ℚ lead) (λ c. omega (arith, c.le, c.lt, c.same))

-- ---- the times
own_span : (z : Sizes) (from d own end : ℚ) (c : SpecCurve) → IsLookedAt z from d c → own ≡ own_or d c → end ≡ from +ℚ own → IsSpan c from end
own_span z from d own end c L e f =
    let (W, T) = looked_window z from (own_or d c) c (own_looked z from d c L) in
    subst (IsSpan c from) (sym (f ∙ ap (λ x. from +ℚ x) e)) (z, W, T)

pub slow_span : (z : Sizes) (from d own end : ℚ) (slow fast : SpecCurve) → AreCompared z from d slow fast → own ≡ own_or d slow → end ≡ from +ℚ own → IsSpan slow from end
slow_span z from d own end slow fast C e f = own_span z from d own end slow (first_looked z from d slow fast C) e f

pub fast_span : (z : Sizes) (from d own end : ℚ) (slow fast : SpecCurve) → AreCompared z from d slow fast → own ≡ own_or d fast → end ≡ from +ℚ own → IsSpan fast from end
fast_span z from d own end slow fast C e f = own_span z from d own end fast (second_looked z from d slow fast C) e f
