-- A slower curve that is infinite for a while after 0: its splits are moved by a common period, and those of which the first
-- side is 0 to a late time.
use Rattle.std.specs.Prelude.{◌≡◌, ℕ, suc, pos, Option, Some, None, IfSome}
use Rattle.std.proofs.Common.{arith, sym, subst, inl, inr}
use Rattle.rational.specs.Rational.{ℚ, ◌+ℚ◌, ◌-ℚ◌, ◌*ℚ◌, ◌/ℚ◌, ◌≤ℚ◌, ◌<ℚ◌, int, neg_ℚ}
use Rattle.rational.specs.Grid.{Whole}
use Rattle.rational.specs.Whole.{whole_part}
use Rattle.rational.specs.Extended.{Ext, ◌≤ₑ◌, ◌+ₑ◌}
use Rattle.rational.specs.declared.Extended.TheVariants.{Fin, Inf}
use Rattle.rational.proofs.Linear.{with2, with3, with4, with5, with6}
use Rattle.rational.proofs.Laws.{le_refl, le_trans, le_of_lt, le_or_lt, lt_cases, zero_mul}
use Rattle.rational.proofs.Grid.{whole_add, whole_neg, whole_sub, whole_int}
use Rattle.rational.proofs.ExtendedOrder.{le_ext_trans}
use Rattle.upp_curve.specs.Curve.{SpecCurve, value_at}
use Rattle.upp_curve.specs.Steady.{Repeats, steady, rise_over}
use Rattle.upp_curve.specs.affine_segment.Values.{line_value}
use Rattle.upp_curve.proofs.Steady.{steady_rule}
use Rattle.min_plus.specs.Convolution.{Split}
use Rattle.upp_limits.specs.Windows.{IsLateLeast}
use Rattle.upp_normal.specs.declared.ahead.Stretch.{Stretch}
use Rattle.upp_normal.specs.Ahead.{IsBeforeNext, AtNext, TimesStand, IsTimeIn, GoesOn}
use Rattle.upp_normal.proofs.StretchSizes.{times_stand}
use Rattle.curve_call.specs.Bounds.{own_or}
use Rattle.curve_call.proofs.OwnPeriods.{own_period_is}
use Rattle.curve_conv.specs.Begun.{IsBegun, IsStartMoved, HasLateStart}
use Rattle.curve_conv.specs.Late.{IsLateAfter, IsLateCall}
use Rattle.curve_conv.specs.Rises.{RisesAtMost, HasLater}
use Rattle.curve_conv.specs.Scans.{sizes_in}
use Rattle.curve_conv.proofs.BoundsFound.{fast_looked}
use Rattle.curve_conv.proofs.LateNumbers.{late_times, end_some}
use Rattle.curve_conv.proofs.SoonEnough.{moved_by, enough_moves, later_window}

-- ---- until when a curve is infinite after 0
begun_next : (c : SpecCurve) (o : Option ℚ) → IsBeforeNext (int (pos 0)) o → ((u : ℚ) → int (pos 0) <ℚ u → IsBeforeNext u o → value_at c u ≡ Inf) → ((n : ℕ) → TimesStand n c → AtNext (Whole n) o) → IfSome o (IsBegun c)
begun_next c None a l g = tt
begun_next c (Some e) a l g = record { some = a; grid = g; none = l }

pub begun_is : (c : SpecCurve) (s : Stretch) (zero : ℚ) → zero ≡ int (pos 0) → GoesOn (value_at c) zero s → ((n : ℕ) → TimesStand n c → AtNext (Whole n) s.next) → s.line ≡ None → IfSome s.next (IsBegun c)
begun_is c s zero e G g n =
    let H : GoesOn (value_at c) (int (pos 0)) s = subst (λ t. GoesOn (value_at c) t s) e G in
    begun_next c s.next H.next (λ u h k. subst (λ l. value_at c u ≡ line_value l u) n (H.line u h k)) g

-- ---- the start is moved to v
start_moved : (s l r q : ℚ) (a b : Ext) → a ≤ₑ b +ₑ Fin q → q ≤ℚ r → r ≡ s -ℚ l → Fin l +ₑ a ≤ₑ Fin s +ₑ b
start_moved s l r q a Inf h k e = tt
start_moved s l r q Inf (Fin w) h k e = absurd h
start_moved s l r q (Fin z) (Fin w) h k e = sums s l r q z w h k e
  where
    sums : (s l r q z w : ℚ) → z ≤ℚ w +ℚ q → q ≤ℚ r → r ≡ s -ℚ l → l +ℚ z ≤ℚ s +ℚ w
    sums s l r q z w h k e = with6 s l r q z w (λ c. omega (arith, c.le, c.lt, c.same))

pub starts_moved : (f g : ℚ → Ext) (zero v w from end s l r q : ℚ) → zero ≡ int (pos 0) → w ≡ neg_ℚ v → f zero ≡ Fin s → f v ≡ Fin l → r ≡ s -ℚ l → RisesAtMost g w from end q → q ≤ℚ r → IsStartMoved f g v from end
unfolding ◌-ℚ◌ ◌+ℚ◌
starts_moved f g zero v w from end s l r q ez ew es el er R gain = λ t i.
    let first : f (int (pos 0)) ≡ Fin s = subst (λ x. f x ≡ Fin s) ez es in
    let rises : g (t -ℚ v) ≤ₑ g t +ₑ Fin q = subst (λ x. g (t +ℚ x) ≤ₑ g t +ₑ Fin q) ew (R t i) in
    subst (λ a. a +ₑ g (t -ℚ v) ≤ₑ f (int (pos 0)) +ₑ g t) (sym el)
    (subst (λ b. Fin l +ₑ g (t -ℚ v) ≤ₑ b +ₑ g t) (sym first) (start_moved s l r q (g (t -ℚ v)) (g t) rises gain er))

-- ---- all splits
pub begun_at_once : (f g : ℚ → Ext) (o x y d b q t v : ℚ) → int (pos 0) ≤ℚ x → int (pos 0) ≤ℚ y → int (pos 0) <ℚ d → ((r : ℚ) → int (pos 0) <ℚ r → r <ℚ o → f r ≡ Inf) → Repeats g y d b → RisesAtMost f d o x q → q ≤ℚ b
    → x +ℚ y +ℚ d ≤ℚ t → x ≤ℚ v → v ≤ℚ t → f v +ₑ g (t -ℚ v) ≤ₑ f (int (pos 0)) +ₑ g t → IsLateLeast f g x y t
begun_at_once f g o x y d b q t v nx ny some none G R gain far late soon moved = λ β below i early after. elim (lt_cases (int (pos 0)) i.first) [
  | inl past ↦ elim (le_or_lt o i.first) [
    | inl begun ↦
        let n = suc (whole_part (x /ℚ d)) in
        moved_by f g o x y d b q t ny some G R gain far β below n i begun (over x i.first (int (pos n) *ℚ d) i.first_nonneg (enough_moves x d some))
    | inr before ↦ subst (λ z. Fin β ≤ₑ z +ₑ g i.second) (sym (none i.first past before)) tt
  ]
  | inr (inl e) ↦
      let split : Split t = record { first = v; second = t -ℚ v; first_nonneg = le_trans nx late; second_nonneg = left v t soon; whole = same v t } in
      let least : Fin β ≤ₑ f (int (pos 0)) +ₑ g t = le_ext_trans (Fin β) (f v +ₑ g (t -ℚ v)) (f (int (pos 0)) +ₑ g t) (below split late) moved in
      subst (λ r. Fin β ≤ₑ f r +ₑ g i.second) e (subst (λ r. Fin β ≤ₑ f (int (pos 0)) +ₑ g r) (rest i.first i.second t e i.whole) least)
  | inr (inr l) ↦ absurd (never i.first i.first_nonneg l)
]
  where
    over : (x i w : ℚ) → int (pos 0) ≤ℚ i → x ≤ℚ w → x ≤ℚ i +ℚ w
    over x i w a b = with3 x i w (λ c. omega (arith, c.le, c.lt, c.same))

    left : (v t : ℚ) → v ≤ℚ t → int (pos 0) ≤ℚ t -ℚ v
    left v t h = with2 v t (λ c. omega (arith, c.le, c.lt, c.same))

    same : (v t : ℚ) → v +ℚ (t -ℚ v) ≡ t
    same v t = with2 v t (λ c. omega (arith, c.le, c.lt, c.same))

    rest : (i j t : ℚ) → int (pos 0) ≡ i → i +ℚ j ≡ t → t ≡ j
    rest i j t e w = with3 i j t (λ c. omega (arith, c.le, c.lt, c.same))

    never : (i : ℚ) → int (pos 0) ≤ℚ i → i <ℚ int (pos 0) → ⊥
    never i a b = with2 i i (λ c. omega (arith, c.le, c.lt, c.same))

-- ---- over curves
pub begun_enough : (slow fast : SpecCurve) (from d end begin first q rise : ℚ) → IsLateCall slow fast from d end → first ≡ steady slow → rise ≡ rise_over fast d → IsBegun slow begin → RisesAtMost (value_at slow) d begin first q
    → q ≤ℚ rise → HasLateStart (value_at slow) (value_at fast) first from end → IsLateAfter slow fast from d 0
begun_enough slow fast from d end begin first q rise C ef er B R gain S = λ t h l.
    let W = late_times slow fast from d end C in
    let late : from ≤ℚ t = begun from (int (pos 0) *ℚ d) t (zero_mul d) h in
    let before : t <ℚ end = over from (int (pos 0) *ℚ d) d t end (zero_mul d) C.end_is l in
    begun_at_once (value_at slow) (value_at fast) begin (steady slow) (steady fast) d (rise_over fast d) q t S.time W.first.nonneg W.second.nonneg C.some B.none
    (steady_rule fast d C.scan.second.curve.normal.raw C.second (le_of_lt C.some)) (subst (λ x. RisesAtMost (value_at slow) d begin x q) ef R) (subst (λ x. q ≤ℚ x) er gain)
    (subst (λ x. x ≤ℚ t) C.from_is late) (subst (λ x. x ≤ℚ S.time) ef S.late) (le_trans S.soon late) (S.moved t record { start = late; before = before })
  where
    begun : (from v t : ℚ) → v ≡ int (pos 0) → from +ℚ v ≤ℚ t → from ≤ℚ t
    begun from v t e h = with3 from v t (λ c. omega (arith, c.le, c.lt, c.same))

    over : (from v d t end : ℚ) → v ≡ int (pos 0) → end ≡ from +ℚ d → t <ℚ from +ℚ v +ℚ d → t <ℚ end
    over from v d t end e f h = with5 from v d t end (λ c. omega (arith, c.le, c.lt, c.same))

-- ---- the windows
pub start_time : (slow fast : SpecCurve) (from d end zero : ℚ) → IsLateCall slow fast from d end → zero ≡ int (pos 0) → IsTimeIn (sizes_in slow fast end) end zero
start_time slow fast from d end zero C e =
    subst (IsTimeIn (sizes_in slow fast end) end) (sym e)
    record { whole = whole_int (sizes_in slow fast end).dt (pos 0); nonneg = le_refl (int (pos 0)); before = end_some slow fast from d end C }

pub late_time : (slow fast : SpecCurve) (from d end v : ℚ) → IsLateCall slow fast from d end → Whole (sizes_in slow fast end).dt v → int (pos 0) ≤ℚ v → v ≤ℚ from → IsTimeIn (sizes_in slow fast end) end v
late_time slow fast from d end v C w some soon = record { whole = w; nonneg = some; before = before from d end v C.end_is C.some soon }
  where
    before : (from d end v : ℚ) → end ≡ from +ℚ d → int (pos 0) <ℚ d → v ≤ℚ from → v <ℚ end
    before from d end v e a b = with4 from d end v (λ c. omega (arith, c.le, c.lt, c.same))

pub begun_window : (slow fast : SpecCurve) (from d end begin x : ℚ) → IsLateCall slow fast from d end → x ≡ steady slow → IsBegun slow begin → HasLater slow begin x d
begun_window slow fast from d end begin x C e B =
    let z = sizes_in slow fast end in
    later_window slow fast from d end begin x d C e C.some (le_refl d) (B.grid z.dt (times_stand z end slow C.scan.first.curve C.scan.first)) (le_of_lt B.some) C.whole

pub start_window : (slow fast : SpecCurve) (from d end v w : ℚ) → IsLateCall slow fast from d end → Whole (sizes_in slow fast end).dt v → int (pos 0) ≤ℚ v → v ≤ℚ from → w ≡ neg_ℚ v → HasLater fast from end w
unfolding ◌-ℚ◌ ◌+ℚ◌
start_window slow fast from d end v w C whole some soon e =
    let z = sizes_in slow fast end in
    let W = late_times slow fast from d end C in (
      z,
      end,
      record {
        window = C.scan.second;
        start = W.from_in.whole;
        stop = subst (Whole z.dt) (sym C.end_is) (whole_add z.dt from d W.from_in.whole C.whole);
        period = subst (Whole z.dt) (sym e) (whole_neg z.dt v whole);
        nonneg = W.from_in.nonneg;
        later = subst (λ x. int (pos 0) ≤ℚ from +ℚ x) (sym e) (back from v soon);
        soon = le_refl end;
        early = subst (λ x. end +ℚ x ≤ℚ end) (sym e) (less end v some);
      },
    )
  where
    back : (from v : ℚ) → v ≤ℚ from → int (pos 0) ≤ℚ from -ℚ v
    back from v h = with2 from v (λ c. omega (arith, c.le, c.lt, c.same))

    less : (end v : ℚ) → int (pos 0) ≤ℚ v → end -ℚ v ≤ℚ end
    less end v h = with2 end v (λ c. omega (arith, c.le, c.lt, c.same))

-- ---- the late times that are tried
pub record IsTried (slow fast : SpecCurve) (from end v : ℚ) : Type 0 where
  pub whole : Whole (sizes_in slow fast end).dt v
  pub soon : v ≤ℚ from

pub first_tried : (slow fast : SpecCurve) (from d end : ℚ) → IsLateCall slow fast from d end → IsTried slow fast from end from
first_tried slow fast from d end C = record { whole = (late_times slow fast from d end C).from_in.whole; soon = le_refl from }

pub next_tried : (slow fast : SpecCurve) (from d end own v w : ℚ) → IsLateCall slow fast from d end → own ≡ own_or d fast → w ≡ v -ℚ own → IsTried slow fast from end v → IsTried slow fast from end w
next_tried slow fast from d end own v w C eo ew T =
    let z = sizes_in slow fast end in
    let P = own_period_is z (steady fast) d fast (fast_looked slow fast from d end C) in
    let some : int (pos 0) <ℚ own = subst (λ x. int (pos 0) <ℚ x) (sym eo) P.some in
    let whole : Whole z.dt own = subst (Whole z.dt) (sym eo) P.whole in
    record { whole = subst (Whole z.dt) (sym ew) (whole_sub z.dt v own T.whole whole); soon = less from v own w ew some T.soon }
  where
    less : (from v own w : ℚ) → w ≡ v -ℚ own → int (pos 0) <ℚ own → v ≤ℚ from → w ≤ℚ from
    less from v own w e a b = with4 from v own w (λ c. omega (arith, c.le, c.lt, c.same))
