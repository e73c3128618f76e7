-- Where the slower of two curves is subadditive, the faster one at most 0 at 0, and the slower one from a time on nowhere
-- above the faster, a split of which the faster one's side is that late makes nothing less than the slower curve alone: so
-- the convolution is the part in which the slower one repeats, and repeats with it.
use Rattle.std.specs.Prelude.{◌≡◌, ◌⊎◌, ℕ, pos, Bool, true, false, [], ◌∷◌, Option, IfSome, IsTrue}
use Rattle.std.proofs.Common.{arith, ap, ◌∙◌, sym, subst, inl, inr}
use Rattle.rational.specs.Rational.{ℚ, ◌+ℚ◌, ◌-ℚ◌, ◌*ℚ◌, ◌≤ℚ◌, ◌<ℚ◌, int}
use Rattle.rational.specs.Grid.{Whole, Within}
use Rattle.rational.specs.Extended.{Ext, ◌≤ₑ◌, ◌<ₑ◌, ◌+ₑ◌}
use Rattle.rational.specs.declared.Extended.TheVariants.{Fin}
use Rattle.rational.proofs.Bounds.{infimum_shift}
use Rattle.rational.proofs.ExtendedOrder.{add_ext_assoc, add_ext_comm, add_le_ext, add_zero_ext, same_le_ext}
use Rattle.rational.proofs.ExtendedOrder.{le_ext_refl, le_ext_trans, lt_ext_irrefl, lt_ext_trans}
use Rattle.rational.proofs.Grid.{whole_add, whole_sub, whole_times, within_weaken}
use Rattle.rational.proofs.Integers.{nat_nonneg}
use Rattle.rational.proofs.Laws.{add_zero, le_of_lt, le_or_lt, le_refl, le_trans, mul_nonneg, sub_add, zero_mul}
use Rattle.rational.proofs.Linear.{with2, with3, with4, with5, with6, with_atoms}
use Rattle.min_plus.specs.Convolution.{IsConvolution, IsSubadditive, Split}
use Rattle.min_plus.specs.Functions.{zero_q}
use Rattle.min_plus.specs.closure_laws.Star.{nat_times}
use Rattle.upp_curve.specs.Curve.{SpecCurve, value_at}
use Rattle.upp_curve.specs.Steady.{Repeats, rate, rise_over, steady}
use Rattle.upp_curve.proofs.Steady.{steady_rule}
use Rattle.upp_curve.proofs.SteadyTimes.{steady_nonneg}
use Rattle.upp_limits.specs.Limits.{Sizes, curve_numbers}
use Rattle.upp_limits.specs.Periods.{periods_after}
use Rattle.upp_limits.specs.Sized.{Stands, grid_of, times_largest}
use Rattle.upp_limits.specs.Windows.{IsBelowFor, IsLateLeast}
use Rattle.upp_normal.specs.Ahead.{HasWindow, IsTimeIn}
use Rattle.upp_normal.specs.Operand.{AreLimited}
use Rattle.upp_normal.proofs.AnswerRoom.{more_largest, wide_narrow}
use Rattle.curve_call.specs.declared.bounds.Bounds.{Bounds}
use Rattle.curve_call.specs.Bounds.{own_or}
use Rattle.curve_call.specs.Compared.{AreCompared, RepeatsIn}
use Rattle.curve_call.specs.Ever.{IsBelowFrom, RepeatsBy}
use Rattle.curve_call.specs.Times.{OneLaterFits}
use Rattle.curve_call.proofs.CurveRises.{IsRise, rise_is}
use Rattle.curve_call.proofs.CurveTimes.{one_later, steady_whole}
use Rattle.curve_call.proofs.EverAfter.{ever_after}
use Rattle.curve_call.proofs.LeastNumber.{compared_window}
use Rattle.curve_call.proofs.OwnPeriods.{OwnPeriod, first_looked, own_period_is}
use Rattle.curve_conv.specs.Late.{IsLateAfter, IsLateCall}
use Rattle.curve_conv.specs.LateBounds.{IsLateBounds}
use Rattle.curve_conv.specs.Scans.{sizes_in}
use Rattle.curve_conv.proofs.FoundGaps.{number_found}
use Rattle.curve_conv.proofs.LateNumbers.{late_times}
use Rattle.subadd_closure.specs.Ordered.{AreOrdered, IsBelowIn, IsOrdered, IsOrderTime, IsRepetition, IsTimeBy}
use Rattle.subadd_closure.specs.Thinned.{MayThin}

-- ---- functions
-- all of a time on the first side
abbrev alone : (t : ℚ) → zero_q ≤ℚ t → Split t
alone t n = record { first = t; second = zero_q; first_nonneg = n; second_nonneg = le_refl zero_q; whole = add_zero t }

module _ (slow fast : ℚ → Ext) (u : ℚ) (O : AreOrdered slow fast u) where
  alone_most : (t : ℚ) → slow t +ₑ fast zero_q ≤ₑ slow t
  alone_most t =
      le_ext_trans (slow t +ₑ fast zero_q) (slow t +ₑ Fin zero_q) (slow t)
      (add_le_ext (slow t) (slow t) (fast zero_q) (Fin zero_q) (le_ext_refl (slow t)) O.none) (same_le_ext (add_zero_ext (slow t)))

  -- where the second side is u or later, the slower one alone is no more
  late_more : (t : ℚ) (s : Split t) → u ≤ℚ s.second → slow t ≤ₑ slow s.first +ₑ fast s.second
  late_more t s late =
      let i = s.first in
      let j = s.second in
      subst (λ v. slow v ≤ₑ slow i +ₑ fast j) s.whole
      (le_ext_trans (slow (i +ℚ j)) (slow i +ₑ slow j) (slow i +ₑ fast j) (O.subadditive i j s.first_nonneg s.second_nonneg)
      (add_le_ext (slow i) (slow i) (slow j) (fast j) (le_ext_refl (slow i)) (O.below j late)))

  -- `slow` repeats from x on
  pub late_by_order : (x y t : ℚ) → zero_q ≤ℚ x → zero_q ≤ℚ u → x +ℚ u ≤ℚ t → IsLateLeast slow fast x y t
  late_by_order x y t low from far = λ b sums s early after.
      let i = s.first in
      let j = s.second in
      let is = s.whole in
      let late : x ≤ℚ t = with3 x u t (λ c. omega (arith, c.le, c.lt, c.same)) in
      le_ext_trans (Fin b) (slow t) (slow i +ₑ fast j)
      (le_ext_trans (Fin b) (slow t +ₑ fast zero_q) (slow t) (sums (alone t (le_trans low late)) late) (alone_most t))
      (late_more t s (with5 x u t i j (λ c. omega (arith, c.le, c.lt, c.same))))

  -- ---- a period later
  risen : (a b : Ext) (c : ℚ) → (a +ₑ Fin c) +ₑ b ≡ (a +ₑ b) +ₑ Fin c
  risen a b c = add_ext_assoc a (Fin c) b ∙ ap (λ z. a +ₑ z) (add_ext_comm (Fin c) b) ∙ sym (add_ext_assoc a b (Fin c))

  module _ (x p rise t : ℚ) (R : Repeats slow x p rise) (some : zero_q ≤ℚ p) (low : zero_q ≤ℚ x) (from : zero_q ≤ℚ u) (far : x +ℚ u ≤ℚ t) where
    late_t : x ≤ℚ t
    late_t = with3 x u t (λ c. omega (arith, c.le, c.lt, c.same))

    one_down : (i : Split t) → (j : Split (t +ℚ p)) × (slow j.first +ₑ fast j.second ≤ₑ (slow i.first +ₑ fast i.second) +ₑ Fin rise)
    one_down i =
        let s = i.first in
        let v = i.second in
        let e = i.whole in
        let n = i.first_nonneg in
        elim (le_or_lt x s) [
          | inl h ↦ (
            record {
              first = s +ℚ p;
              second = v;
              first_nonneg = with2 s p (λ c. omega (arith, c.le, c.lt, c.same));
              second_nonneg = i.second_nonneg;
              whole = with4 s v t p (λ c. omega (arith, c.le, c.lt, c.same));
            },
            same_le_ext (ap (λ y. y +ₑ fast v) (R.rule s h) ∙ risen (slow s) (fast v) rise),
          )
          | inr h ↦ (
            alone (t +ℚ p) (with4 x u t p (λ c. omega (arith, c.le, c.lt, c.same))),
            le_ext_trans (slow (t +ℚ p) +ₑ fast zero_q) (slow (t +ℚ p)) ((slow s +ₑ fast v) +ₑ Fin rise) (alone_most (t +ℚ p))
                (subst (λ y. y ≤ₑ (slow s +ₑ fast v) +ₑ Fin rise) (sym (R.rule t late_t))
                (add_le_ext (slow t) (slow s +ₑ fast v) (Fin rise) (Fin rise)
                (late_more t i (with5 x u t s v (λ c. omega (arith, c.le, c.lt, c.same)))) (le_ext_refl (Fin rise)))),
          )
        ]

    one_up : (j : Split (t +ℚ p)) → (i : Split t) × ((slow i.first +ₑ fast i.second) +ₑ Fin rise ≤ₑ slow j.first +ₑ fast j.second)
    one_up j =
        let s = j.first in
        let v = j.second in
        let e = j.whole in
        elim (le_or_lt (x +ℚ p) s) [
          | inl h ↦
              let back : x ≤ℚ s -ℚ p = with3 x p s (λ c. omega (arith, c.le, c.lt, c.same)) in
              let same : slow s ≡ slow (s -ℚ p) +ₑ Fin rise = ap slow (sym (sub_add s p)) ∙ R.rule (s -ℚ p) back in (
                record {
                  first = s -ℚ p;
                  second = v;
                  first_nonneg = le_trans low back;
                  second_nonneg = j.second_nonneg;
                  whole = with4 s v t p (λ c. omega (arith, c.le, c.lt, c.same));
                },
                same_le_ext (sym (risen (slow (s -ℚ p)) (fast v) rise) ∙ ap (λ y. y +ₑ fast v) (sym same)),
              )
          | inr h ↦ (
            alone t (le_trans low late_t),
            le_ext_trans ((slow t +ₑ fast zero_q) +ₑ Fin rise) (slow t +ₑ Fin rise) (slow s +ₑ fast v)
                (add_le_ext (slow t +ₑ fast zero_q) (slow t) (Fin rise) (Fin rise) (alone_most t) (le_ext_refl (Fin rise)))
                (subst (λ y. y ≤ₑ slow s +ₑ fast v) (R.rule t late_t) (late_more (t +ℚ p) j (with6 x u t s v p (λ c. omega (arith, c.le, c.lt, c.same))))),
          )
        ]

    pub order_moves : (v : Ext) → IsConvolution slow fast t v → IsConvolution slow fast (t +ℚ p) (v +ₑ Fin rise)
    order_moves v h =
        infimum_shift {I = Split t} {J = Split (t +ℚ p)} (λ s. slow s.first +ₑ fast s.second) (λ s. slow s.first +ₑ fast s.second) rise v one_down one_up h

-- ---- times
-- so many periods before
pub time_before : (from own past t : ℚ) (n : ℕ) → zero_q <ℚ own → past ≡ nat_times n own → t ≡ from -ℚ past → zero_q ≤ℚ t → IsTimeBy from own t
time_before from own past t n some e k low =
    let run : zero_q ≤ℚ past = subst (λ y. zero_q ≤ℚ y) (sym e) (mul_nonneg (nat_nonneg n) (le_of_lt some)) in
    record {
      nonneg = low;
      most = with3 from past t (λ c. omega (arith, c.le, c.lt, c.same));
      on = λ d F P. subst (Whole d) (sym k) (whole_sub d from past F (subst (Whole d) (sym e) (whole_times d (pos n) own P)));
    }

pub time_in : (z : Sizes) (end from own t : ℚ) → IsTimeIn z end from → Whole z.dt own → IsTimeBy from own t → IsTimeIn z end t
time_in z end from own t T on B =
    let before = T.before in
    let most = B.most in
    record { whole = B.on z.dt T.whole on; nonneg = B.nonneg; before = with3 from end t (λ c. omega (arith, c.le, c.lt, c.same)) }

pub first_time : (from own : ℚ) → zero_q ≤ℚ from → IsTimeBy from own from
first_time from own low = record { nonneg = low; most = le_refl from; on = λ d F P. F }

-- ---- curves that are compared
module _ (slow fast : SpecCurve) (z : Sizes) (from d : ℚ) (C : AreCompared z from d slow fast) where
  pub own_is : OwnPeriod z d (own_or d slow) slow.tail
  own_is = own_period_is z from d slow (first_looked z from d slow fast C)

  pub window_to : (end : ℚ) → end ≡ from +ℚ d → HasWindow z end slow × HasWindow z end fast × IsTimeIn z end from
  window_to end e =
      subst (λ y. HasWindow z y slow × HasWindow z y fast × IsTimeIn z y from) (sym e)
      (compared_window z from d slow fast C.first.curve C.second.curve C)

  steady_early : (y : ℚ) → y ≤ℚ d → steady slow +ℚ y ≤ℚ from +ℚ d
  steady_early y l =
      let by = C.first.steady_by in
      let x = steady slow in
      with4 x y from d (λ c. omega (arith, c.le, c.lt, c.same))

  pub begin_fits : OneLaterFits slow
  begin_fits =
      let some = C.some in
      let by = C.first.steady_by in
      let x = steady slow in
      one_later z (from +ℚ d) slow C.limited.sizes (wide_narrow z (from +ℚ d) C.limited) C.first.curve C.first.stands
      (with3 x from d (λ c. omega (arith, c.le, c.lt, c.same)))

  pub own_rise : IsRise z slow (own_or d slow)
  own_rise =
      let P = own_is in
      rise_is z (from +ℚ d) slow (own_or d slow) C.limited C.first.curve C.first.stands P.periods P.whole P.some (steady_early (own_or d slow) P.high)

  -- from when on the slower one is nowhere above for a window that ends a period after both repeat, it is so ever after
  pub ordered : (end u : ℚ) → rate slow <ₑ rate fast → end ≡ from +ℚ d → IsBelowIn (value_at slow) (value_at fast) from end
      → IsOrderTime slow fast from (own_or d slow) end u → IsOrdered slow fast from (own_or d slow) u
  ordered end u slower e late T =
      let by = λ (c : SpecCurve) (R : RepeatsIn z from d c). (let r : RepeatsBy from d c = record {
        curve = R.curve;
        steady_by = R.steady_by;
        periods = R.periods;
      } in r) in
      let none : periods_after from 0 d ≡ from = ap (λ y. from +ℚ y) (zero_mul d) ∙ add_zero from in
      let for_one : IsBelowFor (value_at slow) (value_at fast) from d = λ t a b. late t record { start = a; before = subst (λ y. t <ℚ y) (sym e) b } in
      let E = ever_after slow fast from d 0 C.some (by slow C.first) (by fast C.second)
      record {
        first = λ s. subst (λ y. IsBelowFor (value_at slow) (value_at fast) y d) (sym none) for_one;
        second = λ s. absurd (lt_ext_irrefl (rate slow) (lt_ext_trans (rate slow) (rate fast) (rate slow) slower s));
      } in
      let ever : IsBelowFrom (value_at slow) (value_at fast) from = subst (IsBelowFrom (value_at slow) (value_at fast)) none (E.first slower) in
      let some = C.some in
      record {
        time = T.time;
        below = λ t h. elim (le_or_lt from t) [
          | inl l ↦ ever t l
          | inr l ↦ T.below t record { start = h; before = with4 t from d end (λ c. omega (arith, c.le, c.lt, c.same)) }
        ];
      }

  -- ---- when their convolution repeats
  pub repeats_early : (u first own last rise end : ℚ) → IsSubadditive (value_at slow) → value_at fast zero_q ≤ₑ Fin zero_q
      → IsOrdered slow fast from (own_or d slow) u → own ≡ own_or d slow → first ≡ steady slow +ℚ u → last ≡ first +ℚ own → rise ≡ rise_over slow own → last ≤ℚ end
      → IsRepetition slow fast z end record { from = first; period = own; end = last; rise = rise }
  repeats_early u first own last rise end rule none T eo ef el er early =
      let P = own_is in
      let V = own_rise in
      let p = own_or d slow in
      let x = steady slow in
      let low = steady_nonneg slow C.first.curve in
      let at : zero_q ≤ℚ u = T.time.nonneg in
      let whole : Whole z.dt own = subst (Whole z.dt) (sym eo) P.whole in
      let O : AreOrdered (value_at slow) (value_at fast) u = record { subadditive = rule; none = none; below = T.below } in
      let R : Repeats (value_at slow) x own rise = record {
        rule = subst (λ q. (t : ℚ) → x ≤ℚ t → value_at slow (t +ℚ own) ≡ value_at slow t +ₑ Fin q) (sym er)
            (subst (λ q. (t : ℚ) → x ≤ℚ t → value_at slow (t +ℚ q) ≡ value_at slow t +ₑ Fin (rise_over slow q)) (sym eo)
            (steady_rule slow p C.first.curve.normal.raw P.periods (le_of_lt P.some)).rule);
      } in
      let is : rise ≡ rise_over slow p = er ∙ ap (rise_over slow) eo in
      let some : zero_q <ℚ own = subst (λ q. zero_q <ℚ q) (sym eo) P.some in
      record {
        nonneg = with3 first x u (λ c. omega (arith, c.le, c.lt, c.same));
        some = some;
        ends = el;
        early = early;
        time = subst (Whole z.dt) (sym ef) (whole_add z.dt x u (steady_whole z (from +ℚ d) slow C.first.stands) (T.time.on z.dt C.start P.whole));
        whole = whole;
        value = subst (Whole (grid_of z)) (sym is) V.whole;
        within = subst (Within (times_largest 8 z)) (sym is) (within_weaken (times_largest 3 z) (times_largest 8 z) (rise_over slow p)
            (more_largest z 3 8 (omega arith)) V.within);
        moves = λ t v l c. order_moves (value_at slow) (value_at fast) u O x own rise t R (le_of_lt some) low at (subst (λ q. q ≤ℚ t) ef l) v c;
      }

-- ---- the number of periods
module _ (slow fast : SpecCurve) (from d end : ℚ) (C : IsLateCall slow fast from d end) where
  pub late_compared : AreCompared (sizes_in slow fast end) from d slow fast
  late_compared =
      let z = sizes_in slow fast end in
      let T = late_times slow fast from d end C in
      let V = C.scan.first in
      let W = C.scan.second in
      let x = steady slow in
      let y = steady fast in
      let nx = T.first.nonneg in
      let ny = T.second.nonneg in
      let some = C.some in
      let is = C.from_is in
      record {
        limited = subst (AreLimited z) C.end_is V.limited;
        start = T.from_in.whole;
        some = some;
        first = record {
          curve = V.curve;
          stands = subst (λ e. Stands z (curve_numbers e slow)) C.end_is V.stands;
          steady_by = with4 x y d from (λ c. omega (arith, c.le, c.lt, c.same));
          periods = C.first;
        };
        second = record {
          curve = W.curve;
          stands = subst (λ e. Stands z (curve_numbers e fast)) C.end_is W.stands;
          steady_by = with4 x y d from (λ c. omega (arith, c.le, c.lt, c.same));
          periods = C.second;
        };
      }

  pub bounds_ordered : (u x late gap : ℚ) (high : ℕ) → IsSubadditive (value_at slow) → value_at fast zero_q ≤ₑ Fin zero_q
      → IsOrdered slow fast from (own_or d slow) u → x ≡ steady slow → late ≡ x +ℚ u → gap ≡ late -ℚ from → gap ≤ℚ int (pos high) *ℚ d
      → IsLateBounds slow fast from d record { low = 0; high = high }
  bounds_ordered u x late gap high rule none T ex el eg most =
      let O : AreOrdered (value_at slow) (value_at fast) u = record { subadditive = rule; none = none; below = T.below } in
      let K = int (pos high) *ℚ d in
      let s = steady slow in
      let after : IsLateAfter slow fast from d high =
      λ t h less.
      late_by_order (value_at slow) (value_at fast) u O s (steady fast) t (late_times slow fast from d end C).first.nonneg T.time.nonneg
      (far x s u late gap K t ex el eg most h) in
      let N = number_found slow fast from d end high C after in
      record { number = N.number; is = N.is; low = omega arith; high = N.most; late = N.late }
    where
      far : (x s u late gap K t : ℚ) → x ≡ s → late ≡ x +ℚ u → gap ≡ late -ℚ from → gap ≤ℚ K → from +ℚ K ≤ℚ t → s +ℚ u ≤ℚ t
      far x s u late gap K t a b c m h = with_atoms (x ∷ s ∷ u ∷ late ∷ gap ∷ K ∷ t ∷ from ∷ []) (λ e. omega (arith, e.le, e.lt, e.same))

-- ---- where elements may be left out
pub thin_first : (b : Bool) (f g : SpecCurve) → MayThin b f g → IsTrue b → IsSubadditive (value_at f)
thin_first true f g h told = h.subadditive
thin_first false f g h told = absurd cc

pub thin_second : (b : Bool) (f g : SpecCurve) → MayThin b f g → IsTrue b → IsSubadditive (value_at g)
thin_second true f g h told = h.second
thin_second false f g h told = absurd cc

-- ---- one of two bounds
bounds_in : (P : Bounds → Type 0) (r o : Option Bounds) → r ≡ o → IfSome o P → IfSome r P
bounds_in P r o is h = subst (λ z. IfSome z P) (sym is) h

pub either_bounds : (P : Bounds → Type 0) (r a b : Option Bounds) → (r ≡ a) ⊎ (r ≡ b) → IfSome a P → IfSome b P → IfSome r P
either_bounds P r a b (inl is) h k = bounds_in P r a is h
either_bounds P r a b (inr is) h k = bounds_in P r b is k
