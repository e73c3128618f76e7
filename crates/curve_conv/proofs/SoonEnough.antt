-- How many periods are enough for the part of a convolution in which the slower curve repeats to have the least sums, by
-- how much more the slower one is a period later: a split of which the first side is before it repeats is moved by periods.
use Rattle.std.specs.Prelude.{◌≡◌, ℕ, zero, suc, ◌+◌, pos, [], ◌∷◌, Option, Some, None, IfSome}
use Rattle.std.proofs.Common.{arith, sym, ap, ◌∙◌, subst, inl, inr}
use Rattle.rational.specs.Rational.{ℚ, ◌+ℚ◌, ◌-ℚ◌, ◌*ℚ◌, ◌/ℚ◌, ◌≤ℚ◌, ◌<ℚ◌, int}
use Rattle.rational.specs.Grid.{Whole}
use Rattle.rational.specs.Whole.{whole_part}
use Rattle.rational.specs.Extended.{Ext, ◌≤ₑ◌, ◌+ₑ◌}
use Rattle.rational.specs.declared.Extended.TheVariants.{Fin, Inf}
use Rattle.rational.proofs.Linear.{with_atoms, with2, with3, with4, with5, with6, with7}
use Rattle.rational.proofs.Laws.{le_refl, le_trans, le_of_lt, le_or_lt, mul_sub, mul_nonneg, zero_mul}
use Rattle.rational.proofs.Integers.{nat_nonneg}
use Rattle.rational.proofs.Quotients.{div_le}
use Rattle.rational.proofs.Grid.{whole_int}
use Rattle.rational.proofs.Whole.{whole_gt, one_more_times}
use Rattle.rational.proofs.ExtendedOrder.{le_ext_trans, add_le_ext, le_ext_refl}
use Rattle.upp_curve.specs.Curve.{SpecCurve, value_at}
use Rattle.upp_curve.specs.Steady.{Repeats, steady, rise_over}
use Rattle.upp_curve.proofs.Steady.{steady_rule}
use Rattle.min_plus.specs.Convolution.{Split}
use Rattle.upp_limits.specs.Windows.{IsLateLeast}
use Rattle.curve_call.proofs.Shifts.{later_value}
use Rattle.plain_operators.proofs.pointwise.LatticeCalls.{more_periods}
use Rattle.curve_conv.specs.Late.{IsLateAfter, IsLateCall}
use Rattle.curve_conv.specs.Rises.{RisesAtMost, HasLater}
use Rattle.curve_conv.specs.Scans.{sizes_in}
use Rattle.curve_conv.proofs.LateNumbers.{late_times}

-- ---- over functions
-- b is at most what the moved split makes; z and w are what both sides of the split make, the second so much earlier
at_most : (β q na a ma mb z w : ℚ) → β ≤ℚ z +ℚ q +ℚ na +ℚ w → q -ℚ a ≤ℚ mb -ℚ ma → ma ≡ na +ℚ a → β ≤ℚ z +ℚ (w +ℚ mb)
at_most β q na a ma mb z w h i e = with_atoms (β ∷ q ∷ na ∷ a ∷ ma ∷ mb ∷ z ∷ w ∷ []) (λ c. omega (arith, c.le, c.lt, c.same))

moved_least : (β q na a ma mb : ℚ) (f g : Ext) → Fin β ≤ₑ f +ₑ Fin q +ₑ Fin na +ₑ g → q -ℚ a ≤ℚ mb -ℚ ma → ma ≡ na +ℚ a → Fin β ≤ₑ f +ₑ (g +ₑ Fin mb)
moved_least β q na a ma mb Inf g h i e = tt
moved_least β q na a ma mb (Fin z) Inf h i e = tt
moved_least β q na a ma mb (Fin z) (Fin w) h i e = at_most β q na a ma mb z w h i e

-- f repeats from x on and g from y on, both with d, by a and by b; n periods after both repeat and one more
pub soon_enough : (f g : ℚ → Ext) (x y d a b q t : ℚ) (n : ℕ) → int (pos 0) ≤ℚ x → int (pos 0) ≤ℚ y → int (pos 0) <ℚ d → x ≤ℚ d → Repeats f x d a → Repeats g y d b → RisesAtMost f d (int (pos 0)) x q
    → q -ℚ a ≤ℚ int (pos (n + 1)) *ℚ (b -ℚ a) → x +ℚ y +ℚ (int (pos n) *ℚ d +ℚ d) ≤ℚ t → IsLateLeast f g x y t
soon_enough f g x y d a b q t n nx ny some long F G R bound far = λ β below i early after.
    let w = int (pos n) *ℚ d in
    let na = int (pos n) *ℚ a in
    let ma = int (pos (n + 1)) *ℚ a in
    let mb = int (pos (n + 1)) *ℚ b in
    let v = i.first +ℚ d in
    let s = v +ℚ w in
    let u = i.second -ℚ (w +ℚ d) in
    let nw : int (pos 0) ≤ℚ w = mul_nonneg (nat_nonneg n) (le_of_lt some) in
    let passed : x ≤ℚ v = past x d i.first i.first_nonneg long in
    let late : x ≤ℚ s = on x v w passed nw in
    let back : y ≤ℚ u = left x y w d i.first i.second t early i.whole far in
    let split : Split t = record { first = s; second = u; first_nonneg = le_trans nx late; second_nonneg = le_trans ny back; whole = same i.first i.second d w t i.whole } in
    let up : f s ≡ f v +ₑ Fin na = later_value f x d a v n (le_of_lt some) F passed in
    let whole : u +ℚ int (pos (n + 1)) *ℚ d ≡ i.second = ap (λ k. u +ℚ k) (more_periods n d) ∙ again i.second (w +ℚ d) in
    let down : g i.second ≡ g u +ₑ Fin mb = subst (λ k. g k ≡ g u +ₑ Fin mb) whole (later_value g y d b u (n + 1) (le_of_lt some) G back) in
    let high : f v +ₑ Fin na ≤ₑ f i.first +ₑ Fin q +ₑ Fin na =
    add_le_ext (f v) (f i.first +ₑ Fin q) (Fin na) (Fin na) (R i.first record { start = i.first_nonneg; before = early }) (le_ext_refl (Fin na)) in
    let most : f s ≤ₑ f i.first +ₑ Fin q +ₑ Fin na = subst (λ z. z ≤ₑ f i.first +ₑ Fin q +ₑ Fin na) (sym up) high in
    let sums : Fin β ≤ₑ f i.first +ₑ Fin q +ₑ Fin na +ₑ g u =
    le_ext_trans (Fin β) (f s +ₑ g u) (f i.first +ₑ Fin q +ₑ Fin na +ₑ g u) (below split late) (add_le_ext (f s) (f i.first +ₑ Fin q +ₑ Fin na) (g u) (g u) most (le_ext_refl (g u))) in
    let low : q -ℚ a ≤ℚ mb -ℚ ma = subst (λ k. q -ℚ a ≤ℚ k) (mul_sub (int (pos (n + 1))) b a) bound in
    subst (λ z. Fin β ≤ₑ f i.first +ₑ z) (sym down) (moved_least β q na a ma mb (f i.first) (g u) sums low (more_periods n a))
  where
    past : (x d i : ℚ) → int (pos 0) ≤ℚ i → x ≤ℚ d → x ≤ℚ i +ℚ d
    past x d i a b = with3 x d i (λ c. omega (arith, c.le, c.lt, c.same))

    on : (x v w : ℚ) → x ≤ℚ v → int (pos 0) ≤ℚ w → x ≤ℚ v +ℚ w
    on x v w a b = with3 x v w (λ c. omega (arith, c.le, c.lt, c.same))

    left : (x y w d i j t : ℚ) → i <ℚ x → i +ℚ j ≡ t → x +ℚ y +ℚ (w +ℚ d) ≤ℚ t → y ≤ℚ j -ℚ (w +ℚ d)
    left x y w d i j t a e b = with7 x y w d i j t (λ c. omega (arith, c.le, c.lt, c.same))

    same : (i j d w t : ℚ) → i +ℚ j ≡ t → i +ℚ d +ℚ w +ℚ (j -ℚ (w +ℚ d)) ≡ t
    same i j d w t e = with5 i j d w t (λ c. omega (arith, c.le, c.lt, c.same))

    again : (j k : ℚ) → j -ℚ k +ℚ k ≡ j
    again j k = with2 j k (λ c. omega (arith, c.le, c.lt, c.same))

-- ---- where the faster one gains as much in a period, a split is moved by one period after another
at_most_once : (β q b z w : ℚ) → β ≤ℚ z +ℚ q +ℚ w → q ≤ℚ b → β ≤ℚ z +ℚ (w +ℚ b)
at_most_once β q b z w h k = with5 β q b z w (λ c. omega (arith, c.le, c.lt, c.same))

moved_once : (β q b : ℚ) (f g : Ext) → Fin β ≤ₑ f +ₑ Fin q +ₑ g → q ≤ℚ b → Fin β ≤ₑ f +ₑ (g +ₑ Fin b)
moved_once β q b Inf g h k = tt
moved_once β q b (Fin z) Inf h k = tt
moved_once β q b (Fin z) (Fin w) h k = at_most_once β q b z w h k

no_move : (i d : ℚ) → i +ℚ int (pos 0) *ℚ d ≡ i
no_move i d = let e = zero_mul d in with3 i d (int (pos 0) *ℚ d) (λ c. omega (arith, c.le, c.lt, c.same))

-- n moves are enough, of a split of which the first side is o or later
pub moved_by : (f g : ℚ → Ext) (o x y d b q t : ℚ) → int (pos 0) ≤ℚ y → int (pos 0) <ℚ d → Repeats g y d b → RisesAtMost f d o x q → q ≤ℚ b → x +ℚ y +ℚ d ≤ℚ t
    → (β : ℚ) → ((s : Split t) → x ≤ℚ s.first → Fin β ≤ₑ f s.first +ₑ g s.second) → (n : ℕ) (i : Split t) → o ≤ℚ i.first → x ≤ℚ i.first +ℚ int (pos n) *ℚ d → Fin β ≤ₑ f i.first +ₑ g i.second
moved_by f g o x y d b q t ny some G R gain far β below zero i begun h = below i (subst (λ k. x ≤ℚ k) (no_move i.first d) h)
moved_by f g o x y d b q t ny some G R gain far β below (suc n) i begun h = elim (le_or_lt x i.first) [
  | inl late ↦ below i late
  | inr early ↦
      let u = i.second -ℚ d in
      let back : y ≤ℚ u = left x y d i.first i.second t early i.whole far in
      let split : Split t = record { first = i.first +ℚ d; second = u; first_nonneg = on i.first d i.first_nonneg some; second_nonneg = le_trans ny back; whole = same i.first i.second d t i.whole } in
      let more : x ≤ℚ i.first +ℚ d +ℚ int (pos n) *ℚ d = again x i.first d (int (pos n) *ℚ d) (int (pos (suc n)) *ℚ d) (one_more_times n d) h in
      let least = moved_by f g o x y d b q t ny some G R gain far β below n split (later o i.first d begun some) more in
      let down : g i.second ≡ g u +ₑ Fin b = subst (λ k. g k ≡ g u +ₑ Fin b) (whole i.second d) (G.rule u back) in
      let sums : Fin β ≤ₑ f i.first +ₑ Fin q +ₑ g u =
      le_ext_trans (Fin β) (f (i.first +ℚ d) +ₑ g u) (f i.first +ₑ Fin q +ₑ g u) least
      (add_le_ext (f (i.first +ℚ d)) (f i.first +ₑ Fin q) (g u) (g u) (R i.first record { start = begun; before = early }) (le_ext_refl (g u))) in
      subst (λ z. Fin β ≤ₑ f i.first +ₑ z) (sym down) (moved_once β q b (f i.first) (g u) sums gain)
]
  where
    later : (o i d : ℚ) → o ≤ℚ i → int (pos 0) <ℚ d → o ≤ℚ i +ℚ d
    later o i d a b = with3 o i d (λ c. omega (arith, c.le, c.lt, c.same))

    left : (x y d i j t : ℚ) → i <ℚ x → i +ℚ j ≡ t → x +ℚ y +ℚ d ≤ℚ t → y ≤ℚ j -ℚ d
    left x y d i j t a e b = with6 x y d i j t (λ c. omega (arith, c.le, c.lt, c.same))

    on : (i d : ℚ) → int (pos 0) ≤ℚ i → int (pos 0) <ℚ d → int (pos 0) ≤ℚ i +ℚ d
    on i d a b = with2 i d (λ c. omega (arith, c.le, c.lt, c.same))

    same : (i j d t : ℚ) → i +ℚ j ≡ t → i +ℚ d +ℚ (j -ℚ d) ≡ t
    same i j d t e = with4 i j d t (λ c. omega (arith, c.le, c.lt, c.same))

    again : (x i d v w : ℚ) → w ≡ v +ℚ d → x ≤ℚ i +ℚ w → x ≤ℚ i +ℚ d +ℚ v
    again x i d v w e h = with5 x i d v w (λ c. omega (arith, c.le, c.lt, c.same))

    whole : (j d : ℚ) → j -ℚ d +ℚ d ≡ j
    whole j d = with2 j d (λ c. omega (arith, c.le, c.lt, c.same))

-- some number of moves is
pub enough_moves : (x d : ℚ) → int (pos 0) <ℚ d → x ≤ℚ int (pos (suc (whole_part (x /ℚ d)))) *ℚ d
enough_moves x d some = (div_le x d (int (pos (suc (whole_part (x /ℚ d))))) some).0 (le_of_lt (whole_gt (x /ℚ d)))

pub at_once : (f g : ℚ → Ext) (x y d b q t : ℚ) → int (pos 0) ≤ℚ y → int (pos 0) <ℚ d → Repeats g y d b → RisesAtMost f d (int (pos 0)) x q → q ≤ℚ b → x +ℚ y +ℚ d ≤ℚ t → IsLateLeast f g x y t
at_once f g x y d b q t ny some G R gain far = λ β below i early after.
    let n = suc (whole_part (x /ℚ d)) in
    moved_by f g (int (pos 0)) x y d b q t ny some G R gain far β below n i i.first_nonneg (over x i.first (int (pos n) *ℚ d) i.first_nonneg (enough_moves x d some))
  where
    over : (x i w : ℚ) → int (pos 0) ≤ℚ i → x ≤ℚ w → x ≤ℚ i +ℚ w
    over x i w a b = with3 x i w (λ c. omega (arith, c.le, c.lt, c.same))

-- ---- over curves
pub soon_after : (slow fast : SpecCurve) (from d end q : ℚ) (n : ℕ) → IsLateCall slow fast from d end → steady slow ≤ℚ d → RisesAtMost (value_at slow) d (int (pos 0)) (steady slow) q
    → q -ℚ rise_over slow d ≤ℚ int (pos (n + 1)) *ℚ (rise_over fast d -ℚ rise_over slow d) → IsLateAfter slow fast from d n
soon_after slow fast from d end q n C long R bound = λ t h l.
    let W = late_times slow fast from d end C in
    soon_enough (value_at slow) (value_at fast) (steady slow) (steady fast) d (rise_over slow d) (rise_over fast d) q t n W.first.nonneg W.second.nonneg C.some long
    (steady_rule slow d C.scan.first.curve.normal.raw C.first (le_of_lt C.some)) (steady_rule fast d C.scan.second.curve.normal.raw C.second (le_of_lt C.some)) R bound
    (past (steady slow) (steady fast) d from t (int (pos n) *ℚ d) C.from_is h)
  where
    past : (x y d from t v : ℚ) → from ≡ x +ℚ y +ℚ d → from +ℚ v ≤ℚ t → x +ℚ y +ℚ (v +ℚ d) ≤ℚ t
    past x y d from t v start late = with6 x y d from t v (λ c. omega (arith, c.le, c.lt, c.same))

-- a split is moved by w, in which the faster curve rises by a
pub moved_enough : (slow fast : SpecCurve) (from d end first q w a : ℚ) → IsLateCall slow fast from d end → first ≡ steady slow → int (pos 0) <ℚ w → w ≤ℚ d → Repeats (value_at fast) (steady fast) w a
    → RisesAtMost (value_at slow) w (int (pos 0)) first q → q ≤ℚ a → IsLateAfter slow fast from d 0
moved_enough slow fast from d end first q w a C ef some short G R gain = λ t h l.
    let W = late_times slow fast from d end C in
    at_once (value_at slow) (value_at fast) (steady slow) (steady fast) w a q t W.second.nonneg some G (subst (λ x. RisesAtMost (value_at slow) w (int (pos 0)) x q) ef R) gain
    (past (steady slow) (steady fast) d from t (int (pos 0) *ℚ d) w C.from_is (zero_mul d) short h)
  where
    past : (x y d from t v w : ℚ) → from ≡ x +ℚ y +ℚ d → v ≡ int (pos 0) → w ≤ℚ d → from +ℚ v ≤ℚ t → x +ℚ y +ℚ w ≤ℚ t
    past x y d from t v w start none short late = with7 x y d from t v w (λ c. omega (arith, c.le, c.lt, c.same))

pub soon_at_once : (slow fast : SpecCurve) (from d end first q rise : ℚ) → IsLateCall slow fast from d end → first ≡ steady slow → rise ≡ rise_over fast d → RisesAtMost (value_at slow) d (int (pos 0)) first q → q ≤ℚ rise
    → IsLateAfter slow fast from d 0
soon_at_once slow fast from d end first q rise C ef er R gain =
    moved_enough slow fast from d end first q d (rise_over fast d) C ef C.some (le_refl d) (steady_rule fast d C.scan.second.curve.normal.raw C.second (le_of_lt C.some)) R (subst (λ x. q ≤ℚ x) er gain)

-- as it is reckoned
pub soon_number_is : (slow fast : SpecCurve) (from d end first q rise gained lead : ℚ) (r : Option ℕ) → IsLateCall slow fast from d end → first ≡ steady slow → first ≤ℚ d → RisesAtMost (value_at slow) d (int (pos 0)) first q
    → rise ≡ rise_over slow d → gained ≡ q -ℚ rise → lead ≡ rise_over fast d -ℚ rise_over slow d → IfSome r (λ n. gained ≤ℚ int (pos (n + 1)) *ℚ lead) → IfSome r (IsLateAfter slow fast from d)
soon_number_is slow fast from d end first q rise gained lead None C ef long R er ed eq h = tt
soon_number_is slow fast from d end first q rise gained lead (Some n) C ef long R er ed eq h =
    let is : gained ≡ q -ℚ rise_over slow d = ed ∙ ap (λ x. q -ℚ x) er in
    soon_after slow fast from d end q n C (subst (λ x. x ≤ℚ d) ef long) (subst (λ x. RisesAtMost (value_at slow) d (int (pos 0)) x q) ef R)
    (subst (λ x. x ≤ℚ int (pos (n + 1)) *ℚ (rise_over fast d -ℚ rise_over slow d)) is (subst (λ x. gained ≤ℚ int (pos (n + 1)) *ℚ x) eq h))

-- ---- the window
pub later_window : (slow fast : SpecCurve) (from d end b x w : ℚ) → IsLateCall slow fast from d end → x ≡ steady slow → int (pos 0) <ℚ w → w ≤ℚ d → Whole (sizes_in slow fast end).dt b → int (pos 0) ≤ℚ b
    → Whole (sizes_in slow fast end).dt w → HasLater slow b x w
later_window slow fast from d end b x w C e some short start begun whole =
    let W = late_times slow fast from d end C in
    let E = early (steady slow) (steady fast) d from end w W.second.nonneg C.some C.from_is C.end_is in (
      sizes_in slow fast end,
      end,
      record {
        window = C.scan.first;
        start = start;
        stop = subst (Whole (sizes_in slow fast end).dt) (sym e) W.first.whole;
        period = whole;
        nonneg = begun;
        later = on b w begun some;
        soon = subst (λ y. y ≤ℚ end) (sym e) W.first.early;
        early = subst (λ y. y +ℚ w ≤ℚ end) (sym e) (E short);
      },
    )
  where
    early : (x y d from end w : ℚ) → int (pos 0) ≤ℚ y → int (pos 0) <ℚ d → from ≡ x +ℚ y +ℚ d → end ≡ from +ℚ d → w ≤ℚ d → x +ℚ w ≤ℚ end
    early x y d from end w a b e f h = with6 x y d from end w (λ c. omega (arith, c.le, c.lt, c.same))

    on : (b w : ℚ) → int (pos 0) ≤ℚ b → int (pos 0) <ℚ w → int (pos 0) ≤ℚ b +ℚ w
    on b w h k = with2 b w (λ c. omega (arith, c.le, c.lt, c.same))

pub moved_window : (slow fast : SpecCurve) (from d end o x w : ℚ) → IsLateCall slow fast from d end → o ≡ int (pos 0) → x ≡ steady slow → int (pos 0) <ℚ w → w ≤ℚ d → Whole (sizes_in slow fast end).dt w → HasLater slow o x w
moved_window slow fast from d end o x w C eo e some short whole =
    subst (λ b. HasLater slow b x w) (sym eo)
    (later_window slow fast from d end (int (pos 0)) x w C e some short (whole_int (sizes_in slow fast end).dt (pos 0)) (le_refl (int (pos 0))) whole)

pub soon_window : (slow fast : SpecCurve) (from d end o x : ℚ) → IsLateCall slow fast from d end → o ≡ int (pos 0) → x ≡ steady slow → HasLater slow o x d
soon_window slow fast from d end o x C eo e = moved_window slow fast from d end o x d C eo e C.some (le_refl d) C.whole

-- from 0 on, as it is named
pub from_zero : (f : ℚ → Ext) (d o x q : ℚ) → o ≡ int (pos 0) → RisesAtMost f d o x q → RisesAtMost f d (int (pos 0)) x q
from_zero f d o x q e R = subst (λ b. RisesAtMost f d b x q) e R
