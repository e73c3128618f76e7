-- Parts of a convolution a period later: the part in which the slower curve repeats rises with it, and so does the convolution of curves of one rate.
use Rattle.std.specs.Prelude.{◌≡◌, pos}
use Rattle.std.proofs.Common.{arith, sym, ap, ◌∙◌, subst, inl, inr}
use Rattle.rational.specs.Rational.{ℚ, ◌+ℚ◌, ◌-ℚ◌, ◌≤ℚ◌, ◌<ℚ◌, int}
use Rattle.rational.specs.Extended.{Ext, ◌≤ₑ◌, ◌+ₑ◌}
use Rattle.rational.specs.declared.Extended.TheVariants.{Fin, Inf}
use Rattle.rational.proofs.Linear.{with1, with2, with3, with4, with5, with6}
use Rattle.rational.proofs.Laws.{le_or_lt, le_refl, le_trans, sub_add}
use Rattle.rational.proofs.ExtendedOrder.{same_le_ext, le_inf, le_ext_trans, le_ext_refl, add_le_ext, add_ext_comm, add_ext_assoc}
use Rattle.rational.proofs.Bounds.{infimum_shift}
use Rattle.upp_curve.specs.Steady.{Repeats}
use Rattle.upp_curve.proofs.Repeats.{tail_lemma}
use Rattle.min_plus.specs.Convolution.{Split, IsConvolution}
use Rattle.upp_limits.specs.Windows.{IsLateLeast}
use Rattle.curve_conv.specs.Parts.{PartSplit, part_sum, IsPart, FirstLate, FirstEarly}

-- ---- sums that rise on one side
left_risen : (x y : Ext) (a : ℚ) → (x +ₑ Fin a) +ₑ y ≡ (x +ₑ y) +ₑ Fin a
left_risen x y a = add_ext_assoc x (Fin a) y ∙ ap (λ z. x +ₑ z) (add_ext_comm (Fin a) y) ∙ sym (add_ext_assoc x y (Fin a))

right_risen : (x y : Ext) (a : ℚ) → x +ₑ (y +ₑ Fin a) ≡ (x +ₑ y) +ₑ Fin a
right_risen x y a = sym (add_ext_assoc x y (Fin a))

-- ---- splits a period later, and earlier
first_later : (t d : ℚ) → int (pos 0) ≤ℚ d → Split t → Split (t +ℚ d)
first_later t d some s =
    let x = s.first in
    let y = s.second in
    let low = s.first_nonneg in
    let e = s.whole in
    record {
      first = x +ℚ d;
      second = y;
      first_nonneg = with2 x d (λ c. omega (arith, c.le, c.lt, c.same));
      second_nonneg = s.second_nonneg;
      whole = with4 x y t d (λ c. omega (arith, c.le, c.lt, c.same));
    }

second_later : (t d : ℚ) → int (pos 0) ≤ℚ d → Split t → Split (t +ℚ d)
second_later t d some s =
    let x = s.first in
    let y = s.second in
    let low = s.second_nonneg in
    let e = s.whole in
    record {
      first = x;
      second = y +ℚ d;
      first_nonneg = s.first_nonneg;
      second_nonneg = with2 y d (λ c. omega (arith, c.le, c.lt, c.same));
      whole = with4 x y t d (λ c. omega (arith, c.le, c.lt, c.same));
    }

first_earlier : (t d : ℚ) (s : Split (t +ℚ d)) → d ≤ℚ s.first → Split t
first_earlier t d s h =
    let x = s.first in
    let y = s.second in
    let e = s.whole in
    record {
      first = x -ℚ d;
      second = y;
      first_nonneg = with2 x d (λ c. omega (arith, c.le, c.lt, c.same));
      second_nonneg = s.second_nonneg;
      whole = with4 x y t d (λ c. omega (arith, c.le, c.lt, c.same));
    }

second_earlier : (t d : ℚ) (s : Split (t +ℚ d)) → d ≤ℚ s.second → Split t
second_earlier t d s h =
    let x = s.first in
    let y = s.second in
    let e = s.whole in
    record {
      first = x;
      second = y -ℚ d;
      first_nonneg = s.first_nonneg;
      second_nonneg = with2 y d (λ c. omega (arith, c.le, c.lt, c.same));
      whole = with4 x y t d (λ c. omega (arith, c.le, c.lt, c.same));
    }

-- ---- two functions that repeat
-- the first repeats from its time on and rises by `slow` in each period; the second by at least that
pub record AreRising (f g : ℚ → Ext) (first second d slow : ℚ) : Type 0 where
  pub some : int (pos 0) ≤ℚ d
  pub first_low : int (pos 0) ≤ℚ first
  pub second_low : int (pos 0) ≤ℚ second
  pub left : Repeats f first d slow
  pub right : (u : ℚ) → second ≤ℚ u → g u +ₑ Fin slow ≤ₑ g (u +ℚ d)

repeats_back : (f : ℚ → Ext) (first d slow s : ℚ) → Repeats f first d slow → first +ℚ d ≤ℚ s → f (s -ℚ d) +ₑ Fin slow ≡ f s
repeats_back f first d slow s R h =
    sym (R.rule (s -ℚ d) (with3 first d s (λ c. omega (arith, c.le, c.lt, c.same)))) ∙ ap f (sub_add s d)

rising_back : (g : ℚ → Ext) (second d slow u : ℚ) → ((u : ℚ) → second ≤ℚ u → g u +ₑ Fin slow ≤ₑ g (u +ℚ d)) → second +ℚ d ≤ℚ u → g (u -ℚ d) +ₑ Fin slow ≤ₑ g u
rising_back g second d slow u R h =
    subst (λ v. g (u -ℚ d) +ₑ Fin slow ≤ₑ g v) (sub_add u d) (R (u -ℚ d) (with3 second d u (λ c. omega (arith, c.le, c.lt, c.same))))

-- ---- the part in which the first repeats
late_down : (f g : ℚ → Ext) (first second d slow t : ℚ) → AreRising f g first second d slow → (i : PartSplit (FirstLate first) t)
    → (j : PartSplit (FirstLate first) (t +ℚ d)) × (part_sum f g (FirstLate first) (t +ℚ d) j ≤ₑ part_sum f g (FirstLate first) t i +ₑ Fin slow)
unfolding first_later
late_down f g first second d slow t R i =
    let s = i.split.first in
    let u = i.split.second in
    let inside = i.inside in
    let some = R.some in (
      record { split = first_later t d R.some i.split; inside = with3 first s d (λ c. omega (arith, c.le, c.lt, c.same)) },
      same_le_ext (ap (λ v. v +ₑ g u) (R.left.rule s inside) ∙ left_risen (f s) (g u) slow),
    )

late_up : (f g : ℚ → Ext) (first second d slow t : ℚ) → AreRising f g first second d slow → first +ℚ second +ℚ d ≤ℚ t → (j : PartSplit (FirstLate first) (t +ℚ d))
    → (i : PartSplit (FirstLate first) t) × (part_sum f g (FirstLate first) t i +ₑ Fin slow ≤ₑ part_sum f g (FirstLate first) (t +ℚ d) j)
unfolding first_earlier second_earlier
late_up f g first second d slow t R late j = elim (le_or_lt (first +ℚ d) s) [
  | inl h ↦ (
    record { split = first_earlier t d j.split (with3 first s d (λ c. omega (arith, c.le, c.lt, c.same))); inside = with3 first s d (λ c. omega (arith, c.le, c.lt, c.same)) },
    same_le_ext (sym (left_risen (f (s -ℚ d)) (g u) slow) ∙ ap (λ v. v +ₑ g u) (repeats_back f first d slow s R.left h)),
  )
  | inr h ↦
      let far : second +ℚ d ≤ℚ u = with6 first second d s u t (λ c. omega (arith, c.le, c.lt, c.same)) in (
        record { split = second_earlier t d j.split (with3 second u d (λ c. omega (arith, c.le, c.lt, c.same))); inside = j.inside },
        le_ext_trans _ (f s +ₑ (g (u -ℚ d) +ₑ Fin slow)) _ (same_le_ext (sym (right_risen (f s) (g (u -ℚ d)) slow)))
            (add_le_ext (f s) (f s) (g (u -ℚ d) +ₑ Fin slow) (g u) (le_ext_refl (f s)) (rising_back g second d slow u R.right far)),
      )
]
  where
    s : ℚ
    s = j.split.first

    u : ℚ
    u = j.split.second

    whole : s +ℚ u ≡ t +ℚ d
    whole = j.split.whole

    first_low : int (pos 0) ≤ℚ first
    first_low = R.first_low

    second_low : int (pos 0) ≤ℚ second
    second_low = R.second_low

    some : int (pos 0) ≤ℚ d
    some = R.some

-- a period later it is higher by the rise of the first
pub late_moves : (f g : ℚ → Ext) (first second d slow t : ℚ) (v : Ext) → AreRising f g first second d slow → first +ℚ second +ℚ d ≤ℚ t → IsPart f g (FirstLate first) t v
    → IsPart f g (FirstLate first) (t +ℚ d) (v +ₑ Fin slow)
late_moves f g first second d slow t v R late h =
    infimum_shift (part_sum f g (FirstLate first) t) (part_sum f g (FirstLate first) (t +ℚ d)) slow v (late_down f g first second d slow t R) (late_up f g first second d slow t R late) h

-- ---- the part in which the first has not begun to repeat
early_down : (f g : ℚ → Ext) (first second d fast t : ℚ) → int (pos 0) ≤ℚ d → Repeats g second d fast → (i : PartSplit (FirstEarly first second) t)
    → (j : PartSplit (FirstEarly first second) (t +ℚ d)) × (part_sum f g (FirstEarly first second) (t +ℚ d) j ≤ₑ part_sum f g (FirstEarly first second) t i +ₑ Fin fast)
unfolding second_later
early_down f g first second d fast t some R i =
    let s = i.split.first in
    let u = i.split.second in
    let inside = i.inside.1 in (
      record { split = second_later t d some i.split; inside = (i.inside.0, with3 second u d (λ c. omega (arith, c.le, c.lt, c.same))) },
      same_le_ext (ap (λ v. f s +ₑ v) (R.rule u inside) ∙ right_risen (f s) (g u) fast),
    )

early_up : (f g : ℚ → Ext) (first second d fast t : ℚ) → int (pos 0) ≤ℚ second → Repeats g second d fast → first +ℚ second ≤ℚ t → (j : PartSplit (FirstEarly first second) (t +ℚ d))
    → (i : PartSplit (FirstEarly first second) t) × (part_sum f g (FirstEarly first second) t i +ₑ Fin fast ≤ₑ part_sum f g (FirstEarly first second) (t +ℚ d) j)
unfolding second_earlier
early_up f g first second d fast t low R late j =
    let s = j.split.first in
    let u = j.split.second in
    let whole = j.split.whole in
    let before = j.inside.0 in
    let far : second +ℚ d ≤ℚ u = with6 first second d s u t (λ c. omega (arith, c.le, c.lt, c.same)) in (
      record {
        split = second_earlier t d j.split (with3 second u d (λ c. omega (arith, c.le, c.lt, c.same)));
        inside = (before, with3 second u d (λ c. omega (arith, c.le, c.lt, c.same)));
      },
      same_le_ext (sym (right_risen (f s) (g (u -ℚ d)) fast) ∙ ap (λ v. f s +ₑ v) (repeats_back g second d fast u R far)),
    )

pub early_moves : (f g : ℚ → Ext) (first second d fast t : ℚ) (v : Ext) → int (pos 0) ≤ℚ d → int (pos 0) ≤ℚ second → Repeats g second d fast → first +ℚ second ≤ℚ t
    → IsPart f g (FirstEarly first second) t v → IsPart f g (FirstEarly first second) (t +ℚ d) (v +ₑ Fin fast)
early_moves f g first second d fast t v some low R late h =
    infimum_shift (part_sum f g (FirstEarly first second) t) (part_sum f g (FirstEarly first second) (t +ℚ d)) fast v (early_down f g first second d fast t some R)
    (early_up f g first second d fast t low R late) h

-- ---- both rise alike
alike_down : (f g : ℚ → Ext) (first second d rise t : ℚ) → int (pos 0) ≤ℚ d → Repeats f first d rise → Repeats g second d rise → first +ℚ second ≤ℚ t → (i : Split t)
    → (j : Split (t +ℚ d)) × (f j.first +ₑ g j.second ≤ₑ (f i.first +ₑ g i.second) +ₑ Fin rise)
unfolding first_later second_later
alike_down f g first second d rise t some F G late i =
    let s = i.first in
    let u = i.second in
    let whole = i.whole in
    elim (le_or_lt first s) [
      | inl h ↦ (first_later t d some i, same_le_ext (ap (λ v. v +ₑ g u) (F.rule s h) ∙ left_risen (f s) (g u) rise))
      | inr h ↦
          let k : second ≤ℚ u = with5 first second s u t (λ c. omega (arith, c.le, c.lt, c.same)) in
          (second_later t d some i, same_le_ext (ap (λ v. f s +ₑ v) (G.rule u k) ∙ right_risen (f s) (g u) rise))
    ]

alike_up : (f g : ℚ → Ext) (first second d rise t : ℚ) → int (pos 0) ≤ℚ first → int (pos 0) ≤ℚ second → Repeats f first d rise → Repeats g second d rise → first +ℚ second +ℚ d ≤ℚ t
    → (j : Split (t +ℚ d)) → (i : Split t) × ((f i.first +ₑ g i.second) +ₑ Fin rise ≤ₑ f j.first +ₑ g j.second)
unfolding first_earlier second_earlier
alike_up f g first second d rise t low high F G late j =
    let s = j.first in
    let u = j.second in
    let whole = j.whole in
    elim (le_or_lt (first +ℚ d) s) [
      | inl h ↦ (
        first_earlier t d j (with3 first s d (λ c. omega (arith, c.le, c.lt, c.same))),
        same_le_ext (sym (left_risen (f (s -ℚ d)) (g u) rise) ∙ ap (λ v. v +ₑ g u) (repeats_back f first d rise s F h)),
      )
      | inr h ↦
          let far : second +ℚ d ≤ℚ u = with6 first second d s u t (λ c. omega (arith, c.le, c.lt, c.same)) in (
            second_earlier t d j (with3 second u d (λ c. omega (arith, c.le, c.lt, c.same))),
            same_le_ext (sym (right_risen (f s) (g (u -ℚ d)) rise) ∙ ap (λ v. f s +ₑ v) (repeats_back g second d rise u G far)),
          )
    ]

-- the convolution rises with both
pub alike_moves : (f g : ℚ → Ext) (first second d rise t : ℚ) (v : Ext) → int (pos 0) ≤ℚ d → int (pos 0) ≤ℚ first → int (pos 0) ≤ℚ second → Repeats f first d rise → Repeats g second d rise
    → first +ℚ second +ℚ d ≤ℚ t → IsConvolution f g t v → IsConvolution f g (t +ℚ d) (v +ₑ Fin rise)
alike_moves f g first second d rise t v some low high F G late h =
    infimum_shift {I = Split t} {J = Split (t +ℚ d)} (λ s. f s.first +ₑ g s.second) (λ s. f s.first +ₑ g s.second) rise v
    (alike_down f g first second d rise t some F G (with4 first second d t (λ c. omega (arith, c.le, c.lt, c.same)))) (alike_up f g first second d rise t low high F G late) h

-- ---- where the part in which the first repeats has the least sums
-- it is so a period later
pub late_least_moves : (f g : ℚ → Ext) (first second d slow t : ℚ) → AreRising f g first second d slow → first +ℚ second ≤ℚ t → IsLateLeast f g first second t → IsLateLeast f g first second (t +ℚ d)
unfolding first_later second_earlier
late_least_moves f g first second d slow t R late L b below s early after =
    let some = R.some in
    let low = R.second_low in
    let x = s.first in
    let u = s.second in
    let whole = s.whole in
    let far : second +ℚ d ≤ℚ u = with6 first second d x u t (λ c. omega (arith, c.le, c.lt, c.same)) in
    let back = second_earlier t d s (with3 second u d (λ c. omega (arith, c.le, c.lt, c.same))) in
    let bound = L (b -ℚ slow)
    (λ i k. lower (b) slow (f i.first +ₑ g i.second)
    (le_ext_trans (Fin b) _ _ (below (first_later t d R.some i) (later_first i k)) (le_sum i k)))
    back early (with3 second u d (λ c. omega (arith, c.le, c.lt, c.same))) in
    le_ext_trans (Fin b) ((f x +ₑ g (u -ℚ d)) +ₑ Fin slow) (f x +ₑ g u) (raise b slow (f x +ₑ g (u -ℚ d)) bound)
    (le_ext_trans _ (f x +ₑ (g (u -ℚ d) +ₑ Fin slow)) _ (same_le_ext (sym (right_risen (f x) (g (u -ℚ d)) slow)))
    (add_le_ext (f x) (f x) (g (u -ℚ d) +ₑ Fin slow) (g u) (le_ext_refl (f x)) (rising_back g second d slow u R.right far)))
  where
    lower : (b a : ℚ) (x : Ext) → Fin b ≤ₑ x +ₑ Fin a → Fin (b -ℚ a) ≤ₑ x
    lower b a Inf h = tt
    lower b a (Fin x) h = with3 b a x (λ c. omega (arith, c.le, c.lt, c.same))

    raise : (b a : ℚ) (x : Ext) → Fin (b -ℚ a) ≤ₑ x → Fin b ≤ₑ x +ₑ Fin a
    raise b a Inf h = tt
    raise b a (Fin x) h = with3 b a x (λ c. omega (arith, c.le, c.lt, c.same))

    later_first : (i : Split t) → first ≤ℚ i.first → first ≤ℚ i.first +ℚ d
    later_first i k = let x = i.first in let some = R.some in with3 first x d (λ c. omega (arith, c.le, c.lt, c.same))

    le_sum : (i : Split t) → first ≤ℚ i.first → f (i.first +ℚ d) +ₑ g i.second ≤ₑ (f i.first +ₑ g i.second) +ₑ Fin slow
    le_sum i k = same_le_ext (ap (λ v. v +ₑ g i.second) (R.left.rule i.first k) ∙ left_risen (f i.first) (g i.second) slow)

-- there it is the convolution
pub late_only : (f g : ℚ → Ext) (first second t : ℚ) (v : Ext) → first +ℚ second ≤ℚ t → IsLateLeast f g first second t → IsPart f g (FirstLate first) t v → IsConvolution f g t v
late_only f g first second t v late L h = record {
  below = λ s. elim (le_or_lt first s.first) [
    | inl k ↦ h.below record { split = s; inside = k }
    | inr k ↦ by_bounds v (f s.first +ₑ g s.second) (λ b l. L b (λ i j. le_ext_trans (Fin b) v _ l (h.below record { split = i; inside = j })) s k (after s k))
  ];
  near = λ y l. let (i, m) = h.near y l in (i.split, m);
}
  where
    after : (s : Split t) → s.first <ℚ first → second ≤ℚ s.second
    after s k =
        let x = s.first in
        let u = s.second in
        let whole = s.whole in
        with5 first second x u t (λ c. omega (arith, c.le, c.lt, c.same))

    by_bounds : (x z : Ext) → ((b : ℚ) → Fin b ≤ₑ x → Fin b ≤ₑ z) → x ≤ₑ z
    by_bounds x Inf h = le_inf x
    by_bounds Inf (Fin z) h = let l = h (z +ℚ int (pos 1)) tt in absurd (with1 z (λ c. omega (arith, c.le, c.lt, c.same)))
    by_bounds (Fin x) (Fin z) h = h x (le_refl x)

-- from a time on at which it is so for a period, it is so ever after
pub late_ever : (f g : ℚ → Ext) (first second d slow from : ℚ) → int (pos 0) <ℚ d → AreRising f g first second d slow → first +ℚ second ≤ℚ from
    → ((t : ℚ) → from ≤ℚ t → t <ℚ from +ℚ d → IsLateLeast f g first second t) → (t : ℚ) → from ≤ℚ t → IsLateLeast f g first second t
late_ever f g first second d slow from some R late L t h =
    let low = R.first_low in
    let high = R.second_low in
    tail_lemma (λ t v. from ≤ℚ t → IsLateLeast f g first second t) (λ u. Inf) from d (int (pos 0)) (with3 first second from (λ c. omega (arith, c.le, c.lt, c.same))) some
    (λ u k m n. L u n m) (λ u v k P n. late_least_moves f g first second d slow u R (le_trans late k) (P k)) t (nonneg low high h) h
  where
    nonneg : int (pos 0) ≤ℚ first → int (pos 0) ≤ℚ second → from ≤ℚ t → int (pos 0) ≤ℚ t
    nonneg low high h = with4 first second from t (λ c. omega (arith, c.le, c.lt, c.same))
