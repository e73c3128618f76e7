-- A line on an open stretch: its infimum and its supremum are its limits at the ends, which no member need reach.
use Rattle.std.specs.Prelude.{◌≡◌, pos}
use Rattle.std.proofs.Common.{arith, sym, ap, ◌∙◌, subst, inl, inr}
use Rattle.rational.specs.Rational.{ℚ, ◌+ℚ◌, ◌-ℚ◌, ◌*ℚ◌, ◌/ℚ◌, neg_ℚ, ◌≤ℚ◌, ◌<ℚ◌, int}
use Rattle.rational.specs.MinMax.{min_q, max_q}
use Rattle.rational.specs.Line.{line_at}
use Rattle.rational.specs.Bounds.{IsInfimum, IsSupremum}
use Rattle.rational.specs.Stretch.{Between, After}
use Rattle.rational.specs.declared.Extended.TheVariants.{Fin, Inf}
use Rattle.rational.proofs.Linear.{with1, with2, with3, with4}
use Rattle.rational.proofs.Laws.{not_zero, lt_of_mul, between, le_refl, le_or_lt, le_of_lt, le_lt_trans, lt_le_trans}
use Rattle.rational.proofs.Laws.{mul_le_mul, mul_lt_mul, mul_comm, div_mul, antisym}
use Rattle.rational.proofs.Lines.{line_rises, line_falls, rises_turned, turned_line}
use Rattle.rational.proofs.MinMax.{min_q_left, min_q_is_right, max_q_is_left, max_q_right, max_q_ge_left}
use Rattle.rational.proofs.MinMax.{max_q_ge_right, max_q_lt, min_q_le_left, min_q_le_right, below_min_in}
use Rattle.rational.proofs.Bounds.{unbounded, reflected_infimum, reflected_supremum, same_infimum, same_supremum}

-- ---- times near an end
-- one past both lo and w, before hi
late_enough : (lo w hi : ℚ) → lo <ℚ hi → w <ℚ hi → (s : Between lo hi) × (w <ℚ s.at)
late_enough lo w hi h k =
    let (s, p, q) = between (max_q lo w) hi (max_q_lt lo w hi h k) in
    (record { at = s; above = le_lt_trans (max_q_ge_left lo w) p; below = q }, le_lt_trans (max_q_ge_right lo w) p)

-- one before both w and hi, past lo
early_enough : (lo w hi : ℚ) → lo <ℚ hi → lo <ℚ w → (s : Between lo hi) × (s.at <ℚ w)
early_enough lo w hi h k =
    let (s, p, q) = between lo (min_q w hi) (below_min_in w hi lo k h) in
    (record { at = s; above = p; below = lt_le_trans q (min_q_le_right w hi) }, lt_le_trans q (min_q_le_left w hi))

-- where r is above 0, v is r times some time: v / r
level : (r v : ℚ) → int (pos 0) <ℚ r → (w : ℚ) × (r *ℚ w ≡ v)
level r v h = (v /ℚ r, mul_comm r (v /ℚ r) ∙ div_mul v r (not_zero r h))

-- before or past that time as r times it is less or more than v
before_level : (r s w : ℚ) → int (pos 0) <ℚ r → r *ℚ s <ℚ r *ℚ w → s <ℚ w
before_level r s w h l =
    lt_of_mul r s w h (subst (λ x. x <ℚ w *ℚ r) (mul_comm r s) (subst (λ x. r *ℚ s <ℚ x) (mul_comm r w) l))

-- a line that is not falling is level or rises
slope_cases : {G : Type 0} (r : ℚ) → int (pos 0) ≤ℚ r → (r ≡ int (pos 0) → G) → (int (pos 0) <ℚ r → G) → G
slope_cases r h f g = elim (le_or_lt r (int (pos 0))) [ inl l ↦ f (antisym (l, h)) | inr l ↦ g l ]

level_times : (r s t : ℚ) → r ≡ int (pos 0) → r *ℚ s ≡ r *ℚ t
level_times r s t e = ap (λ x. x *ℚ s) e ∙ with2 s t (λ c. omega (arith, c.le, c.lt, c.same)) ∙ ap (λ x. x *ℚ t) (sym e)

-- ---- a line that does not fall
pub rising_supremum : (lo hi a r : ℚ) → lo <ℚ hi → int (pos 0) ≤ℚ r → IsSupremum {I =
    Between lo hi} (λ s. Fin (line_at a r s.at)) (Fin (line_at a r hi))
rising_supremum lo hi a r h k = record {
  above = λ s. let m = mul_le_mul r k (le_of_lt s.below) in let t = s.at in with3 a (r *ℚ t) (r *ℚ hi) (λ c. omega (arith, c.le, c.lt, c.same));
  near = λ y l.
      let (s, p) = reach (y -ℚ a) (with3 a y (r *ℚ hi) (λ c. omega (arith, c.le, c.lt, c.same))) in
      let t = s.at in
      (s, with3 a y (r *ℚ t) (λ c. omega (arith, c.le, c.lt, c.same)));
}
  where
    reach : (v : ℚ) → v <ℚ r *ℚ hi → (s : Between lo hi) × (v <ℚ r *ℚ s.at)
    reach v l =
        slope_cases r k
        (λ e. let (s, p, q) = between lo hi h in (record { at = s; above = p; below = q }, subst (λ x. v <ℚ x) (level_times r hi s e) l))
        (λ some.
        let (w, e) = level r v some in
        let (s, p) = late_enough lo w hi h (before_level r w hi some (subst (λ x. x <ℚ r *ℚ hi) (sym e) l)) in
        (s, subst (λ x. x <ℚ r *ℚ s.at) e (mul_lt_mul r some p)))

pub rising_infimum : (lo hi a r : ℚ) → lo <ℚ hi → int (pos 0) ≤ℚ r → IsInfimum {I =
    Between lo hi} (λ s. Fin (line_at a r s.at)) (Fin (line_at a r lo))
rising_infimum lo hi a r h k = record {
  below = λ s. let m = mul_le_mul r k (le_of_lt s.above) in let t = s.at in with3 a (r *ℚ t) (r *ℚ lo) (λ c. omega (arith, c.le, c.lt, c.same));
  near = λ y l.
      let (s, p) = reach (y -ℚ a) (with3 a y (r *ℚ lo) (λ c. omega (arith, c.le, c.lt, c.same))) in
      let t = s.at in
      (s, with3 a y (r *ℚ t) (λ c. omega (arith, c.le, c.lt, c.same)));
}
  where
    reach : (v : ℚ) → r *ℚ lo <ℚ v → (s : Between lo hi) × (r *ℚ s.at <ℚ v)
    reach v l =
        slope_cases r k
        (λ e. let (s, p, q) = between lo hi h in (record { at = s; above = p; below = q }, subst (λ x. x <ℚ v) (level_times r lo s e) l))
        (λ some.
        let (w, e) = level r v some in
        let (s, p) = early_enough lo w hi h (before_level r lo w some (subst (λ x. r *ℚ lo <ℚ x) (sym e) l)) in
        (s, subst (λ x. r *ℚ s.at <ℚ x) e (mul_lt_mul r some p)))

-- ---- a line that does not rise: the mirror
pub falling_infimum : (lo hi a r : ℚ) → lo <ℚ hi → r ≤ℚ int (pos 0) → IsInfimum {I =
    Between lo hi} (λ s. Fin (line_at a r s.at)) (Fin (line_at a r hi))
falling_infimum lo hi a r h k =
    let up = rising_supremum lo hi (int (pos 0)) (neg_ℚ r) h (rises_turned r k) in
    simp (turned_line a r) at (reflected_infimum {I = Between lo hi} (λ s. line_at (int (pos 0)) (neg_ℚ r) s.at) a (line_at (int (pos 0)) (neg_ℚ r) hi) up)

pub falling_supremum : (lo hi a r : ℚ) → lo <ℚ hi → r ≤ℚ int (pos 0) → IsSupremum {I =
    Between lo hi} (λ s. Fin (line_at a r s.at)) (Fin (line_at a r lo))
falling_supremum lo hi a r h k =
    let down = rising_infimum lo hi (int (pos 0)) (neg_ℚ r) h (rises_turned r k) in
    simp (turned_line a r) at (reflected_supremum {I = Between lo hi} (λ s. line_at (int (pos 0)) (neg_ℚ r) s.at) a (line_at (int (pos 0)) (neg_ℚ r) lo) down)

-- ---- a line of any slope: the lesser and the greater limit
pub line_infimum : (lo hi a r : ℚ) → lo <ℚ hi
    → IsInfimum {I = Between lo hi} (λ s. Fin (line_at a r s.at)) (Fin (min_q (line_at a r lo) (line_at a r hi)))
line_infimum lo hi a r h = elim (le_or_lt (int (pos 0)) r) [
  | inl k ↦ rw (min_q_left _ _ (line_rises a r lo hi k (le_of_lt h))) (rising_infimum lo hi a r h k)
  | inr k ↦ rw (min_q_is_right _ _ (line_falls a r lo hi (le_of_lt k) (le_of_lt h))) (falling_infimum lo hi a r h (le_of_lt k))
]

pub line_supremum : (lo hi a r : ℚ) → lo <ℚ hi
    → IsSupremum {I = Between lo hi} (λ s. Fin (line_at a r s.at)) (Fin (max_q (line_at a r lo) (line_at a r hi)))
line_supremum lo hi a r h = elim (le_or_lt (int (pos 0)) r) [
  | inl k ↦ rw (max_q_right _ _ (line_rises a r lo hi k (le_of_lt h))) (rising_supremum lo hi a r h k)
  | inr k ↦ rw (max_q_is_left _ _ (line_falls a r lo hi (le_of_lt k) (le_of_lt h))) (falling_supremum lo hi a r h (le_of_lt k))
]

-- ---- a stretch without an end
pub one_above : (lo : ℚ) → lo <ℚ lo +ℚ int (pos 1)
one_above lo = with1 lo (λ c. omega (arith, c.le, c.lt, c.same))

-- before each time after lo there is one in the first stretch after lo
soon : (lo : ℚ) (s : After lo) → (i : Between lo (lo +ℚ int (pos 1))) × (i.at ≤ℚ s.at)
soon lo s = let (i, l) = early_enough lo s.at (lo +ℚ int (pos 1)) (one_above lo) s.above in (i, le_of_lt l)

pub rising_after_infimum : (lo a r : ℚ) → int (pos 0) ≤ℚ r → IsInfimum {I =
    After lo} (λ s. Fin (line_at a r s.at)) (Fin (line_at a r lo))
rising_after_infimum lo a r h =
    same_infimum {I = Between lo (lo +ℚ int (pos 1))} {J = After lo} (λ s. Fin (line_at a r s.at)) (λ s. Fin (line_at a r s.at)) (Fin (line_at a r lo))
    (λ i. (record { at = i.at; above = i.above }, le_refl (line_at a r i.at)))
    (λ s. let (i, l) = soon lo s in (i, line_rises a r i.at s.at h l))
    (rising_infimum lo (lo +ℚ int (pos 1)) a r (one_above lo) h)

pub falling_after_supremum : (lo a r : ℚ) → r ≤ℚ int (pos 0) → IsSupremum {I =
    After lo} (λ s. Fin (line_at a r s.at)) (Fin (line_at a r lo))
falling_after_supremum lo a r h =
    same_supremum {I = Between lo (lo +ℚ int (pos 1))} {J = After lo} (λ s. Fin (line_at a r s.at)) (λ s. Fin (line_at a r s.at)) (Fin (line_at a r lo))
    (λ i. (record { at = i.at; above = i.above }, le_refl (line_at a r i.at)))
    (λ s. let (i, l) = soon lo s in (i, line_falls a r i.at s.at h l))
    (falling_supremum lo (lo +ℚ int (pos 1)) a r (one_above lo) h)

-- a line that rises passes every number
pub rising_after_supremum : (lo a r : ℚ) → int (pos 0) <ℚ r → IsSupremum {I =
    After lo} (λ s. Fin (line_at a r s.at)) Inf
rising_after_supremum lo a r h = unbounded {I = After lo} (λ s. Fin (line_at a r s.at)) (λ y. passing y)
  where
    passing : (y : ℚ) → (s : After lo) × (y <ℚ line_at a r s.at)
    passing y =
        let (w, e) = level r (y -ℚ a) h in
        let m = max_q lo w in
        let past : m <ℚ m +ℚ int (pos 1) = one_above m in
        let t = m +ℚ int (pos 1) in
        let l = mul_lt_mul r h (le_lt_trans (max_q_ge_right lo w) past) in
        (record { at = t; above = le_lt_trans (max_q_ge_left lo w) past }, with4 a y (r *ℚ w) (r *ℚ t) (λ c. omega (arith, c.le, c.lt, c.same)))

-- ---- a time as much later
pub not_earlier : (x y : ℚ) → int (pos 0) ≤ℚ y → x ≤ℚ x +ℚ y
not_earlier x y h = with2 x y (λ c. omega (arith, c.le, c.lt, c.same))
