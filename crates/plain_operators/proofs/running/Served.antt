-- What a service that never falls, and the longest wait in it, say of the two curves: the one that is served is finite, it is no
-- faster, and theta later the service has caught up with it wherever the service goes on from its own value.
use Rattle.std.specs.Prelude.{◌≡◌, ℕ, pos, Option, Some, None}
use Rattle.std.proofs.Common.{arith, sym, ◌∙◌, subst, inl, inr}
use Rattle.rational.specs.Rational.{ℚ, ◌+ℚ◌, ◌-ℚ◌, ◌*ℚ◌, ◌≤ℚ◌, ◌<ℚ◌, int}
use Rattle.rational.specs.MinMax.{min_q}
use Rattle.rational.specs.Extended.{Ext, ◌≤ₑ◌, ◌+ₑ◌}
use Rattle.rational.specs.declared.Extended.TheVariants.{Fin}
use Rattle.rational.proofs.Linear.{with1, with2, with3, with4}
use Rattle.rational.proofs.Laws.{le_or_lt, le_refl, le_trans, le_of_lt, lt_irrefl, le_lt_trans, mul_sub, mul_nonneg}
use Rattle.rational.proofs.MinMax.{min_q_le_left}
use Rattle.rational.proofs.Integers.{nat_nonneg}
use Rattle.rational.proofs.Quotients.{times_above}
use Rattle.rational.proofs.Stretch.{line_infimum}
use Rattle.rational.proofs.ExtendedOrder.{le_ext_trans, le_lt_ext, same_le_ext, fin_same, finite_below}
use Rattle.upp_curve.specs.declared.affine_segment.line.Line.{Line}
use Rattle.upp_curve.specs.affine_segment.Values.{line_at, line_value}
use Rattle.min_plus.specs.Functions.{zero_q, IsFinite, Time}
use Rattle.min_plus.specs.Deviations.{Lag}
use Rattle.upp_curve.specs.Steady.{Repeats}
use Rattle.curve_call.proofs.Shifts.{later_value}
use Rattle.plain_operators.specs.running.Behind.{IsServed}

-- a wait at s that is less than theta + e
pub soon : (f g : ℚ → Ext) (theta s e : ℚ) → IsServed f g theta → zero_q ≤ℚ s → zero_q <ℚ e → (a : Lag g f s) × (a.after <ℚ theta +ℚ e)
soon f g theta s e S low some =
    let t : Time = record { at = s; nonneg = low } in
    (S.deviation.is_lag t).near (theta +ℚ e)
    (le_lt_ext (S.deviation.lag t) (Fin theta) (Fin (theta +ℚ e)) (S.deviation.is.above t) (with2 theta e (λ c. omega (arith, c.le, c.lt, c.same))))

pub theta_nonneg : (f g : ℚ → Ext) (theta : ℚ) → IsServed f g theta → zero_q ≤ℚ theta
theta_nonneg f g theta S = elim (le_or_lt zero_q theta) [
  | inl l ↦ l
  | inr l ↦
      let e = zero_q -ℚ theta in
      let (a, m) = soon f g theta zero_q e S (le_refl zero_q) (with1 theta (λ c. omega (arith, c.le, c.lt, c.same))) in
      let after = a.after in
      let low = a.nonneg in
      absurd (with2 theta after (λ c. omega (arith, c.le, c.lt, c.same)))
]

pub other_finite : (f g : ℚ → Ext) (theta : ℚ) → IsServed f g theta → IsFinite g
other_finite f g theta S s low =
    let theta_low = theta_nonneg f g theta S in
    let (a, m) = soon f g theta s (int (pos 1)) S low (with1 zero_q (λ c. omega (arith, c.le, c.lt, c.same))) in
    let after = a.after in
    let nonneg = a.nonneg in
    let (b, e) = S.finite (s +ℚ after) (with2 s after (λ c. omega (arith, c.le, c.lt, c.same))) in
    let r = a.reached in
    finite_below (g s) b (subst (λ v. g s ≤ₑ v) {y = Fin b} e r)

-- ---- caught up
-- at the end of a wait before s' the service is at most what it is at s'
pub reached_by : (f g : ℚ → Ext) (theta t far : ℚ) → IsServed f g theta → theta ≤ℚ t → t <ℚ far → g (t -ℚ theta) ≤ₑ f far
reached_by f g theta t far S late past =
    let low : zero_q ≤ℚ t -ℚ theta = with2 theta t (λ c. omega (arith, c.le, c.lt, c.same)) in
    let (a, m) = soon f g theta (t -ℚ theta) (far -ℚ t) S low (with2 far t (λ c. omega (arith, c.le, c.lt, c.same))) in
    let after = a.after in
    let nonneg = a.nonneg in
    le_ext_trans (g (t -ℚ theta)) (f ((t -ℚ theta) +ℚ after)) (f far) a.reached
    (S.rising ((t -ℚ theta) +ℚ after) far (with3 t theta after (λ c. omega (arith, c.le, c.lt, c.same))) (with4 t theta after far (λ c. omega (arith, c.le, c.lt, c.same))))

pub caught_up : (f g : ℚ → Ext) (theta t e : ℚ) (l : Option Line) → IsServed f g theta → theta ≤ℚ t → t <ℚ e
    → ((u : ℚ) → t ≤ℚ u → u <ℚ e → f u ≡ line_value l u) → g (t -ℚ theta) ≤ₑ f t
caught_up f g theta t e l S late some on =
    let theta_low = theta_nonneg f g theta S in
    let (b, is) = S.finite t (le_trans theta_low late) in
    let (v, at) = other_finite f g theta S (t -ℚ theta) (with2 theta t (λ c. omega (arith, c.le, c.lt, c.same))) in
    elim (le_or_lt v b) [
      | inl h ↦ subst (λ x. x ≤ₑ f t) (sym at) (subst (λ x. Fin v ≤ₑ x) (sym is) h)
      | inr h ↦ absurd (by_line l on b v is at h)
    ]
  where
    by_line : (l : Option Line) → ((u : ℚ) → t ≤ℚ u → u <ℚ e → f u ≡ line_value l u) → (b v : ℚ) → f t ≡ Fin b → g (t -ℚ theta) ≡ Fin v → b <ℚ v → ⊥
    by_line None on b v is at h = same_le_ext (sym (on t (le_refl t) some) ∙ is)
    by_line (Some m) on b v is at h =
        let here : line_at m t ≡ b = fin_same (sym (on t (le_refl t) some) ∙ is) in
        let low : min_q (line_at m t) (line_at m e) <ℚ v = le_lt_trans (min_q_le_left (line_at m t) (line_at m e)) (subst (λ x. x <ℚ v) (sym here) h) in
        let (s, less) = (line_infimum t e m.icept m.slope some).near v low in
        let bound : Fin v ≤ₑ Fin (line_at m s.at) = subst (λ x. x ≤ₑ Fin (line_at m s.at)) at
        (subst (λ x. g (t -ℚ theta) ≤ₑ x) (on s.at (le_of_lt s.above) s.below) (reached_by f g theta t s.at S late s.above)) in
        lt_irrefl v (le_lt_trans bound less)

-- ---- no faster
-- what repeats n periods on is no more than the service one time unit past theta later
gain_bound : (f g : ℚ → Ext) (theta t d a b v w : ℚ) (n : ℕ) → IsServed f g theta → zero_q ≤ℚ t → zero_q ≤ℚ d → Repeats f t d a → Repeats g t d b
    → g t ≡ Fin v → f (t +ℚ theta +ℚ int (pos 1)) ≡ Fin w → int (pos n) *ℚ (b -ℚ a) ≤ℚ w -ℚ v
gain_bound f g theta t d a b v w n S low some F G at is =
    let theta_low = theta_nonneg f g theta S in
    let y = int (pos n) *ℚ d in
    let far = t +ℚ theta +ℚ int (pos 1) in
    let more : zero_q ≤ℚ y = mul_nonneg (nat_nonneg n) some in
    let s = t +ℚ y in
    let bound : g ((s +ℚ theta) -ℚ theta) ≤ₑ f (far +ℚ y) =
    reached_by f g theta (s +ℚ theta) (far +ℚ y) S (with3 t y theta (λ c. omega (arith, c.le, c.lt, c.same))) (with3 t y theta (λ c. omega (arith, c.le, c.lt, c.same))) in
    let same : (s +ℚ theta) -ℚ theta ≡ s = with2 s theta (λ c. omega (arith, c.le, c.lt, c.same)) in
    let left = later_value g t d b t n some G (le_refl t) in
    let right = later_value f t d a far n some F (with2 t theta (λ c. omega (arith, c.le, c.lt, c.same))) in
    let na = int (pos n) *ℚ a in
    let nb = int (pos n) *ℚ b in
    let final : v +ℚ nb ≤ℚ w +ℚ na =
    subst (λ x. x +ₑ Fin nb ≤ₑ Fin (w +ℚ na)) at (subst (λ x. x ≤ₑ Fin (w +ℚ na)) left
    (subst (λ x. g s ≤ₑ x +ₑ Fin na) is (subst (λ x. g s ≤ₑ x) right (subst (λ x. g x ≤ₑ f (far +ℚ y)) same bound)))) in
    subst (λ x. x ≤ℚ w -ℚ v) (sym (mul_sub (int (pos n)) b a)) (with4 v nb w na (λ c. omega (arith, c.le, c.lt, c.same)))

pub no_faster : (f g : ℚ → Ext) (theta t d a b : ℚ) → IsServed f g theta → zero_q ≤ℚ t → zero_q ≤ℚ d → Repeats f t d a → Repeats g t d b → b ≤ℚ a
no_faster f g theta t d a b S low some F G = elim (le_or_lt b a) [
  | inl h ↦ h
  | inr h ↦
      let theta_low = theta_nonneg f g theta S in
      let (v, at) = other_finite f g theta S t low in
      let (w, is) = S.finite (t +ℚ theta +ℚ int (pos 1)) (with2 t theta (λ c. omega (arith, c.le, c.lt, c.same))) in
      let (n, m) = times_above (w -ℚ v) (b -ℚ a) (with2 a b (λ c. omega (arith, c.le, c.lt, c.same))) in
      absurd (lt_irrefl (w -ℚ v) (lt_of n v w m (gain_bound f g theta t d a b v w n S low some F G at is)))
]
  where
    strict : (x y : ℚ) → y <ℚ x → x ≤ℚ y → y <ℚ y
    strict x y m k = with2 x y (λ c. omega (arith, c.le, c.lt, c.same))

    lt_of : (n : ℕ) (v w : ℚ) → w -ℚ v <ℚ int (pos n) *ℚ (b -ℚ a) → int (pos n) *ℚ (b -ℚ a) ≤ℚ w -ℚ v → w -ℚ v <ℚ w -ℚ v
    lt_of n v w m k = strict (int (pos n) *ℚ (b -ℚ a)) (w -ℚ v) m k
