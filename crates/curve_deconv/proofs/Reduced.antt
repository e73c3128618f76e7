-- The supremum over the times of a window is that over all times, and it moves with a period of the first function. Where the first
-- gains on the second it is infinite.
use Rattle.std.specs.Prelude.{◌≡◌, pos}
use Rattle.std.proofs.Common.{arith, sym, ap, ◌∙◌, refl, subst, inl, inr}
use Rattle.rational.specs.Rational.{ℚ, ◌+ℚ◌, ◌-ℚ◌, ◌*ℚ◌, ◌≤ℚ◌, ◌<ℚ◌, int}
use Rattle.rational.specs.Whole.{periods}
use Rattle.rational.specs.Extended.{Ext, ◌≤ₑ◌, ◌<ₑ◌, ◌+ₑ◌, ◌-ₑ◌}
use Rattle.rational.specs.declared.Extended.TheVariants.{Fin, Inf}
use Rattle.rational.proofs.Linear.{with2, with3, with4, with5}
use Rattle.rational.proofs.Laws.{le_or_lt, le_refl, le_trans, le_of_lt, mul_le_mul, mul_nonneg}
use Rattle.rational.proofs.Integers.{nat_nonneg}
use Rattle.rational.proofs.Quotients.{times_above, past_each}
use Rattle.rational.proofs.Whole.{periods_low, periods_high}
use Rattle.rational.proofs.ExtendedOrder.{same_le_ext, fin_same}
use Rattle.rational.proofs.Bounds.{infinite_member, unbounded, supremum_shift}
use Rattle.min_plus.specs.Functions.{IsFinite, FiniteTime}
use Rattle.upp_curve.specs.Steady.{Repeats}
use Rattle.min_plus.specs.Convolution.{IsDeconvolution}
use Rattle.curve_call.proofs.Shifts.{later_value}
use Rattle.curve_deconv.specs.DeconvolutionWindows.{EarlyTime, IsReached}

-- both repeat from `from` on with the period d, the second rises by at least as much, and `reach` is one period after
pub record AreRepeating (f g : ℚ → Ext) (from d a b reach : ℚ) : Type 0 where
  pub some : int (pos 0) <ℚ d
  pub low : int (pos 0) ≤ℚ from
  pub left : Repeats f from d a
  pub right : Repeats g from d b
  pub less : a ≤ℚ b
  pub reach_is : reach ≡ from +ℚ d
  pub finite : IsFinite g

-- ---- values
drop_le : (x : Ext) (q p r : ℚ) (v : Ext) → p ≤ℚ r → x -ₑ q ≤ₑ v → (x +ₑ Fin p) -ₑ (q +ℚ r) ≤ₑ v
drop_le Inf q p r v l h = h
drop_le (Fin x) q p r Inf l h = tt
drop_le (Fin x) q p r (Fin v) l h = with5 x q p r v (λ c. omega (arith, c.le, c.lt, c.same))

rise_out : (x : Ext) (c q : ℚ) → (x +ₑ Fin c) -ₑ q ≡ (x -ₑ q) +ₑ Fin c
rise_out Inf c q = refl
rise_out (Fin x) c q = ap Fin (with3 x c q (λ e. omega (arith, e.le, e.lt, e.same)))

-- ---- later times add nothing
pub early : (f g : ℚ → Ext) (from d a b reach t : ℚ) (v : Ext) → AreRepeating f g from d a b reach → int (pos 0) ≤ℚ t
    → ((u : EarlyTime g reach) → f (t +ℚ u.at) -ₑ u.level ≤ₑ v)
    → (u : FiniteTime g) → f (t +ℚ u.at) -ₑ u.level ≤ₑ v
early f g from d a b reach t v R some S u = elim (le_or_lt reach u.at) [
  | inr l ↦ S record { at = u.at; nonneg = u.nonneg; most = le_of_lt l; level = u.level; is = u.is }
  | inl l ↦ late l
]
  where
    late : reach ≤ℚ u.at → f (t +ℚ u.at) -ₑ u.level ≤ₑ v
    late l =
        let at = u.at in
        let above = R.some in
        let start = R.low in
        let past : from ≤ℚ at = (let e = R.reach_is in with4 from d reach at (λ c. omega (arith, c.le, c.lt, c.same))) in
        let n = periods from d at in
        let N = int (pos n) in
        let y = N *ℚ d in
        let w = at -ℚ y in
        let first = periods_low from d at R.some past in
        let last = periods_high from d at R.some in
        let w_low : from ≤ℚ w = with3 from at y (λ c. omega (arith, c.le, c.lt, c.same)) in
        let w_high : w <ℚ reach = (let e = R.reach_is in with5 from at y d reach (λ c. omega (arith, c.le, c.lt, c.same))) in
        let low : int (pos 0) ≤ℚ w = le_trans R.low w_low in
        let (q, e) = R.finite w low in
        let here : f (t +ℚ w) -ₑ q ≤ₑ v = S record { at = w; nonneg = low; most = le_of_lt w_high; level = q; is = e } in
        let there : (t +ℚ w) +ℚ y ≡ t +ℚ at = with3 t at y (λ c. omega (arith, c.le, c.lt, c.same)) in
        let back : w +ℚ y ≡ at = with2 at y (λ c. omega (arith, c.le, c.lt, c.same)) in
        let t_low : from ≤ℚ t +ℚ w = with3 from t w (λ c. omega (arith, c.le, c.lt, c.same)) in
        let f_is : f (t +ℚ at) ≡ f (t +ℚ w) +ₑ Fin (N *ℚ a) = ap f (sym there) ∙ later_value f from d a (t +ℚ w) n (le_of_lt R.some) R.left t_low in
        let g_is : g at ≡ g w +ₑ Fin (N *ℚ b) = ap g (sym back) ∙ later_value g from d b w n (le_of_lt R.some) R.right w_low in
        let level_is : u.level ≡ q +ℚ N *ℚ b = fin_same {y = q +ℚ N *ℚ b} (sym u.is ∙ g_is ∙ ap (λ x. x +ₑ Fin (N *ℚ b)) e) in
        let more : N *ℚ a ≤ℚ N *ℚ b = mul_le_mul N (nat_nonneg n) R.less in
        subst (λ x. x -ₑ u.level ≤ₑ v) (sym f_is) (subst (λ x. (f (t +ℚ w) +ₑ Fin (N *ℚ a)) -ₑ x ≤ₑ v) (sym level_is) (drop_le (f (t +ℚ w)) q (N *ℚ a) (N *ℚ b) v more here))

pub reduced : (f g : ℚ → Ext) (from d a b reach end t : ℚ) (v : Ext) → AreRepeating f g from d a b reach → int (pos 0) ≤ℚ t → IsReached f g reach end t v → IsDeconvolution f g t v
reduced f g from d a b reach end t v R some (inl (I, e)) =
    let s = I.at in
    let u = s -ℚ t in
    let l = I.late in
    let low : int (pos 0) ≤ℚ u = with2 s t (λ c. omega (arith, c.le, c.lt, c.same)) in
    let (q, k) = R.finite u low in
    let same : t +ℚ u ≡ s = with2 s t (λ c. omega (arith, c.le, c.lt, c.same)) in
    let F = λ (i : FiniteTime g). f (t +ℚ i.at) -ₑ i.level in
    let i : FiniteTime g = record { at = u; nonneg = low; level = q; is = k } in
    subst (IsDeconvolution f g t) (sym e) (infinite_member F i (ap (λ w. f w -ₑ q) same ∙ ap (λ x. x -ₑ q) I.top))
reduced f g from d a b reach end t v R some (inr (F, S)) = record {
  above = early f g from d a b reach t v R some S.supremum.above;
  near = λ y l. let (i, k) = S.supremum.near y l in (record { at = i.at; nonneg = i.nonneg; level = i.level; is = i.is }, k);
}

-- ---- it moves with a period of the first
pub moves : (f g : ℚ → Ext) (first d c t : ℚ) (v : Ext) → Repeats f first d c → first ≤ℚ t → IsDeconvolution f g t v → IsDeconvolution f g (t +ℚ d) (v +ₑ Fin c)
moves f g first d c t v F late D =
    supremum_shift {I = FiniteTime g} {J = FiniteTime g} (λ u. f (t +ℚ u.at) -ₑ u.level) (λ u. f ((t +ℚ d) +ℚ u.at) -ₑ u.level) c v
    (λ u. (u, same_le_ext (sym (same u)))) (λ u. (u, same_le_ext (same u))) D
  where
    same : (u : FiniteTime g) → f ((t +ℚ d) +ℚ u.at) -ₑ u.level ≡ (f (t +ℚ u.at) -ₑ u.level) +ₑ Fin c
    same u =
        let at = u.at in
        let n = u.nonneg in
        let e : (t +ℚ d) +ℚ at ≡ (t +ℚ at) +ℚ d = with3 t d at (λ c. omega (arith, c.le, c.lt, c.same)) in
        let l : first ≤ℚ t +ℚ at = with3 first t at (λ c. omega (arith, c.le, c.lt, c.same)) in
        ap (λ w. f w -ₑ u.level) e ∙ ap (λ x. x -ₑ u.level) (F.rule (t +ℚ at) l) ∙ rise_out (f (t +ℚ at)) c u.level

-- ---- where the first gains with each period

pub gaining : (f g : ℚ → Ext) (from d a b t : ℚ) → int (pos 0) <ℚ d → int (pos 0) ≤ℚ from → Repeats f from d a → Repeats g from d b → IsFinite g → int (pos 0) ≤ℚ t
    → ((x : ℚ) → f (t +ℚ from) ≡ Fin x → int (pos 0) <ℚ a -ℚ b) → IsDeconvolution f g t Inf
gaining f g from d a b t some low F G finite nonneg gains = by (f (t +ℚ from)) refl
  where
    by : (x : Ext) → f (t +ℚ from) ≡ x → IsDeconvolution f g t Inf
    by Inf e =
        let (q, k) = finite from low in
        let i : FiniteTime g = record { at = from; nonneg = low; level = q; is = k } in
        infinite_member {I = FiniteTime g} (λ u. f (t +ℚ u.at) -ₑ u.level) i (ap (λ x. x -ₑ q) e)
    by (Fin x) e =
        let (v, k) = finite from low in
        unbounded {I = FiniteTime g} (λ u. f (t +ℚ u.at) -ₑ u.level)
        (λ y.
        let (n, over) = times_above (y -ℚ (x -ℚ v)) (a -ℚ b) (gains x e) in
        let N = int (pos n) in
        let s = N *ℚ d in
        let more : int (pos 0) ≤ℚ s = mul_nonneg (nat_nonneg n) (le_of_lt some) in
        let far : int (pos 0) ≤ℚ from +ℚ s = with2 from s (λ c. omega (arith, c.le, c.lt, c.same)) in
        let start : from ≤ℚ t +ℚ from = with2 t from (λ c. omega (arith, c.le, c.lt, c.same)) in
        let split : t +ℚ (from +ℚ s) ≡ (t +ℚ from) +ℚ s = with3 t from s (λ c. omega (arith, c.le, c.lt, c.same)) in
        let f_is : f (t +ℚ (from +ℚ s)) ≡ Fin (x +ℚ N *ℚ a) =
        ap f split ∙ later_value f from d a (t +ℚ from) n (le_of_lt some) F start ∙ ap (λ w. w +ₑ Fin (N *ℚ a)) e in
        let g_is : g (from +ℚ s) ≡ Fin (v +ℚ N *ℚ b) = later_value g from d b from n (le_of_lt some) G (le_refl from) ∙ ap (λ w. w +ₑ Fin (N *ℚ b)) k in
        (record { at = from +ℚ s; nonneg = far; level = v +ℚ N *ℚ b; is = g_is }, subst (λ w. Fin y <ₑ w -ₑ (v +ℚ N *ℚ b)) (sym f_is) (past_each x v a b y N over)))
