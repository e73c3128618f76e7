-- One flow of a first in, first out queue is served by what the others leave.
use Rattle.std.specs.Prelude.{◌≡◌, ℕ, pos, Bool, true, false, ◌||◌, List}
use Rattle.std.proofs.Common.{arith, ◌∙◌, refl, inl, inr, subst}
use Rattle.rational.specs.Rational.{ℚ, int, ◌+ℚ◌, ◌-ℚ◌, ◌≤ℚ◌, ◌<ℚ◌}
use Rattle.rational.specs.Extended.{Ext, ◌≤ₑ◌, ◌+ₑ◌}
use Rattle.rational.specs.declared.Extended.TheVariants.{Fin, Inf}
use Rattle.rational.proofs.Over.{le_q_out, le_q_in}
use Rattle.rational.proofs.MinMax.{max_q_left, max_q_right}
use Rattle.rational.proofs.Laws.{le_refl, le_trans, le_of_lt, le_or_lt}
use Rattle.rational.proofs.ExtendedOrder.{le_ext_refl, le_ext_trans, add_le_ext}
use Rattle.rational.proofs.Linear.{with2, with3, with4, with5, with6, with7, with8}
use Rattle.min_plus.specs.Pointwise.{excess}
use Rattle.min_plus.specs.Running.{left_after}
use Rattle.run_laws.specs.Cards.{size, Class, ServerStep}
use Rattle.run_laws.proofs.Always.{IsAlwaysOfQueue, IsAlwaysPart, AreAlwaysParts}
use Rattle.run_laws.specs.Servers.{Server}
use Rattle.run_laws.specs.Allows.{IsLawfulView}
use Rattle.run_laws.specs.Counts.{when, upto, arrived, arrived_upto, arrived_in, worked, departed}
use Rattle.run_laws.specs.Premises.{KeepsArrivals}
use Rattle.run_laws.specs.Serves.{Serves, IsServed}
use Rattle.run_laws.proofs.Levels.{finite_below, add_low}
use Rattle.run_laws.proofs.Sums.{when_true}
use Rattle.run_laws.proofs.Counts.{arrived_rises, upto_arrived, arrived_le, arrived_in_is}
use Rattle.run_laws.proofs.Parts.{arrived_parts, worked_parts}
use Rattle.run_laws.proofs.Orders.{left_worked}
use Rattle.run_laws.proofs.Sizes.{size_pos}
use Rattle.run_laws.proofs.Oldest.{oldest, Oldest}
use Rattle.residuals.specs.fifo.Laws.{IsResidual}
use Rattle.plain_operators.proofs.CurveCalls.{late_left}

-- ---- the parts
left_is_part : (Q f g : Class) → AreAlwaysParts Q f g → IsAlwaysPart f Q
left_is_part Q f g a c h = a.of_one c ∙ rw h

right_is_part : (Q f g : Class) → AreAlwaysParts Q f g → IsAlwaysPart g Q
right_is_part Q f g a c h = a.of_one c ∙ or_right (f c) (g c) h
  where
    or_right : (x y : Bool) → y ≡ true → (x || y) ≡ true
    or_right true y h = refl
    or_right false y h = h

-- ---- the curve is below what is left at each time from then on
at_most_left : (β cross R : ℚ → Ext) (θ x : ℚ) → IsResidual β cross (Fin θ) R → int (pos 0) ≤ℚ x → R x ≤ₑ left_after β cross θ x
at_most_left β cross R θ x is on = (is x on).below record { at = x; least = le_refl x }

early_left : (β cross : ℚ → Ext) (θ x : ℚ) → x ≤ℚ θ → left_after β cross θ x ≡ Fin (int (pos 0))
unfolding left_after
early_left β cross θ x l = rw (le_q_out x θ l) refl

-- up to θ it is nothing
nothing_yet : (β cross R : ℚ → Ext) (θ : Ext) (x : ℚ) → IsResidual β cross θ R → int (pos 0) ≤ℚ x → Fin x ≤ₑ θ → R x ≤ₑ Fin (int (pos 0))
nothing_yet β cross R Inf x is on l = rw (is x on) (le_refl (int (pos 0)))
nothing_yet β cross R (Fin θ) x is on l = subst (λ (y : Ext). R x ≤ₑ y) (early_left β cross θ x l) (at_most_left β cross R θ x is on)

-- served since s, where the curve is nothing
served_flat : (V : List ServerStep) (f : Class) (R : ℚ → Ext) (t s : ℚ) → s ≤ℚ t → arrived f V s ≤ℚ departed f V t
    → departed f V t ≤ℚ worked f V t → R (t -ℚ s) ≤ₑ Fin (int (pos 0)) → IsServed f R V t s
served_flat V f R t s h l m e = record { earlier = h; left = l; kept_up = add_low (arrived f V s) (worked f V t) (R (t -ℚ s)) e (le_trans l m) }

-- the counts' part of it: what is left for f
left_over : (b other work_f came_f : ℚ) (y : Ext) → Fin other ≤ₑ y → came_f ≤ℚ work_f → came_f +ℚ b ≤ℚ work_f +ℚ other
    → (Fin came_f +ₑ excess (Fin b) y) ≤ₑ Fin work_f
left_over b other work_f came_f Inf h k l = with2 came_f work_f (λ c. omega (arith, c.le, c.lt, c.same))
left_over b other work_f came_f (Fin c) h k l = elim (le_or_lt (int (pos 0)) (b -ℚ c)) [
  | inl m ↦ rw (max_q_right (int (pos 0)) (b -ℚ c) m) (with5 b c other work_f came_f (λ c. omega (arith, c.le, c.lt, c.same)))
  | inr m ↦ rw (max_q_left (int (pos 0)) (b -ℚ c) m) (with2 came_f work_f (λ c. omega (arith, c.le, c.lt, c.same)))
]

-- past θ after the oldest packet's arrival
past_θ : (server : Server) (end : ℚ) (V : List ServerStep) (Q f g : Class) (β cross R : ℚ → Ext) (θ t r : ℚ) → IsLawfulView server end V
    → AreAlwaysParts Q f g → KeepsArrivals g cross V
    → int (pos 0) ≤ℚ θ → IsResidual β cross (Fin θ) R → (o : Oldest V Q t) → θ <ℚ t -ℚ o.u → IsServed Q β V t r → IsServed f R V t r
past_θ server end V Q f g β cross R θ t r lawful a keeps θ_on residual o late is =
    let p = o.p in
    let u = o.u in
    let f_part = left_is_part Q f g a in
    let g_part = right_is_part Q f g a in
    let own : IsAlwaysPart Q Q = λ _ h. h in
    let (b, level, up) = finite_below (arrived Q V r) (worked Q V t) (β (t -ℚ r)) is.kept_up in
    let gone = is.left in
    let came_Q = o.is.came_upto Q (o.is.left Q own) in
    let one = when_true (Q p) (size p) o.is.counted in
    let more = size_pos p o.is.some_bits in
    let r_first : r ≤ℚ u = elim (le_or_lt r u) [
      | inl l ↦ l
      | inr l ↦
          let later = upto_arrived Q V u r l in
          absurd (with6 (arrived Q V r) (departed Q V t) (when (Q p) (size p)) (size p) (arrived_upto Q V u) (int (pos 0)) (λ c. omega (arith, c.le, c.lt, c.same)))
    ] in
    let left_f : arrived f V r ≤ℚ departed f V t = le_trans (arrived_rises f V r u r_first) (o.is.came f f_part) in
    let done_f : arrived f V r ≤ℚ worked f V t = le_trans left_f (left_worked server end V f t lawful) in
    let edge : r ≤ℚ t -ℚ θ = with4 r u t θ (λ c. omega (arith, c.le, c.lt, c.same)) in
    let u_edge : u ≤ℚ t -ℚ θ = with3 u t θ (λ c. omega (arith, c.le, c.lt, c.same)) in
    let work_g = o.is.work g g_part in
    let came_g = o.is.came_upto g (o.is.left g g_part) in
    let rise_g : arrived_upto g V u ≤ℚ arrived_upto g V (t -ℚ θ) = arrived_le g V (upto u) (upto (t -ℚ θ)) (λ v h. le_q_out v (t -ℚ θ) (le_trans (le_q_in v u h) u_edge)) in
    let window = arrived_in_is g V r (t -ℚ θ) edge in
    let sum_A = arrived_parts Q f g V r a in
    let sum_W = worked_parts Q f g V t a in
    let most_g : worked g V t ≤ℚ arrived g V r +ℚ arrived_in g V r (t -ℚ θ) =
    with7 (worked g V t) (departed g V t) (when (g p) (size p)) (arrived_upto g V u) (arrived_upto g V (t -ℚ θ)) (arrived g V r) (arrived_in g V r (t -ℚ θ)) (λ c. omega (arith, c.le, c.lt, c.same)) in
    let flow : arrived f V r +ℚ b ≤ℚ worked f V t +ℚ arrived_in g V r (t -ℚ θ) =
    summed (arrived Q V r) (arrived f V r) (arrived g V r) (worked Q V t) (worked f V t) (worked g V t) b (arrived_in g V r (t -ℚ θ)) sum_A sum_W up most_g in
    let past : θ <ℚ t -ℚ r = with4 r u t θ (λ c. omega (arith, c.le, c.lt, c.same)) in
    let same : t -ℚ θ -ℚ r ≡ t -ℚ r -ℚ θ = with3 t θ r (λ c. omega (arith, c.le, c.lt, c.same)) in
    let keep : Fin (arrived_in g V r (t -ℚ θ)) ≤ₑ cross (t -ℚ r -ℚ θ) = subst (λ (x : ℚ). Fin (arrived_in g V r (t -ℚ θ)) ≤ₑ cross x) same (keeps r (t -ℚ θ) edge) in
    let x_on : int (pos 0) ≤ℚ t -ℚ r = with3 t r θ (λ c. omega (arith, c.le, c.lt, c.same)) in
    let below : R (t -ℚ r) ≤ₑ excess (Fin b) (cross (t -ℚ r -ℚ θ)) =
    subst (λ (y : Ext). R (t -ℚ r) ≤ₑ excess y (cross (t -ℚ r -ℚ θ))) level
    (subst (λ (y : Ext). R (t -ℚ r) ≤ₑ y) (late_left β cross θ (t -ℚ r) past) (at_most_left β cross R θ (t -ℚ r) residual x_on)) in
    record {
      earlier = is.earlier;
      left = left_f;
      kept_up = le_ext_trans (Fin (arrived f V r) +ₑ R (t -ℚ r)) (Fin (arrived f V r) +ₑ excess (Fin b) (cross (t -ℚ r -ℚ θ))) (Fin (worked f V t))
          (add_le_ext (Fin (arrived f V r)) (Fin (arrived f V r)) (R (t -ℚ r)) (excess (Fin b) (cross (t -ℚ r -ℚ θ))) (le_ext_refl (Fin (arrived f V r))) below)
          (left_over b (arrived_in g V r (t -ℚ θ)) (worked f V t) (arrived f V r) (cross (t -ℚ r -ℚ θ)) keep done_f flow);
    }
  where
    summed : (AQ Af Ag WQ Wf Wg b other : ℚ) → AQ ≡ Af +ℚ Ag → WQ ≡ Wf +ℚ Wg → AQ +ℚ b ≤ℚ WQ → Wg ≤ℚ Ag +ℚ other → Af +ℚ b ≤ℚ Wf +ℚ other
    summed AQ Af Ag WQ Wf Wg b other e k h l = with8 AQ Af Ag WQ Wf Wg b other (λ c. omega (arith, c.le, c.lt, c.same))

by_θ : (server : Server) (end : ℚ) (V : List ServerStep) (Q f g : Class) (β cross R : ℚ → Ext) (θ : Ext) (t r : ℚ)
    → IsLawfulView server end V → AreAlwaysParts Q f g → KeepsArrivals g cross V
    → Fin (int (pos 0)) ≤ₑ θ → IsResidual β cross θ R → (o : Oldest V Q t) → IsServed Q β V t r → (s : ℚ) × IsServed f R V t s
by_θ server end V Q f g β cross R θ t r lawful a keeps θ_on residual o is = by_case θ θ_on residual
  where
    since_oldest : (θ : Ext) → IsResidual β cross θ R → Fin (t -ℚ o.u) ≤ₑ θ → IsServed f R V t o.u
    since_oldest θ residual l =
        let early = o.is.earlier in
        served_flat V f R t o.u (le_of_lt early) (o.is.came f (left_is_part Q f g a)) (left_worked server end V f t lawful)
        (nothing_yet β cross R θ (t -ℚ o.u) residual (from_there t o.u early) l)
      where
        from_there : (t u : ℚ) → u <ℚ t → int (pos 0) ≤ℚ t -ℚ u
        from_there t u h = with2 t u (λ c. omega (arith, c.le, c.lt, c.same))

    by_case : (θ : Ext) → Fin (int (pos 0)) ≤ₑ θ → IsResidual β cross θ R → (s : ℚ) × IsServed f R V t s
    by_case Inf on residual = (o.u, since_oldest Inf residual tt)
    by_case (Fin θ) on residual = elim (le_or_lt (t -ℚ o.u) θ) [
      | inl l ↦ (o.u, since_oldest (Fin θ) residual l)
      | inr l ↦ (r, past_θ server end V Q f g β cross R θ t r lawful a keeps on residual o l is)
    ]

pub fifo_serves_always : (server : Server) (end : ℚ) (V : List ServerStep) (Q f g : Class) (q : ℕ) (β cross R : ℚ → Ext) (θ : Ext)
    → IsLawfulView server end V → IsAlwaysOfQueue Q q → AreAlwaysParts Q f g → KeepsArrivals g cross V → Serves Q β end V
    → Fin (int (pos 0)) ≤ₑ θ → IsResidual β cross θ R → Serves f R end V
fifo_serves_always server end V Q f g q β cross R θ lawful own a keeps serves θ_on residual t l = elim (oldest server end V Q q t lawful own) [
  | inl empty ↦
      let e = empty.all_left f (left_is_part Q f g a) in
      let none : t -ℚ t ≡ int (pos 0) = with2 t t (λ c. omega (arith, c.le, c.lt, c.same)) in
      (t, served_flat V f R t t (le_refl t) (rw e (le_refl (arrived f V t))) (left_worked server end V f t lawful) (rw none (nothing_yet β cross R θ (int (pos 0)) residual (le_refl (int (pos 0))) θ_on)))
  | inr o ↦
      let (r, is) = serves t l in
      by_θ server end V Q f g β cross R θ t r lawful a keeps θ_on residual o is
]
