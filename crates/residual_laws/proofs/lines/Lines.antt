-- What a queue is served by a rate with a debt: the laws over functions at such a rate in place of the server's curve, and at a
-- line in place of what others bring.
use Rattle.std.specs.Prelude.{◌≡◌, ◌≤◌, ◌<◌, ℕ, List, get_or, sum}
use Rattle.std.proofs.Common.{arith, sym, ap, ◌∙◌, subst}
use Rattle.rational.specs.Rational.{ℚ, ◌+ℚ◌, ◌-ℚ◌, ◌*ℚ◌, ◌≤ℚ◌}
use Rattle.rational.specs.Extended.{Ext}
use Rattle.rational.specs.declared.Extended.TheVariants.{Fin}
use Rattle.rational.proofs.Bounds.{same_supremum}
use Rattle.rational.proofs.ExtendedOrder.{same_le_ext}
use Rattle.rational.proofs.Laws.{le_refl, le_trans, mul_zero}
use Rattle.rational.proofs.Linear.{with1, with2, sub_nonneg}
use Rattle.rational.proofs.MinMax.{max_q_le}
use Rattle.min_plus.specs.Functions.{zero_q, UpTo, IsRising}
use Rattle.min_plus.specs.Formulas.{bucket_value}
use Rattle.min_plus.specs.Pointwise.{excess}
use Rattle.min_plus.specs.Running.{IsRunningSupremum}
use Rattle.min_plus.proofs.BucketOperators.{rising_run_sup}
use Rattle.run_laws.specs.Cards.{Class, whole, before_queue, ServerStep}
use Rattle.run_laws.specs.Counts.{arrived_in}
use Rattle.run_laws.specs.Premises.{KeepsArrivals, KeepsService, IsZeroAtStart}
use Rattle.run_laws.proofs.Sizes.{whole_nonneg}
use Rattle.run_laws.proofs.Counts.{window_nonneg}
use Rattle.run_laws.proofs.FifoQueue.{fifo_queue_is_served}
use Rattle.run_laws.proofs.Weaker.{lesser_kept}
use Rattle.residual_laws.specs.DrrLaws.{share, owed, drr_left}
use Rattle.residual_laws.specs.PriorityLaws.{priority_left}
use Rattle.residual_laws.specs.RestLaws.{others, rest_left}
use Rattle.residual_laws.proofs.DrrLaw.{drr_serves}
use Rattle.residual_laws.proofs.Owed.{in_sum, share_nonneg, owed_nonneg}
use Rattle.residual_laws.proofs.PriorityLaw.{priority_serves}
use Rattle.residual_laws.proofs.RestLaw.{rest_serves}
use Rattle.residual_laws.specs.lines.LineLaws.{FifoLineServes, PriorityLineServes, DrrLineServes, RestLineServes}
use Rattle.residual_laws.specs.lines.RateDebt.{rate_debt_value, IsAtLeastRate}
use Rattle.residual_laws.proofs.lines.RateDebt.{rises, less_line, less_bits, share_of_rate}

-- ---- the server
-- it works by the rate with the debt
works : (end : ℚ) (V : List ServerStep) (β : ℚ → Ext) (rate debt : ℚ) → KeepsService β end V → IsAtLeastRate β rate debt
    → KeepsService (rate_debt_value rate debt) end V
works end V β rate debt service least = lesser_kept end V β (rate_debt_value rate debt) least.below service

-- which gives nothing at once
flat : (rate debt : ℚ) → zero_q ≤ℚ debt → IsZeroAtStart (rate_debt_value rate debt)
flat rate debt on =
    let none = mul_zero rate in
    max_q_le zero_q (rate *ℚ zero_q -ℚ debt) zero_q (le_refl zero_q)
    (with2 (rate *ℚ zero_q) debt (λ c. omega (arith, c.le, c.lt, c.same)))

-- ---- what others bring
-- a line that is kept is nowhere below 0
line_on : (V : List ServerStep) (C : Class) (burst rate t : ℚ) → KeepsArrivals C (bucket_value burst rate) V → zero_q ≤ℚ t
    → zero_q ≤ℚ burst +ℚ rate *ℚ t
line_on V C burst rate t keeps on =
    let window : t -ℚ zero_q ≡ t = with1 t (λ c. omega (arith, c.le, c.lt, c.same)) in
    le_trans (window_nonneg C V zero_q t)
    (subst (λ (x : ℚ). arrived_in C V zero_q t ≤ℚ burst +ℚ rate *ℚ x) window (keeps zero_q t on))

-- what is a rising function at each time is its running supremum
pub running : (f R : ℚ → Ext) → IsRising R → ((t : ℚ) → zero_q ≤ℚ t → f t ≡ R t) → (t : ℚ) → zero_q ≤ℚ t → IsRunningSupremum f t (R t)
running f R rise is t on =
    same_supremum (λ (s : UpTo t). R s.at) (λ (s : UpTo t). f s.at) (R t)
    (λ s. (s, same_le_ext (sym (is s.at s.nonneg))))
    (λ s. (s, same_le_ext (is s.at s.nonneg)))
    (rising_run_sup R t on rise)

-- ---- the laws
pub fifo_serves : FifoLineServes
fifo_serves server end V β rate debt lawful fifo service least =
    fifo_queue_is_served server end V (rate_debt_value rate debt) lawful fifo (works end V β rate debt service least)
    (flat rate debt least.debt_on)

pub priority_line : PriorityLineServes
priority_line server end V n i lower β rate debt burst higher lawful priority service least slow keeps sizes =
    priority_serves server end V n i lower (rate_debt_value rate debt) (bucket_value burst higher)
    (rate_debt_value (rate -ℚ higher) (debt +ℚ burst +ℚ whole lower)) lawful priority
    (works end V β rate debt service least) (flat rate debt least.debt_on) keeps sizes
    (running (priority_left (rate_debt_value rate debt) (bucket_value burst higher) lower)
    (rate_debt_value (rate -ℚ higher) (debt +ℚ burst +ℚ whole lower))
    (rises (rate -ℚ higher) (debt +ℚ burst +ℚ whole lower) (sub_nonneg higher rate slow))
    (λ t on. ap (λ (x : Ext). excess x (Fin (whole lower))) (less_line rate debt burst higher t (line_on V (before_queue i) burst higher t keeps on))
    ∙ less_bits (rate -ℚ higher) (debt +ℚ burst) (whole lower) t (whole_nonneg lower)))

pub rest_line : RestLineServes
rest_line server end V C β rate debt burst brought lawful service least slow keeps =
    rest_serves server end V C (rate_debt_value rate debt) (bucket_value burst brought)
    (rate_debt_value (rate -ℚ brought) (debt +ℚ burst)) lawful (works end V β rate debt service least)
    (flat rate debt least.debt_on) keeps
    (running (rest_left (rate_debt_value rate debt) (bucket_value burst brought)) (rate_debt_value (rate -ℚ brought) (debt +ℚ burst))
    (rises (rate -ℚ brought) (debt +ℚ burst) (sub_nonneg brought rate slow))
    (λ t on. less_line rate debt burst brought t (line_on V (others C) burst brought t keeps on)))

-- its share of the rate
left_is : (Q l F Λ : ℕ) (rate debt t : ℚ) → 0 < F → Q ≤ F → l ≤ Λ
    → rate_debt_value (share Q F *ℚ rate) (share Q F *ℚ debt +ℚ owed Q l F Λ) t ≡ drr_left (rate_debt_value rate debt) Q l F Λ t
left_is Q l F Λ rate debt t some own packet =
    sym (ap (λ (x : Ext). excess x (Fin (owed Q l F Λ))) (share_of_rate (share Q F) rate debt t (share_nonneg Q F some))
    ∙ less_bits (share Q F *ℚ rate) (share Q F *ℚ debt) (owed Q l F Λ) t (owed_nonneg Q l F Λ some own packet))

pub drr_line : DrrLineServes
drr_line server end V quanta longest i β rate debt lawful drr paired among some sizes service least =
    let own = in_sum quanta i among in
    let packet : get_or longest i 0 ≤ sum longest = in_sum longest i (rw paired among) in
    let Q = get_or quanta i 0 in
    let l = get_or longest i 0 in
    let F = sum quanta in
    let Λ = sum longest in
    drr_serves server end V quanta longest i (rate_debt_value rate debt)
    (rate_debt_value (share Q F *ℚ rate) (share Q F *ℚ debt +ℚ owed Q l F Λ)) lawful drr paired among some sizes
    (works end V β rate debt service least) (flat rate debt least.debt_on)
    (λ t on. left_is Q l F Λ rate debt t (omega arith) own packet)
