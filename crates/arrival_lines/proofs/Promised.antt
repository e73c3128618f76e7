-- What the delay and the backlog of parts at a service promise of what the parts bring and of what is at least the service.
use Rattle.std.specs.Prelude.{◌≡◌, ℕ, ◌+◌, ◌*◌, ◌^◌, ◌≤◌, List}
use Rattle.std.proofs.Common.{arith}
use Rattle.rational.specs.Rational.{ℚ, ◌+ℚ◌, ◌-ℚ◌, ◌*ℚ◌, ◌≤ℚ◌}
use Rattle.rational.specs.MinMax.{max_q}
use Rattle.rational.specs.Extended.{Ext, ◌≤ₑ◌, ◌-ₑ◌}
use Rattle.rational.specs.declared.Extended.TheVariants.{Fin, Inf}
use Rattle.rational.proofs.Bounds.{smallest}
use Rattle.rational.proofs.ExtendedOrder.{le_ext_trans, fin_same}
use Rattle.rational.proofs.Laws.{le_refl, le_trans, mul_add, mul_le_mul}
use Rattle.rational.proofs.Linear.{with3, with4, with5, with6, with7}
use Rattle.rational.proofs.MinMax.{max_q_ge_left, max_q_ge_right, max_q_le}
use Rattle.min_plus.specs.Functions.{zero_q, whole, Time, FiniteTime}
use Rattle.min_plus.specs.Pointwise.{excess, packetised}
use Rattle.min_plus.specs.Deviations.{Lag}
use Rattle.arrival_lines.specs.Grid.{bits, speed, micros, parts_value, service_value}
use Rattle.arrival_lines.specs.Services.{IsServed}
use Rattle.arrival_lines.specs.Delays.{IsDelayAt, IsBrought, IsServedIn}
use Rattle.arrival_lines.specs.Backlogs.{IsBacklogAt, HoldsAtMost, passed_value}
use Rattle.arrival_lines.specs.declared.grid.Part.{Part}
use Rattle.arrival_lines.specs.declared.grid.Service.{Service}
use Rattle.arrival_lines.proofs.Units.{bits_add, speed_nonneg, micros_nonneg, brings, up_covers}

-- ---- the delay
caught_up : (x r n d : ℕ) (t wait : ℚ) → (x + n) * 10 ^ 12 ≤ r * d → micros d ≤ℚ wait → bits x +ℚ speed r *ℚ t ≤ℚ max_q zero_q (speed r *ℚ (t +ℚ wait) -ℚ bits n)
caught_up x r n d t wait h long =
    let a = le_trans (brings (x + n) r d h) (mul_le_mul (speed r) (speed_nonneg r) long) in
    let b = bits_add x n in
    let m = mul_add (speed r) t wait in
    let g = max_q_ge_right zero_q (speed r *ℚ (t +ℚ wait) -ℚ bits n) in
    joined (bits x) (bits n) (bits (x + n)) (speed r *ℚ t) (speed r *ℚ wait) (speed r *ℚ (t +ℚ wait)) (max_q zero_q (speed r *ℚ (t +ℚ wait) -ℚ bits n)) a b m g
  where
    joined : (p q s u v w k : ℚ) → s ≤ℚ v → s ≡ p +ℚ q → w ≡ u +ℚ v → w -ℚ q ≤ℚ k → p +ℚ u ≤ℚ k
    joined p q s u v w k a b m g = with7 p q s u v w k (λ c. omega (arith, c.le, c.lt, c.same))

pub delay_serves : (parts : List Part) (s : Service) (d : ℕ) → IsDelayAt parts s d → IsServedIn parts s d
delay_serves parts s d is = record {
  reached = caught;
  deviation = λ f g h brought served dev. smallest {I = Time} dev.lag h (Fin (micros d)) dev.is (λ t. (dev.is_lag t).below (member f g brought served t));
}
  where
    later : (t wait : ℚ) → zero_q ≤ℚ t → micros d ≤ℚ wait → zero_q ≤ℚ t +ℚ wait
    later t wait on long = let m = micros_nonneg d in let y = micros d in with3 t y wait (λ c. omega (arith, c.le, c.lt, c.same))

    caught : (f g : ℚ → Ext) → IsBrought f parts → IsServed g s → (t wait : ℚ) → zero_q ≤ℚ t → micros d ≤ℚ wait → f t ≤ₑ g (t +ℚ wait)
    caught f g brought served t wait on long =
        let h = up_covers ((is.over + s.debt) * 10 ^ 12) s.rate d is.some is.is in
        le_ext_trans (f t) (Fin (parts_value parts t)) (g (t +ℚ wait)) (brought.brought t on)
        (le_ext_trans (Fin (parts_value parts t)) (Fin (bits is.over +ℚ speed s.rate *ℚ t)) (g (t +ℚ wait)) (is.excess.over t on)
        (le_ext_trans (Fin (bits is.over +ℚ speed s.rate *ℚ t)) (Fin (service_value s (t +ℚ wait))) (g (t +ℚ wait))
        (caught_up is.over s.rate s.debt d t wait h long) (served.served (t +ℚ wait) (later t wait on long))))

    member : (f g : ℚ → Ext) → IsBrought f parts → IsServed g s → (t : Time) → Lag f g t.at
    member f g brought served t = record { after = micros d; nonneg = micros_nonneg d; reached = caught f g brought served t.at (micros d) t.nonneg (le_refl (micros d)) }

-- ---- the backlog
-- what is left of a value with a packet taken off
left_ge : (w : Ext) (a l y : ℚ) → Fin a ≤ₑ w → excess w (Fin l) ≡ Fin y → max_q zero_q (a -ℚ l) ≤ℚ y
left_ge Inf a l y h e = absurd (cc)
left_ge (Fin z) a l y h e =
    let k = fin_same e in
    let g = max_q_ge_right zero_q (z -ℚ l) in
    let p = max_q_ge_left zero_q (z -ℚ l) in
    let m = max_q zero_q (z -ℚ l) in
    max_q_le zero_q (a -ℚ l) y (with5 z a l y m (λ c. omega (arith, c.le, c.lt, c.same))) (with5 z a l y m (λ c. omega (arith, c.le, c.lt, c.same)))

less_level : (u : Ext) (p level q : ℚ) → u ≤ₑ Fin p → p -ℚ level ≤ℚ q → u -ₑ level ≤ₑ Fin q
less_level Inf p level q h k = absurd h
less_level (Fin z) p level q h k = with4 z p level q (λ c. omega (arith, c.le, c.lt, c.same))

passed_below : (s : Service) (longest : ℕ) (t level : ℚ) → max_q zero_q (service_value s t -ℚ bits longest) ≤ℚ level → passed_value s longest t ≤ℚ level
passed_below s longest t level h =
    let e = bits_add s.debt longest in
    let g = max_q_ge_right zero_q (speed s.rate *ℚ t -ℚ bits s.debt) in
    let p = max_q_ge_left zero_q (service_value s t -ℚ bits longest) in
    let q = max_q_ge_right zero_q (service_value s t -ℚ bits longest) in
    max_q_le zero_q (speed s.rate *ℚ t -ℚ bits (s.debt + longest)) level (le_trans p h)
    (joined (bits s.debt) (bits longest) (bits (s.debt + longest)) (speed s.rate *ℚ t) (service_value s t) level e g (le_trans q h))
  where
    joined : (n l m u v k : ℚ) → m ≡ n +ℚ l → u -ℚ n ≤ℚ v → v -ℚ l ≤ℚ k → u -ℚ m ≤ℚ k
    joined n l m u v k e g h = with6 n l m u v k (λ c. omega (arith, c.le, c.lt, c.same))

pub backlog_holds : (parts : List Part) (s : Service) (longest b : ℕ) → IsBacklogAt parts s longest b → HoldsAtMost parts s longest b
backlog_holds parts s longest b is = record {
  within = at_time;
  deviation = λ f g v brought served dev. smallest {I = FiniteTime (packetised g (bits longest))} (λ t. f t.at -ₑ t.level) v (Fin (whole b)) dev (λ t. at_time f g brought served t.at t.level t.nonneg t.is);
}
  where
    at_time : (f g : ℚ → Ext) → IsBrought f parts → IsServed g s → (t level : ℚ) → zero_q ≤ℚ t → packetised g (bits longest) t ≡ Fin level → f t -ₑ level ≤ₑ Fin (whole b)
    at_time f g brought served t level on e =
        less_level (f t) (parts_value parts t) level (whole b) (brought.brought t on)
        (joined (parts_value parts t) (whole b) (passed_value s longest t) level (is.over t on) (passed_below s longest t level (left_ge (g t) (service_value s t) (bits longest) level (served.served t on) e)))
      where
        joined : (p w v k : ℚ) → p ≤ℚ w +ℚ v → v ≤ℚ k → p -ℚ k ≤ℚ w
        joined p w v k h l = with4 p w v k (λ c. omega (arith, c.le, c.lt, c.same))
