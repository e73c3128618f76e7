-- Which curves of a formula a network may have.
use Rattle.std.proofs.Common.{◌≡◌, suc, pos, subst, sym, ◌∙◌, arith, ap}
use Rattle.rational.specs.Rational.{ℚ, int, ◌+ℚ◌, ◌-ℚ◌, ◌*ℚ◌, ◌/ℚ◌, ◌≤ℚ◌, ◌<ℚ◌}
use Rattle.rational.specs.Whole.{whole_part}
use Rattle.rational.specs.Extended.{Ext, ◌≤ₑ◌}
use Rattle.rational.specs.declared.Extended.TheVariants.{Fin}
use Rattle.rational.proofs.Laws.{le_refl, mul_le_mul, mul_nonneg, mul_zero}
use Rattle.rational.proofs.Integers.{nat_le, nat_nonneg}
use Rattle.rational.proofs.MinMax.{max_q_is_left}
use Rattle.rational.proofs.Linear.{with3, with4}
use Rattle.min_plus.specs.Functions.{zero_q}
use Rattle.upp_curve.specs.Curve.{SpecCurve, value_at}
use Rattle.upp_curve.specs.Kinds.{rate_latency, bucket, gate, stair}
use Rattle.upp_curve.proofs.KindValues.{service_is, bucket_is}
use Rattle.upp_curve.proofs.StairValues.{stair_is}
use Rattle.net_model.specs.Accepted.{IsServiceCurve, IsArrivalCurve}
use Rattle.net_model.specs.CurveKinds.{KindsMayStand}
use Rattle.net_model.proofs.Paces.{HasPace, pace_finite, pace_rising, pace_continuous, service_pace, bucket_pace}
use Rattle.net_model.proofs.GatePaces.{gate_pace, gate_at_zero, over_grows}

paced : (f : SpecCurve) (rate : ℚ) → HasPace (value_at f) rate → value_at f zero_q ≡ Fin zero_q → IsServiceCurve f
paced f rate p none = record {
  finite = pace_finite (value_at f) rate p;
  rising = pace_rising (value_at f) rate p;
  continuous = pace_continuous (value_at f) rate p;
  at_zero = none;
}

steps_rise : (l P J : ℚ) → zero_q ≤ℚ l → zero_q <ℚ P → zero_q ≤ℚ J → IsArrivalCurve (stair l P J)
steps_rise l P J h some early = record {
  finite = λ t late. (_, stair_is l P J t h some early late);
  rising = λ s t late before.
      let later : zero_q ≤ℚ t = with3 s t zero_q (λ c. omega (arith, c.le, c.lt, c.same)) in
      let start : zero_q ≤ℚ s +ℚ J = with3 s J zero_q (λ c. omega (arith, c.le, c.lt, c.same)) in
      let moved : s +ℚ J ≤ℚ t +ℚ J = with3 s t J (λ c. omega (arith, c.le, c.lt, c.same)) in
      let n = over_grows P (s +ℚ J) (t +ℚ J) some start moved in
      let P1 : Ext → Type 0 = λ x. x ≤ₑ value_at (stair l P J) t in
      let Q1 : Ext → Type 0 = λ y. Fin (l *ℚ int (pos (suc (whole_part ((s +ℚ J) /ℚ P))))) ≤ₑ y in
      subst P1 (sym (stair_is l P J s h some early late)) (subst Q1 (sym (stair_is l P J t h some early later))
      (mul_le_mul l h (nat_le (suc (whole_part ((s +ℚ J) /ℚ P))) (suc (whole_part ((t +ℚ J) /ℚ P))) (omega (arith, n)))));
  nonnegative = λ t late.
      let P1 : Ext → Type 0 = λ x. Fin zero_q ≤ₑ x in
      subst P1 (sym (stair_is l P J t h some early late)) (mul_nonneg h (nat_nonneg (suc (whole_part ((t +ℚ J) /ℚ P)))));
}

bucket_stands : (burst rate : ℚ) → zero_q ≤ℚ burst → zero_q ≤ℚ rate → IsArrivalCurve (bucket burst rate)
bucket_stands burst rate h k =
    let p = bucket_pace burst rate k in
    record {
      finite = pace_finite (value_at (bucket burst rate)) rate p;
      rising = pace_rising (value_at (bucket burst rate)) rate p;
      nonnegative = λ t late.
          let P : Ext → Type 0 = λ x. Fin zero_q ≤ₑ x in
          let risen = mul_le_mul rate k late in
          let zero = mul_zero rate in
          subst P (sym ((bucket_is burst rate).is t late)) (with4 burst (rate *ℚ t) (rate *ℚ zero_q) zero_q (λ c. omega (arith, c.le, c.lt, c.same)));
    }

latency_at_zero : (rate latency : ℚ) → zero_q ≤ℚ rate → zero_q ≤ℚ latency → value_at (rate_latency rate latency) zero_q ≡ Fin zero_q
latency_at_zero rate latency h k =
    let early : zero_q -ℚ latency ≤ℚ zero_q = with3 latency zero_q zero_q (λ c. omega (arith, c.le, c.lt, c.same)) in
    let none = ap (λ x. rate *ℚ x) (max_q_is_left zero_q (zero_q -ℚ latency) early) ∙ mul_zero rate in
    (service_is rate latency h k).is zero_q (le_refl zero_q) ∙ ap Fin none

pub kinds_may_stand : KindsMayStand
kinds_may_stand = record {
  rate_latency = λ rate latency h k. paced (rate_latency rate latency) rate (service_pace rate latency h k) (latency_at_zero rate latency h k);
  gate = λ rate cycle slot h k l. paced (gate rate cycle slot) rate (gate_pace rate cycle slot h k l) (gate_at_zero rate cycle slot h k l);
  bucket = bucket_stands;
  stair = steps_rise;
}
