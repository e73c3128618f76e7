-- A function that never falls and rises no faster than some rate has no jump.
use Rattle.std.proofs.Common.{◌≡◌, pos, subst, sym, arith, inl, inr}
use Rattle.rational.specs.Rational.{ℚ, int, ◌+ℚ◌, ◌-ℚ◌, ◌*ℚ◌, ◌/ℚ◌, ◌≤ℚ◌, ◌<ℚ◌}
use Rattle.rational.specs.MinMax.{max_q}
use Rattle.rational.specs.Extended.{Ext, ◌≤ₑ◌}
use Rattle.rational.specs.declared.Extended.TheVariants.{Fin}
use Rattle.rational.proofs.Laws.{le_or_lt, le_of_lt, le_refl, mul_le_mul, mul_comm, div_mul, not_zero, mul_sub, mul_add, add_mul, one_mul}
use Rattle.rational.proofs.MinMax.{max_q_mono, max_q_ge_left, max_q_ge_right, max_q_le}
use Rattle.rational.proofs.Quotients.{div_pos}
use Rattle.rational.proofs.Linear.{with3, with4, with5, with6}
use Rattle.min_plus.specs.Functions.{zero_q, IsFinite, IsRising}
use Rattle.upp_curve.specs.Curve.{value_at}
use Rattle.upp_curve.specs.Kinds.{rate_latency, bucket}
use Rattle.upp_curve.proofs.KindValues.{service_is, bucket_is}
use Rattle.min_plus.specs.Continuity.{AreNear, IsContinuous}

-- f is v, which rises by at most `rate` in a unit of time
pub record HasPace (f : ℚ → Ext) (rate : ℚ) : Type 0 where
  pub nonneg : zero_q ≤ℚ rate
  pub value : ℚ → ℚ
  pub is : (t : ℚ) → zero_q ≤ℚ t → f t ≡ Fin (value t)
  pub rises : (s t : ℚ) → zero_q ≤ℚ s → s ≤ℚ t → value s ≤ℚ value t
  pub bounded : (s t : ℚ) → zero_q ≤ℚ s → s ≤ℚ t → value t ≤ℚ value s +ℚ rate *ℚ (t -ℚ s)

pub pace_finite : (f : ℚ → Ext) (rate : ℚ) → HasPace f rate → IsFinite f
pace_finite f rate p t h = (p.value t, p.is t h)

pub pace_rising : (f : ℚ → Ext) (rate : ℚ) → HasPace f rate → IsRising f
pace_rising f rate p s t h k =
    let late : zero_q ≤ℚ t = with3 s t zero_q (λ c. omega (arith, c.le, c.lt, c.same)) in
    let P : Ext → Type 0 = λ x. x ≤ₑ f t in
    let Q : Ext → Type 0 = λ y. Fin (p.value s) ≤ₑ y in
    subst P (sym (p.is s h)) (subst Q (sym (p.is t late)) (p.rises s t h k))

-- two values whose distance is at most d are within a margin that d takes no longer than
close : (f : ℚ → Ext) (rate : ℚ) → (p : HasPace f rate) → (s t d margin : ℚ) → zero_q ≤ℚ s → s ≤ℚ t → t ≤ℚ s +ℚ d → rate *ℚ d ≤ℚ margin
    → zero_q ≤ℚ margin → AreNear (f s) (f t) margin
close f rate p s t d margin h before near fits small =
    let late : zero_q ≤ℚ t = with3 s t zero_q (λ c. omega (arith, c.le, c.lt, c.same)) in
    let low = p.rises s t h before in
    let high = p.bounded s t h before in
    let gap : t -ℚ s ≤ℚ d = with3 s t d (λ c. omega (arith, c.le, c.lt, c.same)) in
    let most = mul_le_mul rate p.nonneg gap in
    let up : p.value t ≤ℚ p.value s +ℚ margin =
    with5 (p.value t) (p.value s) margin (rate *ℚ d) (rate *ℚ (t -ℚ s)) (λ c. omega (arith, c.le, c.lt, c.same)) in
    let down : p.value s ≤ℚ p.value t +ℚ margin = with3 (p.value t) (p.value s) margin (λ c. omega (arith, c.le, c.lt, c.same)) in
    let P : Ext → Type 0 = λ x. AreNear x (f t) margin in
    let Q : Ext → Type 0 = λ y. AreNear (Fin (p.value s)) y margin in
    subst P (sym (p.is s h)) (subst Q (sym (p.is t late)) record { first = down; second = up })

pub pace_continuous : (f : ℚ → Ext) (rate : ℚ) → HasPace f rate → IsContinuous f
pace_continuous f rate p t margin late positive =
    let over = rate +ℚ int (pos 1) in
    let above : zero_q <ℚ over = let n = p.nonneg in with3 rate zero_q over (λ c. omega (arith, c.le, c.lt, c.same)) in
    let d = margin /ℚ over in
    let far : zero_q <ℚ d = div_pos margin over above positive in
    let whole : d *ℚ over ≡ margin = div_mul margin over (not_zero over above) in
    let parts : over *ℚ d ≡ rate *ℚ d +ℚ int (pos 1) *ℚ d = add_mul rate (int (pos 1)) d in
    let turned = mul_comm d over in
    let once = one_mul d in
    let fits : rate *ℚ d ≤ℚ margin =
    with6 (rate *ℚ d) margin d (d *ℚ over) (over *ℚ d) (int (pos 1) *ℚ d) (λ c. omega (arith, c.le, c.lt, c.same)) in (
      d,
      record {
        some = far;
        near = λ s h near before.
            elim (le_or_lt s t) [
              | inl l ↦ close f rate p s t d margin h l before fits (le_of_lt positive)
              | inr l ↦ let w = close f rate p t s d margin late (le_of_lt l) near fits (le_of_lt positive) in record { first = w.second; second = w.first }
            ];
      },
    )

-- ---- kinds
pub service_pace : (rate latency : ℚ) → zero_q ≤ℚ rate → zero_q ≤ℚ latency → HasPace (value_at (rate_latency rate latency)) rate
service_pace rate latency h k = record {
  nonneg = h;
  value = λ t. rate *ℚ max_q zero_q (t -ℚ latency);
  is = λ t late. (service_is rate latency h k).is t late;
  rises = λ s t early before. mul_le_mul rate h (max_q_mono zero_q (s -ℚ latency) zero_q (t -ℚ latency) (le_refl zero_q)
      (with3 s t latency (λ c. omega (arith, c.le, c.lt, c.same))));
  bounded = λ s t early before.
      let least = max_q_ge_left zero_q (s -ℚ latency) in
      let most = max_q_ge_right zero_q (s -ℚ latency) in
      let grown : max_q zero_q (t -ℚ latency) ≤ℚ max_q zero_q (s -ℚ latency) +ℚ (t -ℚ s) =
      max_q_le zero_q (t -ℚ latency) (max_q zero_q (s -ℚ latency) +ℚ (t -ℚ s))
      (with4 s t (max_q zero_q (s -ℚ latency)) zero_q (λ c. omega (arith, c.le, c.lt, c.same)))
      (with4 s t latency (max_q zero_q (s -ℚ latency)) (λ c. omega (arith, c.le, c.lt, c.same))) in
      let P : ℚ → Type 0 = λ x. rate *ℚ max_q zero_q (t -ℚ latency) ≤ℚ x in
      subst P (mul_add rate (max_q zero_q (s -ℚ latency)) (t -ℚ s)) (mul_le_mul rate h grown);
}

pub bucket_pace : (burst rate : ℚ) → zero_q ≤ℚ rate → HasPace (value_at (bucket burst rate)) rate
bucket_pace burst rate h = record {
  nonneg = h;
  value = λ t. burst +ℚ rate *ℚ t;
  is = λ t late. (bucket_is burst rate).is t late;
  rises = λ s t early before. let m = mul_le_mul rate h before in with3 burst (rate *ℚ s) (rate *ℚ t) (λ c. omega (arith, c.le, c.lt, c.same));
  bounded = λ s t early before.
      let parts = mul_sub rate t s in
      with4 burst (rate *ℚ s) (rate *ℚ t) (rate *ℚ (t -ℚ s)) (λ c. omega (arith, c.le, c.lt, c.same));
}
