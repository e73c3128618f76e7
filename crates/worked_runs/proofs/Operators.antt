-- What each operator makes of token buckets and rates after a latency.
use Rattle.std.specs.Prelude.{◌≡◌, ℕ}
use Rattle.std.proofs.Common.{arith, sym, ap, ap₂, ◌∙◌, subst, inl, inr}
use Rattle.rational.specs.Rational.{ℚ, ◌+ℚ◌, ◌-ℚ◌, ◌*ℚ◌, ◌/ℚ◌, ◌≤ℚ◌, ◌<ℚ◌}
use Rattle.rational.specs.MinMax.{max_q}
use Rattle.rational.specs.Extended.{Ext, ◌+ₑ◌}
use Rattle.rational.specs.declared.Extended.TheVariants.{Fin}
use Rattle.rational.proofs.Laws.{le_refl, le_or_lt, le_of_lt, le_trans, mul_assoc, mul_add, sub_mul, add_mul, mul_zero, zero_mul, mul_le_mul, mul_nonneg, not_zero}
use Rattle.rational.proofs.Quotients.{div_unique, zero_div}
use Rattle.rational.proofs.MinMax.{max_q_right, max_q_is_left, max_q_ge_left, max_q_le, le_q_not}
use Rattle.rational.proofs.Over.{le_q_out}
use Rattle.rational.proofs.Bounds.{least_member}
use Rattle.rational.proofs.ExtendedOrder.{le_ext_refl, min_ext_of_le}
use Rattle.rational.proofs.Linear.{with1, with2, with3, with4, with5, with6}
use Rattle.min_plus.specs.Functions.{zero_q, IsRising, From}
use Rattle.min_plus.specs.Formulas.{IsBucket, IsPacketised, rate_latency_value}
use Rattle.min_plus.specs.Pointwise.{excess, scaled}
use Rattle.min_plus.specs.Running.{left_after, IsRunningInfimum, IsRunningSupremum}
use Rattle.min_plus.specs.Convolution.{IsConvolution, IsDeconvolution}
use Rattle.min_plus.specs.Deviations.{IsHorizontalDeviation, IsVerticalDeviation}
use Rattle.min_plus.proofs.BucketDelay.{horizontal_finite, horizontal_zero}
use Rattle.min_plus.proofs.BucketBacklog.{vertical_finite}
use Rattle.min_plus.proofs.BucketOperators.{rising_run_sup, bucket_deconvolution, service_convolution}
use Rattle.upp_limits.specs.declared.op_kind.OpKind.TheVariants.{Sum, Min, PosMinus, Shift, FifoLeft, Convolve, Deconvolve}
use Rattle.upp_curve.specs.Curve.{SpecCurve, value_at}
use Rattle.upp_curve.specs.Curves.{IsCurve}
use Rattle.upp_curve.specs.Kinds.{bucket, rate_latency}
use Rattle.curve_call.specs.Answers.{IsMadeBy}
use Rattle.run_laws.proofs.Latency.{latency_rises}
use Rattle.run_laws.specs.Cards.{whole}
use Rattle.residual_laws.specs.PriorityLaws.{priority_left}
use Rattle.net_cells.specs.Means.{IsPriorityCurve}
use Rattle.worked_runs.proofs.Curves.{IsBurst, IsLate}

late_rises : (R T : ℚ) → IsLate R T → IsRising (value_at (rate_latency R T))
late_rises R T s = latency_rises R T (value_at (rate_latency R T)) (le_of_lt s.rate) s.is

-- ---- what is taken off a service
-- l taken off a rate after a latency is a later rate
pub cut_off : (R T U l t : ℚ) → zero_q ≤ℚ R → T ≤ℚ U → R *ℚ (U -ℚ T) ≡ l
    → excess (rate_latency_value R T t) (Fin l) ≡ rate_latency_value R U t
cut_off R T U l t rate later all = elim (le_or_lt U t) [
  | inl h ↦
      let e = max_q_right zero_q (t -ℚ T) (with3 t T U (λ c. omega (arith, c.le, c.lt, c.same))) in
      let f = max_q_right zero_q (t -ℚ U) (with2 t U (λ c. omega (arith, c.le, c.lt, c.same))) in
      let split : t -ℚ T ≡ (t -ℚ U) +ℚ (U -ℚ T) = with3 t T U (λ c. omega (arith, c.le, c.lt, c.same)) in
      let m : R *ℚ (t -ℚ T) ≡ R *ℚ (t -ℚ U) +ℚ R *ℚ (U -ℚ T) =
      ap (λ z. R *ℚ z) split ∙ mul_add R (t -ℚ U) (U -ℚ T) in
      let n : zero_q ≤ℚ R *ℚ (t -ℚ U) = mul_nonneg rate (with2 t U (λ c. omega (arith, c.le, c.lt, c.same))) in
      let r : R *ℚ (t -ℚ T) -ℚ l ≡ R *ℚ (t -ℚ U) =
      with4 l (R *ℚ (t -ℚ T)) (R *ℚ (t -ℚ U)) (R *ℚ (U -ℚ T)) (λ c. omega (arith, c.le, c.lt, c.same)) in
      rw (e, f, r) (ap Fin (max_q_right zero_q (R *ℚ (t -ℚ U)) n))
  | inr h ↦
      let f = max_q_is_left zero_q (t -ℚ U) (with2 t U (λ c. omega (arith, c.le, c.lt, c.same))) in
      let m = mul_le_mul R rate
      (max_q_le zero_q (t -ℚ T) (U -ℚ T) (with2 T U (λ c. omega (arith, c.le, c.lt, c.same)))
      (with3 t T U (λ c. omega (arith, c.le, c.lt, c.same)))) in
      let top = R *ℚ max_q zero_q (t -ℚ T) in
      let n : top -ℚ l ≤ℚ zero_q = with3 top l (R *ℚ (U -ℚ T)) (λ c. omega (arith, c.le, c.lt, c.same)) in
      rw (f, mul_zero R) (ap Fin (max_q_is_left zero_q (top -ℚ l) n))
]

pub less_packet : (R T U l : ℚ) → IsLate R T → IsLate R U → T ≤ℚ U → R *ℚ (U -ℚ T) ≡ l
    → IsMadeBy (PosMinus l) (rate_latency R T) (rate_latency R T) (rate_latency R U)
less_packet R T U l s p later all = record {
  curve = p.curve;
  answers = λ t h. p.is.is t h ∙ sym (cut_off R T U l t (le_of_lt s.rate) later all)
      ∙ ap (λ v. excess v (Fin l)) (sym (s.is.is t h));
}

-- a share of it less what is owed
pub share_left : (R T S U k o : ℚ) → IsLate R T → IsLate S U → S ≡ k *ℚ R → T ≤ℚ U → S *ℚ (U -ℚ T) ≡ o → (t : ℚ) → zero_q ≤ℚ t
    → value_at (rate_latency S U) t ≡ excess (scaled k (value_at (rate_latency R T) t)) (Fin o)
share_left R T S U k o s p share later all t on =
    let m = max_q zero_q (t -ℚ T) in
    let e : k *ℚ (R *ℚ m) ≡ S *ℚ m = sym (mul_assoc k R m) ∙ ap (λ z. z *ℚ m) (sym share) in
    p.is.is t on ∙ sym (cut_off S T U o t (le_of_lt p.rate) later all)
    ∙ sym (ap (λ v. excess (scaled k v) (Fin o)) (s.is.is t on) ∙ ap (λ z. excess (Fin z) (Fin o)) e)

-- what a priority server leaves beside a higher burst of c and a lower packet
pub priority_made : (R T U V : ℚ) (higher : SpecCurve) (c : ℚ) (lower : ℕ) → IsLate R T → IsLate R U → IsLate R V
    → IsBucket c zero_q (value_at higher) → T ≤ℚ U → R *ℚ (U -ℚ T) ≡ c → U ≤ℚ V → R *ℚ (V -ℚ U) ≡ whole lower
    → IsPriorityCurve (rate_latency R T) higher lower (rate_latency R V)
priority_made R T U V higher c lower s m p H first taken second packet = record { curve = p.curve; serves = serves }
  where
    left : ℚ → Ext
    left = priority_left (value_at (rate_latency R T)) (value_at higher) lower

    same : (t : ℚ) → zero_q ≤ℚ t → left t ≡ value_at (rate_latency R V) t
    same t on =
        let z = zero_mul t in
        let flat : c +ℚ zero_q *ℚ t ≡ c = with2 c (zero_q *ℚ t) (λ c. omega (arith, c.le, c.lt, c.same)) in
        let both : excess (value_at (rate_latency R T) t) (value_at higher t) ≡ excess (rate_latency_value R T t) (Fin c) =
        ap₂ (λ (x y : Ext). excess x y) (s.is.is t on) (H.is t on ∙ ap Fin flat) in
        ap (λ v. excess v (Fin (whole lower))) (both ∙ cut_off R T U c t (le_of_lt s.rate) first taken)
        ∙ cut_off R U V (whole lower) t (le_of_lt s.rate) second packet ∙ sym (p.is.is t on)

    serves : (t : ℚ) → zero_q ≤ℚ t → IsRunningSupremum left t (value_at (rate_latency R V) t)
    serves t on = subst (IsRunningSupremum left t) (same t on)
        (rising_run_sup left t on
        (λ x y low l. rw (same x low, same y (le_trans low l)) (late_rises R V p x y low l)))

-- ---- buckets
pub buckets_sum : (b r c q B Q : ℚ) → IsBurst b r → IsBurst c q → IsBurst B Q → B ≡ b +ℚ c → Q ≡ r +ℚ q
    → IsMadeBy Sum (bucket b r) (bucket c q) (bucket B Q)
buckets_sum b r c q B Q f g h e d = record {
  curve = h.curve;
  answers = λ t on.
      let m : Q *ℚ t ≡ r *ℚ t +ℚ q *ℚ t = ap (λ z. z *ℚ t) d ∙ add_mul r q t in
      h.is.is t on
      ∙ ap Fin (with6 b c B (r *ℚ t) (q *ℚ t) (Q *ℚ t) (λ c. omega (arith, c.le, c.lt, c.same)))
      ∙ sym (ap₂ (λ (x y : Ext). x +ₑ y) (f.is.is t on) (g.is.is t on));
}

pub bucket_least : (b r : ℚ) → IsBurst b r → IsMadeBy Min (bucket b r) (bucket b r) (bucket b r)
bucket_least b r f = record {
  curve = f.curve;
  answers = λ t on. sym (min_ext_of_le (value_at (bucket b r) t) (value_at (bucket b r) t) (le_ext_refl (value_at (bucket b r) t)));
}

pub bucket_shift : (b r d B : ℚ) → IsBurst b r → IsBurst B r → zero_q ≤ℚ d → B ≡ b +ℚ r *ℚ d
    → IsMadeBy (Shift (Fin d)) (bucket b r) (bucket b r) (bucket B r)
bucket_shift b r d B f h late e = record {
  curve = h.curve;
  answers = λ t on.
      let m = mul_add r t d in
      let x = r *ℚ t in
      let y = r *ℚ d in
      let z = r *ℚ (t +ℚ d) in
      h.is.is t on ∙ ap Fin (with5 b B x y z (λ c. omega (arith, c.le, c.lt, c.same)))
      ∙ sym (f.is.is (t +ℚ d) (with2 t d (λ c. omega (arith, c.le, c.lt, c.same))));
}

pub bucket_output : (b r R T B : ℚ) → IsBurst b r → IsLate R T → IsBurst B r → r ≤ℚ R → B ≡ b +ℚ r *ℚ T
    → IsMadeBy Deconvolve (bucket b r) (rate_latency R T) (bucket B r)
bucket_output b r R T B f s h fast e = record {
  curve = h.curve;
  answers = λ t on.
      let m = mul_add r t T in
      let x = r *ℚ t in
      let y = r *ℚ T in
      let z = r *ℚ (t +ℚ T) in
      let is : b +ℚ r *ℚ (t +ℚ T) ≡ B +ℚ r *ℚ t = with5 b B x y z (λ c. omega (arith, c.le, c.lt, c.same)) in
      subst (IsDeconvolution (value_at (bucket b r)) (value_at (rate_latency R T)) t)
      (ap Fin is ∙ sym (h.is.is t on))
      (bucket_deconvolution b r R T t (value_at (bucket b r)) (value_at (rate_latency R T)) f.rate s.rate (le_of_lt s.late) fast on
      f.is s.is);
}

-- ---- services in a row
pub services_convolve : (R S T U : ℚ) → IsLate R S → IsLate R T → IsLate R U → U ≡ S +ℚ T
    → IsMadeBy Convolve (rate_latency R S) (rate_latency R T) (rate_latency R U)
services_convolve R S T U f g h e = record {
  curve = h.curve;
  answers = λ t on.
      subst (IsConvolution (value_at (rate_latency R S)) (value_at (rate_latency R T)) t)
      (ap (λ z. rate_latency_value R z t) (sym e) ∙ sym (h.is.is t on))
      (service_convolution R S T t (value_at (rate_latency R S)) (value_at (rate_latency R T)) (le_of_lt f.rate) (le_of_lt f.late)
      (le_of_lt g.late) on f.is g.is);
}

-- ---- what first in, first out leaves
-- a curve that never falls and is what is left
pub fifo_made : (β cross γ : SpecCurve) (theta : ℚ) → IsCurve γ → IsRising (value_at γ)
    → ((x : ℚ) → zero_q ≤ℚ x → left_after (value_at β) (value_at cross) theta x ≡ value_at γ x)
    → IsMadeBy (FifoLeft (Fin theta)) β cross γ
fifo_made β cross γ theta curve rises same = record {
  curve = curve;
  answers = λ t on.
      subst (IsRunningInfimum (left_after (value_at β) (value_at cross) theta) t) (same t on)
      (least_member {I = From t} (λ x. left_after (value_at β) (value_at cross) theta x.at) record { at = t; least = le_refl t }
      (λ x. rw (same t on, same x.at (le_trans on x.least)) (rises t x.at on x.least)));
}

-- nothing comes beside it
pub alone_left : (R T : ℚ) → IsLate R T → IsBucket zero_q zero_q (value_at (bucket zero_q zero_q))
    → IsMadeBy (FifoLeft (Fin zero_q)) (rate_latency R T) (bucket zero_q zero_q) (rate_latency R T)
unfolding left_after
alone_left R T s Z = fifo_made (rate_latency R T) (bucket zero_q zero_q) (rate_latency R T) zero_q s.curve (late_rises R T s) same
  where
    same : (x : ℚ) → zero_q ≤ℚ x
        → left_after (value_at (rate_latency R T)) (value_at (bucket zero_q zero_q)) zero_q x ≡ value_at (rate_latency R T) x
    same x on = elim (le_or_lt x zero_q) [
      | inl h ↦
          let late = s.late in
          let e = max_q_is_left zero_q (x -ℚ T) (with2 x T (λ c. omega (arith, c.le, c.lt, c.same))) in
          rw (le_q_out x zero_q h) (sym (s.is.is x on ∙ ap Fin (ap (λ z. R *ℚ z) e ∙ mul_zero R)))
      | inr h ↦
          let y = R *ℚ max_q zero_q (x -ℚ T) in
          let n : zero_q ≤ℚ y = mul_nonneg (le_of_lt s.rate) (max_q_ge_left zero_q (x -ℚ T)) in
          let z = zero_mul (x -ℚ zero_q) in
          let none : y -ℚ (zero_q +ℚ zero_q *ℚ (x -ℚ zero_q)) ≡ y =
          with2 y (zero_q *ℚ (x -ℚ zero_q)) (λ c. omega (arith, c.le, c.lt, c.same)) in
          let on2 : zero_q ≤ℚ x -ℚ zero_q = with1 x (λ c. omega (arith, c.le, c.lt, c.same)) in
          rw (le_q_not x zero_q h, s.is.is x on, Z.is (x -ℚ zero_q) on2, none) (ap Fin (max_q_right zero_q y n))
    ]

-- a bucket comes beside it
pub beside_left : (R T b r S U : ℚ) → IsLate R T → IsBurst b r → IsLate S U → T ≤ℚ U → R *ℚ (U -ℚ T) ≡ b → S ≡ R -ℚ r
    → IsMadeBy (FifoLeft (Fin U)) (rate_latency R T) (bucket b r) (rate_latency S U)
unfolding left_after
beside_left R T b r S U s f p later all rest = fifo_made (rate_latency R T) (bucket b r) (rate_latency S U) U p.curve (late_rises S U p) same
  where
    same : (x : ℚ) → zero_q ≤ℚ x
        → left_after (value_at (rate_latency R T)) (value_at (bucket b r)) U x ≡ value_at (rate_latency S U) x
    same x on = elim (le_or_lt x U) [
      | inl h ↦
          let e = max_q_is_left zero_q (x -ℚ U) (with2 x U (λ c. omega (arith, c.le, c.lt, c.same))) in
          rw (le_q_out x U h) (sym (p.is.is x on ∙ ap Fin (ap (λ z. S *ℚ z) e ∙ mul_zero S)))
      | inr h ↦
          let e = max_q_right zero_q (x -ℚ T) (with3 x T U (λ c. omega (arith, c.le, c.lt, c.same))) in
          let g : zero_q ≤ℚ x -ℚ U = with2 x U (λ c. omega (arith, c.le, c.lt, c.same)) in
          let d = max_q_right zero_q (x -ℚ U) g in
          let split : x -ℚ T ≡ (x -ℚ U) +ℚ (U -ℚ T) = with3 x T U (λ c. omega (arith, c.le, c.lt, c.same)) in
          let m : R *ℚ (x -ℚ T) ≡ R *ℚ (x -ℚ U) +ℚ R *ℚ (U -ℚ T) =
          ap (λ z. R *ℚ z) split ∙ mul_add R (x -ℚ U) (U -ℚ T) in
          let k : S *ℚ (x -ℚ U) ≡ R *ℚ (x -ℚ U) -ℚ r *ℚ (x -ℚ U) = ap (λ z. z *ℚ (x -ℚ U)) rest ∙ sub_mul R r (x -ℚ U) in
          let n : zero_q ≤ℚ S *ℚ (x -ℚ U) = mul_nonneg (le_of_lt p.rate) g in
          let a = R *ℚ (x -ℚ T) in
          let left : a -ℚ (b +ℚ r *ℚ (x -ℚ U)) ≡ S *ℚ (x -ℚ U) =
          with6 b a (R *ℚ (x -ℚ U)) (R *ℚ (U -ℚ T)) (r *ℚ (x -ℚ U)) (S *ℚ (x -ℚ U)) (λ c. omega (arith, c.le, c.lt, c.same)) in
          rw (le_q_not x U h, s.is.is x on, p.is.is x on, f.is.is (x -ℚ U) g, e, d, left)
          (ap Fin (max_q_right zero_q (S *ℚ (x -ℚ U)) n))
    ]

-- ---- deviations
pub delay_of : (b r R T h : ℚ) → IsBurst b r → IsLate R T → r ≤ℚ R → zero_q <ℚ b → (h -ℚ T) *ℚ R ≡ b
    → IsHorizontalDeviation (value_at (bucket b r)) (value_at (rate_latency R T)) (Fin h)
delay_of b r R T h f s fast some e =
    let q : b /ℚ R ≡ h -ℚ T = div_unique b R (h -ℚ T) (not_zero R s.rate) e in
    let v : T +ℚ b /ℚ R ≡ h = with3 h T (b /ℚ R) (λ c. omega (arith, c.le, c.lt, c.same)) in
    subst (λ (x : ℚ). IsHorizontalDeviation (value_at (bucket b r)) (value_at (rate_latency R T)) (Fin x)) v
    (horizontal_finite b r R T (value_at (bucket b r)) (value_at (rate_latency R T)) f.burst f.rate s.rate (le_of_lt s.late) fast
    (inl some) f.is s.is)

pub no_delay : (R T : ℚ) → IsLate R T → IsBucket zero_q zero_q (value_at (bucket zero_q zero_q))
    → IsHorizontalDeviation (value_at (bucket zero_q zero_q)) (value_at (rate_latency R T)) (Fin zero_q)
no_delay R T s Z = horizontal_zero R T (value_at (bucket zero_q zero_q)) (value_at (rate_latency R T)) s.rate Z s.is

pub backlog_of : (b r R T v : ℚ) → IsBurst b r → IsLate R T → r ≤ℚ R → v ≡ b +ℚ r *ℚ T
    → IsVerticalDeviation (value_at (bucket b r)) (value_at (rate_latency R T)) (Fin v)
backlog_of b r R T v f s fast e =
    let z = zero_div R (not_zero R s.rate) in
    let t : T +ℚ zero_q /ℚ R ≡ T = with2 T (zero_q /ℚ R) (λ c. omega (arith, c.le, c.lt, c.same)) in
    let w : b +ℚ r *ℚ (T +ℚ zero_q /ℚ R) ≡ v = ap (λ x. b +ℚ r *ℚ x) t ∙ sym e in
    subst (λ (x : ℚ). IsVerticalDeviation (value_at (bucket b r)) (value_at (rate_latency R T)) (Fin x)) w
    (vertical_finite b r R T zero_q (value_at (bucket b r)) (value_at (rate_latency R T)) f.burst f.rate s.rate (le_of_lt s.late)
    (le_refl zero_q) fast f.is whole_packets)
  where
    whole_packets : IsPacketised R T zero_q (value_at (rate_latency R T))
    whole_packets = record {
      is = λ t on.
          let y = R *ℚ max_q zero_q (t -ℚ T) in
          let n : zero_q ≤ℚ y = mul_nonneg (le_of_lt s.rate) (max_q_ge_left zero_q (t -ℚ T)) in
          let m : y -ℚ zero_q ≡ y = with1 y (λ c. omega (arith, c.le, c.lt, c.same)) in
          s.is.is t on ∙ sym (ap Fin (ap (max_q zero_q) m ∙ max_q_right zero_q y n));
    }
