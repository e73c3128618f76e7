-- The values of the kinds of curve that are affine: a bucket, a rate after a latency, and that less one packet.
use Rattle.rational.proofs.MinMax.{max_q_left, max_q_right, le_q_not}
use Rattle.std.specs.Prelude.{◌≡◌}
use Rattle.std.proofs.Common.{arith, sym, ap, ◌∙◌, refl, subst, inl, inr}
use Rattle.rational.specs.Rational.{ℚ, ◌+ℚ◌, ◌-ℚ◌, ◌*ℚ◌, ◌≤ℚ◌, ◌<ℚ◌, neg_ℚ}
use Rattle.rational.proofs.Linear.{with1, with2, with3, with4}
use Rattle.rational.proofs.Over.{le_q_out}
use Rattle.rational.proofs.Laws.{mul_comm, mul_sub, mul_zero, le_or_lt, antisym}
use Rattle.rational.specs.declared.Extended.TheVariants.{Fin}
use Rattle.rational.specs.MinMax.{max_q}
use Rattle.min_plus.specs.Functions.{zero_q}
use Rattle.upp_curve.specs.Curve.{value_at}
use Rattle.upp_curve.specs.affine_segment.Reading.{read, piece_in, piece_value}
use Rattle.upp_curve.specs.Kinds.{piece, bucket, after_latency, rate_latency}
use Rattle.min_plus.specs.Formulas.{IsBucket, IsService}

-- a piece whose value is its line's reads as its line from its start on
pub on_line : (x v k r t : ℚ) → v ≡ k +ℚ r *ℚ x → x ≤ℚ t → piece_value (piece x v k r) t ≡ Fin (k +ℚ r *ℚ t)
unfolding piece_value
on_line x v k r t e h = elim (le_or_lt t x) [
  | inl l ↦
      let same : t ≡ x = antisym (l, h) in
      rw (le_q_out t x l) (ap Fin (e ∙ ap (λ u. k +ℚ r *ℚ u) (sym same)))
  | inr l ↦ rw (le_q_not t x l) refl
]

pub bucket_is : (b r : ℚ) → IsBucket b r (value_at (bucket b r))
unfolding value_at read piece_in
bucket_is b r = record {
  is = λ t h.
      let z = mul_zero r in
      on_line zero_q b b r t (with2 b (r *ℚ zero_q) (λ c. omega (arith, c.le, c.lt, c.same))) h;
}

late_is : (R T : ℚ) → zero_q <ℚ T → IsService R T (value_at (after_latency R T))
unfolding value_at read piece_in
late_is R T some = record {
  is = λ t h. elim (le_or_lt T t) [
    | inl l ↦
        let gap : zero_q ≤ℚ t -ℚ T = with2 T t (λ c. omega (arith, c.le, c.lt, c.same)) in
        let e = max_q_right zero_q (t -ℚ T) gap in
        let x = mul_sub R t T in
        rw (le_q_out T t l, e)
        (on_line T zero_q (neg_ℚ (R *ℚ T)) R t (with1 (R *ℚ T) (λ c. omega (arith, c.le, c.lt, c.same))) l
        ∙ ap Fin (with3 (R *ℚ t) (R *ℚ T) (R *ℚ (t -ℚ T)) (λ c. omega (arith, c.le, c.lt, c.same))))
    | inr l ↦
        let e : max_q zero_q (t -ℚ T) ≡ zero_q = least_zero t l in
        let z = mul_zero R in
        let w : zero_q *ℚ t ≡ zero_q = mul_comm zero_q t ∙ mul_zero t in
        let u : zero_q *ℚ zero_q ≡ zero_q = mul_zero zero_q in
        rw (le_q_not T t l, e)
        (on_line zero_q zero_q zero_q zero_q t (with1 (zero_q *ℚ zero_q) (λ c. omega (arith, c.le, c.lt, c.same))) h
        ∙ ap Fin (with2 (zero_q *ℚ t) (R *ℚ zero_q) (λ c. omega (arith, c.le, c.lt, c.same))))
  ];
}
  where
    least_zero : (t : ℚ) → t <ℚ T → max_q zero_q (t -ℚ T) ≡ zero_q
    least_zero t l = max_q_left zero_q (t -ℚ T) (with2 t T (λ c. omega (arith, c.le, c.lt, c.same)))

at_once : (R : ℚ) → IsService R zero_q (value_at (bucket zero_q R))
at_once R = record {
  is = λ t h.
      let e = max_q_right zero_q (t -ℚ zero_q) (with1 t (λ c. omega (arith, c.le, c.lt, c.same))) in
      let s : t -ℚ zero_q ≡ t = with1 t (λ c. omega (arith, c.le, c.lt, c.same)) in
      (bucket_is zero_q R).is t h ∙ ap Fin (rw (e, s) (with1 (R *ℚ t) (λ c. omega (arith, c.le, c.lt, c.same))));
}

-- without a rate there is no value
at_no_rate : (T : ℚ) → IsService zero_q T (value_at (bucket zero_q zero_q))
at_no_rate T = record {
  is = λ t h.
      let a = mul_comm zero_q t in
      let b = mul_zero t in
      let c = mul_comm zero_q (max_q zero_q (t -ℚ T)) in
      let d = mul_zero (max_q zero_q (t -ℚ T)) in
      (bucket_is zero_q zero_q).is t h
      ∙ ap Fin (with4 (zero_q *ℚ t) (t *ℚ zero_q) (zero_q *ℚ max_q zero_q (t -ℚ T)) (max_q zero_q (t -ℚ T) *ℚ zero_q) (λ c. omega (arith, c.le, c.lt, c.same)));
}

pub service_is : (R T : ℚ) → zero_q ≤ℚ R → zero_q ≤ℚ T → IsService R T (value_at (rate_latency R T))
service_is R T some h = elim (le_or_lt T zero_q) [
  | inl l ↦
      let same : T ≡ zero_q = antisym (l, h) in
      rw (le_q_out T zero_q l) (subst (λ u. IsService R u (value_at (bucket zero_q R))) (sym same) (at_once R))
  | inr l ↦ elim (le_or_lt R zero_q) [
    | inl k ↦
        let none : R ≡ zero_q = antisym (k, some) in
        rw (le_q_not T zero_q l, le_q_out R zero_q k) (subst (λ r. IsService r T (value_at (bucket zero_q r))) (sym none) (at_no_rate T))
    | inr k ↦ rw (le_q_not T zero_q l, le_q_not R zero_q k) (late_is R T l)
  ]
]
