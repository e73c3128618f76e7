-- A rate after a latency: what its gauge says of their product, and that it has few pieces.
use Rattle.std.specs.Prelude.{◌≡◌, ◌≤◌, ◌^◌, [], ◌∷◌}
use Rattle.std.proofs.Common.{arith, refl, subst, inl, inr}
use Rattle.rational.specs.Rational.{ℚ, ◌*ℚ◌, ◌≤ℚ◌, ◌<ℚ◌, neg_ℚ}
use Rattle.rational.specs.Ratio.{IsSmall}
use Rattle.rational.proofs.Laws.{le_of_lt, le_or_lt}
use Rattle.rational.proofs.MinMax.{le_q_not}
use Rattle.rational.proofs.Over.{le_q_out}
use Rattle.min_plus.specs.Functions.{zero_q}
use Rattle.upp_curve.specs.Kinds.{flat, piece, bucket, after_latency, rate_latency}
use Rattle.upp_limits.specs.Spans.{spans}
use Rattle.upp_limits.specs.Limits.{own_gauge, own_sizes, own_tally}
use Rattle.upp_limits.specs.Sized.{IsSlope}
use Rattle.rational.specs.Grid.{Whole}
use Rattle.upp_limits.proofs.CurveStands.{starts_below_own_end}
use Rattle.upp_curve.proofs.ByTail.{bucket_normal}
use Rattle.upp_curve.proofs.KindForms.{late_normal}
use Rattle.curve_library.proofs.OwnParts.{Held, held, too_wide, run_small}
use Rattle.upp_limits.proofs.FewCopies.{affine_few}

-- the latency stands on the grid of times, and the rate on that of slopes
record LateStands (R T : ℚ) : Type 0 where
  time : Whole (own_sizes (after_latency R T)).dt T
  slope : IsSlope (own_sizes (after_latency R T)) R

late_stands : (R T : ℚ) → Held (after_latency R T) → LateStands R T
unfolding spans
late_stands R T H = record { time = H.stands.spans.1.0.start; slope = H.stands.spans.1.0.slope }

pub late_wide : (R T : ℚ) → zero_q <ℚ R → zero_q <ℚ T → (IsSmall (R *ℚ T) → ⊥) → 2 ^ 120 ≤ own_gauge (after_latency R T)
late_wide R T rate late not_small =
    let c = after_latency R T in
    let raw = (late_normal R T rate late).raw in
    too_wide c (IsSmall (R *ℚ T)) (λ small.
    let H = held c raw small in
    let S = late_stands R T H in
    run_small c R T H S.slope S.time (le_of_lt late) (le_of_lt (starts_below_own_end c raw).1.0)) not_small

-- ---- which curve it is
pub at_once : (R T : ℚ) → T ≤ℚ zero_q → bucket zero_q R ≡ rate_latency R T
at_once R T h = rw (le_q_out T zero_q h) refl

pub at_rest : (R T : ℚ) → zero_q <ℚ T → R ≤ℚ zero_q → bucket zero_q R ≡ rate_latency R T
at_rest R T l h = rw (le_q_not T zero_q l, le_q_out R zero_q h) refl

pub in_time : (R T : ℚ) → zero_q <ℚ T → zero_q <ℚ R → after_latency R T ≡ rate_latency R T
in_time R T l h = rw (le_q_not T zero_q l, le_q_not R zero_q h) refl

-- ---- few pieces
pub line_few : (b R : ℚ) → own_tally (bucket b R) ≤ 2 ^ 20
line_few b R = let h = affine_few (piece zero_q b b R ∷ []) zero_q (bucket_normal b R).raw.starts in omega (arith, h)

pub late_few : (R T : ℚ) → zero_q ≤ℚ R → zero_q ≤ℚ T → own_tally (rate_latency R T) ≤ 2 ^ 20
late_few R T rate late = elim (le_or_lt T zero_q) [
  | inl h ↦ subst (λ c. own_tally c ≤ 2 ^ 20) (at_once R T h) (line_few zero_q R)
  | inr l ↦ elim (le_or_lt R zero_q) [
    | inl h ↦ subst (λ c. own_tally c ≤ 2 ^ 20) (at_rest R T l h) (line_few zero_q R)
    | inr k ↦
        let h = affine_few (flat zero_q zero_q ∷ piece T zero_q (neg_ℚ (R *ℚ T)) R ∷ []) T (late_normal R T k l).raw.starts in
        subst (λ c. own_tally c ≤ 2 ^ 20) (in_time R T l k) (omega (arith, h))
  ]
]
