use Rattle.std.specs.Prelude.{◌≡◌}
use Rattle.rational.specs.Rational.{ℚ, ◌≤ℚ◌}
use Rattle.rational.proofs.Laws.{le_of_not_lt}
use Rattle.upp_curve.specs.Curve.{value_at}
use Rattle.min_plus.specs.Functions.{zero_q}
use Rattle.upp_curve.specs.Kinds.{rate_latency}
use Rattle.min_plus.specs.Formulas.{rate_latency_value}
use Rattle.upp_curve.proofs.KindValues.{service_is}
use Rattle.std.proofs.Common.{inl, inr}
use Rattle.curve_library.specs.Causes.{OneNegative}
use Rattle.curve_library.proofs.Answering.{first_of, made_of, never_many}
use Rattle.curve_library.proofs.LateParts.{late_few}
use Rattle.curve_library.proofs.latencies.rate_latency.Goals as goal

pub returns-clause-first : goal.returns-clause-first
returns-clause-first c = first_of (OneNegative c.args.rate c.args.latency) ⊥ (rate_latency c.args.rate c.args.latency) c.tested_rate_latency.result c.tested_rate_latency.ensures

pub returns-clause-value : goal.returns-clause-value
returns-clause-value c =
    let R = c.args.rate in
    let T = c.args.latency in
    made_of (OneNegative R T) ⊥ (rate_latency R T) c.tested_rate_latency.result (λ k. (t : ℚ) → zero_q ≤ℚ t → value_at k t ≡ rate_latency_value R T t) c.tested_rate_latency.ensures
    (λ p. (service_is R T (le_of_not_lt (λ h. p.nonneg (inl h))) (le_of_not_lt (λ h. p.nonneg (inr h)))).is)

pub returns-clause-few : goal.returns-clause-few
returns-clause-few c =
    let R = c.args.rate in
    let T = c.args.latency in
    never_many (OneNegative R T) ⊥ (rate_latency R T) c.tested_rate_latency.result c.tested_rate_latency.ensures
    (λ p. late_few R T (le_of_not_lt (λ h. p.nonneg (inl h))) (le_of_not_lt (λ h. p.nonneg (inr h))))
