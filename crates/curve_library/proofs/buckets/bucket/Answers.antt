use Rattle.std.proofs.Common.{subst, sym}
use Rattle.std.specs.Prelude.{◌≡◌}
use Rattle.rational.specs.Rational.{ℚ, ◌≤ℚ◌}
use Rattle.upp_curve.specs.Curve.{value_at}
use Rattle.min_plus.specs.Functions.{zero_q}
use Rattle.upp_curve.specs.Kinds.{bucket}
use Rattle.min_plus.specs.Formulas.{bucket_value}
use Rattle.upp_curve.proofs.KindValues.{bucket_is}
use Rattle.upp_normal.proofs.NormaliseForm.{ok_map}
use Rattle.curve_library.proofs.buckets.bucket.Goals as goal

pub returns-clause-value : goal.returns-clause-value
returns-clause-value c =
    let burst = c.args.burst in
    let rate = c.args.rate in
    ok_map c.any_bucket.result (λ k. k ≡ bucket burst rate) (λ k. (t : ℚ) → zero_q ≤ℚ t → value_at k t ≡ bucket_value burst rate t)
    (λ k e t h. subst (λ m. value_at m t ≡ bucket_value burst rate t) (sym e) ((bucket_is burst rate).is t h)) c.any_bucket.ensures.made
