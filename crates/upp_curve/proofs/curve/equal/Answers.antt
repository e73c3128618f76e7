use Rattle.std.proofs.Common.{ap}
use Rattle.upp_curve.specs.Curve.{value_at}
use Rattle.upp_curve.proofs.OneForm.{normal_unique}
use Rattle.upp_curve.proofs.curve.equal.Goals as goal

pub returns : goal.returns
returns c = (
  λ e t h. ap (λ s. value_at s t) (c.same_fields.ensures.fields.0 e),
  λ same. c.same_fields.ensures.fields.1 (normal_unique c.args.f.now c.args.g.now c.same_fields.ensures.kept.0.normal c.same_fields.ensures.kept.1.normal same),
)
