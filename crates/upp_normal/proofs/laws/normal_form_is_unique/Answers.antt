use Rattle.upp_curve.proofs.OneForm.{normal_unique}
use Rattle.upp_normal.proofs.laws.normal_form_is_unique.Goals as goal

pub returns : goal.returns
returns c = normal_unique
