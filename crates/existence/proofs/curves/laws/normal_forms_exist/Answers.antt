use Rattle.existence.proofs.curves.Forms.{normal_form}
use Rattle.existence.proofs.curves.laws.normal_forms_exist.Goals as goal

pub returns : goal.returns
returns c = normal_form
