use Rattle.existence.proofs.tables.Formulas.{formulas}
use Rattle.existence.proofs.tables.laws.formulas_have_answers.Goals as goal

pub returns : goal.returns
returns c = formulas
