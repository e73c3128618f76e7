use Rattle.run_laws.proofs.laws.views_are_lawful.Goals as goal
use Rattle.run_laws.proofs.Views

pub returns : goal.returns
returns c = Views.views_are_lawful
