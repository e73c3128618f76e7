use Rattle.net_cells.proofs.Tables.{answers_meet}
use Rattle.net_cells.proofs.laws.answers_meet_equations.Goals as goal

pub returns : goal.returns
returns c = answers_meet
