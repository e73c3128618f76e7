use Rattle.residuals.proofs.left.Laws
use Rattle.residuals.proofs.left.left_serves.Goals as goal

pub returns : goal.returns
returns c = Laws.serves
