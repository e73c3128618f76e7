use Rattle.existence.proofs.drafts.Files.{folds_exist as law}
use Rattle.existence.proofs.drafts.laws.folds_exist.Goals as goal

pub returns : goal.returns
returns c = law
