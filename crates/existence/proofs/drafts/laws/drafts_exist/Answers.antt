use Rattle.existence.proofs.drafts.Files.{drafts_exist as law}
use Rattle.existence.proofs.drafts.laws.drafts_exist.Goals as goal

pub returns : goal.returns
returns c = law
