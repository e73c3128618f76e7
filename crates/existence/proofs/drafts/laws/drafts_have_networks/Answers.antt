use Rattle.existence.proofs.drafts.Files.{drafts_have_networks as law}
use Rattle.existence.proofs.drafts.laws.drafts_have_networks.Goals as goal

pub returns : goal.returns
returns c = law
