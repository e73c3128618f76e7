use Rattle.min_plus.proofs.closure_laws.CopiedParts.{closure_of_copies}
use Rattle.min_plus.proofs.closure_laws.copies.Goals as goal

pub returns : goal.returns
returns c = closure_of_copies
