use Rattle.cell_rules.proofs.edit_sites.OneSite.{edits_keep_other_rules}
use Rattle.cell_rules.proofs.edit_sites.sites.edits_keep_other_rules.Goals as goal

pub returns : goal.returns
returns c = edits_keep_other_rules
