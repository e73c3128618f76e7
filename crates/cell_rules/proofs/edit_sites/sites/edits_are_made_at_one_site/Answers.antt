use Rattle.cell_rules.proofs.edit_sites.OneSite.{edits_are_made_at_one_site}
use Rattle.cell_rules.proofs.edit_sites.sites.edits_are_made_at_one_site.Goals as goal

pub returns : goal.returns
returns c = edits_are_made_at_one_site
