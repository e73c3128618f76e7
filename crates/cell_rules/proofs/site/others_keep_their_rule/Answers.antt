use Rattle.cell_rules.proofs.Unchanged.{others_keep_their_rule}
use Rattle.cell_rules.proofs.site.others_keep_their_rule.Goals as goal

pub returns : goal.returns
returns c = others_keep_their_rule
