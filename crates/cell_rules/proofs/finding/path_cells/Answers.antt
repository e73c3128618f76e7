use Rattle.std.proofs.Common.{[], sym, ◌∙◌}
use Rattle.cell_rules.proofs.Searched.{both_parts}
use Rattle.cell_rules.proofs.finding.path_cells.Goals as goal

pub returns : goal.returns
returns c = c.in_ok-paths.ensures ∙ sym (both_parts c.args.net.now [])
