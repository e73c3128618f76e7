use Rattle.std.proofs.Common.{◌∙◌, ap}
use Rattle.net_cells.specs.Numbered.{link}
use Rattle.cell_rules.proofs.reads.link_at.Goals as goal

pub returns : goal.returns
returns c = c.link.ensures ∙ ap (link c.args.net.now) c.server_of_hop.ensures
