use Rattle.cell_rules.proofs.edit_sites.PutBack.{none_accepted}
use Rattle.cell_rules.proofs.edit_sites.replaced.no_network.Goals as goal

pub of_version-requires : goal.of_version-requires
of_version-requires c =
    none_accepted c.new-servers.result.items c.new-flows.result.items c.new-servers.ensures.items c.new-flows.ensures.items
