use Rattle.std.proofs.Common.{List, sym, subst}
use Rattle.document_tables.specs.declared.links.LinkKeys.{LinkKeys}
use Rattle.document_tables.specs.Ports.{ports_view}
use Rattle.document_tables.specs.Short.{HaveShortNodes}
use Rattle.document_tables.proofs.document.document_with.Goals as goal

pub network_of-requires-clause-short : goal.network_of-requires-clause-short
network_of-requires-clause-short c =
    subst (λ (keys : List LinkKeys). HaveShortNodes (ports_view c.args.ports).ports keys c.args.table.trees.items) (sym c.deref.ensures.value) c.requires.short
