use Rattle.cell_rules.specs.edit_sites.Replaced.{networks_before}
use Rattle.cell_store.proofs.edit_store.Steps.{meets_of}
use Rattle.cell_store.proofs.edit_store.store.Store.network.Goals as goal

pub returns-clause-meets : goal.returns-clause-meets
returns-clause-meets g c =
    let fields = c.self.inside in
    meets_of g.V.CellValue.meaning (networks_before fields.replaced.items fields.present) fields.present fields.values.versions
    c.args.self.now c.self.view_is c.self.invariant.kept.stored
