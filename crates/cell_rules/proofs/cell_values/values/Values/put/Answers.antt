use Rattle.cell_rules.proofs.cell_values.Others.{set-others}
use Rattle.cell_rules.proofs.cell_values.values.Values.put.Goals as goal

pub returns-clause-others : goal.returns-clause-others
returns-clause-others g c =
    set-others g.V.CellValue.meaning c.args.self.now.versions c.set.new.self c.args.cell c.slot.result _ c.set.result c.requires
    c.slot.ensures.value c.set.ensures.set
