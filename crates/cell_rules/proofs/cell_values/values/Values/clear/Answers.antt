use Rattle.std.proofs.Common.{◌∙◌, ap, sym}
use Rattle.std.proofs.lemmas.Result.{on_ok_weaker}
use Rattle.version_table.specs.Histories.{at}
use Rattle.cell_rules.proofs.cell_values.Others.{set-others, placed-none}
use Rattle.cell_rules.proofs.cell_values.values.Values.clear.Goals as goal

pub returns-clause-others : goal.returns-clause-others
returns-clause-others g c =
    set-others g.V.CellValue.meaning c.args.self.now.versions c.set.new.self c.args.cell c.slot.result _ c.set.result c.requires
    c.slot.ensures.value c.set.ensures.set

pub returns-clause-still : goal.returns-clause-still
returns-clause-still g c =
    on_ok_weaker c.set.result
    (λ is. placed-none g.V.CellValue.meaning c.args.self.now.versions.newest c.set.new.self.newest c.args.cell
    (ap (at c.set.new.self.newest) (sym c.slot.ensures.value) ∙ is.here)
    (λ other differs. is.others other (λ e. differs (e ∙ c.slot.ensures.value))))
    c.set.ensures.set
