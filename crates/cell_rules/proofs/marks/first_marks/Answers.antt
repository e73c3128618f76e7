use Rattle.std.proofs.Common.{sym, subst}
use Rattle.cell_rules.specs.declared.site.Site.{Site}
use Rattle.cell_rules.specs.Marks.{MarksCandidates}
use Rattle.cell_rules.proofs.marks.first_marks.Goals as goal

pub returns-in_ok-marks-in-Server : goal.returns-in_ok-marks-in-Server
returns-in_ok-marks-in-Server c =
    subst (λ (site : Site). MarksCandidates site c.args.old.now c.args.net.now c.in_ok-marks-in-Server.marks.items)
    (sym c.in-Server.is) (c.in_ok-marks-in-Server.ensures c.args.old.now)
