use Rattle.std.proofs.Common.{sym, subst}
use Rattle.cell_rules.specs.declared.site.Site.{Site}
use Rattle.cell_rules.specs.Marks.{MarksPaths}
use Rattle.cell_rules.proofs.path_search.first_flows.Goals as goal

pub returns-in_ok-marks-in-Server : goal.returns-in_ok-marks-in-Server
returns-in_ok-marks-in-Server c = λ old.
    subst (λ (site : Site). MarksPaths site old c.args.net.now c.in_ok-marks-in-Server.marks.items) (sym c.in-Server.is)
    (c.in_ok-marks-in-Server.ensures old)

pub returns-in_ok-marks-in-Flow : goal.returns-in_ok-marks-in-Flow
returns-in_ok-marks-in-Flow c = λ old.
    subst (λ (site : Site). MarksPaths site old c.args.net.now c.in_ok-marks-in-Flow.marks.items) (sym c.in-Flow.is)
    (c.in_ok-marks-in-Flow.ensures old c.args.net.now)
