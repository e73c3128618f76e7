use Rattle.std.proofs.Common.{subst}
use Rattle.cell_rules.specs.declared.site.Site.{Site}
use Rattle.cell_rules.specs.Sites.{IsSameBut}
use Rattle.cell_rules.proofs.site.keeps_flows.Goals as goal

pub returns-in-Server : goal.returns-in-Server
returns-in-Server c = λ old new same told. (subst (λ (site : Site). IsSameBut site old new) c.in-Server.is same).flows
