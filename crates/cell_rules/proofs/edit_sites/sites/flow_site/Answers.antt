use Rattle.std.proofs.Common.{ℕ, sym, ap}
use Rattle.net_edits.specs.Refusals.{Or}
use Rattle.net_edits.proofs.Found.{flow_found, flow_unknown}
use Rattle.cell_rules.specs.edit_sites.Sites.{at_flow}
use Rattle.cell_rules.proofs.edit_sites.sites.flow_site.Goals as goal

pub returns-in-Some : goal.returns-in-Some
returns-in-Some c =
    ap (λ (r : Or ℕ). at_flow r)
    (sym (flow_found c.args.net.now c.args.name.now c.in-Some.number c.keeps.ensures.names.1 c.in-Some.ensures))

pub returns-in-None : goal.returns-in-None
returns-in-None c = ap (λ (r : Or ℕ). at_flow r) (sym (flow_unknown c.args.net.now c.args.name.now c.in-None.ensures))
