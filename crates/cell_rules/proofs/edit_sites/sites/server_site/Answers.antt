use Rattle.std.proofs.Common.{ℕ, sym, ap}
use Rattle.net_edits.specs.Refusals.{Or}
use Rattle.net_edits.proofs.Found.{server_found, server_unknown}
use Rattle.cell_rules.specs.edit_sites.Sites.{at_server}
use Rattle.cell_rules.proofs.edit_sites.sites.server_site.Goals as goal

pub returns-in-Some : goal.returns-in-Some
returns-in-Some c =
    ap (λ (r : Or ℕ). at_server r)
    (sym (server_found c.args.net.now c.args.name.now c.in-Some.number c.keeps.ensures.names.0 c.in-Some.ensures))

pub returns-in-None : goal.returns-in-None
returns-in-None c = ap (λ (r : Or ℕ). at_server r) (sym (server_unknown c.args.net.now c.args.name.now c.in-None.ensures))
