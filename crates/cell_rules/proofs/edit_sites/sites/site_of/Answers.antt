use Rattle.std.proofs.Common.{◌∙◌, ℕ, List, sym, ap}
use Rattle.net_model.specs.declared.edit.Edit.{Edit}
use Rattle.net_edits.specs.Lookups.{flow_number}
use Rattle.cell_rules.specs.edit_sites.Sites as spec
use Rattle.cell_rules.proofs.edit_sites.sites.site_of.Goals as goal

pub returns-in-Bucket : goal.returns-in-Bucket
returns-in-Bucket c =
    c.flow_site.ensures ∙ ap (λ (bytes : List ℕ). spec.at_flow (flow_number c.args.net.now bytes)) c.deref-in-Bucket.ensures
    ∙ ap (λ (e : Edit). spec.site_of c.args.net.now e) (sym c.in-Bucket.is)

pub returns-in-Stair : goal.returns-in-Stair
returns-in-Stair c =
    c.flow_site-in-Stair.ensures ∙ ap (λ (bytes : List ℕ). spec.at_flow (flow_number c.args.net.now bytes)) c.deref-in-Stair.ensures
    ∙ ap (λ (e : Edit). spec.site_of c.args.net.now e) (sym c.in-Stair.is)

pub returns-in-Packet : goal.returns-in-Packet
returns-in-Packet c =
    c.flow_site-in-Packet.ensures ∙ ap (λ (bytes : List ℕ). spec.at_flow (flow_number c.args.net.now bytes)) c.deref-in-Packet.ensures
    ∙ ap (λ (e : Edit). spec.site_of c.args.net.now e) (sym c.in-Packet.is)

pub returns-in-Route : goal.returns-in-Route
returns-in-Route c =
    c.flow_site-in-Route.ensures ∙ ap (λ (bytes : List ℕ). spec.at_flow (flow_number c.args.net.now bytes)) c.deref-in-Route.ensures
    ∙ ap (λ (e : Edit). spec.site_of c.args.net.now e) (sym c.in-Route.is)

pub returns-in-Drop : goal.returns-in-Drop
returns-in-Drop c =
    c.flow_site-in-Drop.ensures ∙ ap (λ (bytes : List ℕ). spec.at_flow (flow_number c.args.net.now bytes)) c.deref-in-Drop.ensures
    ∙ ap (λ (e : Edit). spec.site_of c.args.net.now e) (sym c.in-Drop.is)
