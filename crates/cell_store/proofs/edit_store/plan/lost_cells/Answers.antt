use Rattle.std.proofs.Common.{sym, ◌∙◌}
use Rattle.cell_rules.specs.edit_sites.Sites.{site_of}
use Rattle.cell_store.proofs.edit_store.Lost.{server_shares, flow_shares, never_anywhere}
use Rattle.cell_store.proofs.edit_store.plan.lost_cells.Goals as goal

pub lost_of-requires : goal.lost_of-requires
lost_of-requires c =
    server_shares (site_of c.args.old.now c.args.edit.now) c.in-Server.number c.args.old.now c.args.net.now
    (sym c.site_of-place.ensures ∙ c.in-Server.is)
    (c.edits_have_one_site.ensures c.args.old.now c.args.net.now c.args.edit.now c.requires)

pub lost_of-requires-in-Flow : goal.lost_of-requires-in-Flow
lost_of-requires-in-Flow c =
    flow_shares (site_of c.args.old.now c.args.edit.now) c.in-Flow.number c.args.old.now c.args.net.now
    (sym c.site_of-place.ensures ∙ c.in-Flow.is)
    (c.edits_have_one_site.ensures c.args.old.now c.args.net.now c.args.edit.now c.requires)

pub unreachable-requires : goal.unreachable-requires
unreachable-requires c =
    never_anywhere (site_of c.args.old.now c.args.edit.now) c.args.old.now c.args.net.now
    (sym c.site_of-place.ensures ∙ c.in-Anywhere.is)
    (c.edits_are_made_at_one_site.ensures c.args.old.now c.args.net.now c.args.edit.now c.requires)
