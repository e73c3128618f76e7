use Rattle.std.proofs.Common.{sym, ◌∙◌, subst}
use Rattle.net_model.specs.Accepted.{IsAccepted}
use Rattle.net_edits.proofs.Replaced.{server_set}
use Rattle.net_edits.proofs.replacing.with_server.Goals as goal

pub of_version-requires : goal.of_version-requires
of_version-requires c =
    let parts = c.into_parts-servers in
    subst IsAccepted
    (sym (server_set c.args.net c.version-version.result parts.result.0.items c.set_at.new.items.items parts.result.1.items c.args.number
    c.args.server c.set_at.ensures c.version-version.ensures.version parts.ensures.servers parts.ensures.flows)) c.requires

pub returns : goal.returns
returns c =
    let parts = c.into_parts-servers in
    c.of_version.ensures
    ∙ server_set c.args.net c.version-version.result parts.result.0.items c.set_at.new.items.items parts.result.1.items c.args.number
    c.args.server c.set_at.ensures c.version-version.ensures.version parts.ensures.servers parts.ensures.flows
