use Rattle.std.proofs.Common.{sym, ◌∙◌, subst}
use Rattle.net_model.specs.Accepted.{IsAccepted}
use Rattle.net_edits.proofs.Replaced.{flow_set}
use Rattle.net_edits.proofs.replacing.with_flow.Goals as goal

pub of_version-requires : goal.of_version-requires
of_version-requires c =
    let parts = c.into_parts-servers in
    subst IsAccepted
    (sym (flow_set c.args.net c.version-version.result parts.result.0.items parts.result.1.items c.set_at.new.items.items c.args.number
    c.args.flow c.set_at.ensures c.version-version.ensures.version parts.ensures.servers parts.ensures.flows)) c.requires

pub returns : goal.returns
returns c =
    let parts = c.into_parts-servers in
    c.of_version.ensures
    ∙ flow_set c.args.net c.version-version.result parts.result.0.items parts.result.1.items c.set_at.new.items.items c.args.number
    c.args.flow c.set_at.ensures c.version-version.ensures.version parts.ensures.servers parts.ensures.flows
