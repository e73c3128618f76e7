use Rattle.std.proofs.Common.{ap, arith}
use Rattle.std.specs.Prelude.{length}
use Rattle.std.proofs.lemmas.List.{length-map}
use Rattle.net_model.specs.Views.{server_of}
use Rattle.net_cells.proofs.Stored.{server_stored, server_kept}
use Rattle.net_edits.proofs.names.server_at.Goals as goal

pub returns-clause-kept : goal.returns-clause-kept
returns-clause-kept c =
    let net = c.args.net.now in
    let x = c.index-servers-number.result in
    server_kept net c.args.number (server_of x) c.servers.ensures.kept
    (server_stored net c.servers.result.now c.args.number x c.servers.ensures.servers
    (omega (arith, c.requires, ap length c.servers.ensures.servers, length-map c.servers.result.now server_of)) c.index-servers-number.is)
