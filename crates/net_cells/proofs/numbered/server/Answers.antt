use Rattle.std.proofs.Common.{sym}
use Rattle.net_model.specs.Views.{server_of}
use Rattle.net_cells.proofs.Stored.{server_stored, server_past, server_kept}
use Rattle.net_cells.proofs.numbered.server.Goals as goal

pub returns-then-place-servers-clause-kept : goal.returns-then-place-servers-clause-kept
returns-then-place-servers-clause-kept c =
    let net = c.args.net.now in
    let x = c.index-servers-place.result in
    server_kept net c.args.number (server_of x) c.servers-servers.ensures.kept
    (server_stored net c.servers-servers.result.now c.args.number x c.servers-servers.ensures.servers
    c.if-place-servers.true
    c.index-servers-place.is)

pub returns-else-place-servers-clause-server : goal.returns-else-place-servers-clause-server
returns-else-place-servers-clause-server c =
    sym (server_past c.args.net.now c.servers-servers.result.now c.args.number c.servers-servers.ensures.servers
    c.if-place-servers.false)
