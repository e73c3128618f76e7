use Rattle.net_model.specs.Views.{server_of}
use Rattle.net_cells.proofs.Stored.{server_stored, server_kept}
use Rattle.run_check.proofs.Started.{fresh_push}
use Rattle.run_check.proofs.first.fresh_sites.Goals as goal

pub new-requires : goal.new-requires
new-requires c =
    let net = c.args.net.now in
    let x = c.server-item.result in
    (server_kept net c.loop-server.server-index (server_of x) c.servers-server-items.ensures.kept
    (server_stored net c.servers-server-items.result.now c.loop-server.server-index x c.servers-server-items.ensures.servers c.loop-server-test.true c.server-item.is)).queues

pub loop-server-preserved : goal.loop-server-preserved
loop-server-preserved c =
    let net = c.args.net.now in
    let x = c.server-item.result in
    fresh_push net.servers c.args.packets c.loop-server.server-index c.loop-server.sites.items c.push.new.self.items c.in_ok-site.site c.loop-server.invariant
    record {
      server = server_of x;
      at = server_stored net c.servers-server-items.result.now c.loop-server.server-index x c.servers-server-items.ensures.servers c.loop-server-test.true c.server-item.is;
      site = c.in_ok-site.ensures.site;
      idle = c.in_ok-site.ensures.idle;
    }
    c.in_ok-push.ensures.items
