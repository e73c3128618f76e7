use Rattle.std.proofs.Common.{◌≡◌, take}
use Rattle.net_model.specs.Views.{servers_of}
use Rattle.net_model.proofs.copies.copied_servers.Given as goal

abbrev pub invariant-loop-server : goal.invariant-loop-server
invariant-loop-server l = servers_of l.copies.items ≡ servers_of (take l.server-index l.servers)
