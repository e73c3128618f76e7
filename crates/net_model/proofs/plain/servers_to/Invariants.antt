use Rattle.std.proofs.Common.{◌≡◌}
use Rattle.net_model.specs.Views.{servers_of}
use Rattle.net_model.specs.Plain.{plain_servers}
use Rattle.net_model.proofs.plain.servers_to.Given as goal

abbrev pub invariant-loop-number : goal.invariant-loop-number
invariant-loop-number l = servers_of l.servers.items ≡ plain_servers l.number
