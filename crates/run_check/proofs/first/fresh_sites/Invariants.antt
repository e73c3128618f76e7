use Rattle.run_check.specs.Fresh.{AreFresh}
use Rattle.run_check.proofs.first.fresh_sites.Given as goal

abbrev pub invariant-loop-server : goal.invariant-loop-server
invariant-loop-server l = AreFresh l.net.servers l.packets l.server-index l.sites.items
