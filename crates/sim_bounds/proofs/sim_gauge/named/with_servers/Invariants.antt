use Rattle.std.proofs.Common.{◌≡◌, drop}
use Rattle.upp_limits.specs.Limits.{Numbers, joined}
use Rattle.upp_limits.specs.Gathered.{Gathers}
use Rattle.net_model.specs.Views.{servers_of}
use Rattle.sim_bounds.specs.sim_gauge.Named.{server_numbers}
use Rattle.sim_bounds.proofs.sim_gauge.named.with_servers.Given as goal

-- what is gathered, and the numbers of those that are left, make the whole
abbrev pub invariant-loop-server : goal.invariant-loop-server
invariant-loop-server l =
    (n : Numbers) → Gathers l.fn.g n
    → (m : Numbers) × Gathers l.found m × (joined m (server_numbers (servers_of (drop l.server-index l.servers))) ≡ joined n (server_numbers (servers_of l.servers)))
