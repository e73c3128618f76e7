use Rattle.std.proofs.Common.{◌≡◌, drop}
use Rattle.upp_limits.specs.Limits.{Numbers, joined}
use Rattle.upp_limits.specs.Gathered.{Gathers}
use Rattle.net_model.specs.Views.{servers_of}
use Rattle.run_check.specs.check_gauge.Named.{links_and_rates}
use Rattle.run_check.proofs.check_gauge.named.with_links_and_rates.Given as goal

-- what is gathered, and the numbers of those that are left, make the whole
abbrev pub invariant-loop-server : goal.invariant-loop-server
invariant-loop-server l =
    (n : Numbers) → Gathers l.fn.g n
    → (m : Numbers) × Gathers l.found m × (joined m (links_and_rates (servers_of (drop l.server-index l.servers))) ≡ joined n (links_and_rates (servers_of l.servers)))
