use Rattle.std.proofs.Common.{◌≡◌, drop}
use Rattle.upp_limits.specs.Limits.{Numbers, joined}
use Rattle.upp_limits.specs.Gathered.{Gathers}
use Rattle.std.specs.Prelude.{map}
use Rattle.net_model.specs.Networks.{NetServer}
use Rattle.net_model.specs.Views.{servers_of}
use Rattle.sim_bounds.specs.Gauge.{numbers_of_curves}
use Rattle.sim_bounds.proofs.window_numbers.curves.with_services.Given as goal

-- what is gathered, and the numbers of those that are left, make the whole
abbrev pub invariant-loop-server : goal.invariant-loop-server
invariant-loop-server l =
    (n : Numbers) → Gathers l.fn.g n
    → (m : Numbers) × Gathers l.found m × (joined m (numbers_of_curves l.end (map (λ (s : NetServer). s.service) (servers_of (drop l.server-index l.servers)))) ≡ joined n (numbers_of_curves l.end (map (λ (s : NetServer). s.service) (servers_of l.servers))))
