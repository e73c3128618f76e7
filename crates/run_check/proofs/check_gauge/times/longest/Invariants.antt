use Rattle.std.proofs.Common.{◌≡◌, drop}
use Rattle.net_model.specs.Networks.{NetServer}
use Rattle.net_model.specs.Views.{servers_of}
use Rattle.sim_bounds.specs.Horizons.{latest_of}
use Rattle.run_check.proofs.check_gauge.times.longest.Given as goal

-- that of the servers from number i on
abbrev pub invariant-loop-i : goal.invariant-loop-i
invariant-loop-i l = l.longest ≡ latest_of (λ (s : NetServer). s.link) (servers_of (drop l.i l.servers))
