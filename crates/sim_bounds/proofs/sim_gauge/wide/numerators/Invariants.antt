use Rattle.std.proofs.Common.{map, drop}
use Rattle.rational.specs.Gauge.{Kept}
use Rattle.net_model.specs.Networks.{NetServer}
use Rattle.net_model.specs.Views.{servers_of}
use Rattle.sim_bounds.specs.Gauge.{common_num}
use Rattle.sim_bounds.proofs.sim_gauge.wide.numerators.Given as goal

-- those of the servers from number i on
abbrev pub invariant-loop-i : goal.invariant-loop-i
invariant-loop-i l = Kept l.common (common_num (map (λ (s : NetServer). s.rate) (servers_of (drop l.i l.servers))))
