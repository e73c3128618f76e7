-- One packet through one server: the packet of 12000 bits enters at 0, and is worked on from 10 to 130.
use Rattle.std.specs.Prelude.{[], ◌∷◌, codes, Some}
use Rattle.run_laws.specs.Cards.{whole}
use Rattle.run_laws.specs.Examples.{one_packet}
use Rattle.run_laws.specs.Servers.{Fifo}
use Rattle.net_model.specs.Networks.{Net}
use Rattle.worked_runs.specs.Parts.{late_server, first_flow}
use Rattle.worked_runs.specs.Reached.{ReachesItsBound}

-- a burst of 12000 bits, and 10 bits a unit of time
abbrev pub one_flow : Net
one_flow = record {
  version = 1;
  servers = late_server (codes "s1") 0 Fifo ∷ [];
  flows = Some first_flow ∷ [];
}

abbrev pub OneFlowReachesItsBound : Type 0
OneFlowReachesItsBound = ReachesItsBound one_flow (0 ∷ []) one_packet 0 (whole 130)
