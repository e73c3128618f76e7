-- One packet through a gate that is open for the last 250 of each 1000: it enters when the gate closes, and is worked
-- on from 750 to 990. The flow sends a packet each 1500.
use Rattle.std.specs.Prelude.{[], ◌∷◌, codes, Some}
use Rattle.run_laws.specs.declared.steps.Step.TheVariants.{Enter, Work, Leave}
use Rattle.run_laws.specs.Runs.{SpecRun}
use Rattle.run_laws.specs.Cards.{whole}
use Rattle.run_laws.specs.Examples.{ends_at}
use Rattle.run_laws.specs.Servers.{Fifo}
use Rattle.upp_curve.specs.Kinds.{gate, stair}
use Rattle.net_model.specs.declared.server.ServiceKind.TheVariants.{Gate}
use Rattle.net_model.specs.Networks.{Net, NetServer, NetFlow}
use Rattle.worked_runs.specs.Reached.{ReachesItsBound}

abbrev pub its_server : NetServer
its_server = record {
  name = codes "g";
  rate = whole 100;
  kind = Gate (whole 1000) (whole 250);
  service = gate (whole 100) (whole 1000) (whole 250);
  link = whole 0;
  discipline = Fifo;
}

abbrev pub its_flow : NetFlow
its_flow = record {
  name = codes "f";
  path = 0 ∷ [];
  queues = 0 ∷ [];
  packet = 24000;
  arrival = stair (whole 24000) (whole 1500) (whole 0);
}

abbrev pub one_gate : Net
one_gate = record { version = 1; servers = its_server ∷ []; flows = Some its_flow ∷ [] }

abbrev pub at_its_end : SpecRun
at_its_end =
    ends_at 990
    (Enter 0 0 (whole 0) 24000 ∷ Work 0 0 (whole 750) (whole 990) (whole 24000) ∷ Leave 0 0 (whole 990) ∷ [])

abbrev pub GateReachesItsBound : Type 0
GateReachesItsBound = ReachesItsBound one_gate (0 ∷ []) at_its_end 0 (whole 990)
