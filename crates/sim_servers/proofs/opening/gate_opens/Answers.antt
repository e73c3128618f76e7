use Rattle.std.proofs.Common.{sym, subst}
use Rattle.net_model.specs.stated_runs.Setups.{IsGateFor, IsFirstGateOpen}
use Rattle.sim_servers.specs.Openings.{gate_for, GateRoom}
use Rattle.sim_servers.proofs.Cycles.{opens_without}
use Rattle.sim_servers.proofs.opening.gate_opens.Goals as goal

pub opens_in_cycle-requires : goal.opens_in_cycle-requires
opens_in_cycle-requires c = record {
  gate = subst (λ o. IsGateFor (gate_for o)) c.in-Some.is c.requires.gate;
  room = subst (λ o. GateRoom (gate_for o) c.args.from) c.in-Some.is c.requires.room;
}

pub returns-in-Some : goal.returns-in-Some
returns-in-Some c = subst (λ o. IsFirstGateOpen (gate_for o) c.args.from c.opens_in_cycle.result) (sym c.in-Some.is) c.opens_in_cycle.ensures

pub returns-in-None : goal.returns-in-None
returns-in-None c = subst (λ o. IsFirstGateOpen (gate_for o) c.args.from c.args.from) (sym c.in-None.is) (opens_without c.args.from)
