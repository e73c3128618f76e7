use Rattle.std.proofs.Common.{sym, subst}
use Rattle.net_model.specs.stated_runs.Setups.{IsGateFor, IsGateOpen, StaysTo}
use Rattle.sim_servers.specs.Openings.{gate_for, GateRoom}
use Rattle.sim_servers.proofs.Cycles.{stays_without}
use Rattle.sim_servers.proofs.opening.gate_stays.Goals as goal

pub stays_in_cycle-requires : goal.stays_in_cycle-requires
stays_in_cycle-requires c = record {
  gate = subst (λ o. IsGateFor (gate_for o)) c.in-Some.is c.requires.gate;
  room = subst (λ o. GateRoom (gate_for o) c.args.from) c.in-Some.is c.requires.room;
  forward = c.requires.forward;
  open_then = subst (λ o. IsGateOpen (gate_for o) c.args.from) c.in-Some.is c.requires.open_then;
}

pub returns-in-Some : goal.returns-in-Some
returns-in-Some c =
    subst (λ o. StaysTo (IsGateOpen (gate_for o)) c.args.from c.args.until c.stays_in_cycle.result) (sym c.in-Some.is) c.stays_in_cycle.ensures

pub returns-in-None : goal.returns-in-None
returns-in-None c =
    subst (λ o. StaysTo (IsGateOpen (gate_for o)) c.args.from c.args.until c.args.until) (sym c.in-None.is)
    (stays_without c.args.from c.args.until c.requires.forward)
