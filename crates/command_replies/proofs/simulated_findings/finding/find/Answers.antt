use Rattle.command_replies.proofs.simulated_findings.finding.find.Goals as goal

pub returns-clause-found : goal.returns-clause-found
returns-clause-found c = record {
  narrow = c.in_ok-sim.ensures.narrow;
  run = c.in_ok-sim.sim.run;
  stated = c.in_ok-sim.ensures.stated;
  finds = c.in_ok-found.ensures;
}
