use Rattle.net_model.specs.NetRoutes.{routes_of}
use Rattle.simulator.proofs.run_measures.Lawful.{lawful_runs_are_numbered}
use Rattle.command_replies.proofs.run_findings.finding.findings.Goals as goal

pub worst_delays-requires-clause-numbered : goal.worst_delays-requires-clause-numbered
worst_delays-requires-clause-numbered c =
    lawful_runs_are_numbered (routes_of c.args.net.now) c.args.run.now c.requires.lawful

pub first_breach-requires-clause-kept : goal.first_breach-requires-clause-kept
first_breach-requires-clause-kept c s l told = absurd (cc)
