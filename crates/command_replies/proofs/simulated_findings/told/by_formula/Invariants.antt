use Rattle.std.proofs.Common.{◌≡◌, take, map}
use Rattle.net_model.specs.declared.server.Server.{Server}
use Rattle.command_replies.specs.simulated_findings.Told.{is_by_formula}
use Rattle.command_replies.proofs.simulated_findings.told.by_formula.Given as goal

abbrev pub invariant-loop-server : goal.invariant-loop-server
invariant-loop-server l = l.told.items ≡ map (λ (s : Server). is_by_formula s.kind) (take l.server-index l.servers)
