use Rattle.std.proofs.Common.{ℕ, ◌<◌}
use Rattle.run_watch.specs.first_breaches.Firsts.{HasService}
use Rattle.command_replies.proofs.run_findings.curves.keeps_services.Given as goal

abbrev pub invariant-loop-number : goal.invariant-loop-number
invariant-loop-number l = (s : ℕ) → s < l.number → HasService l.net s
