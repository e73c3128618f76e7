use Rattle.std.proofs.Common.{ℕ, ◌<◌}
use Rattle.std.specs.Prelude.{IsTrue}
use Rattle.net_cells.specs.Numbered.{is_live}
use Rattle.command_replies.specs.run_findings.Curves.{HasArrival}
use Rattle.command_replies.proofs.run_findings.curves.keeps_arrivals.Given as goal

abbrev pub invariant-loop-number : goal.invariant-loop-number
invariant-loop-number l = (flow : ℕ) → flow < l.number → IsTrue (is_live l.net flow) → HasArrival l.net flow
