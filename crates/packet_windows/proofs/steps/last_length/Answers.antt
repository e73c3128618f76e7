use Rattle.std.proofs.Common.{sym}
use Rattle.packet_windows.proofs.Loops.{last_found}
use Rattle.packet_windows.proofs.steps.last_length.Goals as goal

pub returns-in-Some : goal.returns-in-Some
returns-in-Some c = last_found c.args.steps.now c.in-Some.step.now (sym c.in-Some.ensures.value)
