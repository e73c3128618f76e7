use Rattle.std.proofs.Common.{◌↔◌, drop, None}
use Rattle.subadd_closure.specs.PieceFits.{SlopesRead}
use Rattle.subadd_closure.proofs.stretches.slopes_read.Given as goal

abbrev pub invariant-loop-p : goal.invariant-loop-p
invariant-loop-p l = SlopesRead None l.pieces ↔ SlopesRead l.line (drop l.p-index l.pieces)
