use Rattle.std.proofs.Common.{drop}
use Rattle.plain_operators.proofs.running.MovedLoop.{MovedLoop}
use Rattle.plain_operators.proofs.running.moved.moved_right.Given as goal

abbrev pub invariant-loop-p : goal.invariant-loop-p
invariant-loop-p l = MovedLoop l.theta l.end l.pieces (drop l.p-index l.pieces) l.moved.items
