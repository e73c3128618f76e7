use Rattle.std.proofs.Common.{◌≡◌, ◌++◌, drop}
use Rattle.run_watch.specs.Classes.{moves_of}
use Rattle.run_watch.proofs.windows.push_moves.Given as goal

abbrev pub invariant-loop-q : goal.invariant-loop-q
invariant-loop-q l = l.times.items ++ moves_of l.side l.s l.p (drop l.q-index l.pieces) ≡ l.fn.times.items ++ moves_of l.side l.s l.p l.pieces
