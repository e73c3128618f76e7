use Rattle.std.proofs.Common.{◌++◌, drop}
use Rattle.run_watch.specs.Classes.{all_moves}
use Rattle.run_watch.specs.WatchTimes.{HaveSameTimes}
use Rattle.run_watch.proofs.windows.push_all_moves.Given as goal

abbrev pub invariant-loop-p : goal.invariant-loop-p
invariant-loop-p l = HaveSameTimes (l.fn.times.items ++ all_moves l.side l.s l.pieces l.turns) (l.times.items ++ all_moves l.side l.s l.pieces (drop l.p-index l.turns))
