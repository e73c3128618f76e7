use Rattle.std.proofs.Common.{length}
use Rattle.flow_watch.specs.watch_laws.Marks.{Each, MostFits}
use Rattle.run_watch.specs.Queue.{Passed}
use Rattle.run_watch.proofs.scan.drop_past.Given as goal

abbrev pub invariant-loop-t : goal.invariant-loop-t
invariant-loop-t l = Passed l.most l.t l.fn.kept.items l.kept.items × Each (λ m. MostFits l.most m.time) l.kept.items

abbrev pub decreases-loop-t : goal.decreases-loop-t
decreases-loop-t l = length l.kept.items
