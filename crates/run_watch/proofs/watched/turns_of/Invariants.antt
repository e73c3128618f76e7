use Rattle.std.proofs.Common.{◌≡◌, ◌++◌, drop}
use Rattle.run_watch.specs.Watching.{ends_of, changes_in, turns}
use Rattle.run_watch.proofs.watched.turns_of.Given as goal

abbrev pub invariant-loop-s : goal.invariant-loop-s
invariant-loop-s l = l.turns.items ++ ends_of (drop l.s-index l.stretches) ≡ ends_of l.stretches

abbrev pub invariant-loop-r : goal.invariant-loop-r
invariant-loop-r l = l.turns.items ++ changes_in l.w (drop l.r-index l.w.works.items) ≡ turns l.w l.stretches
