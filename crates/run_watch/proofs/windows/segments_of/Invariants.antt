use Rattle.std.proofs.Common.{◌≡◌, ◌++◌, drop}
use Rattle.flow_watch.specs.watch_laws.Segments.{segments}
use Rattle.run_watch.proofs.windows.segments_of.Given as goal

abbrev pub invariant-loop-i : goal.invariant-loop-i
invariant-loop-i l = l.found.items ++ segments (drop l.i l.pieces) ≡ segments l.pieces
