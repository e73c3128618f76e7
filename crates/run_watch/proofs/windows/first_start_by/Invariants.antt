use Rattle.std.proofs.Common.{take}
use Rattle.flow_watch.specs.watch_laws.Shorts.{EachPoint, IsShortBy}
use Rattle.run_watch.proofs.windows.first_start_by.Given as goal

abbrev pub invariant-loop-p : goal.invariant-loop-p
invariant-loop-p l = EachPoint (λ p. ¬ IsShortBy l.s p l.b) (take l.p-index l.starts)
