use Rattle.std.proofs.Common.{List, take}
use Rattle.run_laws.specs.Cards.{ServerStep}
use Rattle.run_laws.specs.Servers.{Server}
use Rattle.flow_watch.specs.watch_laws.Laws.{MayServe}
use Rattle.run_watch.specs.Held.{IsSightOf}
use Rattle.run_watch.proofs.IdleIn.{NoneIdleIn}
use Rattle.run_watch.proofs.service.first_along.Given as goal

abbrev pub invariant-loop-s : goal.invariant-loop-s
invariant-loop-s l =
    (server : Server) (V : List ServerStep) → IsSightOf server l.w.end V l.w → MayServe l.curve → NoneIdleIn l.w.end V l.curve (take l.s-index l.along)
