use Rattle.std.proofs.Common.{ℕ, ◌<◌}
use Rattle.run_watch.specs.FirstOf.{IsBest}
use Rattle.run_watch.specs.first_breaches.Firsts.{HasService}
use Rattle.run_watch.proofs.first_breaches.Joined.{IsUpto}
use Rattle.run_watch.proofs.first_breaches.services.first_service.Given as goal

abbrev pub invariant-loop-number : goal.invariant-loop-number
invariant-loop-number l = IsBest (IsUpto l.net l.run l.number) l.run l.best × ((s : ℕ) → s < l.number → HasService l.net s)
