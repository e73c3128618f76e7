-- What is left to a queue serves it and grows from zero, by the law of each way in which a server leaves it.
use Rattle.std.specs.Prelude.{◌≤◌, ◌<◌, ℕ, List, length, get_or}
use Rattle.std.proofs.Common.{sym, subst}
use Rattle.std.proofs.lemmas.List.Elements.{All-get_or}
use Rattle.rational.specs.Rational.{ℚ}
use Rattle.rational.specs.Extended.{Ext}
use Rattle.run_laws.specs.Cards.{of_queue}
use Rattle.run_laws.specs.Serves.{Serves}
use Rattle.run_laws.proofs.FifoQueue.{fifo_queue_is_served}
use Rattle.plain_operators.specs.CurveCalls.{GrowsFromZero}
use Rattle.residual_laws.proofs.PriorityLaw.{priority_serves}
use Rattle.residual_laws.proofs.DrrLaw.{drr_serves}
use Rattle.residuals.specs.calls.DrrCalls.{IsQuantum, AreQueues}
use Rattle.residuals.proofs.calls.PriorityGrowth as priority
use Rattle.residuals.proofs.calls.DrrGrowth as drr
use Rattle.residuals.specs.left.Left.{Left, all, above, share, IsFit, map_left}
use Rattle.residuals.specs.left.Laws.{LeftServes, LeftGrows}

-- the quantum of a queue
some_bits : (quanta longest : List ℕ) (i : ℕ) → AreQueues quanta longest → i < length quanta → 1 ≤ get_or quanta i 0
some_bits quanta longest i queues among = (All-get_or IsQuantum quanta i 0 among queues.each).0

-- what is fit is so whatever stands for the queues before
pub map_fits : {A B : Type 0} (f : A → B) (l : Left A) → IsFit l → IsFit (map_left f l)
map_fits f all fit = tt
map_fits f (above before lower) fit = tt
map_fits f (share quanta longest queue) fit = fit

pub serves : LeftServes
serves server end view i all β R lawful to fit service flat is =
    subst (λ (h : ℚ → Ext). Serves (of_queue i) h end view) (sym is)
    (subst (λ q. Serves (of_queue q) β end view) (sym to.1) (fifo_queue_is_served server end view β lawful to.0 service flat))
serves server end view i (above before lower) β R lawful to fit service flat is =
    priority_serves server end view to.0.0 i lower β before R lawful to.0.1 service flat to.1 to.2 is
serves server end view i (share quanta longest queue) β R lawful to fit service flat is =
    subst (λ q. Serves (of_queue q) R end view) to.1
    (drr_serves server end view quanta longest queue β R lawful to.0 fit.0.paired fit.1
    (some_bits quanta longest queue fit.0 fit.1) to.2 service flat is)

pub grows : LeftGrows
grows all β R rises low fit is = subst GrowsFromZero (sym is) rises
grows (above before lower) β R rises low fit is = priority.service_grows β before R lower rises low is
grows (share quanta longest queue) β R rises low fit is =
    drr.service_grows β R quanta longest queue fit.0.paired fit.1 (some_bits quanta longest queue fit.0 fit.1) rises is
