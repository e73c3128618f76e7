use Rattle.std.proofs.Common.{sym, subst}
use Rattle.queue_sched.specs.Turns.{IsBusy, Finishes}
use Rattle.sim_servers.specs.declared.server_queues.ServerQueues.TheVariants.{Drr}
use Rattle.sim_servers.specs.Queues.{served_by, StandFor}
use Rattle.sim_servers.proofs.server_queues.ServerQueuesScheduler.finish.Goals as goal

pub finish-requires : goal.finish-requires
finish-requires c = subst (λ v. IsBusy (StandFor v)) c.in-Fifo.is c.requires

pub finish-requires-in-Priority : goal.finish-requires-in-Priority
finish-requires-in-Priority c = subst (λ v. IsBusy (StandFor v)) c.in-Priority.is c.requires

pub finish-requires-in-Drr : goal.finish-requires-in-Drr
finish-requires-in-Drr c = subst (λ v. IsBusy (StandFor v)) c.in-Drr.is c.requires

pub returns-in-Drr-clause-left : goal.returns-in-Drr-clause-left
returns-in-Drr-clause-left c = λ σ u h e.
    subst (λ v. Finishes (served_by v) (StandFor (Drr c.finish-in-Drr.new.self)) σ u c.finish-in-Drr.result) (sym c.in-Drr.is)
    (c.finish-in-Drr.ensures.left σ u (subst (λ v. StandFor v σ) c.in-Drr.is h) e)
