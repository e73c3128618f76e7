use Rattle.std.proofs.Common.{sym, subst}
use Rattle.queue_sched.specs.Turns.{IsIdle, Starts}
use Rattle.sim_servers.specs.declared.server_queues.ServerQueues.TheVariants.{Priority, Drr}
use Rattle.sim_servers.specs.Queues.{served_by, StandFor}
use Rattle.sim_servers.proofs.server_queues.ServerQueuesScheduler.start.Goals as goal

pub start-requires : goal.start-requires
start-requires c = subst (λ v. IsIdle (StandFor v)) c.in-Fifo.is c.requires

pub start-requires-in-Priority : goal.start-requires-in-Priority
start-requires-in-Priority c = subst (λ v. IsIdle (StandFor v)) c.in-Priority.is c.requires

pub start-requires-in-Drr : goal.start-requires-in-Drr
start-requires-in-Drr c = subst (λ v. IsIdle (StandFor v)) c.in-Drr.is c.requires

pub returns-in-Priority-clause-turn : goal.returns-in-Priority-clause-turn
returns-in-Priority-clause-turn c = λ σ h e.
    subst (λ v. Starts (served_by v) (StandFor (Priority c.start-in-Priority.new.self)) σ c.start-in-Priority.result) (sym c.in-Priority.is)
    (c.start-in-Priority.ensures.turn σ (subst (λ v. StandFor v σ) c.in-Priority.is h) e)

pub returns-in-Drr-clause-turn : goal.returns-in-Drr-clause-turn
returns-in-Drr-clause-turn c = λ σ h e.
    subst (λ v. Starts (served_by v) (StandFor (Drr c.start-in-Drr.new.self)) σ c.start-in-Drr.result) (sym c.in-Drr.is)
    (c.start-in-Drr.ensures.turn σ (subst (λ v. StandFor v σ) c.in-Drr.is h) e)
