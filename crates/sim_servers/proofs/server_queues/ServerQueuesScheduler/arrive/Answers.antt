use Rattle.std.proofs.Common.{sym, subst}
use Rattle.run_laws.specs.Cards.{Arrives}
use Rattle.run_laws.specs.Next.{next}
use Rattle.queue_sched.specs.Turns.{MayJoin}
use Rattle.sim_servers.specs.declared.server_queues.ServerQueues.TheVariants.{Priority, Drr}
use Rattle.sim_servers.specs.Queues.{served_by, room_of, StandFor}
use Rattle.sim_servers.proofs.server_queues.ServerQueuesScheduler.arrive.Goals as goal

pub arrive-requires : goal.arrive-requires
arrive-requires c = subst (λ v. MayJoin (StandFor v) (served_by v) (room_of v) c.args.packet c.args.queue) c.in-Fifo.is c.requires

pub arrive-requires-in-Priority : goal.arrive-requires-in-Priority
arrive-requires-in-Priority c = subst (λ v. MayJoin (StandFor v) (served_by v) (room_of v) c.args.packet c.args.queue) c.in-Priority.is c.requires

pub arrive-requires-in-Drr : goal.arrive-requires-in-Drr
arrive-requires-in-Drr c = subst (λ v. MayJoin (StandFor v) (served_by v) (room_of v) c.args.packet c.args.queue) c.in-Drr.is c.requires

pub returns-in-Priority-clause-joined : goal.returns-in-Priority-clause-joined
returns-in-Priority-clause-joined c = λ σ k t h i.
    subst (λ v. StandFor (Priority c.arrive-in-Priority.new.self) (next (served_by v) σ (Arrives k t))) (sym c.in-Priority.is)
    (c.arrive-in-Priority.ensures.joined σ k t (subst (λ v. StandFor v σ) c.in-Priority.is h) i)

pub returns-in-Drr-clause-joined : goal.returns-in-Drr-clause-joined
returns-in-Drr-clause-joined c = λ σ k t h i.
    subst (λ v. StandFor (Drr c.arrive-in-Drr.new.self) (next (served_by v) σ (Arrives k t))) (sym c.in-Drr.is)
    (c.arrive-in-Drr.ensures.joined σ k t (subst (λ v. StandFor v σ) c.in-Drr.is h) i)
