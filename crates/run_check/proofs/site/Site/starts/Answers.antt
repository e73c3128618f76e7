use Rattle.std.proofs.Common.{subst}
use Rattle.queue_sched.specs.Turns.{Starts as Begins}
use Rattle.sim_servers.specs.Queues.{served_by, StandFor}
use Rattle.run_check.proofs.SiteSteps.{idle_of, none_picked}
use Rattle.run_check.proofs.site.Site.starts.Goals as goal

pub start-requires : goal.start-requires
start-requires c =
    let k = c.requires.some in
    record { state = k.state; stands = k.keeps.queues; idle = idle_of k.state.under c.args.self.now.under k.keeps.under c.requires.idle }

pub returns-in-None : goal.returns-in-None
returns-in-None c = λ d room σ h x e i.
    let idle = idle_of σ.under c.args.self.now.under h.under c.requires.idle in
    none_picked d σ x (subst (λ r. Begins (served_by c.args.self.now.queues) (StandFor c.start.new.self) σ r) c.in-None.is (c.start.ensures.turn σ h.queues idle)).0 i
