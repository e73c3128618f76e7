use Rattle.std.proofs.Common.{subst}
use Rattle.run_laws.specs.Allows.{MayVisit}
use Rattle.queue_sched.specs.Turns.{Starts as Begins}
use Rattle.sim_servers.specs.Queues.{served_by, StandFor}
use Rattle.sim_servers.proofs.Visits.{none_visited}
use Rattle.run_check.proofs.SiteSteps.{idle_of}
use Rattle.run_check.proofs.site.Site.turns.Goals as goal

pub start-requires : goal.start-requires
start-requires c =
    let k = c.requires.some in
    record { state = k.state; stands = k.keeps.queues; idle = idle_of k.state.under c.args.self.now.under k.keeps.under c.requires.idle }

pub returns-in-None-clause-turns : goal.returns-in-None-clause-turns
returns-in-None-clause-turns c = λ d room σ h m.
    let idle = idle_of σ.under c.args.self.now.under h.under c.requires.idle in
    none_visited c.args.self.now.queues σ c.args.queue h.queues
    (subst (λ r. Begins (served_by c.args.self.now.queues) (StandFor c.start.new.self) σ r) c.in-None.is (c.start.ensures.turn σ h.queues idle)).0
    (subst (λ z. MayVisit z σ c.args.queue) (Rattle.std.proofs.Common.sym h.serves) m)
