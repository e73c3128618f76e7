use Rattle.std.proofs.Common.{ap}
use Rattle.run_laws.specs.declared.steps.Step.TheVariants as steps
use Rattle.net_model.specs.NetRoutes.{routes_of}
use Rattle.simulator.proofs.run_measures.LevelSteps.{step_at}
use Rattle.run_check.proofs.Along.{stands, goes_by, goes_ok_by}
use Rattle.run_check.proofs.walk.Walk.tell.Goals as goal

pub enter-requires : goal.enter-requires
enter-requires c =
    stands (routes_of c.args.net.now) c.args.run.now c.args.place c.args.self.now (steps.Enter c.in-Enter.flow c.in-Enter.packet c.in-Enter.time c.in-Enter.bits) c.requires.follows
    (step_at c.run.inside.steps.items c.args.run.now.steps c.args.place c.index.result.now (steps.Enter c.in-Enter.flow c.in-Enter.packet c.in-Enter.time c.in-Enter.bits)
    (ap (λ r. r.steps) c.run.view_is) c.requires.more c.index.ensures c.in-Enter.is)

pub returns-in-Enter : goal.returns-in-Enter
returns-in-Enter c =
    goes_ok_by (routes_of c.args.net.now) c.args.run.now c.args.place c.args.self.now c.enter.new.self (steps.Enter c.in-Enter.flow c.in-Enter.packet c.in-Enter.time c.in-Enter.bits) c.requires.follows
    (step_at c.run.inside.steps.items c.args.run.now.steps c.args.place c.index.result.now (steps.Enter c.in-Enter.flow c.in-Enter.packet c.in-Enter.time c.in-Enter.bits)
    (ap (λ r. r.steps) c.run.view_is) c.requires.more c.index.ensures c.in-Enter.is)
    c.enter.result c.run.inside.end (ap (λ r. r.end) c.run.view_is) c.enter.ensures

pub reach-requires : goal.reach-requires
reach-requires c =
    rw c.passage_of.ensures
    (stands (routes_of c.args.net.now) c.args.run.now c.args.place c.args.self.now (steps.Reach c.in-Reach.server c.in-Reach.packet c.in-Reach.time) c.requires.follows
    (step_at c.run.inside.steps.items c.args.run.now.steps c.args.place c.index.result.now (steps.Reach c.in-Reach.server c.in-Reach.packet c.in-Reach.time)
    (ap (λ r. r.steps) c.run.view_is) c.requires.more c.index.ensures c.in-Reach.is))

pub returns-in-Reach : goal.returns-in-Reach
returns-in-Reach c =
    goes_by (routes_of c.args.net.now) c.args.run.now c.args.place c.args.self.now c.reach.new.self (steps.Reach c.in-Reach.server c.in-Reach.packet c.in-Reach.time) c.requires.follows
    (step_at c.run.inside.steps.items c.args.run.now.steps c.args.place c.index.result.now (steps.Reach c.in-Reach.server c.in-Reach.packet c.in-Reach.time)
    (ap (λ r. r.steps) c.run.view_is) c.requires.more c.index.ensures c.in-Reach.is)
    c.reach.result c.run.inside.end (ap (λ r. r.end) c.run.view_is) (rw c.passage_of.ensures at c.reach.ensures)

pub work-requires : goal.work-requires
work-requires c =
    stands (routes_of c.args.net.now) c.args.run.now c.args.place c.args.self.now (steps.Work c.in-Work.server c.in-Work.packet c.in-Work.start c.in-Work.last c.in-Work.bits) c.requires.follows
    (step_at c.run.inside.steps.items c.args.run.now.steps c.args.place c.index.result.now (steps.Work c.in-Work.server c.in-Work.packet c.in-Work.start c.in-Work.last c.in-Work.bits)
    (ap (λ r. r.steps) c.run.view_is) c.requires.more c.index.ensures c.in-Work.is)

pub returns-in-Work : goal.returns-in-Work
returns-in-Work c =
    goes_by (routes_of c.args.net.now) c.args.run.now c.args.place c.args.self.now c.work.new.self (steps.Work c.in-Work.server c.in-Work.packet c.in-Work.start c.in-Work.last c.in-Work.bits) c.requires.follows
    (step_at c.run.inside.steps.items c.args.run.now.steps c.args.place c.index.result.now (steps.Work c.in-Work.server c.in-Work.packet c.in-Work.start c.in-Work.last c.in-Work.bits)
    (ap (λ r. r.steps) c.run.view_is) c.requires.more c.index.ensures c.in-Work.is)
    c.work.result c.run.inside.end (ap (λ r. r.end) c.run.view_is) c.work.ensures

pub leave-requires : goal.leave-requires
leave-requires c =
    rw c.passage_of-in-Leave.ensures
    (stands (routes_of c.args.net.now) c.args.run.now c.args.place c.args.self.now (steps.Leave c.in-Leave.server c.in-Leave.packet c.in-Leave.time) c.requires.follows
    (step_at c.run.inside.steps.items c.args.run.now.steps c.args.place c.index.result.now (steps.Leave c.in-Leave.server c.in-Leave.packet c.in-Leave.time)
    (ap (λ r. r.steps) c.run.view_is) c.requires.more c.index.ensures c.in-Leave.is))

pub returns-in-Leave : goal.returns-in-Leave
returns-in-Leave c =
    goes_by (routes_of c.args.net.now) c.args.run.now c.args.place c.args.self.now c.leave.new.self (steps.Leave c.in-Leave.server c.in-Leave.packet c.in-Leave.time) c.requires.follows
    (step_at c.run.inside.steps.items c.args.run.now.steps c.args.place c.index.result.now (steps.Leave c.in-Leave.server c.in-Leave.packet c.in-Leave.time)
    (ap (λ r. r.steps) c.run.view_is) c.requires.more c.index.ensures c.in-Leave.is)
    c.leave.result c.run.inside.end (ap (λ r. r.end) c.run.view_is) (rw c.passage_of-in-Leave.ensures at c.leave.ensures)

pub visit-requires : goal.visit-requires
visit-requires c = (
  routes_of c.args.net.now,
  stands (routes_of c.args.net.now) c.args.run.now c.args.place c.args.self.now (steps.Visit c.in-Visit.server c.in-Visit.queue c.in-Visit.time) c.requires.follows
      (step_at c.run.inside.steps.items c.args.run.now.steps c.args.place c.index.result.now (steps.Visit c.in-Visit.server c.in-Visit.queue c.in-Visit.time)
      (ap (λ r. r.steps) c.run.view_is) c.requires.more c.index.ensures c.in-Visit.is),
)

pub returns-in-Visit : goal.returns-in-Visit
returns-in-Visit c =
    goes_by (routes_of c.args.net.now) c.args.run.now c.args.place c.args.self.now c.visit.new.self (steps.Visit c.in-Visit.server c.in-Visit.queue c.in-Visit.time) c.requires.follows
    (step_at c.run.inside.steps.items c.args.run.now.steps c.args.place c.index.result.now (steps.Visit c.in-Visit.server c.in-Visit.queue c.in-Visit.time)
    (ap (λ r. r.steps) c.run.view_is) c.requires.more c.index.ensures c.in-Visit.is)
    c.visit.result c.run.inside.end (ap (λ r. r.end) c.run.view_is) (c.visit.ensures (routes_of c.args.net.now))
