use Rattle.std.specs.Prelude.{Result, Ok, Err, OnOk, ◌<◌, ◌^◌}
use Rattle.std.proofs.Common.{arith, ap}
use Rattle.run_laws.specs.declared.steps.Step.TheVariants as steps
use Rattle.net_model.specs.NetRoutes.{routes_of}
use Rattle.simulator.proofs.run_measures.LevelSteps.{step_at, next_place, next_number, may_enter, enter_tells, may_reach, reach_tells, may_leave, leave_tells, work_tells, visit_tells}
use Rattle.simulator.proofs.run_measures.levels.Levels.tell.Goals as goal

-- what holds where a call gives Ok
on_ok : {A E : Type 0} (P Q : Type 0) (r : Result A E) → (P → Q) → OnOk r P → OnOk r Q
on_ok P Q (Ok x) f h = f h
on_ok P Q (Err e) f h = h

pub prove-unreachable-requires : goal.prove-unreachable-requires
prove-unreachable-requires c =
    let v = c.args.self.now in
    let at = step_at c.run.inside.steps.items c.args.run.now.steps c.args.place c.index.result.now (steps.Enter c.in-Enter.flow c.in-Enter.packet c.in-Enter.time c.in-Enter.bits)
    (ap (λ r. r.steps) c.run.view_is) c.requires.more c.index.ensures c.in-Enter.is in
    let e = next_number (routes_of c.args.net.now) c.args.run.now c.args.place c.in-Enter.flow c.in-Enter.packet c.in-Enter.time c.in-Enter.bits v c.requires.lawful at c.requires.tells in
    let long = v.flows.ok.0 in
    let is = c.len.ensures in
    c.if-prove.true (omega (arith, e, is, long))

pub enter-requires : goal.enter-requires
enter-requires c =
    let at = step_at c.run.inside.steps.items c.args.run.now.steps c.args.place c.index.result.now (steps.Enter c.in-Enter.flow c.in-Enter.packet c.in-Enter.time c.in-Enter.bits)
    (ap (λ r. r.steps) c.run.view_is) c.requires.more c.index.ensures c.in-Enter.is in
    let low : c.in-Enter.packet < 2 ^ 32 = omega arith in
    let short : c.in-Enter.bits < 2 ^ 32 = omega arith in
    may_enter (routes_of c.args.net.now) c.args.run.now c.args.place c.in-Enter.flow c.in-Enter.packet c.in-Enter.time c.in-Enter.bits c.args.self.now
    c.requires.lawful at c.requires.tells low short

pub returns-in-Enter : goal.returns-in-Enter
returns-in-Enter c =
    let net = routes_of c.args.net.now in
    let run = c.args.run.now in
    let k = c.args.place in
    let v = c.args.self.now in
    let at = step_at c.run.inside.steps.items run.steps k c.index.result.now (steps.Enter c.in-Enter.flow c.in-Enter.packet c.in-Enter.time c.in-Enter.bits)
    (ap (λ r. r.steps) c.run.view_is) c.requires.more c.index.ensures c.in-Enter.is in
    let low : c.in-Enter.packet < 2 ^ 32 = omega arith in
    let short : c.in-Enter.bits < 2 ^ 32 = omega arith in
    on_ok _ _ c.enter.result
    (λ h. next_place net run k c.enter.new.self (enter_tells net run k c.in-Enter.flow c.in-Enter.packet c.in-Enter.time c.in-Enter.bits v c.enter.new.self
    c.requires.lawful at c.requires.tells low short h)) c.enter.ensures

pub reach-requires-clause-known : goal.reach-requires-clause-known
reach-requires-clause-known c =
    let at = step_at c.run.inside.steps.items c.args.run.now.steps c.args.place c.index.result.now (steps.Reach c.in-Reach.server c.in-Reach.packet c.in-Reach.time)
    (ap (λ r. r.steps) c.run.view_is) c.requires.more c.index.ensures c.in-Reach.is in
    (may_reach (routes_of c.args.net.now) c.args.run.now c.args.place c.in-Reach.server c.in-Reach.packet c.in-Reach.time c.args.self.now c.requires.lawful at c.requires.tells).0

pub reach-requires-clause-may : goal.reach-requires-clause-may
reach-requires-clause-may c =
    let at = step_at c.run.inside.steps.items c.args.run.now.steps c.args.place c.index.result.now (steps.Reach c.in-Reach.server c.in-Reach.packet c.in-Reach.time)
    (ap (λ r. r.steps) c.run.view_is) c.requires.more c.index.ensures c.in-Reach.is in
    (may_reach (routes_of c.args.net.now) c.args.run.now c.args.place c.in-Reach.server c.in-Reach.packet c.in-Reach.time c.args.self.now c.requires.lawful at c.requires.tells).1

pub returns-in-Reach : goal.returns-in-Reach
returns-in-Reach c =
    let net = routes_of c.args.net.now in
    let run = c.args.run.now in
    let k = c.args.place in
    let at = step_at c.run.inside.steps.items run.steps k c.index.result.now (steps.Reach c.in-Reach.server c.in-Reach.packet c.in-Reach.time)
    (ap (λ r. r.steps) c.run.view_is) c.requires.more c.index.ensures c.in-Reach.is in
    next_place net run k c.reach.new.self (reach_tells net run k c.in-Reach.server c.in-Reach.packet c.in-Reach.time c.args.self.now c.reach.new.self
    c.requires.lawful at c.requires.tells c.reach.ensures.same c.reach.ensures.gains)

pub lose-requires-clause-known : goal.lose-requires-clause-known
lose-requires-clause-known c =
    let at = step_at c.run.inside.steps.items c.args.run.now.steps c.args.place c.index.result.now (steps.Leave c.in-Leave.server c.in-Leave.packet c.in-Leave.time)
    (ap (λ r. r.steps) c.run.view_is) c.requires.more c.index.ensures c.in-Leave.is in
    (may_leave (routes_of c.args.net.now) c.args.run.now c.args.place c.in-Leave.server c.in-Leave.packet c.in-Leave.time c.args.self.now c.requires.lawful at c.requires.tells).0

pub lose-requires-clause-may : goal.lose-requires-clause-may
lose-requires-clause-may c =
    let at = step_at c.run.inside.steps.items c.args.run.now.steps c.args.place c.index.result.now (steps.Leave c.in-Leave.server c.in-Leave.packet c.in-Leave.time)
    (ap (λ r. r.steps) c.run.view_is) c.requires.more c.index.ensures c.in-Leave.is in
    (may_leave (routes_of c.args.net.now) c.args.run.now c.args.place c.in-Leave.server c.in-Leave.packet c.in-Leave.time c.args.self.now c.requires.lawful at c.requires.tells).1

pub returns-in-Leave : goal.returns-in-Leave
returns-in-Leave c =
    let net = routes_of c.args.net.now in
    let run = c.args.run.now in
    let k = c.args.place in
    let at = step_at c.run.inside.steps.items run.steps k c.index.result.now (steps.Leave c.in-Leave.server c.in-Leave.packet c.in-Leave.time)
    (ap (λ r. r.steps) c.run.view_is) c.requires.more c.index.ensures c.in-Leave.is in
    next_place net run k c.lose.new.self (leave_tells net run k c.in-Leave.server c.in-Leave.packet c.in-Leave.time c.args.self.now c.lose.new.self
    c.requires.lawful at c.requires.tells c.lose.ensures.same c.lose.ensures.loses)

pub returns-in-Work : goal.returns-in-Work
returns-in-Work c =
    let net = routes_of c.args.net.now in
    let run = c.args.run.now in
    let k = c.args.place in
    let x = c.in-Work in
    let at = step_at c.run.inside.steps.items run.steps k c.index.result.now (steps.Work x.server x.packet x.start x.end x.bits)
    (ap (λ r. r.steps) c.run.view_is) c.requires.more c.index.ensures x.is in
    next_place net run k c.args.self.now (work_tells net run k x.server x.packet x.start x.end x.bits c.args.self.now c.requires.lawful at c.requires.tells)

pub returns-in-Visit : goal.returns-in-Visit
returns-in-Visit c =
    let net = routes_of c.args.net.now in
    let run = c.args.run.now in
    let k = c.args.place in
    let x = c.in-Visit in
    let at = step_at c.run.inside.steps.items run.steps k c.index.result.now (steps.Visit x.server x.queue x.time)
    (ap (λ r. r.steps) c.run.view_is) c.requires.more c.index.ensures x.is in
    next_place net run k c.args.self.now (visit_tells net run k x.server x.queue x.time c.args.self.now c.requires.lawful at c.requires.tells)
