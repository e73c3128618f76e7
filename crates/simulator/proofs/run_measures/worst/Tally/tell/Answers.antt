use Rattle.std.specs.Prelude.{◌∷◌}
use Rattle.std.proofs.Common.{sym, subst}
use Rattle.run_laws.specs.declared.steps.Step.{Step}
use Rattle.net_model.specs.NetRoutes.{routes_of}
use Rattle.simulator.specs.run_measures.Tallies.{IsTold}
use Rattle.simulator.proofs.run_measures.Telling.{reach_told, work_told, visit_told}
use Rattle.simulator.proofs.run_measures.worst.Tally.tell.Goals as goal

pub returns-in-Enter-clause-told : goal.returns-in-Enter-clause-told
returns-in-Enter-clause-told c = λ end xs many h.
    subst (λ (x : Step). IsTold (routes_of c.args.net.now) end (x ∷ xs) many c.enter.new.self) (sym c.in-Enter.is)
    (c.enter.ensures.told (routes_of c.args.net.now) c.in-Enter.bits end xs many h)

pub returns-in-Leave-clause-told : goal.returns-in-Leave-clause-told
returns-in-Leave-clause-told c = λ end xs many h.
    subst (λ (x : Step). IsTold (routes_of c.args.net.now) end (x ∷ xs) many c.leave.new.self) (sym c.in-Leave.is)
    (c.leave.ensures.told end xs many h)

pub returns-in-Reach-clause-told : goal.returns-in-Reach-clause-told
returns-in-Reach-clause-told c = λ end xs many h.
    subst (λ (x : Step). IsTold (routes_of c.args.net.now) end (x ∷ xs) many c.args.self.now) (sym c.in-Reach.is)
    (reach_told (routes_of c.args.net.now) end xs c.args.self.now.flows.items c.args.self.now.delivered.items many c.args.self.now.worst.items c.in-Reach.server c.in-Reach.packet c.in-Reach.time h)

pub returns-in-Work-clause-told : goal.returns-in-Work-clause-told
returns-in-Work-clause-told c = λ end xs many h.
    subst (λ (x : Step). IsTold (routes_of c.args.net.now) end (x ∷ xs) many c.args.self.now) (sym c.in-Work.is)
    (work_told (routes_of c.args.net.now) end xs c.args.self.now.flows.items c.args.self.now.delivered.items many c.args.self.now.worst.items c.in-Work.server c.in-Work.packet c.in-Work.start c.in-Work.end c.in-Work.bits h)

pub returns-in-Visit-clause-told : goal.returns-in-Visit-clause-told
returns-in-Visit-clause-told c = λ end xs many h.
    subst (λ (x : Step). IsTold (routes_of c.args.net.now) end (x ∷ xs) many c.args.self.now) (sym c.in-Visit.is)
    (visit_told (routes_of c.args.net.now) end xs c.args.self.now.flows.items c.args.self.now.delivered.items many c.args.self.now.worst.items c.in-Visit.server c.in-Visit.queue c.in-Visit.time h)
