use Rattle.std.proofs.Common.{◌≡◌, ◌+◌, ℕ, length, Option, arith, sym, subst}
use Rattle.arrival_lines.specs.declared.queues.Stay.{Stay}
use Rattle.arrival_lines.proofs.Leasts.{Known, more_known}
use Rattle.arrival_lines.proofs.queues.least_stay.Goals as goal

pub loop-service-preserved : goal.loop-service-preserved
loop-service-preserved c = λ parts are.
    subst (λ (found : Option Stay). Known parts c.args.services.now c.args.longest (c.loop-service.service-index + 1) found) (sym c.lesser_stay-least.ensures)
    (more_known parts c.args.services.now c.args.longest c.loop-service.service-index _ c.loop-service.least c.stay_at.result c.loop-service-test.true (c.stay_at.ensures parts are) (c.loop-service.invariant parts are))

pub returns : goal.returns
returns c = λ parts are.
    let all : c.loop-service.service-index ≡ length c.args.services.now = omega arith in
    subst (λ (n : ℕ). Known parts c.args.services.now c.args.longest n c.loop-service.least) all (c.loop-service.invariant parts are)
