use Rattle.std.proofs.Common.{◌≡◌, ◌+◌, ℕ, length, Option, arith, sym, subst}
use Rattle.arrival_stairs.specs.Queues.{IsLeastSoFar}
use Rattle.arrival_lines.specs.declared.queues.Stay.{Stay}
use Rattle.arrival_stairs.proofs.Leasts.{begun, one_more}
use Rattle.arrival_stairs.proofs.queues.least_stay.Goals as goal

pub loop-service-init : goal.loop-service-init
loop-service-init c = λ bundles are steps_are walk.
    subst (λ (found : Option Stay). IsLeastSoFar bundles c.args.services.now c.args.longest 0 c.args.by_lines found) (sym c.stay_in-least.ensures)
    (begun bundles c.args.services.now c.args.longest c.args.by_lines)

pub loop-service-preserved : goal.loop-service-preserved
loop-service-preserved c = λ bundles are steps_are walk.
    let services = c.args.services.now in
    let i = c.loop-service.service-index in
    let stay = c.stay_at.ensures bundles are steps_are walk.is (walk.ends i _ c.loop-service-test.true) in
    subst (λ (found : Option Stay). IsLeastSoFar bundles services c.args.longest (i + 1) c.args.by_lines found) (sym c.lesser_stay-least.ensures)
    (one_more bundles services c.args.longest c.args.by_lines i _ c.loop-service-test.true c.loop-service.least c.stay_at.result stay (c.loop-service.invariant bundles are steps_are walk))

pub returns : goal.returns
returns c = λ bundles are steps_are walk.
    let all : c.loop-service.service-index ≡ length c.args.services.now = omega arith in
    subst (λ (n : ℕ). IsLeastSoFar bundles c.args.services.now c.args.longest n c.args.by_lines c.loop-service.least) all (c.loop-service.invariant bundles are steps_are walk)
