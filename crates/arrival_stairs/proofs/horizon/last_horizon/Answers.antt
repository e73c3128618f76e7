use Rattle.std.proofs.Common.{◌≡◌, ℕ, arith, length, get_or, subst, Option}
use Rattle.std.specs.Prelude.{IfSome}
use Rattle.arrival_stairs.specs.Horizon.{ArePast, IsPast}
use Rattle.arrival_stairs.proofs.Past.{no_service, none_past, past_more}
use Rattle.arrival_stairs.proofs.horizon.last_horizon.Goals as goal

pub loop-service-init : goal.loop-service-init
loop-service-init c = λ bundles onset. none_past bundles c.args.steps.now c.args.services.now

pub loop-service-preserved : goal.loop-service-preserved
loop-service-preserved c = λ bundles onset.
    let steps = c.args.steps.now in
    let services = c.args.services.now in
    let i = c.loop-service.service-index in
    past_more bundles steps services i c.loop-service.last c.in-Some.end c.max-last.result no_service c.loop-service-test.true c.max-last.ensures
    (subst (λ (o : Option ℕ). IfSome o (IsPast bundles steps (get_or services i no_service).rate)) c.in-Some.is (c.horizon_at.ensures bundles onset))
    (c.loop-service.invariant bundles onset)

pub returns : goal.returns
returns c = λ bundles onset.
    let all : c.loop-service.service-index ≡ length c.args.services.now = omega arith in
    subst (λ (n : ℕ). ArePast bundles c.args.steps.now c.args.services.now n c.loop-service.last) all (c.loop-service.invariant bundles onset)
