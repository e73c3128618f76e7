use Rattle.std.proofs.Common.{arith, subst, Option, ℕ}
use Rattle.std.specs.Option.{MatchOption}
use Rattle.arrival_heights.specs.Slow.{IsSlowBurst, AreFaster}
use Rattle.arrival_stairs.proofs.Past.{always_past, past_it}
use Rattle.arrival_stairs.proofs.horizon.horizon_at.Goals as goal

pub returns-in-None : goal.returns-in-None
returns-in-None c = λ bundles onset.
    let fast = subst (λ (o : Option ℕ). MatchOption o (AreFaster c.args.steps.now c.args.rate) (IsSlowBurst c.args.steps.now c.args.rate)) c.in-None.is c.slow_burst.ensures in
    always_past bundles c.args.steps.now c.args.rate 0 (omega arith) fast

pub returns-in-Some : goal.returns-in-Some
returns-in-Some c = λ bundles onset. past_it bundles c.args.steps.now c.args.rate c.horizon.result (c.horizon.ensures bundles onset)
