use Rattle.std.proofs.Common.{arith, subst, ap, ℕ, Option}
use Rattle.std.specs.Option.{MatchOption}
use Rattle.arrival_lines.specs.declared.grid.Line.{Line}
use Rattle.arrival_heights.specs.Slow.{IsSlowBurst, AreFaster}
use Rattle.arrival_stairs.proofs.stays.stay_at.Goals as goal

pub returns-then-service-eq0 : goal.returns-then-service-eq0
returns-then-service-eq0 c = λ bundles are steps_are walk end d b is. let some = is.some in absurd (omega (arith, some))

pub returns-in-None : goal.returns-in-None
returns-in-None c = λ bundles are steps_are walk end d b is.
    let steps = c.args.steps.now in
    let rate = c.args.service.rate in
    let fast = subst (λ (o : Option ℕ). MatchOption o (AreFaster steps rate) (IsSlowBurst steps rate)) c.in-None.is c.slow_burst.ensures in
    let tail = is.excess.tail in
    let at = steps_are.all tail.line tail.step in
    let h = fast.each at.0 tail.line at.1 in
    let slow = tail.slow in
    let e = ap (λ (line : Line). line.rate) at.2 in
    absurd (omega (arith, h, slow, e))

pub returns-in-Some : goal.returns-in-Some
returns-in-Some c = λ bundles are steps_are walk end.
    let steps = c.args.steps.now in
    let rate = c.args.service.rate in
    let slow = subst (λ (o : Option ℕ). MatchOption o (AreFaster steps rate) (IsSlowBurst steps rate)) c.in-Some.is c.slow_burst.ensures in
    record {
      some = omega arith;
      over = c.stair_excess-excess.result;
      excess = c.stair_excess-excess.ensures bundles are steps_are slow walk end;
      delay = c.stay_of.ensures.delay;
      backlog = c.stay_of.ensures.backlog;
    }
