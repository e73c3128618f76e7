use Rattle.run_watch.specs.Ramps.{ramps_after, RampsFit}
use Rattle.std.proofs.Common.{pos, refl, sym, subst}
use Rattle.rational.specs.Rational.{ℚ, int}
use Rattle.std.proofs.Common.{drop, ◌+◌}
use Rattle.run_watch.proofs.Gathered.{ramp_fits, ramp_more, all_taken}
use Rattle.run_watch.proofs.ramps.ramps_of.Goals as goal

pub sum-after-requires : goal.sum-after-requires
sum-after-requires c =
    let F = ramp_fits c.args.spans.now c.loop-s.s-index c.s-item.result c.loop-s.done c.loop-s-test.true c.s-item.is c.loop-s.invariant.1 in
    F.0.sum

pub pace_of-requires : goal.pace_of-requires
pace_of-requires c =
    let F = ramp_fits c.args.spans.now c.loop-s.s-index c.s-item.result c.loop-s.done c.loop-s-test.true c.s-item.is c.loop-s.invariant.1 in
    F.0.pace

pub loop-s-preserved : goal.loop-s-preserved
loop-s-preserved c =
    let i = c.loop-s.s-index in
    let F = ramp_fits c.args.spans.now c.loop-s.s-index c.s-item.result c.loop-s.done c.loop-s-test.true c.s-item.is c.loop-s.invariant.1 in (
      ramp_more c.args.spans.now i c.s-item.result c.loop-s.done c.sum-after.result c.pace_of.result c.loop-s.ramps.items c.push.new.self.items (ramps_after (int (pos 0)) c.args.spans.now) c.loop-s-test.true c.s-item.is
          c.sum-after.ensures c.pace_of.ensures c.in_ok-push.ensures.items c.loop-s.invariant.0,
      subst (λ (x : ℚ). RampsFit x (drop (i + 1) c.args.spans.now)) (sym c.sum-after.ensures) F.1,
    )

pub returns : goal.returns
returns c = all_taken (ramps_after c.loop-s.done) c.args.spans.now c.loop-s.s-index c.loop-s.ramps.items (ramps_after (int (pos 0)) c.args.spans.now) refl c.loop-s-test.false c.loop-s.invariant.0
