use Rattle.std.proofs.Common.{◌∙◌, refl, sym, ap₂, subst, true≢false}
use Rattle.rational.specs.Rational.{◌-ℚ◌}
use Rattle.rational.specs.MinMax.{max_q}
use Rattle.upp_curve.specs.Curve.{value_at}
use Rattle.upp_normal.specs.Ahead.{GoesOn, IsTimeIn}
use Rattle.plain_operators.proofs.running.BehindWalk.{BehindWalk, FoundAt, beta_time, cross_time, time_fits, beta_number, cross_number, values_apart, next_past_it, behind_start, behind_step, behind_fewer, behind_end}
use Rattle.plain_operators.proofs.running.behind.most_behind.Goals as goal

pub loop-theta-init : goal.loop-theta-init
loop-theta-init c = behind_start c.args.beta.now c.args.cross.now c.args.theta c.args.from c.args.end c.zero-most.result c.requires.1.time.before c.zero-most.ensures

pub stretch_at-ahead-requires : goal.stretch_at-ahead-requires
stretch_at-ahead-requires c =
    let w = c.requires in
    (w.0, c.args.end, w.1.first, beta_time w.0 c.args.beta.now c.args.cross.now c.args.theta c.args.from c.args.end c.loop-theta.t c.loop-theta.most w.1 c.loop-theta.invariant (c.loop-theta-test.ensures.less.0 refl))

pub difference-requires : goal.difference-requires
difference-requires c =
    let w = c.requires in
    time_fits w.0 c.args.beta.now c.args.cross.now c.args.theta c.args.from c.args.end c.loop-theta.t c.loop-theta.most w.1 c.loop-theta.invariant (c.loop-theta-test.ensures.less.0 refl)

pub stretch_at-served-requires : goal.stretch_at-served-requires
stretch_at-served-requires c =
    let w = c.requires in (
      w.0,
      c.args.end,
      w.1.second,
      subst (IsTimeIn w.0 c.args.end) (sym c.difference.ensures)
          (cross_time w.0 c.args.beta.now c.args.cross.now c.args.theta c.args.from c.args.end c.loop-theta.t c.loop-theta.most w.1 c.loop-theta.invariant (c.loop-theta-test.ensures.less.0 refl)),
    )

pub number_of-requires : goal.number_of-requires
number_of-requires c =
    let w = c.requires in
    let T = cross_time w.0 c.args.beta.now c.args.cross.now c.args.theta c.args.from c.args.end c.loop-theta.t c.loop-theta.most w.1 c.loop-theta.invariant (c.loop-theta-test.ensures.less.0 refl) in
    let goes = subst (λ t. GoesOn (value_at c.args.cross.now) t c.stretch_at-served.result) c.difference.ensures c.stretch_at-served.ensures.goes in
    cross_number (value_at c.args.beta.now) c.args.cross.now c.args.theta (c.loop-theta.t -ℚ c.args.theta) c.stretch_at-served.result w.1.served T.nonneg goes

pub number_of-requires-in-loop-theta : goal.number_of-requires-in-loop-theta
number_of-requires-in-loop-theta c =
    let w = c.requires in
    let T = beta_time w.0 c.args.beta.now c.args.cross.now c.args.theta c.args.from c.args.end c.loop-theta.t c.loop-theta.most w.1 c.loop-theta.invariant (c.loop-theta-test.ensures.less.0 refl) in
    beta_number c.args.beta.now (value_at c.args.cross.now) c.args.theta c.loop-theta.t c.stretch_at-ahead.result w.1.served T.nonneg c.stretch_at-ahead.ensures.goes

pub difference-behind-requires : goal.difference-behind-requires
difference-behind-requires c =
    let w = c.requires in
    let h = c.loop-theta-test.ensures.less.0 refl in
    let T = beta_time w.0 c.args.beta.now c.args.cross.now c.args.theta c.args.from c.args.end c.loop-theta.t c.loop-theta.most w.1 c.loop-theta.invariant h in
    let U = subst (IsTimeIn w.0 c.args.end) (sym c.difference.ensures) (cross_time w.0 c.args.beta.now c.args.cross.now c.args.theta c.args.from c.args.end c.loop-theta.t c.loop-theta.most w.1 c.loop-theta.invariant h) in
    values_apart w.0 c.args.end c.stretch_at-ahead.result.at c.stretch_at-served.result.at c.number_of-in-loop-theta.result c.number_of.result w.1.first.limited c.number_of-in-loop-theta.ensures c.number_of.ensures
    (c.stretch_at-ahead.ensures.sizes w.0 c.args.end w.1.first T).1 (c.stretch_at-served.ensures.sizes w.0 c.args.end w.1.second U).1

pub loop-theta-preserved : goal.loop-theta-preserved
loop-theta-preserved c =
    let w = c.requires in
    let h = c.loop-theta-test.ensures.less.0 refl in
    let f = c.args.beta.now in
    let g = c.args.cross.now in
    let u = c.number_of-in-loop-theta.result in
    let v = c.number_of.result in
    let a = c.stretch_at-ahead.result in
    let b = c.stretch_at-served.result in
    let found : FoundAt f g c.args.theta c.loop-theta.t a b u v = record {
      ahead = c.stretch_at-ahead.ensures.goes;
      served = subst (λ t. GoesOn (value_at g) t b) c.difference.ensures c.stretch_at-served.ensures.goes;
      first = c.number_of-in-loop-theta.ensures;
      second = c.number_of.ensures;
    } in
    subst (BehindWalk f g c.args.theta c.args.from c.args.end c.earlier-t.result) (sym (c.greater-most.ensures ∙ ap₂ max_q refl c.difference-behind.ensures))
    (behind_step f g c.args.theta c.args.from c.args.end c.loop-theta.t c.earlier-t.result c.loop-theta.most u v a b w.1.served w.1.theta_early c.loop-theta.invariant h found c.stretch_at-ahead.ensures.times c.earlier-t.ensures
    (λ z C. (
      (c.stretch_at-ahead.ensures.sizes z c.args.end C.first (beta_time z f g c.args.theta c.args.from c.args.end c.loop-theta.t c.loop-theta.most C c.loop-theta.invariant h)).1,
      (c.stretch_at-served.ensures.sizes z c.args.end C.second
          (subst (IsTimeIn z c.args.end) (sym c.difference.ensures) (cross_time z f g c.args.theta c.args.from c.args.end c.loop-theta.t c.loop-theta.most C c.loop-theta.invariant h))).1,
    )))

pub loop-theta-smaller : goal.loop-theta-smaller
loop-theta-smaller c =
    let h = c.loop-theta-test.ensures.less.0 refl in
    let N = next_past_it c.args.end c.loop-theta.t c.earlier-t.result c.stretch_at-ahead.result.next h c.stretch_at-ahead.ensures.goes.next c.earlier-t.ensures in
    behind_fewer c.args.beta.now c.args.cross.now c.args.theta c.args.from c.args.end c.loop-theta.t c.earlier-t.result c.loop-theta.most c.greater-most.result c.loop-theta.invariant (loop-theta-preserved c) N.past

pub returns : goal.returns
returns c = λ z C.
    behind_end z c.args.beta.now c.args.cross.now c.args.theta c.args.from c.args.end c.loop-theta.t c.loop-theta.most C c.loop-theta.invariant (λ h. true≢false (sym (c.loop-theta-test.ensures.less.1 h)))
