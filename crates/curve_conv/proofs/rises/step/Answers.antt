use Rattle.std.proofs.Common.{sym, subst}
use Rattle.upp_curve.specs.Curve.{value_at}
use Rattle.upp_normal.specs.Ahead.{IsTimeIn, GoesOn}
use Rattle.curve_conv.proofs.RisesFound.{step_times, step_found, step_on}
use Rattle.curve_conv.proofs.rises.step.Goals as goal

pub stretch_at-here-requires : goal.stretch_at-here-requires
stretch_at-here-requires c =
    let (z, end, H) = c.requires.later in
    let T = step_times z end c.args.c.now c.args.begin c.args.first c.args.period c.args.looked H c.requires.looked c.requires.before in
    (z, end, H.window, T.here)

pub stretch_at-there-requires : goal.stretch_at-there-requires
stretch_at-there-requires c =
    let (z, end, H) = c.requires.later in
    let T = step_times z end c.args.c.now c.args.begin c.args.first c.args.period c.args.looked H c.requires.looked c.requires.before in
    (z, end, H.window, subst (IsTimeIn z end) (sym c.in_ok-later.ensures) T.later)

pub returns : goal.returns
returns c =
    let here = c.stretch_at-here in
    let there = c.stretch_at-there in
    let start = c.in_ok-start.ensures in
    let after = c.in_ok-after.ensures in
    let most = c.in_ok-most.ensures in
    step_on c.args.c.now c.args.begin c.args.first c.args.period c.args.looked there.result here.result c.in_ok-until.until c.in_ok-most.most c.requires.looked c.requires.before here.ensures.goes
    (subst (λ x. GoesOn (value_at c.args.c.now) x there.result) c.in_ok-later.ensures there.ensures.goes) here.ensures.times there.ensures.times c.in_ok-until.ensures
    (step_found there.result here.result c.args.period c.args.looked.until c.in_ok-until.until c.args.looked.most c.in_ok-start.start c.in_ok-after.after c.in_ok-most.most start.0 start.1 after.0 after.1 most.0 most.1)
