use Rattle.std.proofs.Common.{sym, subst, ap, ◌∙◌}
use Rattle.rational.specs.Rational.{◌-ℚ◌, neg_ℚ}
use Rattle.rational.specs.Ratio.{SumFits}
use Rattle.upp_normal.specs.Ahead.{IsTimeIn}
use Rattle.upp_limits.specs.declared.op_kind.OpKind.TheVariants.{Horizontal}
use Rattle.curve_call.specs.Frames.{sizes_at}
use Rattle.curve_deviation.proofs.WindowTimes.{window_times}
use Rattle.curve_deviation.proofs.Searching.{left_is}
use Rattle.curve_deviation.proofs.search.has_left.Goals as goal
use Rattle.rational.proofs.Laws.{le_of_not_lt}

pub difference-requires : goal.difference-requires
difference-requires c =
    (window_times c.args.f.now c.args.g.now c.requires.window.0 0 c.args.window.now c.keeps.ensures c.keeps-2.ensures c.requires.both c.requires.window.1).first_fits

pub difference-time-requires : goal.difference-time-requires
difference-time-requires c =
    let W = window_times c.args.f.now c.args.g.now c.requires.window.0 0 c.args.window.now c.keeps.ensures c.keeps-2.ensures c.requires.both c.requires.window.1 in
    subst (λ x. SumFits x (neg_ℚ c.args.window.now.period)) (sym c.difference.ensures) W.second_fits

pub value_in-value-requires : goal.value_in-value-requires
value_in-value-requires c =
    let k = c.requires.window.0 in
    let z = sizes_at Horizontal c.args.f.now c.args.g.now k 0 in
    let W = window_times c.args.f.now c.args.g.now k 0 c.args.window.now c.keeps.ensures c.keeps-2.ensures c.requires.both c.requires.window.1 in
    let e = c.difference-time.ensures ∙ ap (λ x. x -ℚ c.args.window.now.period) c.difference.ensures in
    (z, W.seen.first, subst (IsTimeIn z c.args.window.now.end) (sym e) W.twice)

pub returns-clause-left : goal.returns-clause-left
returns-clause-left c = λ k N h.
    let z = sizes_at Horizontal c.args.f.now c.args.g.now k 0 in
    let W = window_times c.args.f.now c.args.g.now k 0 c.args.window.now c.keeps.ensures c.keeps-2.ensures c.requires.both N in
    let e = c.difference-time.ensures ∙ ap (λ x. x -ℚ c.args.window.now.period) c.difference.ensures in
    (left_is z c.args.f.now c.args.g.now k c.args.level c.args.window.now.end c.args.window.now.period c.difference-time.result c.value_in-value.result N.window.period W e c.value_in-value.ensures).0 (c.is_less.ensures.less.0 h)

pub returns-clause-before : goal.returns-clause-before
returns-clause-before c = λ k N no.
    let z = sizes_at Horizontal c.args.f.now c.args.g.now k 0 in
    let W = window_times c.args.f.now c.args.g.now k 0 c.args.window.now c.keeps.ensures c.keeps-2.ensures c.requires.both N in
    let e = c.difference-time.ensures ∙ ap (λ x. x -ℚ c.args.window.now.period) c.difference.ensures in
    (left_is z c.args.f.now c.args.g.now k c.args.level c.args.window.now.end c.args.window.now.period c.difference-time.result c.value_in-value.result N.window.period W e c.value_in-value.ensures).1
    (le_of_not_lt (λ h. no (c.is_less.ensures.less.1 h)))
