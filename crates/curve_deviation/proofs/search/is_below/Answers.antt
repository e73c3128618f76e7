use Rattle.std.proofs.Common.{sym, subst}
use Rattle.upp_normal.specs.Ahead.{IsTimeIn}
use Rattle.upp_limits.specs.declared.op_kind.OpKind.TheVariants.{Horizontal}
use Rattle.curve_call.specs.Frames.{sizes_at}
use Rattle.curve_deviation.proofs.WindowTimes.{window_times}
use Rattle.curve_deviation.proofs.Searching.{reached_is}
use Rattle.curve_deviation.proofs.search.is_below.Goals as goal
use Rattle.rational.proofs.Laws.{le_of_not_lt}

pub difference-time-requires : goal.difference-time-requires
difference-time-requires c =
    let (first, k, N) = c.requires.window in
    (window_times c.args.f.now c.args.g.now first k c.args.window.now c.keeps.ensures c.keeps-2.ensures c.requires.both N).first_fits

pub value_in-value-requires : goal.value_in-value-requires
value_in-value-requires c =
    let (first, k, N) = c.requires.window in
    let z = sizes_at Horizontal c.args.f.now c.args.g.now first k in
    let W = window_times c.args.f.now c.args.g.now first k c.args.window.now c.keeps.ensures c.keeps-2.ensures c.requires.both N in
    (z, W.seen.second, subst (IsTimeIn z c.args.window.now.end) (sym c.difference-time.ensures) W.once)

pub returns-clause-below : goal.returns-clause-below
returns-clause-below c = λ first k N h.
    let z = sizes_at Horizontal c.args.f.now c.args.g.now first k in
    let W = window_times c.args.f.now c.args.g.now first k c.args.window.now c.keeps.ensures c.keeps-2.ensures c.requires.both N in
    (reached_is z c.args.f.now c.args.g.now first k c.args.level c.args.window.now.end c.args.window.now.period c.difference-time.result c.value_in-value.result W c.difference-time.ensures c.value_in-value.ensures).1
    (c.is_less.ensures.less.0 h)

pub returns-clause-reached : goal.returns-clause-reached
returns-clause-reached c = λ first k N no.
    let z = sizes_at Horizontal c.args.f.now c.args.g.now first k in
    let W = window_times c.args.f.now c.args.g.now first k c.args.window.now c.keeps.ensures c.keeps-2.ensures c.requires.both N in
    (reached_is z c.args.f.now c.args.g.now first k c.args.level c.args.window.now.end c.args.window.now.period c.difference-time.result c.value_in-value.result W c.difference-time.ensures c.value_in-value.ensures).0
    (le_of_not_lt (λ h. no (c.is_less.ensures.less.1 h)))
