use Rattle.std.proofs.Common.{sym, subst, ◌∙◌}
use Rattle.upp_normal.specs.Ahead.{IsTimeIn}
use Rattle.upp_limits.specs.declared.op_kind.OpKind.TheVariants.{Horizontal}
use Rattle.curve_call.specs.Frames.{sizes_at}
use Rattle.curve_deviation.proofs.WindowTimes.{window_times, once_is}
use Rattle.curve_deviation.proofs.horizontals.turn_in.Goals as goal

pub difference-time-requires : goal.difference-time-requires
difference-time-requires c =
    let (first, N) = c.requires.window in
    (window_times c.args.f.now c.args.g.now first 0 c.args.window.now c.keeps.ensures c.keeps-2.ensures c.requires.both N).first_fits

pub value_in-level-requires : goal.value_in-level-requires
value_in-level-requires c =
    let (first, N) = c.requires.window in
    let z = sizes_at Horizontal c.args.f.now c.args.g.now first 0 in
    let W = window_times c.args.f.now c.args.g.now first 0 c.args.window.now c.keeps.ensures c.keeps-2.ensures c.requires.both N in
    (z, W.seen.first, subst (IsTimeIn z c.args.window.now.end) (sym c.difference-time.ensures) W.once)

pub returns : goal.returns
returns c = λ first N.
    let z = sizes_at Horizontal c.args.f.now c.args.g.now first 0 in
    let W = window_times c.args.f.now c.args.g.now first 0 c.args.window.now c.keeps.ensures c.keeps-2.ensures c.requires.both N in
    record { time = c.difference-time.ensures ∙ once_is z c.args.f.now c.args.g.now first c.args.window.now.end c.args.window.now.period W; level = c.value_in-level.ensures }
