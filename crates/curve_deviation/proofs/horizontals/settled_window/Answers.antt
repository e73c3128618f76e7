use Rattle.std.proofs.Common.{subst, sym}
use Rattle.std.specs.Prelude.{◌<◌, ◌^◌}
use Rattle.upp_limits.specs.declared.op_kind.OpKind.TheVariants.{Horizontal}
use Rattle.upp_limits.specs.Gauges.{gauge_at}
use Rattle.curve_deviation.specs.Stages.{IsNarrowWindow}
use Rattle.curve_deviation.proofs.horizontals.settled_window.Goals as goal

pub returns-then-first-eq0 : goal.returns-then-first-eq0
returns-then-first-eq0 c =
    let n = c.args.numbers.now in
    let f = c.args.f.now in
    let g = c.args.g.now in
    let none = c.if-first-eq0.true in
    subst (λ k. IsNarrowWindow f g k 0 n.window) (sym none)
    record { window = c.requires.window; gauge = subst (λ k. gauge_at Horizontal f g k 0 < 2 ^ 120) none c.requires.narrow }
