use Rattle.std.proofs.Common.{◌<◌, ◌^◌, subst}
use Rattle.upp_limits.specs.declared.op_kind.OpKind.TheVariants.{Horizontal}
use Rattle.upp_limits.specs.Gauges.{gauge_over}
use Rattle.curve_deviation.proofs.search.narrow_window.Goals as goal

pub returns-clause-window : goal.returns-clause-window
returns-clause-window c = record {
  window = c.in_ok-window.ensures.value;
  gauge = subst (λ x. gauge_over Horizontal c.args.f.now c.args.g.now x < 2 ^ 120) c.in_ok-window.ensures.value.end c.in_ok-narrow_grids.ensures.gauge;
}
