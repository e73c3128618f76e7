use Rattle.std.specs.Prelude.{List, ◌≡◌, ◌≤◌, ◌<◌, ◌^◌, length}
use Rattle.std.proofs.Common.{arith, subst, ap, ◌∙◌}
use Rattle.upp_curve.specs.Curve.{value_at}
use Rattle.net_model.specs.declared.trace.TracePacket.{TracePacket}
use Rattle.measure_curve.specs.Grids.{width_of}
use Rattle.measure_curve.specs.Limits.{grid_of}
use Rattle.measure_curve.specs.Windows.{of_flow}
use Rattle.measure_curve.proofs.Answers.{narrow_of}
use Rattle.measure_curve.proofs.Kept.{bounded}
use Rattle.measure_curve.proofs.least.least_curve.Goals as goal

pub curve_of-requires : goal.curve_of-requires
curve_of-requires c =
    let trace = c.args.trace.now in
    let same = c.packets-packets.ensures.packets in
    let few : length (of_flow c.args.flow trace.packets) ≤ 1024 =
    subst (λ (ps : List TracePacket). length (of_flow c.args.flow ps) ≤ 1024) same (let n = c.count_of.ensures in let t = c.if-count_of-gt-MOST_PACKETS.false in omega arith) in
    let grid = subst (λ (ps : List TracePacket). (c.in-Some.grid ≡ grid_of (of_flow c.args.flow ps)) × (width_of (of_flow c.args.flow ps) < 2 ^ 120)) same c.in-Some.ensures in
    narrow_of c.args.flow c.in-Some.grid trace c.deref.result.now c.packets-packets.ensures.kept
    (c.deref.ensures.value ∙ c.in_ok-own.ensures ∙ ap (of_flow c.args.flow) same) few grid.0 grid.1

pub returns-clause-bounded : goal.returns-clause-bounded
returns-clause-bounded c = bounded c.deref.result.now (value_at c.in_ok-curve.curve) c.in_ok-curve.ensures.least
