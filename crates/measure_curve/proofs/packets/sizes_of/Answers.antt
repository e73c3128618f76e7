use Rattle.std.proofs.Common.{subst, sym}
use Rattle.upp_limits.specs.Limits.{joined, value_alone}
use Rattle.upp_limits.specs.Gathered.{Gathers}
use Rattle.upp_limits.specs.declared.gathered.Gathered.{Gathered}
use Rattle.measure_curve.specs.Grids.{numbers_of}
use Rattle.measure_curve.specs.Windows.{of_flow}
use Rattle.measure_curve.proofs.Loops.{more_numbers, same_numbers}
use Rattle.measure_curve.proofs.packets.sizes_of.Goals as goal
use Rattle.measure_curve.proofs.packets.sizes_of.Goals.{then-packet-flow, else-packet-flow}

pub loop-packet-preserved : goal.loop-packet-preserved
loop-packet-preserved c =
    let ps = c.args.packets.now in
    let i = c.loop-packet.packet-index in
    let p = c.packet-item.result in
    let all = numbers_of (of_flow c.args.flow ps) in
    let (m, k, e) = c.loop-packet.invariant in
    elim c.if-packet-flow.branch [
      | then-packet-flow w ↦ (
        joined m (value_alone p.time),
        subst (λ (g : Gathered). Gathers g (joined m (value_alone p.time))) (sym w.found-is) (w.with_value-found.ensures m k),
        more_numbers c.args.flow ps i p m all c.loop-packet-test.true c.packet-item.is w.if-packet-flow.true e,
      )
      | else-packet-flow w ↦ (
        m,
        subst (λ (g : Gathered). Gathers g m) (sym w.found-is) k,
        same_numbers c.args.flow ps i p m all c.loop-packet-test.true c.packet-item.is w.if-packet-flow.false e,
      )
    ]
