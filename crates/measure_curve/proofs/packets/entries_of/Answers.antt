use Rattle.std.specs.Prelude.{◌<◌, ◌^◌}
use Rattle.std.proofs.Common.{arith, subst, sym}
use Rattle.net_model.specs.declared.trace.TracePacket.{TracePacket}
use Rattle.measure_curve.specs.Scans.{ticks}
use Rattle.measure_curve.proofs.Widths.{stand}
use Rattle.measure_curve.proofs.packets.entries_of.Goals as goal

pub ticks-requires : goal.ticks-requires
ticks-requires c =
    let p = c.packet-item.result in
    let h = (stand c.args.grid c.args.packets.now c.requires).early c.loop-packet.packet-index p c.loop-packet-test.true in
    let k : ticks c.args.grid p.time < 2 ^ 114 = subst (λ (q : TracePacket). ticks c.args.grid q.time < 2 ^ 114) (sym c.packet-item.is) h in
    omega arith
