use Rattle.std.proofs.Common.{◌≡◌, ◌<◌, ◌+◌, length, drop, sym, ap, ◌∙◌}
use Rattle.std.specs.Prelude.{pos}
use Rattle.std.proofs.lemmas.List.{drop_all}
use Rattle.rational.specs.Rational.{ℚ, int}
use Rattle.rational.specs.MinMax.{max_q}
use Rattle.rational.proofs.Laws.{le_refl, le_trans}
use Rattle.rational.proofs.MinMax.{max_q_ge_left}
use Rattle.net_model.specs.declared.trace.TracePacket.{TracePacket}
use Rattle.net_model.specs.declared.trace.Stall.{Stall}
use Rattle.sim_bounds.specs.Horizons.{latest_of}
use Rattle.sim_bounds.proofs.Spans.{latest_nonneg}
use Rattle.sim_bounds.proofs.Members.{all_in}
use Rattle.sim_bounds.proofs.sim_gauge.FirstTimes.{latest_step, max_zero, zero_max, first_is}
use Rattle.sim_bounds.proofs.sim_gauge.horizons.first_time.Goals as goal

pub loop-packet-init : goal.loop-packet-init
loop-packet-init c =
    let xs = c.packets-packet-items.result.now in
    rw (c.zero-latest.ensures) record { latest = zero_max (latest_of (λ (p : TracePacket). p.time) xs) (latest_nonneg (λ (p : TracePacket). p.time) xs); from_zero = le_refl (int (pos 0)) }

pub loop-packet-preserved : goal.loop-packet-preserved
loop-packet-preserved c =
    let xs = c.packets-packet-items.result.now in
    let i = c.loop-packet.invariant in
    let x = c.packet-item.result in
    rw (c.greater-latest.ensures) record {
      latest = ap (λ (t : TracePacket). max_q (max_q c.loop-packet.latest t.time) (latest_of (λ (p : TracePacket). p.time) (drop (c.loop-packet.packet-index + 1) xs))) c.packet-item.is
          ∙ latest_step (λ (p : TracePacket). p.time) xs c.loop-packet.packet-index x c.loop-packet.latest c.loop-packet-test.true ∙ i.latest;
      from_zero = le_trans i.from_zero (max_q_ge_left c.loop-packet.latest x.time);
    }

pub loop-stall-preserved : goal.loop-stall-preserved
loop-stall-preserved c =
    let xs = c.stalls-stall-items.result.now in
    let i = c.loop-stall.invariant in
    let x = c.stall-item.result in
    rw (c.greater-latest-in-loop-stall.ensures) record {
      latest = ap (λ (t : Stall). max_q (max_q c.loop-stall.latest t.end) (latest_of (λ (p : Stall). p.end) (drop (c.loop-stall.stall-index + 1) xs))) c.stall-item.is
          ∙ latest_step (λ (p : Stall). p.end) xs c.loop-stall.stall-index x c.loop-stall.latest c.loop-stall-test.true ∙ i.latest;
      from_zero = le_trans i.from_zero (max_q_ge_left c.loop-stall.latest x.end);
    }

pub returns : goal.returns
returns c =
    let ps = c.packets-packet-items.result.now in
    let xs = c.stalls-stall-items.result.now in
    let time : TracePacket → ℚ = λ p. p.time in
    let end : Stall → ℚ = λ x. x.end in
    let p = c.loop-packet.latest in
    let s = c.loop-stall.latest in
    let i = c.loop-packet.invariant in
    let k = c.loop-stall.invariant in
    let one : p ≡ latest_of time ps =
    sym (max_zero p i.from_zero) ∙ ap (λ ys. max_q p (latest_of time ys)) (sym (drop_all c.loop-packet.packet-index ps c.loop-packet-test.false)) ∙ i.latest in
    let two : s ≡ max_q p (latest_of end xs) =
    sym (max_zero s k.from_zero) ∙ ap (λ ys. max_q s (latest_of end ys)) (sym (drop_all c.loop-stall.stall-index xs c.loop-stall-test.false)) ∙ k.latest in
    two ∙ ap (λ t. max_q t (latest_of end xs)) one ∙ ap (λ ys. max_q (latest_of time ys) (latest_of end xs)) c.packets-packet-items.ensures.packets
    ∙ ap (λ ys. max_q (latest_of time c.args.trace.now.packets) (latest_of end ys)) c.stalls-stall-items.ensures.stalls
    ∙ sym (first_is c.args.net.now c.args.trace.now (λ x h. all_in (λ (y : Stall). y.server < length c.args.net.now.servers) c.args.trace.now.stalls c.requires.servers x h))
