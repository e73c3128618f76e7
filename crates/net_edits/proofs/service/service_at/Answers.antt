use Rattle.upp_curve.specs.Kinds.{rate_latency, gate}
use Rattle.curve_library.specs.Causes.{OneNegative, NoSlot}
use Rattle.rational.proofs.Laws.{le_of_lt}
use Rattle.net_model.specs.Views.{server_of}
use Rattle.net_edits.proofs.Signs.{own_of}
use Rattle.net_edits.proofs.Making.{latency_kept, slot_kept, cycle_kept, none_below, some_slot, by_latency, by_gate}
use Rattle.net_edits.proofs.service.service_at.Goals as goal

pub within_limits-requires : goal.within_limits-requires
within_limits-requires c =
    let rate = c.args.rate in
    let latency = c.in-Latency.latency in
    let kept = latency_kept (server_of c.args.server.now) latency c.in-Latency.is c.requires.kept in (
      rate_latency rate latency,
      own_of (OneNegative rate latency) ⊥ (rate_latency rate latency) c.rate_latency.result (none_below rate latency c.requires.rate kept)
          (λ h. h) c.rate_latency.ensures.causes,
    )

pub within_limits-requires-in-Gate : goal.within_limits-requires-in-Gate
within_limits-requires-in-Gate c =
    let rate = c.args.rate in
    let cycle = c.in-Gate.cycle in
    let slot = c.in-Gate.slot in
    let some = slot_kept (server_of c.args.server.now) cycle slot c.in-Gate.is c.requires.kept in
    let room = cycle_kept (server_of c.args.server.now) cycle slot c.in-Gate.is c.requires.kept in (
      gate rate cycle slot,
      own_of (OneNegative rate slot) (NoSlot cycle slot) (gate rate cycle slot) c.gate.result
          (none_below rate slot c.requires.rate (le_of_lt some)) (some_slot cycle slot some room) c.gate.ensures.causes,
    )

pub returns-in-Latency : goal.returns-in-Latency
returns-in-Latency c =
    let server = c.args.server.now in
    let rate = c.args.rate in
    let latency = c.in-Latency.latency in
    let kept = latency_kept (server_of server) latency c.in-Latency.is c.requires.kept in
    by_latency c.args.number rate latency server.service server.kind c.within_limits.result c.first_queue.result c.in-Latency.is
    c.first_queue.ensures
    (c.within_limits.ensures (rate_latency rate latency)
    (own_of (OneNegative rate latency) ⊥ (rate_latency rate latency) c.rate_latency.result (none_below rate latency c.requires.rate kept)
    (λ h. h) c.rate_latency.ensures.causes))

pub returns-in-Gate : goal.returns-in-Gate
returns-in-Gate c =
    let server = c.args.server.now in
    let rate = c.args.rate in
    let cycle = c.in-Gate.cycle in
    let slot = c.in-Gate.slot in
    let some = slot_kept (server_of server) cycle slot c.in-Gate.is c.requires.kept in
    let room = cycle_kept (server_of server) cycle slot c.in-Gate.is c.requires.kept in
    by_gate c.args.number rate cycle slot server.service server.kind c.within_limits-in-Gate.result c.first_queue-in-Gate.result
    c.in-Gate.is c.first_queue-in-Gate.ensures
    (c.within_limits-in-Gate.ensures (gate rate cycle slot)
    (own_of (OneNegative rate slot) (NoSlot cycle slot) (gate rate cycle slot) c.gate.result
    (none_below rate slot c.requires.rate (le_of_lt some)) (some_slot cycle slot some room) c.gate.ensures.causes))
