use Rattle.std.proofs.Common.{◌<◌, arith, sym, ap, ◌∙◌, refl, subst, length, sum}
use Rattle.std.proofs.lemmas.List.{get_or_default}
use Rattle.tree_network.specs.Networks.{queues_of, QuantaAreInRange}
use Rattle.port_bounds.specs.Incoming.{Incoming, incoming, longest_frame_of}
use Rattle.port_bounds.proofs.Queues.{frames_bounded}
use Rattle.port_bounds.proofs.Fewer.{same_above, same_others, same_behind, above_in_range, others_in_range, longest_small, quanta_bounded, at_queue, longest_among, to_end}
use Rattle.port_bounds.proofs.Rowed.{priority_services, round_robin_services, small_push, same_share}
use Rattle.port_bounds.proofs.services.services_of.Goals as goal

pub overflow_mul-frame : goal.overflow_mul-frame
overflow_mul-frame c =
    let small = longest_small c.args.queues.now _ c.args.q (to_end c.args.queues.now c.args.q) c.requires.range in
    omega (arith, small, c.longest_of-frame.ensures)

pub left_by-requires-clause-range : goal.left_by-requires-clause-range
left_by-requires-clause-range c = above_in_range c.args.queues.now _ _ c.args.q refl refl c.requires.range

pub left_by-requires-clause-frame : goal.left_by-requires-clause-frame
left_by-requires-clause-frame c =
    let small = longest_small c.args.queues.now _ c.args.q (to_end c.args.queues.now c.args.q) c.requires.range in
    omega (arith, small, c.longest_of-frame.ensures)

pub left_by-requires-in-Drr-clause-range : goal.left_by-requires-in-Drr-clause-range
left_by-requires-in-Drr-clause-range c = others_in_range c.args.queues.now _ _ c.args.q refl (to_end c.args.queues.now c.args.q) c.requires.inside c.requires.range

pub share_of-share-requires-clause-quanta : goal.share_of-share-requires-clause-quanta
share_of-share-requires-clause-quanta c =
    let quanta = c.in-Drr.quanta.items in
    let few = ap queues_of c.in-Drr.is in
    let most = quanta_bounded quanta (omega (arith, few, c.requires.port.queues)) (subst QuantaAreInRange c.in-Drr.is c.requires.port.quanta) in
    let all = c.sum_of-all.ensures ∙ ap sum c.deref.ensures.value in
    omega (arith, most, all)

pub share_of-share-requires-clause-longest : goal.share_of-share-requires-clause-longest
share_of-share-requires-clause-longest c =
    let most = longest_among c.args.queues.now c.args.q c.index-queues-q.result c.requires.inside in
    omega (arith, most, c.longest_together-frames.ensures)

pub share_of-share-requires-clause-frames : goal.share_of-share-requires-clause-frames
share_of-share-requires-clause-frames c =
    let most = frames_bounded (incoming c.args.queues.now) c.requires.range in
    omega (arith, most, c.longest_together-frames.ensures)

pub returns-in_ok-services-in-Priority : goal.returns-in_ok-services-in-Priority
returns-in_ok-services-in-Priority c =
    let queues = c.args.queues.now in
    let q = c.args.q in
    let below = c.longest_of-frame.ensures ∙ ap longest_frame_of (same_behind queues _ q (to_end queues q)) in
    record {
      all = priority_services c.args.port.now (incoming queues) _ q c.in-Priority.field-0 _ c.own_service-own.result _ c.in-Priority.is c.own_service-own.ensures.own
          (same_above queues _ _ q refl refl) (omega (arith, below)) c.in_ok-services-in-Priority.ensures.all;
      small = c.in_ok-services-in-Priority.ensures.small;
    }

pub returns-in_ok-push-in-Drr : goal.returns-in_ok-push-in-Drr
returns-in_ok-push-in-Drr c =
    let queues = c.args.queues.now in
    let q = c.args.q in
    let quanta = c.in-Drr.quanta.items in
    let own = c.own_service-own.result in
    let inside : q < length quanta = omega (arith, c.requires.inside, c.requires.count, ap queues_of c.in-Drr.is) in
    let quantum = c.index.ensures ∙ get_or_default quanta q c.index.result.now 0 inside in
    let all = c.sum_of-all.ensures ∙ ap sum c.deref.ensures.value in
    let longest = ap (λ (w : Incoming). w.longest) (sym (at_queue queues q c.index-queues-q.result c.requires.inside)) in
    let share = c.share_of-share.ensures.share ∙ same_share own c.index.result.now _ c.sum_of-all.result _ _ _ c.longest_together-frames.result _ quantum all longest c.longest_together-frames.ensures in
    let pushed = c.in_ok-push-in-Drr.ensures.items in
    record {
      all = round_robin_services c.args.port.now (incoming queues) _ q c.in-Drr.quanta own c.share_of-share.result c.in_ok-services-in-Drr.services.items _ c.in-Drr.is
          c.own_service-own.ensures.own (same_others queues _ _ q refl (to_end queues q)) share c.in_ok-services-in-Drr.ensures.all pushed;
      small = small_push c.share_of-share.result c.in_ok-services-in-Drr.services.items _ c.in_ok-services-in-Drr.ensures.small c.share_of-share.ensures.small pushed;
    }
