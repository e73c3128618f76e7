use Rattle.std.proofs.Common.{◌<◌, ◌∙◌, List, length, get_or, arith, sym, ap, subst}
use Rattle.std.specs.Option.{option_map}
use Rattle.std.proofs.lemmas.List.{length-map}
use Rattle.arrival_lines.specs.Steps.{AreSteps}
use Rattle.arrival_lines.specs.declared.grid.Line.{Line}
use Rattle.arrival_lines.specs.declared.grid.Part.{Part}
use Rattle.arrival_stairs.specs.BelowLines.{line_parts}
use Rattle.port_bounds.specs.Incoming.{Incoming, incoming, incoming_of}
use Rattle.port_bounds.specs.Ranges.{AreInRange}
use Rattle.port_bounds.specs.Services.{AreAll, IsServiceOf}
use Rattle.port_bounds.proofs.Debts.{own_rate_small}
use Rattle.port_bounds.proofs.Fewer.{at_queue, part_fits}
use Rattle.port_bounds.specs.StairsIncoming.{StairsIn, stairs_in}
use Rattle.port_bounds.proofs.StairsRowed.{at_stairs, frame_most, least_row, no_parts, parts_known, row_known, same_parts, slow_at}
use Rattle.port_bounds.proofs.by_stairs.known_row.Goals as goal

pub services_of-requires-clause-range : goal.services_of-requires-clause-range
services_of-requires-clause-range c = subst AreInRange (sym c.requires.arriving.lines) c.requires.arriving.range.lines

pub stair_queue-requires-clause-bundles : goal.stair_queue-requires-clause-bundles
stair_queue-requires-clause-bundles c = c.requires.arriving.range.stairs c.args.q c.args.bundles.now c.requires.known

pub steps-requires : goal.steps-requires
steps-requires c =
    let by_lines = c.args.by_lines.now in
    let q = c.args.q in
    let inside : q < length by_lines = omega (arith, c.requires.arriving.same, c.requires.inside) in
    let range = subst AreInRange (sym c.requires.arriving.lines) c.requires.arriving.range.lines in
    let known = ap (λ (w : Incoming). w.parts) (at_queue by_lines q c.index-by_lines-q.result inside) ∙ ap (option_map (λ v. v.items)) c.in-Some.is in
    let within : q < length (incoming by_lines) = let m = length-map by_lines incoming_of in omega (arith, m, inside) in
    rw c.deref.ensures.value (part_fits (incoming by_lines) q c.in-Some.parts.items range within known)

pub overflow_mul-queues : goal.overflow_mul-queues
overflow_mul-queues c =
    let most = frame_most c.args.queues.now c.args.q c.index-queues-q.result c.requires.arriving.range c.requires.inside in
    omega (arith, most)

pub returns-in-None : goal.returns-in-None
returns-in-None c =
    let by_lines = c.args.by_lines.now in
    let q = c.args.q in
    let inside : q < length by_lines = omega (arith, c.requires.arriving.same, c.requires.inside) in
    let parts = parts_known (stairs_in c.args.queues.now) by_lines q c.args.bundles.now c.index-by_lines-q.result inside c.requires.arriving.lines c.requires.known in
    absurd (no_parts (get_or by_lines q c.index-by_lines-q.result).parts (line_parts c.args.bundles.now) parts c.in-None.is)

pub stair_queue-requires-clause-steps : goal.stair_queue-requires-clause-steps
stair_queue-requires-clause-steps c =
    let by_lines = c.args.by_lines.now in
    let q = c.args.q in
    let bundles = c.args.bundles.now in
    let inside : q < length by_lines = omega (arith, c.requires.arriving.same, c.requires.inside) in
    let parts = parts_known (stairs_in c.args.queues.now) by_lines q bundles c.index-by_lines-q.result inside c.requires.arriving.lines c.requires.known in
    let same = same_parts (get_or by_lines q c.index-by_lines-q.result).parts c.in-Some.parts (line_parts bundles) parts c.in-Some.is in
    subst (λ (ls : List Line). AreSteps (line_parts bundles) ls) (sym c.deref-in-Some.ensures.value)
    (subst (λ (ps : List Part). AreSteps ps c.in_ok-lines-in-Some.lines.items) (c.deref.ensures.value ∙ same) c.in_ok-lines-in-Some.ensures)

pub stair_queue-requires-clause-rates : goal.stair_queue-requires-clause-rates
stair_queue-requires-clause-rates c =
    let q = c.args.q in
    let port = c.args.port.now in
    rw c.deref-in-Some-2.ensures.value (slow_at port (incoming c.args.by_lines.now) q c.in_ok-services-in-Some.services.items c.requires.arriving.meant (omega (arith, c.requires.inside, c.requires.arriving.count))
    (own_rate_small port c.requires.arriving.meant) c.in_ok-services-in-Some.ensures.all)

pub stair_queue-requires-clause-room : goal.stair_queue-requires-clause-room
stair_queue-requires-clause-room c =
    let most = frame_most c.args.queues.now c.args.q c.index-queues-q.result c.requires.arriving.range c.requires.inside in
    rw c.deref-in-Some-2.ensures.value (λ k d h. let small = c.in_ok-services-in-Some.ensures.small k d h in omega (arith, small, most))

pub returns-in_ok-row-in-Some : goal.returns-in_ok-row-in-Some
returns-in_ok-row-in-Some c =
    let port = c.args.port.now in
    let queues = stairs_in c.args.queues.now in
    let q = c.args.q in
    let bundles = c.args.bundles.now in
    let at = ap (λ (w : StairsIn). w.longest) (at_stairs c.args.queues.now q c.index-queues-q.result c.requires.inside) in
    row_known port queues q bundles c.in_ok-row-in-Some.row c.requires.some c.requires.known
    (least_row port queues q bundles c.in_ok-row-in-Some.row c.in_ok-services-in-Some.services.items _ _ c.deref-in-Some-2.ensures.value
    (omega (arith, at)) (subst (λ (ws : List Incoming). AreAll (IsServiceOf port ws q) c.in_ok-services-in-Some.services.items) c.requires.arriving.lines c.in_ok-services-in-Some.ensures.all)
    c.in_ok-row-in-Some.ensures)
