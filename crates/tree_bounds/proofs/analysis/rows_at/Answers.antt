use Rattle.std.proofs.Common.{ℕ, List, length, map, sym, ◌∙◌, ap, subst, arith}
use Rattle.std.proofs.lemmas.List.{length-map, get_or_default}
use Rattle.std.proofs.lemmas.Result.{IfOk-weaker}
use Rattle.tree_network.specs.Networks.{PortIsInRange, no_port, queues_of}
use Rattle.tree_network.specs.declared.network.Port.{Port}
use Rattle.tree_network.specs.Spots.{spots_of}
use Rattle.port_bounds.specs.Incoming.{incoming, incoming_of}
use Rattle.port_bounds.specs.StairsIncoming.{AreStairsInRange, line_incomings, stairs_in}
use Rattle.port_bounds.specs.StairRows.{AreStairRows}
use Rattle.port_bounds.specs.declared.stair_arrivals.StairArrivals.{StairArrivals}
use Rattle.tree_bounds.specs.Bunches.{arriving_below, arriving_of}
use Rattle.tree_bounds.specs.Lines.{line_of}
use Rattle.tree_bounds.specs.Onward.{stair_in}
use Rattle.tree_bounds.proofs.Bunched.{lines_of_coming}
use Rattle.tree_bounds.proofs.Coming.{stairs_count}
use Rattle.tree_bounds.proofs.InLimits.{rows_are, stairs_in_range}
use Rattle.tree_bounds.proofs.Ranged.{incomings_length}
use Rattle.tree_bounds.proofs.analysis.rows_at.Goals as goal

pub stair_rows-requires-clause-count : goal.stair_rows-requires-clause-count
stair_rows-requires-clause-count c =
    let net = c.args.network.now in
    let stair = λ (n : ℕ). stair_in c.args.stairs.now n in
    let many = stairs_count net stair c.args.port c.queue_count-count.result c.in_ok-queues.queues.stairs.items c.in_ok-queues.ensures.stairs in
    let slice = ap length c.deref.ensures.value in
    omega (arith, slice, many, c.queue_count-count.ensures)

pub stair_rows-requires-clause-range : goal.stair_rows-requires-clause-range
stair_rows-requires-clause-range c =
    let net = c.args.network.now in
    let stair = λ (n : ℕ). stair_in c.args.stairs.now n in
    let P : Port → Type 0 = λ p. PortIsInRange p in
    let its = subst P (sym c.index-at.ensures) (c.requires.network.ports c.args.port c.index-at.result.now c.requires.port) in
    let R : List StairArrivals → Type 0 = λ xs. AreStairsInRange (stairs_in xs) in
    subst R (sym c.deref.ensures.value)
    (stairs_in_range net stair c.args.port c.queue_count-count.result (stairs_in c.in_ok-queues.queues.stairs.items) c.requires.network
    (omega (arith, its.queues, c.queue_count-count.ensures)) (λ n t lt e. c.requires.range.each n t e) c.in_ok-queues.ensures.stairs)

pub stair_rows-requires-clause-lines : goal.stair_rows-requires-clause-lines
stair_rows-requires-clause-lines c =
    let net = c.args.network.now in
    let stair = λ (n : ℕ). stair_in c.args.stairs.now n in
    ap incoming c.deref-2.ensures.value ∙ c.in_ok-queues.ensures.lines
    ∙ sym (lines_of_coming net (spots_of net) stair c.args.port c.queue_count-count.result (stairs_in c.in_ok-queues.queues.stairs.items) c.in_ok-queues.ensures.stairs)
    ∙ ap (λ (xs : List StairArrivals). line_incomings (stairs_in xs)) (sym c.deref.ensures.value)

pub stair_rows-requires-clause-same : goal.stair_rows-requires-clause-same
stair_rows-requires-clause-same c =
    let net = c.args.network.now in
    let stair = λ (n : ℕ). stair_in c.args.stairs.now n in
    let many = stairs_count net stair c.args.port c.queue_count-count.result c.in_ok-queues.queues.stairs.items c.in_ok-queues.ensures.stairs in
    let lines = length-map c.in_ok-queues.queues.lines.items incoming_of in
    let known = ap length c.in_ok-queues.ensures.lines in
    let few = incomings_length net (spots_of net) (λ n. line_of (stair n)) c.args.port c.queue_count-count.result in
    let slice = ap length c.deref.ensures.value in
    let other = ap length c.deref-2.ensures.value in
    omega (arith, slice, other, many, lines, known, few)

pub returns : goal.returns
returns c =
    let net = c.args.network.now in
    let stair = λ (n : ℕ). stair_in c.args.stairs.now n in
    let port = c.index-at.ensures ∙ get_or_default net.ports.items c.args.port c.index-at.result.now no_port c.requires.port in
    let count = c.queue_count-count.ensures ∙ ap (λ (p : Port). queues_of p.discipline) port in
    let queues = stairs_in c.deref.result.now in
    let are = ap (λ (xs : List StairArrivals). map arriving_of (stairs_in xs)) c.deref.ensures.value ∙ c.in_ok-queues.ensures.stairs
    ∙ ap (arriving_below net (spots_of net) stair c.args.port) count in
    IfOk-weaker c.stair_rows.result _ _
    (λ v rows.
    let P : Port → Type 0 = λ p. AreStairRows p queues v.items in
    rows_are net stair c.args.port queues v.items are (subst P port rows))
    c.stair_rows.ensures
