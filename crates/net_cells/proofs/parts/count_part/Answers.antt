use Rattle.std.proofs.Common.{◌≡◌, ℕ, length, ap, sym, ◌∙◌, arith}
use Rattle.std.specs.List.{flat_map, range_with_len}
use Rattle.std.specs.Option.{option_map}
use Rattle.std.proofs.lemmas.List.{length-map}
use Rattle.net_model.specs.Views.{flow_of}
use Rattle.net_cells.specs.QueueParts.{flow_part}
use Rattle.net_cells.proofs.PartCounts.{more_items, part_by_flow}
use Rattle.net_cells.proofs.parts.count_part.Goals as goal

pub loop-flow-preserved : goal.loop-flow-preserved
loop-flow-preserved c =
    let f = flow_part c.args.net.now c.args.place.0 c.args.place.1 c.args.part in
    record {
      is = more_items f c.loop-flow.flow c.loop-flow.total c.count_flow-total.result c.loop-flow.invariant.is c.count_flow-total.ensures.count;
      few = omega (arith, c.loop-flow.invariant.few, c.count_flow-total.ensures.few);
    }

pub returns-clause-count : goal.returns-clause-count
returns-clause-count c =
    let net = c.args.net.now in
    let s = c.args.place.0 in
    let q = c.args.place.1 in
    let k = c.args.part in
    let count = ap length c.flows-flows.ensures.flows in
    let all = length-map c.flows-flows.result.now (option_map flow_of) in
    let last : c.loop-flow.flow ≡ length net.flows = omega (arith, count, all, c.loop-flow-test.false, c.loop-flow.auto.flow-end) in
    c.loop-flow.invariant.is
    ∙ ap (λ (n : ℕ). length (flat_map (flow_part net s q k) (range_with_len 0 n))) last
    ∙ sym (ap length (part_by_flow net s q k))
