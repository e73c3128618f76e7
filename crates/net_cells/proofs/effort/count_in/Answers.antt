use Rattle.std.proofs.Common.{◌≡◌, ℕ, length, ap, sym, ◌∙◌, arith, Option}
use Rattle.std.specs.List.{flat_map, range_with_len}
use Rattle.std.specs.Option.{option_map}
use Rattle.std.proofs.lemmas.List.{length-map}
use Rattle.net_model.specs.Networks.{NetFlow}
use Rattle.net_model.specs.Views.{flow_of}
use Rattle.net_cells.specs.Numbered.{path_of, queues_of}
use Rattle.net_cells.specs.Visits.{hops_in}
use Rattle.net_cells.proofs.Counting.{hops_of, in_by_flow, more_of}
use Rattle.net_cells.proofs.Stored.{flow_stored, few_stored}
use Rattle.net_cells.proofs.effort.count_in.Goals as goal

pub count_flow-more-requires : goal.count_flow-more-requires
count_flow-more-requires c =
    few_stored c.args.net.now c.flows-flows.result.now c.loop-number.number c.index-flows-number.result
    c.flows-flows.ensures.flows c.loop-number-test.true c.index-flows-number.is c.flows-flows.ensures.kept

pub loop-number-preserved : goal.loop-number-preserved
loop-number-preserved c =
    let fs = c.flows-flows.result.now in
    let net = c.args.net.now in
    let n = c.loop-number.number in
    let s = c.args.server in
    let q = c.args.queue in
    let same = flow_stored net fs n c.index-flows-number.result c.flows-flows.ensures.flows c.loop-number-test.true
    c.index-flows-number.is in
    let count = c.count_flow-more.ensures.count n
    ∙ ap (λ (o : Option NetFlow). length (hops_in n (path_of o) (queues_of o) s q)) same in
    record {
      is = more_of net s q n c.loop-number.total c.count_flow-more.result c.loop-number.invariant.is count;
      few = omega (arith, c.loop-number.invariant.few, c.count_flow-more.ensures.few);
    }

pub returns : goal.returns
returns c =
    let net = c.args.net.now in
    let count = ap length c.flows-flows.ensures.flows in
    let all = length-map c.flows-flows.result.now (option_map flow_of) in
    let last : c.loop-number.number ≡ length net.flows =
    omega (arith, count, all, c.loop-number-test.false, c.loop-number.auto.number-end) in
    c.loop-number.invariant.is
    ∙ ap (λ (n : ℕ). length (flat_map (hops_of net c.args.server c.args.queue) (range_with_len 0 n))) last
    ∙ sym (ap length (in_by_flow net c.args.server c.args.queue))
