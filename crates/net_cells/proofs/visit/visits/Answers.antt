use Rattle.std.proofs.Common.{◌≡◌, ◌++◌, ℕ, length, ap, sym, ◌∙◌, arith, Option}
use Rattle.std.specs.List.{flat_map, range_with_len}
use Rattle.std.specs.Option.{option_map}
use Rattle.std.proofs.lemmas.List.{length-map}
use Rattle.net_model.specs.Networks.{NetFlow}
use Rattle.net_model.specs.Views.{flow_of}
use Rattle.net_cells.specs.Numbered.{path, path_of}
use Rattle.net_cells.specs.Visits.{hops_at}
use Rattle.net_cells.proofs.Growing.{flat_more}
use Rattle.net_cells.proofs.Stored.{flow_stored, few_stored, visits_by_flow}
use Rattle.net_cells.proofs.visit.visits.Goals as goal

pub push_flow-requires : goal.push_flow-requires
push_flow-requires c =
    few_stored c.args.net.now c.flows-flows.result.now c.loop-number.number c.index-flows-number.result
    c.flows-flows.ensures.flows c.loop-number-test.true c.index-flows-number.is c.flows-flows.ensures.kept

pub loop-number-preserved : goal.loop-number-preserved
loop-number-preserved c =
    let fs = c.flows-flows.result.now in
    let n = c.loop-number.number in
    let net = c.args.net.now in
    let f = λ (i : ℕ). hops_at i (path net i) c.args.server in
    let same = flow_stored net fs n c.index-flows-number.result c.flows-flows.ensures.flows
    c.loop-number-test.true c.index-flows-number.is in
    c.in_ok-push_flow.ensures
    ∙ ap (λ (o : Option NetFlow). c.loop-number.found.items ++ hops_at n (path_of o) c.args.server) same
    ∙ ap (λ xs. xs ++ f n) c.loop-number.invariant ∙ sym (flat_more f n)

pub returns : goal.returns
returns c =
    let net = c.args.net.now in
    let f = λ (i : ℕ). hops_at i (path net i) c.args.server in
    let count = ap length c.flows-flows.ensures.flows in
    let all = length-map c.flows-flows.result.now (option_map flow_of) in
    let last : c.loop-number.number ≡ length net.flows =
    omega (arith, count, all, c.loop-number-test.false, c.loop-number.auto.number-end) in
    c.loop-number.invariant ∙ ap (λ n. flat_map f (range_with_len 0 n)) last ∙ sym (visits_by_flow net c.args.server)
