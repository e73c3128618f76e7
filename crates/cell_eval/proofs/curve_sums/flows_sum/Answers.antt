use Rattle.std.proofs.Common.{rules, ◌≡◌, ℕ, ◌+◌, List, sym, ap, ◌∙◌, subst, arith, length, map, [], ◌++◌}
use Rattle.std.specs.Prelude.{Result, Ok, Err}
use Rattle.std.specs.Option.{option_map}
use Rattle.std.proofs.lemmas.List.{map-append, length-map}
use Rattle.upp_limits.specs.declared.op_kind.OpFault.{OpFault}
use Rattle.net_model.specs.Views.{flow_of}
use Rattle.net_cells.specs.declared.cell.Cell.{Cell}
use Rattle.net_cells.specs.declared.cell.Kind.TheVariants.{In}
use Rattle.net_cells.specs.Order.{at_visit}
use Rattle.cell_numbers.specs.Chosen.{chosen, all_chosen}
use Rattle.cell_eval.specs.declared.curve_sums.Partial.{Partial}
use Rattle.cell_eval.specs.Partial.{Adds, in_place, partial_of}
use Rattle.cell_numbers.proofs.Choosing.{all_chosen_more, flat_front}
use Rattle.cell_eval.proofs.SumSteps.{adds_then, adds_rest}
use Rattle.cell_eval.proofs.curve_sums.flows_sum.Given.{Over}
use Rattle.cell_eval.proofs.curve_sums.flows_sum.Goals.{After-add_flow}
use Rattle.cell_eval.proofs.curve_sums.flows_sum.Goals as goal

-- the cells of the flows before one, and its own
abbrev before : (g : Over) → After-add_flow g → List Cell
before g c = map (at_visit In) (all_chosen c.args.inputs.now.net.now c.args.server c.args.pick c.args.except c.loop-flow.flow)

abbrev next : (g : Over) → After-add_flow g → List Cell
next g c = map (at_visit In) (chosen c.args.inputs.now.net.now c.args.server c.args.pick c.args.except c.loop-flow.flow)

-- the sum with that flow's curve, as if made at once
one_more : (g : Over) (c : After-add_flow g) (r : Result Partial OpFault) → in_place (partial_of c.add_flow.new.so_far) c.add_flow.result ≡ r
    → Adds (g.T.Table.at c.args.inputs.now.table.now) [] (before g c ++ next g c) c.args.steps.now c.add_flow.new.steps r
one_more g c r is =
    let at = g.T.Table.at c.args.inputs.now.table.now in
    let sum = c.loop-flow.invariant.sum in
    adds_then at [] (before g c) (next g c) c.args.steps.now c.loop-flow.steps c.add_flow.new.steps (partial_of c.loop-flow.so_far) r sum
    (subst (Adds at (before g c) (next g c) c.loop-flow.steps c.add_flow.new.steps) is (c.add_flow.ensures.sum (before g c) sum.0))

pub add_flow-requires-clause-curves : goal.add_flow-requires-clause-curves
add_flow-requires-clause-curves g c = c.requires c.loop-flow.flow

pub loop-flow-preserved : goal.loop-flow-preserved
loop-flow-preserved g c =
    let net = c.args.inputs.now.net.now in
    let n = c.loop-flow.flow in
    let all = all_chosen net c.args.server c.args.pick c.args.except n in
    let more = chosen net c.args.server c.args.pick c.args.except n in
    let made = partial_of c.add_flow.new.so_far in
    let both = one_more g (goal.at.loop-flow-preserved g c).After-add_flow (Ok made) (ap (in_place made) c.in-Ok.is) in
    record {
      sum = subst (λ zs. Adds (g.T.Table.at c.args.inputs.now.table.now) [] zs c.args.steps.now c.add_flow.new.steps (Ok made))
          (sym (ap (map (at_visit In)) (all_chosen_more net c.args.server c.args.pick c.args.except n) ∙ map-append (at_visit In) all more)) both;
      ready = search rules;
    }

pub returns-in-Err-clause-sum : goal.returns-in-Err-clause-sum
returns-in-Err-clause-sum g c =
    let at = g.T.Table.at c.args.inputs.now.table.now in
    let net = c.args.inputs.now.net.now in
    let n = c.loop-flow.flow in
    let f = chosen net c.args.server c.args.pick c.args.except in
    let all = all_chosen net c.args.server c.args.pick c.args.except n in
    let here = (goal.at.returns-in-Err-clause-sum g c).After-add_flow in
    let fault = c.in-Err.fault in
    let both = one_more g here (Err fault) (ap (in_place (partial_of c.add_flow.new.so_far)) c.in-Err.is) in
    let same = ap length c.flows.ensures.flows in
    let count = length-map c.flows.result.now (option_map flow_of) in
    let front = flat_front f (n + 1) (length net.flows) (omega (arith, same, count, c.loop-flow-test.true)) in
    let whole = ap (map (at_visit In)) (front.is ∙ ap (λ ys. ys ++ front.rest) (all_chosen_more net c.args.server c.args.pick c.args.except n))
    ∙ map-append (at_visit In) (all ++ f n) front.rest
    ∙ ap (λ ys. ys ++ map (at_visit In) front.rest) (map-append (at_visit In) all (f n)) in
    subst (λ zs. Adds at [] zs c.args.steps.now c.add_flow.new.steps (Err fault)) (sym whole)
    (adds_rest at [] (before g here ++ next g here) (map (at_visit In) front.rest) c.args.steps.now c.add_flow.new.steps fault both)

pub returns-clause-sum : goal.returns-clause-sum
returns-clause-sum g c =
    let at = g.T.Table.at c.args.inputs.now.table.now in
    let net = c.args.inputs.now.net.now in
    let old = c.args.steps.now in
    let new = c.loop-flow.steps in
    let made = partial_of c.loop-flow.so_far in
    let cells = λ (n : ℕ). map (at_visit In) (all_chosen net c.args.server c.args.pick c.args.except n) in
    let same = ap length c.flows.ensures.flows in
    let count = length-map c.flows.result.now (option_map flow_of) in
    let last : c.loop-flow.flow ≡ length net.flows = omega (arith, same, count, c.loop-flow-test.false, c.loop-flow.auto.flow-end) in
    c.grown.ensures.sum at (cells (length net.flows)) old new (subst (λ n. Adds at [] (cells n) old new (Ok made)) last c.loop-flow.invariant.sum)

pub returns-clause-ready : goal.returns-clause-ready
returns-clause-ready g c = c.grown.ensures.ready (g.T.Table.at c.args.inputs.now.table.now) c.loop-flow.invariant.ready
