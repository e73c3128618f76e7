use Rattle.std.proofs.Common.{rules, ◌≡◌, ◌+◌, sym, ap, ◌∙◌, subst, arith, map, [], ◌∷◌, ◌++◌}
use Rattle.std.specs.Prelude.{Result, Ok, Err}
use Rattle.std.specs.List.{range_with_len}
use Rattle.std.proofs.lemmas.List.FromFn.{map-range_with_len_more}
use Rattle.upp_limits.specs.declared.op_kind.OpFault.{OpFault}
use Rattle.net_cells.specs.declared.cell.Kind.TheVariants.{Total}
use Rattle.net_cells.specs.Cells.{cell_of}
use Rattle.cell_eval.specs.declared.curve_sums.Partial.{Partial}
use Rattle.cell_eval.specs.Partial.{Adds, in_place, partial_of}
use Rattle.cell_numbers.proofs.Choosing.{map_front}
use Rattle.cell_eval.proofs.SumSteps.{adds_then, adds_rest}
use Rattle.cell_eval.proofs.curve_sums.queues_sum.Given.{Over}
use Rattle.cell_eval.proofs.curve_sums.queues_sum.Goals.{After-add}
use Rattle.cell_eval.proofs.curve_sums.queues_sum.Goals as goal

-- the sum with the queue's total, as if made at once
one_more : (g : Over) (c : After-add g) (r : Result Partial OpFault) → in_place (partial_of c.add.new.so_far) c.add.result ≡ r
    → Adds (g.T.Table.at c.args.inputs.now.table.now) []
    (map (cell_of Total c.args.server) (range_with_len 0 c.loop-queue.queue) ++ cell_of Total c.args.server c.loop-queue.queue ∷ [])
    c.args.steps.now c.add.new.steps r
one_more g c r is =
    let at = g.T.Table.at c.args.inputs.now.table.now in
    let next = cell_of Total c.args.server c.loop-queue.queue ∷ [] in
    let all = map (cell_of Total c.args.server) (range_with_len 0 c.loop-queue.queue) in
    let sum = c.loop-queue.invariant.sum in
    adds_then at [] all next c.args.steps.now c.loop-queue.steps c.add.new.steps (partial_of c.loop-queue.so_far) r sum
    (subst (Adds at all next c.loop-queue.steps c.add.new.steps) is (c.add.ensures.sum all sum.0))

pub loop-queue-preserved : goal.loop-queue-preserved
loop-queue-preserved g c =
    let n = c.loop-queue.queue in
    let made = partial_of c.add.new.so_far in
    let both = one_more g (goal.at.loop-queue-preserved g c).After-add (Ok made) (ap (in_place made) c.in-Ok.is) in
    record {
      sum =
          subst (λ zs. Adds (g.T.Table.at c.args.inputs.now.table.now) [] zs c.args.steps.now c.add.new.steps (Ok made))
          (sym (map-range_with_len_more (cell_of Total c.args.server) 0 n n (omega arith))) both;
      ready = search rules;
    }

pub returns-in-Err-clause-sum : goal.returns-in-Err-clause-sum
returns-in-Err-clause-sum g c =
    let at = g.T.Table.at c.args.inputs.now.table.now in
    let f = cell_of Total c.args.server in
    let n = c.loop-queue.queue in
    let both = one_more g (goal.at.returns-in-Err-clause-sum g c).After-add (Err c.in-Err.fault) (ap (in_place (partial_of c.add.new.so_far)) c.in-Err.is) in
    let front = map_front f (n + 1) c.args.queues (omega arith) in
    let whole = front.is ∙ ap (λ ys. ys ++ front.rest) (map-range_with_len_more f 0 n n (omega arith)) in
    subst (λ zs. Adds at [] zs c.args.steps.now c.add.new.steps (Err c.in-Err.fault)) (sym whole)
    (adds_rest at [] (map f (range_with_len 0 n) ++ f n ∷ []) front.rest c.args.steps.now c.add.new.steps c.in-Err.fault both)

pub returns-clause-sum : goal.returns-clause-sum
returns-clause-sum g c =
    let at = g.T.Table.at c.args.inputs.now.table.now in
    let last : c.loop-queue.queue ≡ c.args.queues = omega (arith, c.loop-queue-test.false, c.loop-queue.auto.queue-end) in
    c.grown.ensures.sum at (map (cell_of Total c.args.server) (range_with_len 0 c.args.queues)) c.args.steps.now c.loop-queue.steps
    (subst (λ n. Adds at [] (map (cell_of Total c.args.server) (range_with_len 0 n)) c.args.steps.now c.loop-queue.steps (Ok (partial_of c.loop-queue.so_far)))
    last c.loop-queue.invariant.sum)

pub returns-clause-ready : goal.returns-clause-ready
returns-clause-ready g c = c.grown.ensures.ready (g.T.Table.at c.args.inputs.now.table.now) c.loop-queue.invariant.ready
