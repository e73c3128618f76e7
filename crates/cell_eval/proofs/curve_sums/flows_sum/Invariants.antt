use Rattle.std.proofs.Common.{[], map}
use Rattle.std.specs.Prelude.{Ok}
use Rattle.net_cells.specs.declared.cell.Kind.TheVariants.{In}
use Rattle.net_cells.specs.Order.{at_visit}
use Rattle.cell_numbers.specs.Chosen.{all_chosen}
use Rattle.cell_eval.specs.Partial.{IsReady, Adds, partial_of}
use Rattle.cell_eval.proofs.curve_sums.flows_sum.Given as goal

abbrev pub invariant-loop-flow : goal.invariant-loop-flow
invariant-loop-flow g l = record {
  sum : Adds (g.T.Table.at l.inputs.table.now) [] (map (at_visit In) (all_chosen l.inputs.net.now l.server l.pick l.except l.flow))
      l.fn.steps l.steps (Ok (partial_of l.so_far));
  ready : IsReady (g.T.Table.at l.inputs.table.now) (partial_of l.so_far);
}
