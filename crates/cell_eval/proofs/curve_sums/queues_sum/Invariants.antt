use Rattle.std.proofs.Common.{[], map}
use Rattle.std.specs.Prelude.{Ok}
use Rattle.std.specs.List.{range_with_len}
use Rattle.net_cells.specs.declared.cell.Kind.TheVariants.{Total}
use Rattle.net_cells.specs.Cells.{cell_of}
use Rattle.cell_eval.specs.Partial.{IsReady, Adds, partial_of}
use Rattle.cell_eval.proofs.curve_sums.queues_sum.Given as goal

abbrev pub invariant-loop-queue : goal.invariant-loop-queue
invariant-loop-queue g l = record {
  sum : Adds (g.T.Table.at l.inputs.table.now) [] (map (cell_of Total l.server) (range_with_len 0 l.queue)) l.fn.steps l.steps (Ok (partial_of l.so_far));
  ready : IsReady (g.T.Table.at l.inputs.table.now) (partial_of l.so_far);
}
