use Rattle.std.proofs.Common.{◌≡◌, ◌+◌, ◌*◌}
use Rattle.std.specs.Prelude.{Ok}
use Rattle.net_cells.specs.Meanings.{curve}
use Rattle.net_cells.specs.CellFormulas.{packets_to}
use Rattle.net_cells.specs.Answers.{Answers}
use Rattle.cell_eval.proofs.inputs.Inputs.to_hop.Given as goal

abbrev pub invariant-loop-hop : goal.invariant-loop-hop
invariant-loop-hop g l = record {
  answers : Answers (g.T.Table.at l.self.table.now) (packets_to l.self.net.now l.flow l.hop) (Ok (curve l.so_far));
  count : l.steps ≡ l.fn.steps + (2 * l.hop + 1);
}
