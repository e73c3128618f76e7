use Rattle.outcomes.proofs.Spending.{counts_none}
use Rattle.cell_eval.proofs.Arms.{tfa_delays}
use Rattle.net_cells.specs.Means.{with_links}
use Rattle.net_cells.specs.CellFormulas.{link_delays}
use Rattle.cell_eval.proofs.PathSums.{path_answer}
use Rattle.net_cells.specs.declared.cell.Kind.TheVariants.{Tfa}
use Rattle.net_cells.specs.Cells.{cell_of}
use Rattle.net_cells.specs.CellFormulas.{formula}
use Rattle.cell_eval.proofs.Stopping.{none_stops}
use Rattle.cell_eval.proofs.inputs.Inputs.tfa.Goals as goal

pub delays-requires : goal.delays-requires
delays-requires g c = tfa_delays c.args.self.now.net.now (g.T.Table.at c.args.self.now.table.now) c.args.flow c.requires

pub returns : goal.returns
returns g c = λ n.
    let net = c.args.self.now.net.now in
    let i = c.args.flow in
    let at = g.T.Table.at c.args.self.now.table.now in
    record {
      answer =
          rw c.numbered.ensures
          (path_answer net at i c.sum_of.result c.requires.accepted (tfa_delays net at i c.requires)
          (λ xs few are.
          c.sum_of.ensures (with_links xs (link_delays net i)) few (c.with_path.ensures xs (c.delays.ensures xs are))));
      counts = counts_none n _;
      memory = λ is. none_stops at (formula net (cell_of Tfa i 0)) n;
    }
