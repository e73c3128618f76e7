use Rattle.cell_eval.proofs.Arms.{path_some, path_serves}
use Rattle.std.proofs.Common.{◌-◌}
use Rattle.net_cells.specs.declared.cell.Kind.TheVariants.{PathService}
use Rattle.net_cells.specs.Cells.{cell_of}
use Rattle.net_cells.specs.CellFormulas.{formula}
use Rattle.net_cells.specs.Refusals.{Stops}
use Rattle.net_cells.specs.cell_table.Values.{meaning_of}
use Rattle.cell_eval.proofs.Stopping.{at_refusal}
use Rattle.cell_eval.proofs.inputs.Inputs.path.Goals as goal

pub path_service-requires-clause-some : goal.path_service-requires-clause-some
path_service-requires-clause-some g c = path_some c.args.self.now.net.now (g.T.Table.at c.args.self.now.table.now) c.args.flow c.requires

pub path_service-requires-clause-serves : goal.path_service-requires-clause-serves
path_service-requires-clause-serves g c = path_serves c.args.self.now.net.now (g.T.Table.at c.args.self.now.table.now) c.args.flow c.requires

pub returns : goal.returns
returns g c = record {
  answer = c.path_service.ensures.answer;
  counts = c.path_service.ensures.counts;
  memory = λ is. at_refusal meaning_of c.path_service.result
      (λ e. Stops (g.T.Table.at c.args.self.now.table.now) (formula c.args.self.now.net.now (cell_of PathService c.args.flow 0)) e
      (c.path_service.new.steps - c.args.steps.now)) c.path_service.ensures.refused is;
}
