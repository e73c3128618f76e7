use Rattle.outcomes.proofs.Spending.{counts_all}
use Rattle.cell_eval.proofs.Arms.{residual_service, residual_cross, residual_theta}
use Rattle.std.proofs.Common.{subst}
use Rattle.net_cells.specs.declared.cell.Kind.TheVariants.{Cross, QueueService, Theta, Residual}
use Rattle.net_cells.specs.Numbered.{server_of_hop, queue_of_hop}
use Rattle.net_cells.specs.Cells.{cell_of}
use Rattle.net_cells.specs.Formulas.{value_of, leftover}
use Rattle.net_cells.specs.CellFormulas.{formula}
use Rattle.net_cells.specs.Answers.{Answers}
use Rattle.net_cells.proofs.OneOperator.{leftover_stops}
use Rattle.cell_eval.proofs.Stopping.{one_stops}
use Rattle.cell_eval.proofs.inputs.Inputs.residual.Goals as goal

pub left_over-requires-clause-serves : goal.left_over-requires-clause-serves
left_over-requires-clause-serves g c =
    rw (c.place_of-place.ensures.server, c.place_of-place.ensures.queue)
    (residual_service c.args.self.now.net.now (g.T.Table.at c.args.self.now.table.now) c.args.flow c.args.hop c.requires)

pub left_over-requires-clause-cross : goal.left_over-requires-clause-cross
left_over-requires-clause-cross g c = residual_cross c.args.self.now.net.now (g.T.Table.at c.args.self.now.table.now) c.args.flow c.args.hop c.requires

pub left_over-requires-clause-theta : goal.left_over-requires-clause-theta
left_over-requires-clause-theta g c =
    rw (c.place_of-place.ensures.server, c.place_of-place.ensures.queue)
    (residual_theta c.args.self.now.net.now (g.T.Table.at c.args.self.now.table.now) c.args.flow c.args.hop c.requires)

pub returns : goal.returns
returns g c = record {
  answer = rw (c.place_of-place.ensures.server, c.place_of-place.ensures.queue) at c.left_over.ensures.answer;
  counts = counts_all 1 c.args.steps.now _ _ c.left_over.ensures.count;
  memory = λ is. let at = g.T.Table.at c.args.self.now.table.now in
      let net = c.args.self.now.net.now in
      let i = c.args.flow in
      let k = c.args.hop in
      let service = cell_of QueueService (server_of_hop net i k) (queue_of_hop net i k) in
      let others = cell_of Cross i k in
      let theta = cell_of Theta i k in
      let answer = rw (c.place_of-place.ensures.server, c.place_of-place.ensures.queue) at c.left_over.ensures.answer in
      one_stops at (formula net (cell_of Residual i k)) c.args.steps.now c.left_over.new.steps c.left_over.ensures.count
      (leftover_stops at service others theta
      (subst (λ r. Answers at (leftover (value_of service) (value_of others) (value_of theta)) r) is answer));
}
