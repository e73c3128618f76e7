use Rattle.outcomes.proofs.Spending.{counts_all}
use Rattle.cell_eval.proofs.Arms.{theta_cross, theta_service}
use Rattle.std.proofs.Common.{subst}
use Rattle.net_cells.specs.declared.cell.Kind.TheVariants.{Cross, QueueService}
use Rattle.net_cells.specs.Numbered.{server_of_hop, queue_of_hop}
use Rattle.net_cells.specs.Cells.{cell_of}
use Rattle.net_cells.specs.Formulas.{value_of, horizontal}
use Rattle.net_cells.specs.Answers.{Answers}
use Rattle.net_cells.specs.cell_table.Values.{answer_of, meaning_of}
use Rattle.net_cells.proofs.OneOperator.{horizontal_never}
use Rattle.cell_eval.proofs.inputs.Inputs.theta.Goals as goal

pub theta_of-requires-clause-rises : goal.theta_of-requires-clause-rises
theta_of-requires-clause-rises g c = theta_cross c.args.self.now.net.now (g.T.Table.at c.args.self.now.table.now) c.args.flow c.args.hop c.requires

pub theta_of-requires-clause-serves : goal.theta_of-requires-clause-serves
theta_of-requires-clause-serves g c = theta_service c.args.self.now.net.now (g.T.Table.at c.args.self.now.table.now) c.args.flow c.args.hop c.requires

pub returns : goal.returns
returns g c = record {
  answer = c.theta_of.ensures.answer;
  counts = counts_all 1 c.args.steps.now _ _ c.theta_of.ensures.count;
  memory = λ is. let at = g.T.Table.at c.args.self.now.table.now in
      let from = cell_of Cross c.args.flow c.args.hop in
      let by = cell_of QueueService (server_of_hop c.args.self.now.net.now c.args.flow c.args.hop) (queue_of_hop c.args.self.now.net.now c.args.flow c.args.hop) in
      let answer : Answers at (horizontal (value_of from) (value_of by)) (answer_of meaning_of c.theta_of.result) = c.theta_of.ensures.answer in
      absurd (horizontal_never at from by (subst (λ r. Answers at (horizontal (value_of from) (value_of by)) r) is answer));
}
