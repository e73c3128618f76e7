use Rattle.outcomes.proofs.Spending.{counts_all}
use Rattle.cell_eval.proofs.Arms.{delay_comes, delay_served_by}
use Rattle.std.proofs.Common.{subst}
use Rattle.net_cells.specs.declared.cell.Kind.TheVariants.{Total, QueueService}
use Rattle.net_cells.specs.Cells.{cell_of}
use Rattle.net_cells.specs.Formulas.{value_of, horizontal}
use Rattle.net_cells.specs.Answers.{Answers}
use Rattle.net_cells.specs.cell_table.Values.{answer_of, meaning_of}
use Rattle.net_cells.proofs.OneOperator.{horizontal_never}
use Rattle.cell_eval.proofs.inputs.Inputs.queue_delay.Goals as goal

pub delay_between-requires-clause-rises : goal.delay_between-requires-clause-rises
delay_between-requires-clause-rises g c = delay_comes c.args.self.now.net.now (g.T.Table.at c.args.self.now.table.now) c.args.place.0 c.args.place.1 c.requires

pub delay_between-requires-clause-serves : goal.delay_between-requires-clause-serves
delay_between-requires-clause-serves g c = delay_served_by c.args.self.now.net.now (g.T.Table.at c.args.self.now.table.now) c.args.place.0 c.args.place.1 c.requires

pub returns : goal.returns
returns g c = record {
  answer = rw c.numbered.ensures c.delay_between.ensures.answer;
  counts = counts_all 1 c.args.steps.now _ _ c.delay_between.ensures.count;
  memory = λ is. let at = g.T.Table.at c.args.self.now.table.now in
      let from = cell_of Total c.args.place.0 c.args.place.1 in
      let by = cell_of QueueService c.args.place.0 c.args.place.1 in
      let answer : Answers at (horizontal (value_of from) (value_of by)) (answer_of meaning_of c.numbered.result) =
      rw c.numbered.ensures c.delay_between.ensures.answer in
      absurd (horizontal_never at from by (subst (λ r. Answers at (horizontal (value_of from) (value_of by)) r) is answer));
}
