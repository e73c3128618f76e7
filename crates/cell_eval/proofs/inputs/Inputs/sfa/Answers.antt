use Rattle.std.proofs.Common.{[], ◌∷◌}
use Rattle.net_cells.specs.declared.cell.Kind.TheVariants.{In, PathService}
use Rattle.net_cells.specs.Cells.{cell_of}
use Rattle.net_cells.specs.Formulas.{value_of, horizontal}
use Rattle.net_cells.specs.Means.{with_links}
use Rattle.net_cells.specs.CellFormulas.{link_delays}
use Rattle.outcomes.proofs.Spending.{counts_all}
use Rattle.cell_eval.proofs.Arms.{sfa_comes, sfa_served_by}
use Rattle.outcomes.specs.Calls.{stops}
use Rattle.std.proofs.Common.{refl}
use Rattle.cell_eval.proofs.PathSums.{delayed_answer}
use Rattle.std.proofs.Common.{subst}
use Rattle.net_cells.specs.Formulas.{delayed}
use Rattle.net_cells.specs.Answers.{Answers}
use Rattle.net_cells.proofs.OneOperator.{horizontal_refused, delayed_never}
use Rattle.net_cells.specs.cell_table.Values.{answer_of, meaning_of}
use Rattle.cell_eval.proofs.inputs.Inputs.sfa.Goals as goal

pub delay_between-requires-clause-rises : goal.delay_between-requires-clause-rises
delay_between-requires-clause-rises g c =
    sfa_comes c.args.self.now.net.now (g.T.Table.at c.args.self.now.table.now) c.args.flow c.requires

pub delay_between-requires-clause-serves : goal.delay_between-requires-clause-serves
delay_between-requires-clause-serves g c =
    sfa_served_by c.args.self.now.net.now (g.T.Table.at c.args.self.now.table.now) c.args.flow c.requires

pub returns-in-Ok : goal.returns-in-Ok
returns-in-Ok g c =
    let net = c.args.self.now.net.now in
    let i = c.args.flow in
    let at = g.T.Table.at c.args.self.now.table.now in
    let x = c.in-Ok.delay in
    let from = cell_of In i 0 in
    let by = cell_of PathService i 0 in
    let answer : Answers at (delayed (horizontal (value_of from) (value_of by)) (link_delays net i)) (answer_of meaning_of c.numbered.result) =
    rw c.numbered.ensures
    (delayed_answer net at (horizontal (value_of from) (value_of by)) i x
    c.sum_of.result c.requires.accepted
    c.in-Ok.ensures.answer
    (λ few.
    c.sum_of.ensures (with_links (x ∷ []) (link_delays net i)) few
    (c.with_path.ensures (x ∷ []) (c.and.ensures [] c.no_number.ensures)))) in
    record {
      answer = answer;
      counts = counts_all 1 c.args.steps.now _ _ c.in-Ok.ensures.count;
      memory = λ is. absurd (delayed_never at from by (link_delays net i)
          (subst (λ r. Answers at (delayed (horizontal (value_of from) (value_of by)) (link_delays net i)) r) is answer));
    }

pub returns-in-Err : goal.returns-in-Err
returns-in-Err g c = record {
  answer = stops c.in-Err.fault c.in-Err.ensures.answer refl;
  counts = counts_all 1 c.args.steps.now _ _ c.in-Err.ensures.count;
  memory = λ is. horizontal_refused (g.T.Table.at c.args.self.now.table.now) (cell_of In c.args.flow 0) (cell_of PathService c.args.flow 0) c.in-Err.fault _
      c.in-Err.ensures.answer is;
}
