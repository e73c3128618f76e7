use Rattle.net_cells.specs.declared.cell.Kind.TheVariants.{In, Residual, QueueDelay}
use Rattle.net_cells.specs.Numbered.{server_of_hop, queue_of_hop}
use Rattle.net_cells.specs.Cells.{cell_of}
use Rattle.net_cells.specs.Formulas.{value_of, horizontal}
use Rattle.outcomes.proofs.Spending.{counts_all}
use Rattle.cell_eval.proofs.Arms.{hop_comes, hop_served_by, hop_queue}
use Rattle.cell_numbers.proofs.OnCells.{smaller_answer, smaller_refused}
use Rattle.cell_eval.proofs.Stopping.{ok_stops}
use Rattle.net_cells.proofs.OneOperator.{horizontal_refused}
use Rattle.cell_eval.proofs.inputs.Inputs.hop_delay.Goals as goal

pub delay_between-requires-clause-rises : goal.delay_between-requires-clause-rises
delay_between-requires-clause-rises g c =
    hop_comes c.args.self.now.net.now (g.T.Table.at c.args.self.now.table.now) c.args.flow c.args.hop c.requires

pub delay_between-requires-clause-serves : goal.delay_between-requires-clause-serves
delay_between-requires-clause-serves g c =
    hop_served_by c.args.self.now.net.now (g.T.Table.at c.args.self.now.table.now) c.args.flow c.args.hop c.requires

pub number_at-queue-requires : goal.number_at-queue-requires
number_at-queue-requires g c =
    rw (c.place_of-place.ensures.server, c.place_of-place.ensures.queue)
    (hop_queue c.args.self.now.net.now (g.T.Table.at c.args.self.now.table.now) c.args.flow c.args.hop c.requires)

pub returns-in-Ok : goal.returns-in-Ok
returns-in-Ok g c =
    let net = c.args.self.now.net.now in
    let i = c.args.flow in
    let k = c.args.hop in
    let queue = cell_of QueueDelay (server_of_hop net i k) (queue_of_hop net i k) in
    let own = horizontal (value_of (cell_of In i k)) (value_of (cell_of Residual i k)) in
    let is = rw (c.place_of-place.ensures.server, c.place_of-place.ensures.queue) at c.number_at-queue.ensures in
    record {
      answer =
          rw c.lesser_value.ensures
          (smaller_answer (g.T.Table.at c.args.self.now.table.now) queue own c.number_at-queue.result c.in-Ok.own is
          c.in-Ok.ensures.answer);
      counts = counts_all 1 c.args.steps.now _ _ c.in-Ok.ensures.count;
      memory = λ is. ok_stops _ _ is;
    }

pub returns-in-Err : goal.returns-in-Err
returns-in-Err g c =
    let net = c.args.self.now.net.now in
    let i = c.args.flow in
    let k = c.args.hop in
    let at = g.T.Table.at c.args.self.now.table.now in
    record {
      answer =
          smaller_refused at (cell_of QueueDelay (server_of_hop net i k) (queue_of_hop net i k))
          (horizontal (value_of (cell_of In i k)) (value_of (cell_of Residual i k))) c.in-Err.fault
          (hop_queue net at i k c.requires) c.in-Err.ensures.answer;
      counts = counts_all 1 c.args.steps.now _ _ c.in-Err.ensures.count;
      memory = λ is. horizontal_refused at (cell_of In i k) (cell_of Residual i k) c.in-Err.fault _ c.in-Err.ensures.answer is;
    }
