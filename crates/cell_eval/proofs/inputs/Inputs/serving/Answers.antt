use Rattle.cell_eval.proofs.Arms.{service_above}
use Rattle.std.proofs.Common.{◌-◌, inr}
use Rattle.net_cells.specs.declared.cell.Kind.TheVariants.{QueueService}
use Rattle.net_cells.specs.Numbered.{service, discipline}
use Rattle.net_cells.specs.Cells.{cell_of}
use Rattle.net_cells.specs.Left.{left_of}
use Rattle.net_cells.specs.CellFormulas.{formula}
use Rattle.net_cells.specs.Refusals.{RefusedAt}
use Rattle.net_cells.specs.cell_table.Values.{answer_of, meaning_of}
use Rattle.cell_eval.proofs.Arms.{service_given}
use Rattle.cell_eval.proofs.Stopping.{at_refusal}
use Rattle.cell_eval.proofs.inputs.Inputs.serving.Goals as goal

pub queue_service-requires-clause-above : goal.queue_service-requires-clause-above
queue_service-requires-clause-above g c =
    service_above c.args.self.now.net.now (g.T.Table.at c.args.self.now.table.now) c.args.place.0 c.args.place.1 c.requires

pub returns : goal.returns
returns g c =
    let net = c.args.self.now.net.now in
    let s = c.args.place.0 in record {
      answer = service_given (g.T.Table.at c.args.self.now.table.now) (service net s) (left_of net s c.args.place.1 (discipline net s))
          (answer_of meaning_of c.queue_service.result) c.queue_service.ensures.answer;
      counts = c.queue_service.ensures.counts;
      memory = λ is. inr (at_refusal meaning_of c.queue_service.result
          (λ e. RefusedAt (g.T.Table.at c.args.self.now.table.now) (formula c.args.self.now.net.now (cell_of QueueService c.args.place.0 c.args.place.1)) e
          (c.queue_service.new.steps - c.args.steps.now)) c.queue_service.ensures.refused is);
    }
