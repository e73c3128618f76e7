use Rattle.std.proofs.Common.{◌-◌, sym, ap, ◌∙◌, subst, inr}
use Rattle.std.specs.Prelude.{IfErr}
use Rattle.net_cells.specs.Formulas.{value_of, vertical}
use Rattle.net_cells.specs.Meanings.{number}
use Rattle.cell_eval.proofs.Arms.{backlog_comes, backlog_served_by}
use Rattle.net_cells.specs.Visits.{longest_of}
use Rattle.cell_numbers.specs.declared.found.Pick.TheVariants.{InQueue}
use Rattle.cell_numbers.proofs.Choosing.{picked_are}
use Rattle.net_cells.specs.declared.cell.Kind.TheVariants.{Total, QueueService, QueueBacklog}
use Rattle.net_cells.specs.Cells.{cell_of}
use Rattle.net_cells.specs.CellFormulas.{less, formula}
use Rattle.net_cells.specs.Refusals.{RefusedAt}
use Rattle.cell_eval.proofs.Stopping.{at_refusal}
use Rattle.cell_eval.proofs.inputs.Inputs.queue_backlog.Goals as goal

pub backlog-made-requires : goal.backlog-made-requires
backlog-made-requires g c =
    let net = c.args.self.now.net.now in
    let at = g.T.Table.at c.args.self.now.table.now in
    record {
      curve = backlog_comes net at c.args.place.0 c.args.place.1 c.requires;
      serves = backlog_served_by net at c.args.place.0 c.args.place.1 c.requires;
    }

pub returns : goal.returns
returns g c =
    let bits = c.longest_at-bits.ensures ∙ ap (longest_of c.args.self.now.net.now) (sym (picked_are c.args.self.now.net.now c.args.place.0 (InQueue c.args.place.1))) in
    record {
      answer = rw c.numbered.ensures (rw bits at c.backlog-made.ensures.answer);
      counts = rw c.numbered.ensures c.backlog-made.ensures.counts;
      memory = λ is. let at = g.T.Table.at c.args.self.now.table.now in
          let counted = c.backlog-made.new.steps - c.args.steps.now in
          let from = value_of (cell_of Total c.args.place.0 c.args.place.1) in
          let service = value_of (cell_of QueueService c.args.place.0 c.args.place.1) in
          inr (at_refusal number c.backlog-made.result
          (λ e. RefusedAt at (formula c.args.self.now.net.now (cell_of QueueBacklog c.args.place.0 c.args.place.1)) e counted)
          (subst (λ b. IfErr c.backlog-made.result (λ e. RefusedAt at (vertical from (less service b)) e counted)) bits
          c.backlog-made.ensures.refused) (sym c.numbered.ensures ∙ is));
    }
