use Rattle.std.proofs.Common.{◌-◌, map, subst}
use Rattle.std.specs.List.{range_with_len}
use Rattle.std.proofs.lemmas.List.FromFn.{length-map-range_with_len}
use Rattle.net_cells.specs.declared.cell.Kind.TheVariants.{Total}
use Rattle.net_cells.specs.Cells.{cell_of}
use Rattle.net_cells.specs.cell_table.Values.{answer_of, meaning_of}
use Rattle.outcomes.specs.Spending.{Counts}
use Rattle.cell_eval.proofs.Arms.{higher_ready}
use Rattle.cell_eval.proofs.inputs.Inputs.higher.Goals as goal

pub queues_sum-made-requires : goal.queues_sum-made-requires
queues_sum-made-requires g c = higher_ready c.args.self.now.net.now (g.T.Table.at c.args.self.now.table.now) c.args.place.0 c.args.place.1 c.requires

pub returns : goal.returns
returns g c =
    let old = c.args.steps.now in
    let new = c.queues_sum-made.new.steps in
    let cells = map (cell_of Total c.args.place.0) (range_with_len 0 c.args.place.1) in
    let adds = c.queues_sum-made.ensures.sum in
    record {
      answer = c.summed.ensures.answer cells old new adds;
      counts = subst (λ n. Counts (n - 1) old new (answer_of meaning_of c.summed.result))
          (length-map-range_with_len (cell_of Total c.args.place.0) 0 c.args.place.1) (c.summed.ensures.counts cells old new adds);
      memory = c.summed.ensures.memory cells old new adds;
    }
