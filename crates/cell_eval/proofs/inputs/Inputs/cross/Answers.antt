use Rattle.std.proofs.Common.{◌-◌, List, [], length, map, sym, subst}
use Rattle.std.specs.Prelude.{Some}
use Rattle.std.proofs.lemmas.List.{length-map}
use Rattle.net_cells.specs.declared.cell.Kind.TheVariants.{In}
use Rattle.net_cells.specs.Numbered.{server_of_hop, queue_of_hop}
use Rattle.net_cells.specs.declared.visit.Visit.{Visit}
use Rattle.net_cells.specs.Visits.{others}
use Rattle.net_cells.specs.Order.{at_visit}
use Rattle.net_cells.specs.cell_table.Values.{answer_of, meaning_of}
use Rattle.cell_numbers.specs.declared.found.Pick.TheVariants.{InQueue}
use Rattle.cell_numbers.specs.Chosen.{all_chosen}
use Rattle.cell_eval.specs.Partial.{Adds}
use Rattle.cell_numbers.proofs.Choosing.{other_visits}
use Rattle.outcomes.specs.Spending.{Counts}
use Rattle.cell_eval.proofs.Arms.{cross_ready}
use Rattle.cell_eval.proofs.inputs.Inputs.cross.Goals as goal

pub flows_sum-made-requires : goal.flows_sum-made-requires
flows_sum-made-requires g c =
    rw (c.place_of-place.ensures.server, c.place_of-place.ensures.queue)
    (cross_ready c.args.self.now.net.now (g.T.Table.at c.args.self.now.table.now) c.args.flow c.args.hop c.requires)

pub returns : goal.returns
returns g c =
    let at = g.T.Table.at c.args.self.now.table.now in
    let net = c.args.self.now.net.now in
    let i = c.args.flow in
    let old = c.args.steps.now in
    let new = c.flows_sum-made.new.steps in
    let made = c.flows_sum-made.result in
    let s = server_of_hop net i c.args.hop in
    let q = queue_of_hop net i c.args.hop in
    let there = others net i s q in
    let cells = map (at_visit In) there in
    let chosen : Adds at [] (map (at_visit In) (all_chosen net s (InQueue q) (Some i) (length net.flows))) old new made =
    rw (c.place_of-place.ensures.server, c.place_of-place.ensures.queue) at c.flows_sum-made.ensures.sum in
    let adds = subst (λ (vs : List Visit). Adds at [] (map (at_visit In) vs) old new made) (sym (other_visits net i s q)) chosen in
    record {
      answer = c.summed.ensures.answer cells old new adds;
      counts = subst (λ n. Counts (n - 1) old new (answer_of meaning_of c.summed.result)) (length-map there (at_visit In))
          (c.summed.ensures.counts cells old new adds);
      memory = c.summed.ensures.memory cells old new adds;
    }
