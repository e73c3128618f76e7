use Rattle.std.proofs.Common.{◌≡◌, ◌-◌, ◌∙◌, List, [], map, sym, subst, true, false, inr}
use Rattle.std.specs.Prelude.{◌==◌}
use Rattle.std.proofs.lemmas.Bool.{eq-eqb, ne_eqb}
use Rattle.std.proofs.lemmas.List.{length-map}
use Rattle.net_cells.specs.declared.cell.Kind.TheVariants.{In}
use Rattle.net_cells.specs.declared.visit.Visit.{Visit}
use Rattle.net_cells.specs.Visits.{visits_in}
use Rattle.net_cells.specs.Order.{at_visit}
use Rattle.net_cells.specs.cell_table.Values.{answer_of, meaning_of}
use Rattle.cell_eval.specs.Partial.{Adds}
use Rattle.cell_numbers.proofs.Choosing.{queue_visits}
use Rattle.outcomes.specs.Spending.{Counts}
use Rattle.cell_eval.proofs.Arms.{total_ready, parts_ready, total_evaluates}
use Rattle.net_cells.specs.CellFormulas.{parts_sum}
use Rattle.net_cells.specs.QueueParts.{part_numbers}
use Rattle.net_cells.specs.Refusals.{RefusedAt}
use Rattle.cell_eval.proofs.Stopping.{at_refusal}
use Rattle.cell_eval.proofs.inputs.Inputs.total.Goals as goal

pub parts_sum-requires : goal.parts_sum-requires
parts_sum-requires g c =
    let net = c.args.self.now.net.now in
    let second : (net.version == 2) ≡ true = eq-eqb net.version 2 (sym c.version.ensures.version ∙ c.if-version-eq2.true) in
    parts_ready net (g.T.Table.at c.args.self.now.table.now) c.args.place.0 c.args.place.1 second c.requires

pub returns-then-version-eq2 : goal.returns-then-version-eq2
returns-then-version-eq2 g c =
    let net = c.args.self.now.net.now in
    let second : (net.version == 2) ≡ true = eq-eqb net.version 2 (sym c.version.ensures.version ∙ c.if-version-eq2.true) in
    total_evaluates net (g.T.Table.at c.args.self.now.table.now) c.args.place.0 c.args.place.1 true c.args.steps.now _ _ second
    c.parts_sum.ensures.answer c.parts_sum.ensures.counts
    (λ is. inr (at_refusal meaning_of c.parts_sum.result
    (λ e. RefusedAt (g.T.Table.at c.args.self.now.table.now) (parts_sum net c.args.place.0 c.args.place.1 (part_numbers net)) e
    (c.parts_sum.new.steps - c.args.steps.now)) c.parts_sum.ensures.refused is))

pub flows_sum-made-requires : goal.flows_sum-made-requires
flows_sum-made-requires g c =
    let net = c.args.self.now.net.now in
    let first : (net.version == 2) ≡ false = ne_eqb net.version 2 (λ e. c.if-version-eq2.false (c.version.ensures.version ∙ e)) in
    total_ready net (g.T.Table.at c.args.self.now.table.now) c.args.place.0 c.args.place.1 first c.requires

pub returns : goal.returns
returns g c =
    let at = g.T.Table.at c.args.self.now.table.now in
    let net = c.args.self.now.net.now in
    let old = c.args.steps.now in
    let new = c.flows_sum-made.new.steps in
    let there = visits_in net c.args.place.0 c.args.place.1 in
    let cells = map (at_visit In) there in
    let first : (net.version == 2) ≡ false = ne_eqb net.version 2 (λ e. c.if-version-eq2.false (c.version.ensures.version ∙ e)) in
    let adds = subst (λ (vs : List Visit). Adds at [] (map (at_visit In) vs) old new c.flows_sum-made.result)
    (sym (queue_visits net c.args.place.0 c.args.place.1)) c.flows_sum-made.ensures.sum in
    total_evaluates net at c.args.place.0 c.args.place.1 false old new (answer_of meaning_of c.summed.result) first
    (c.summed.ensures.answer cells old new adds)
    (subst (λ n. Counts (n - 1) old new (answer_of meaning_of c.summed.result)) (length-map there (at_visit In))
    (c.summed.ensures.counts cells old new adds))
    (c.summed.ensures.memory cells old new adds)
