use Rattle.std.proofs.Common.{◌-◌, length, map, sym, subst}
use Rattle.std.specs.Prelude.{All}
use Rattle.net_cells.specs.Answers.{SumsOf}
use Rattle.net_cells.specs.cell_table.Values.{answer_of, meaning_of}
use Rattle.outcomes.specs.Spending.{Counts}
use Rattle.cell_eval.specs.Parts.{IsHeld, curve_of}
use Rattle.cell_eval.proofs.PartSteps.{refused_gives, made_gives, made_counts}
use Rattle.std.specs.Prelude.{IfErr}
use Rattle.net_cells.specs.CellFormulas.{parts_sum}
use Rattle.net_cells.specs.QueueParts.{part_numbers}
use Rattle.net_cells.specs.Refusals.{RefusedAt, SumsRefused}
use Rattle.cell_eval.proofs.PartSteps.{made_refused}
use Rattle.cell_eval.proofs.OperatorStopping.{err_map}
use Rattle.cell_eval.proofs.inputs.Inputs.parts_sum.Goals as goal

pub added_up-requires : goal.added_up-requires
added_up-requires g c = subst (All (IsHeld (g.T.Table.at c.args.self.now.table.now))) (sym c.deref.ensures.0) c.in-Ok.ensures.made.held

pub returns-in-Ok-clause-answer : goal.returns-in-Ok-clause-answer
returns-in-Ok-clause-answer g c =
    let at = g.T.Table.at c.args.self.now.table.now in
    let r = answer_of meaning_of c.added_up.result in
    made_gives at c.args.self.now.net.now c.args.place.0 c.args.place.1 c.in-Ok.parts.items c.args.steps.now c.parts_made.new.steps r c.in-Ok.ensures.made
    (subst (λ ps. SumsOf (map (curve_of at) ps) r) c.deref.ensures.0 c.added_up.ensures.sum)

pub returns-in-Ok-clause-counts : goal.returns-in-Ok-clause-counts
returns-in-Ok-clause-counts g c =
    let at = g.T.Table.at c.args.self.now.table.now in
    let r = answer_of meaning_of c.added_up.result in
    made_counts at c.args.self.now.net.now c.args.place.0 c.args.place.1 c.in-Ok.parts.items c.args.steps.now c.parts_made.new.steps c.added_up.new.steps r
    c.in-Ok.ensures.made (subst (λ ps. Counts (length ps - 1) c.parts_made.new.steps c.added_up.new.steps r) c.deref.ensures.0 c.added_up.ensures.counts)

pub returns-in-Err-clause-answer : goal.returns-in-Err-clause-answer
returns-in-Err-clause-answer g c =
    refused_gives (g.T.Table.at c.args.self.now.table.now) c.args.self.now.net.now c.args.place.0 c.args.place.1 c.in-Err.fault c.args.steps.now c.parts_made.new.steps
    c.in-Err.ensures.refused

pub returns-in-Err-clause-counts : goal.returns-in-Err-clause-counts
returns-in-Err-clause-counts g c =
    record { exact = tt; least = c.in-Err.ensures.refused.least; most = c.in-Err.ensures.refused.most }

pub returns-in-Ok-clause-refused : goal.returns-in-Ok-clause-refused
returns-in-Ok-clause-refused g c =
    let at = g.T.Table.at c.args.self.now.table.now in
    let net = c.args.self.now.net.now in
    let s = c.args.place.0 in
    let q = c.args.place.1 in
    let mid = c.parts_made.new.steps in
    let new = c.added_up.new.steps in
    let fs = map (curve_of at) c.in-Ok.parts.items in
    let least = c.added_up.ensures.counts.least in
    err_map c.added_up.result (λ e. SumsRefused fs e (new - mid))
    (λ e. RefusedAt at (parts_sum net s q (part_numbers net)) e (new - c.args.steps.now))
    (λ e r. made_refused at net s q c.in-Ok.parts.items c.args.steps.now mid new e c.in-Ok.ensures.made least r)
    (subst (λ ps. IfErr c.added_up.result (λ e. SumsRefused (map (curve_of at) ps) e (new - mid))) c.deref.ensures.0 c.added_up.ensures.refused)

pub returns-in-Err-clause-refused : goal.returns-in-Err-clause-refused
returns-in-Err-clause-refused g c = c.in-Err.ensures.refused.refused
