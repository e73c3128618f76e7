use Rattle.std.proofs.Common.{◌≡◌, ◌+◌, ◌-◌, List, ◌∷◌, [], ◌++◌, take, drop, sum_by, refl, sym, ap, ◌∙◌, subst, arith, Err}
use Rattle.std.proofs.lemmas.List.{take_all, take_more}
use Rattle.std.proofs.lemmas.List.Sums.{sum_by_more, sum_by_more_le}
use Rattle.outcomes.proofs.Spending.{spends_all, spends_refused}
use Rattle.net_cells.specs.declared.cell.Cell.{Cell}
use Rattle.net_cells.specs.declared.cell_table.fault.AnalysisFault.TheVariants.{NoMemory}
use Rattle.net_cells.specs.Meanings.{CellTable}
use Rattle.net_cells.specs.Order.{evaluation_order}
use Rattle.net_cells.specs.FirstOver.{AnswersAll}
use Rattle.net_cells.specs.Work.{work}
use Rattle.net_cells.proofs.Precedes.{in_front}
use Rattle.net_cells.proofs.Tables.{answers_meet, front_meets_below}
use Rattle.net_cells.specs.cell_table.Rows.{held}
use Rattle.cell_eval.specs.flow_analysis.Analyses.{HasNothingElse}
use Rattle.net_cells.proofs.cell_table.Fronts.{no_cell, cell_at, at_place, grown}
use Rattle.cell_eval.proofs.flow_analysis.Fronts.{still_nothing, refused, lacks_too, ends_here}
use Rattle.net_cells.specs.CellFormulas.{formula}
use Rattle.net_cells.specs.MemoryEnds.{making, keeping}
use Rattle.net_cells.proofs.Works.{work_is}
use Rattle.net_cells.proofs.cell_table.GivesAnswers.{gives_ok}
use Rattle.cell_eval.proofs.flow_analysis.each_cell.analysed.Goals as goal

pub eval-requires-clause-cell : goal.eval-requires-clause-cell
eval-requires-clause-cell g c =
    let cells = c.args.cells.now in
    let i = c.loop-cell.cell-index in
    in_front c.args.net.now c.requires.order (take i cells) (cell_at cells i) (drop (i + 1) cells)
    (sym c.requires.are ∙ at_place cells i (omega arith))

pub eval-requires-clause-below : goal.eval-requires-clause-below
eval-requires-clause-below g c =
    let cells = c.args.cells.now in
    let i = c.loop-cell.cell-index in
    let at : CellTable = held g.V.CellValue.meaning c.loop-cell.table.rows.items in
    front_meets_below c.args.net.now c.requires.order at c.keeps.ensures c.requires.servers (take i cells)
    (drop (i + 1) cells) (cell_at cells i) (sym c.requires.are ∙ at_place cells i (omega arith))
    c.loop-cell.invariant.answers

pub returns-in-Err-clause-refused : goal.returns-in-Err-clause-refused
returns-in-Err-clause-refused g c =
    let cells = c.args.cells.now in
    let i = c.loop-cell.cell-index in
    let at : CellTable = held g.V.CellValue.meaning c.loop-cell.table.rows.items in
    refused c.args.net.now cells at (take i cells) (cell_at cells i) (drop (i + 1) cells) c.in-Err.fault
    c.refusal.result c.refusal.ensures (at_place cells i (omega arith)) c.loop-cell.invariant.answers
    c.in-Err.ensures.answer

pub loop-cell-preserved : goal.loop-cell-preserved
loop-cell-preserved g c =
    let net = c.args.net.now in
    let cells = c.args.cells.now in
    let i = c.loop-cell.cell-index in
    let at : CellTable = held g.V.CellValue.meaning c.loop-cell.table.rows.items in
    let next : CellTable = held g.V.CellValue.meaning c.put.new.self.rows.items in
    let whole : evaluation_order net c.requires.order ≡ take i cells ++ cell_at cells i ∷ drop (i + 1) cells =
    sym c.requires.are ∙ at_place cells i (omega arith) in
    let longer : take (i + 1) cells ≡ take i cells ++ cell_at cells i ∷ [] = take_more cells i no_cell (omega arith) in
    let all : AnswersAll net next (take i cells ++ cell_at cells i ∷ []) =
    grown net c.requires.order at next (take i cells) (cell_at cells i) (drop (i + 1) cells)
    (g.V.CellValue.meaning c.in-Ok.value) c.keeps.ensures c.requires.servers whole c.loop-cell.invariant.answers
    c.in-Ok.ensures.answer c.in_default.ensures.put c.in_default.ensures.others in
    let none : HasNothingElse next (take i cells ++ cell_at cells i ∷ []) =
    still_nothing at next (take i cells) (cell_at cells i) c.loop-cell.invariant.nothing c.in_default.ensures.others in
    record {
      answers = subst (λ (xs : List Cell). AnswersAll net next xs) (sym longer) all;
      nothing = subst (λ (xs : List Cell). HasNothingElse next xs) (sym longer) none;
      cost = let more = sum_by_more (work net) cells i no_cell (omega arith) in
          omega (arith, more, (c.in-Ok.ensures.spends.counts (work net (cell_at cells i)) refl).exact, c.loop-cell.invariant.cost);
      same = c.in-Ok.ensures.spends.same ∙ c.loop-cell.invariant.same;
    }

pub returns-clause-table : goal.returns-clause-table
returns-clause-table g c =
    let net = c.args.net.now in
    let cells = c.args.cells.now in
    let at : CellTable = held g.V.CellValue.meaning c.loop-cell.table.rows.items in
    let all : take c.loop-cell.cell-index cells ≡ cells = take_all c.loop-cell.cell-index cells (omega arith) in
    let answers : AnswersAll net at cells = subst (λ (xs : List Cell). AnswersAll net at xs) all c.loop-cell.invariant.answers in
    record {
      meets = answers_meet net c.requires.order at c.keeps.ensures c.requires.servers
          (subst (λ (xs : List Cell). AnswersAll net at xs) c.requires.are answers);
      answers = answers;
      nothing = subst (λ (xs : List Cell). HasNothingElse at xs) all c.loop-cell.invariant.nothing;
    }

-- ---- what is counted, and want of memory
pub returns-in-Err-clause-spends : goal.returns-in-Err-clause-spends
returns-in-Err-clause-spends g c =
    let net = c.args.net.now in
    let cells = c.args.cells.now in
    let i = c.loop-cell.cell-index in
    let at : CellTable = held g.V.CellValue.meaning c.loop-cell.table.rows.items in
    let mid = g.E.Evaluator.count c.loop-cell.eval in
    let new = g.E.Evaluator.count c.eval.new.self in
    let cost = c.loop-cell.invariant.cost in
    let rises = c.in-Err.ensures.spends.rises in
    let most = (c.in-Err.ensures.spends.counts (work net (cell_at cells i)) refl).most in
    let more = sum_by_more_le (work net) cells i no_cell (omega arith) in
    spends_refused (sum_by (work net) cells) c.refusal.result (omega (arith, cost, rises)) (omega (arith, cost, most, more))
    (λ lack. ends_here net cells at i (new - mid) (new - g.E.Evaluator.count c.args.eval.now) (omega arith) c.loop-cell.invariant.answers
    (making (c.in-Err.ensures.spends.memory (ap Err (lacks_too (cell_at cells i) c.in-Err.fault c.refusal.result c.refusal.ensures lack))))
    (omega (arith, cost, rises)))
    (c.in-Err.ensures.spends.same ∙ c.loop-cell.invariant.same)

pub returns-in-Err-put-clause-spends : goal.returns-in-Err-put-clause-spends
returns-in-Err-put-clause-spends g c =
    let net = c.args.net.now in
    let cells = c.args.cells.now in
    let i = c.loop-cell.cell-index in
    let at : CellTable = held g.V.CellValue.meaning c.loop-cell.table.rows.items in
    let cost = c.loop-cell.invariant.cost in
    let exact = (c.in-Ok.ensures.spends.counts (work net (cell_at cells i)) refl).exact in
    let more = sum_by_more_le (work net) cells i no_cell (omega arith) in
    spends_refused (sum_by (work net) cells) NoMemory (omega (arith, cost, exact)) (omega (arith, cost, exact, more))
    (λ lack. ends_here net cells at i (work net (cell_at cells i)) (g.E.Evaluator.count c.eval.new.self - g.E.Evaluator.count c.args.eval.now)
    (omega arith) c.loop-cell.invariant.answers
    (keeping (g.V.CellValue.meaning c.in-Ok.value)
    (gives_ok at (formula net (cell_at cells i)) (g.V.CellValue.meaning c.in-Ok.value) c.in-Ok.ensures.answer)
    (work_is net (cell_at cells i))) (omega (arith, cost, exact)))
    (c.in-Ok.ensures.spends.same ∙ c.loop-cell.invariant.same)

pub returns-clause-spends : goal.returns-clause-spends
returns-clause-spends g c =
    let net = c.args.net.now in
    let cells = c.args.cells.now in
    let old = g.E.Evaluator.count c.args.eval.now in
    let all : g.E.Evaluator.count c.loop-cell.eval ≡ old + sum_by (work net) cells =
    c.loop-cell.invariant.cost
    ∙ ap (λ (some : List Cell). old + sum_by (work net) some) (take_all c.loop-cell.cell-index cells (omega arith)) in
    spends_all (sum_by (work net) cells) all c.loop-cell.invariant.same
