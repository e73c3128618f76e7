use Rattle.std.proofs.Common.{◌≡◌, ◌<◌, ◌+◌, ◌-◌, List, length, sum_by, Some, Err, ◌∙◌, refl, ap, arith}
use Rattle.std.proofs.lemmas.List.{drop_all, take_all}
use Rattle.std.proofs.lemmas.List.Sums.{sum_by_more, sum_by_more_le}
use Rattle.outcomes.specs.Stages.{IsEqual}
use Rattle.outcomes.specs.Spending.{Spends}
use Rattle.outcomes.proofs.Spending.{spends_all, spends_refused}
use Rattle.net_cells.specs.declared.cell.Cell.{Cell}
use Rattle.net_cells.specs.declared.cell_table.fault.AnalysisFault.TheVariants.{NoMemory}
use Rattle.net_cells.specs.Meanings.{CellTable}
use Rattle.net_cells.specs.CellFormulas.{formula}
use Rattle.net_cells.specs.Work.{work}
use Rattle.net_cells.specs.MemoryEnds.{making, keeping}
use Rattle.net_cells.proofs.Tables.{answered_meets}
use Rattle.net_cells.proofs.Works.{work_is}
use Rattle.net_cells.proofs.cell_table.Fronts.{no_cell, cell_at}
use Rattle.net_cells.proofs.cell_table.GivesAnswers.{gives_ok}
use Rattle.cell_rules.specs.cell_values.Placed.{placed}
use Rattle.cell_rules.specs.cell_values.Edits.{EndsAtTouched}
use Rattle.cell_rules.proofs.cell_values.Fronts.{next_of, next_is_cell, next_below, next_has_slot, made_at, all_answered, refused, same_untouched, still_others, ends_at}
use Rattle.cell_rules.proofs.cell_values.Wanting.{wants_memory}
use Rattle.cell_rules.proofs.cell_values.anew.made_anew.Given.{Over}
use Rattle.cell_rules.proofs.cell_values.anew.made_anew.Goals.{In-Ok}
use Rattle.cell_rules.proofs.cell_values.anew.made_anew.Goals as goal

pub eval-requires-clause-cell : goal.eval-requires-clause-cell
eval-requires-clause-cell g c =
    let within : c.loop-cell.cell-index < length c.args.touched.now = omega arith in
    next_is_cell c.keeps.ensures c.requires.servers
    (next_of c.requires within c.loop-cell.invariant.others (c.loop-cell.invariant.reached c.requires))

pub eval-requires-clause-below : goal.eval-requires-clause-below
eval-requires-clause-below g c =
    let within : c.loop-cell.cell-index < length c.args.touched.now = omega arith in
    next_below c.keeps.ensures c.requires.servers
    (next_of c.requires within c.loop-cell.invariant.others (c.loop-cell.invariant.reached c.requires))

pub put-requires : goal.put-requires
put-requires g c =
    let within : c.loop-cell.cell-index < length c.args.touched.now = omega arith in
    next_has_slot c.keeps.ensures c.requires.servers
    (next_of c.requires within c.loop-cell.invariant.others (c.loop-cell.invariant.reached c.requires))

pub returns-in-Err-clause-refused : goal.returns-in-Err-clause-refused
returns-in-Err-clause-refused g c =
    let edit = c.requires in
    let within : c.loop-cell.cell-index < length c.args.touched.now = omega arith in
    refused edit.old c.args.net.now edit.order (placed g.V.CellValue.meaning c.loop-cell.values.versions.newest) c.args.touched.now
    c.loop-cell.cell-index c.in-Err.fault c.refusal.result c.refusal.ensures within edit.servers
    (next_of edit within c.loop-cell.invariant.others (c.loop-cell.invariant.reached edit)) c.in-Err.ensures.answer

-- ---- what is counted, and want of memory
pub returns-in-Err-clause-spends : goal.returns-in-Err-clause-spends
returns-in-Err-clause-spends g c =
    let net = c.args.net.now in
    let touched = c.args.touched.now in
    let i = c.loop-cell.cell-index in
    let before : CellTable = placed g.V.CellValue.meaning c.args.values.now.versions.newest in
    let at : CellTable = placed g.V.CellValue.meaning c.loop-cell.values.versions.newest in
    let within : i < length touched = omega arith in
    let next = next_of c.requires within c.loop-cell.invariant.others (c.loop-cell.invariant.reached c.requires) in
    let cost = c.loop-cell.invariant.cost in
    let rises = c.in-Err.ensures.spends.rises in
    let most = (c.in-Err.ensures.spends.counts (work net (cell_at touched i)) refl).most in
    let more = sum_by_more_le (work net) touched i no_cell within in
    let mid = g.E.Evaluator.count c.loop-cell.eval in
    let new = g.E.Evaluator.count c.eval.new.self in
    let counted = new - g.E.Evaluator.count c.args.eval.now in
    spends_refused (sum_by (work net) touched) c.refusal.result (omega (arith, cost, rises)) (omega (arith, cost, most, more))
    (wants_memory (EndsAtTouched net touched before counted) (cell_at touched i) c.in-Err.fault c.refusal.result c.refusal.ensures
    (λ lack. ends_at c.requires.old net c.requires.order before at touched i (new - mid) counted within c.loop-cell.invariant.others next
    (making (c.in-Err.ensures.spends.memory (ap Err lack))) (omega (arith, cost, rises))))
    (c.in-Err.ensures.spends.same ∙ c.loop-cell.invariant.same)

-- a value that cannot be kept: the next cell's work is counted
not_kept : (g : Over) (c : In-Ok g)
    → Spends {A = Unit {0}} g.E.Evaluator.count g.E.Evaluator.counter (IsEqual (sum_by (work c.args.net.now) c.args.touched.now)) NoMemory
    (EndsAtTouched c.args.net.now c.args.touched.now (placed g.V.CellValue.meaning c.args.values.now.versions.newest))
    c.args.eval.now c.eval.new.self (Err NoMemory)
not_kept g c =
    let net = c.args.net.now in
    let touched = c.args.touched.now in
    let i = c.loop-cell.cell-index in
    let next = cell_at touched i in
    let at : CellTable = placed g.V.CellValue.meaning c.loop-cell.values.versions.newest in
    let value = g.V.CellValue.meaning c.in-Ok.value in
    let cost = c.loop-cell.invariant.cost in
    let exact = (c.in-Ok.ensures.spends.counts (work net next) refl).exact in
    let within : i < length touched = omega arith in
    let more = sum_by_more_le (work net) touched i no_cell within in
    spends_refused (sum_by (work net) touched) NoMemory (omega (arith, cost, exact)) (omega (arith, cost, exact, more))
    (λ lack. ends_at c.requires.old net c.requires.order (placed g.V.CellValue.meaning c.args.values.now.versions.newest) at touched i
    (work net next) (g.E.Evaluator.count c.eval.new.self - g.E.Evaluator.count c.args.eval.now) within
    c.loop-cell.invariant.others (next_of c.requires within c.loop-cell.invariant.others (c.loop-cell.invariant.reached c.requires))
    (keeping value (gives_ok at (formula net next) value c.in-Ok.ensures.answer) (work_is net next)) (omega (arith, cost, exact)))
    (c.in-Ok.ensures.spends.same ∙ c.loop-cell.invariant.same)

pub returns-in_default-clause-spends : goal.returns-in_default-clause-spends
returns-in_default-clause-spends g c = not_kept g (goal.at.returns-in_default-clause-spends g c).In-Ok

pub returns-in-Err-put-clause-spends : goal.returns-in-Err-put-clause-spends
returns-in-Err-put-clause-spends g c = not_kept g (goal.at.returns-in-Err-put-clause-spends g c).In-Ok

pub returns-clause-spends : goal.returns-clause-spends
returns-clause-spends g c =
    let net = c.args.net.now in
    let touched = c.args.touched.now in
    let old = g.E.Evaluator.count c.args.eval.now in
    let all : g.E.Evaluator.count c.loop-cell.eval ≡ old + sum_by (work net) touched =
    c.loop-cell.invariant.cost
    ∙ ap (λ (cells : List Cell). old + sum_by (work net) cells) (take_all c.loop-cell.cell-index touched (omega arith)) in
    spends_all (sum_by (work net) touched) all c.loop-cell.invariant.same

-- ---- the cells that are made
pub loop-cell-preserved : goal.loop-cell-preserved
loop-cell-preserved g c =
    let net = c.args.net.now in
    let touched = c.args.touched.now in
    let i = c.loop-cell.cell-index in
    let meaning = g.V.CellValue.meaning in
    let before : CellTable = placed meaning c.args.values.now.versions.newest in
    let at : CellTable = placed meaning c.loop-cell.values.versions.newest in
    let next : CellTable = placed meaning c.put.new.self.versions.newest in
    let within : i < length touched = omega arith in
    let put : next (cell_at touched i) ≡ Some (meaning c.in-Ok.value) =
    c.in_default-put.ensures.put ∙ ap (λ v. Some (meaning v)) c.in-Ok-new.ensures.ok in
    record {
      reached = λ edit.
          made_at edit.old net edit.order at next touched i (meaning c.in-Ok.value) c.keeps.ensures edit.servers within
          (next_of edit within c.loop-cell.invariant.others (c.loop-cell.invariant.reached edit)) c.in-Ok.ensures.answer put
          c.in_default-put.ensures.others;
      others = still_others touched i before at next within c.loop-cell.invariant.others c.in_default-put.ensures.others;
      before = c.put.ensures.before ∙ c.loop-cell.invariant.before;
      cost = let more = sum_by_more (work net) touched i no_cell (omega arith) in
          omega (arith, more, (c.in-Ok.ensures.spends.counts (work net (cell_at touched i)) refl).exact, c.loop-cell.invariant.cost);
      same = c.in-Ok.ensures.spends.same ∙ c.loop-cell.invariant.same;
    }

pub returns-clause-answers : goal.returns-clause-answers
returns-clause-answers g c =
    let net = c.args.net.now in
    let touched = c.args.touched.now in
    let edit = c.requires in
    let before : CellTable = placed g.V.CellValue.meaning c.args.values.now.versions.newest in
    let at : CellTable = placed g.V.CellValue.meaning c.loop-cell.values.versions.newest in
    let same = same_untouched edit.old net _ touched before at edit.are c.loop-cell.invariant.others in
    all_answered edit.old net edit.order before at touched c.loop-cell.cell-index c.keeps.ensures edit.servers edit.answered same (drop_all c.loop-cell.cell-index touched (omega arith)) (c.loop-cell.invariant.reached edit)

pub returns-clause-meets : goal.returns-clause-meets
returns-clause-meets g c = λ d h.
    answered_meets c.args.net.now (placed g.V.CellValue.meaning c.loop-cell.values.versions.newest) d (returns-clause-answers g c d h)
