use Rattle.std.proofs.Common.{rules, arith, ◌≡◌, ℕ, Err, ap, ◌∙◌, sym, subst, refl, List, sum_by}
use Rattle.std.proofs.lemmas.Grind.{common_steps}
use Rattle.std.proofs.lemmas.Result.{IfOk-from_err, err_from_is_err_and}
use Rattle.outcomes.proofs.Spending.{spends_answer, spends_refusal, spends_stopped}
use Rattle.net_model.specs.Networks.{Net}
use Rattle.net_cells.specs.declared.cell.Cell.{Cell}
use Rattle.net_cells.specs.Work.{work}
use Rattle.net_cells.specs.Meanings.{Meaning}
use Rattle.net_edits.specs.Edited.{edited}
use Rattle.net_edits.specs.Replies.{IsOverNone}
use Rattle.net_edits.specs.declared.fault.EditFault.{EditFault}
use Rattle.cell_rules.specs.cell_values.Placed.{placed}
use Rattle.cell_rules.specs.cell_values.Edits.{EditEnds}
use Rattle.cell_store.specs.edit_store.Stored.{Stored, AreTouched, IsAdvanced}
use Rattle.cell_store.specs.edit_store.Applied.{Gives, IsPlanned, IsUnplanned, IsRefused, IsWorkOf, before_cells, in_cells}
use Rattle.cell_store.proofs.edit_store.Outcomes.{on_err, in_any, work_is, lacks_too, cell_refused, taken, unplanned_refused}
use Rattle.cell_store.proofs.edit_store.store.Store.step.Given.{Over}
use Rattle.cell_store.proofs.edit_store.store.Store.step.Goals.{After-advance}
use Rattle.cell_store.proofs.edit_store.store.Store.step.Goals as goal

-- ---- the store, once its spare network was changed
advanced_of : {V : Type 0} {was old : Stored V} (new : Stored V) (net : Net) → was ≡ old → IsAdvanced was net new → IsAdvanced old net new
advanced_of {V} {was} {old} new net same h = subst (λ (s : Stored V). IsAdvanced s net new) same h

ends_of : {V : Type 0} {was old : Stored V} (meaning : V → Meaning) (net : Net) (touched : List Cell) (n : ℕ) → was ≡ old
    → EditEnds net touched (placed meaning was.values.newest) n → EditEnds net touched (placed meaning old.values.newest) n
ends_of {V} {was} {old} meaning net touched n same h =
    subst (λ (s : Stored V). EditEnds net touched (placed meaning s.values.newest) n) same h

-- ---- what was planned
planned : (g : Over) (c : After-advance g)
    → IsPlanned c.args.self.now.present c.args.edit.now c.in_ok-planned.planned.net c.in_ok-planned.planned.touched.items
planned g c =
    subst (λ (n : Net). IsPlanned n c.args.edit.now c.in_ok-planned.planned.net c.in_ok-planned.planned.touched.items)
    (ap (λ s. s.present) c.self.view_is) c.in_ok-planned.ensures.planned

are : (g : Over) (c : After-advance g) → AreTouched c.args.self.now.present c.in_ok-planned.planned.net c.in_ok-planned.planned.touched.items
are g c = (planned g c).are

gives : (g : Over) (c : After-advance g) → Gives c.args.self.now.present c.args.edit.now c.in_ok-planned.planned.net
gives g c = (planned g c).gives

-- the work of the edit is that of these cells
all_work : (g : Over) (c : After-advance g) (n : ℕ) → IsWorkOf c.args.self.now.present c.args.edit.now n
    → sum_by (work c.in_ok-planned.planned.net) c.in_ok-planned.planned.touched.items ≡ n
all_work g c n is =
    work_is c.args.self.now.present c.args.edit.now c.in_ok-planned.planned.net c.in_ok-planned.planned.touched.items n (gives g c) (are g c) is

-- ---- taken
pub returns-in-Ok-clause-taken : goal.returns-in-Ok-clause-taken
returns-in-Ok-clause-taken g c =
    let here = (goal.at.returns-in-Ok-clause-taken g c).After-advance in
    taken c.args.self.now c.advance.new.self c.args.edit.now c.in_ok-planned.planned.net c.in_ok-planned.planned.touched.items _ (gives g here) (are g here)
    (advanced_of c.advance.new.self c.in_ok-planned.planned.net c.self.view_is c.in-Ok.ensures.advanced) (first_of (search rules, grind (arith, common_steps)))

-- ---- refused before
pub returns-in_err-planned-clause-refused : goal.returns-in_err-planned-clause-refused
returns-in_err-planned-clause-refused g c =
    let p = err_from_is_err_and c.from_residual.result c.from_residual.ensures.1 in
    let why = c.in_err-planned.field-0.0 in
    on_err c.from_residual.result (IsRefused c.args.self.now c.args.edit.now) p.0 why p.1 p.2
    (unplanned_refused c.args.self.now c.args.edit.now why c.requires.edit
    (subst (λ (n : Net). IsUnplanned n c.args.edit.now why) (ap (λ s. s.present) c.self.view_is) c.in_err-planned.ensures.refused))

pub returns-in_err-planned-clause-kept : goal.returns-in_err-planned-clause-kept
returns-in_err-planned-clause-kept g c = in_any c.from_residual.result _ c.self.view_is

pub advance-requires-clause-made : goal.advance-requires-clause-made
advance-requires-clause-made g c = c.in_ok-planned.ensures.made

-- ---- refused by a cell
pub returns-in-Err-clause-refused : goal.returns-in-Err-clause-refused
returns-in-Err-clause-refused g c =
    let here = (goal.at.returns-in-Err-clause-refused g c).After-advance in
    subst (λ (f : EditFault). IsRefused c.args.self.now c.args.edit.now f) (sym c.analysis_fault.ensures)
    (cell_refused c.args.self.now c.args.edit.now c.in_ok-planned.planned.net c.in_ok-planned.planned.touched.items c.in-Err.fault c.requires.edit (gives g here)
    (are g here) c.in-Err.ensures.refused)

pub returns-in_err-planned-clause-taken : goal.returns-in_err-planned-clause-taken
returns-in_err-planned-clause-taken g c = IfOk-from_err c.from_residual.result _ c.from_residual.ensures.0

-- ---- what is counted, and want of memory
pub returns-in_err-planned-clause-spends : goal.returns-in_err-planned-clause-spends
returns-in_err-planned-clause-spends g c =
    let p = err_from_is_err_and c.from_residual.result c.from_residual.ensures.1 in
    spends_stopped c.from_residual.result p.0 p.1 (λ lack n none. before_cells none
    (subst (λ (net : Net). IsOverNone (edited net c.args.edit.now)) (ap (λ s. s.present) c.self.view_is)
    (c.in_err-planned.ensures.memory (ap Err (sym p.2 ∙ lack)))))

pub returns-in-Ok-clause-spends : goal.returns-in-Ok-clause-spends
returns-in-Ok-clause-spends g c =
    spends_answer c.in-Ok.ensures.spends (all_work g (goal.at.returns-in-Ok-clause-spends g c).After-advance)

pub returns-in-Err-clause-spends : goal.returns-in-Err-clause-spends
returns-in-Err-clause-spends g c =
    let here = (goal.at.returns-in-Err-clause-spends g c).After-advance in
    spends_refusal c.in-Err.ensures.spends _ c.analysis_fault.result refl (all_work g here)
    (λ lack. lacks_too c.in-Err.fault (sym c.analysis_fault.ensures ∙ lack)) (λ n ends. in_cells (record {
      net = c.in_ok-planned.planned.net;
      gives = gives g here;
      touched = c.in_ok-planned.planned.touched.items;
      are = are g here;
      ends = ends_of g.V.CellValue.meaning c.in_ok-planned.planned.net c.in_ok-planned.planned.touched.items n c.self.view_is ends;
    }))
