-- How many steps a list of edits takes: an operator on curves takes one.
use Rattle.std.specs.Prelude.{◌≡◌, ◌≢◌, ◌⊎◌, ◌+◌, ◌≤◌, ℕ, List, [], ◌∷◌, map, Result, OnOk}
use Rattle.net_model.specs.declared.edit.Edit.{Edit}
use Rattle.net_model.specs.Networks.{Net}
use Rattle.net_model.specs.Orders.{IsOrder}
use Rattle.net_model.specs.Walks.{IsCycle}
use Rattle.input_texts.specs.table_text.EditRows.{edit_view}
use Rattle.cell_store.specs.edit_store.Applied.{IsWorkOf}
use Rattle.commands.specs.edit_report.Said.{EditSaid}
use Rattle.command_replies.specs.CellWork.{work_of_cells}
use Rattle.commands.specs.edit.NetHistories.{NetHistory, begun}
use Rattle.commands.specs.edit.Answered.{IsTaken, IsAnswered}
use Rattle.commands.specs.edit.OnEdits.{AsksFor}

-- ---- one edit
-- the edit is taken, whatever is said of it
abbrev pub Takes : NetHistory → Edit → NetHistory → Type 0
Takes old edit new = (said : EditSaid) × IsTaken old edit said new

-- all of it where the edit is taken, and none where it is not
abbrev pub IsTakenWork : NetHistory → Edit → NetHistory → (count done : ℕ) → Type 0
IsTakenWork old edit new count done = (Takes old edit new × (done ≡ count)) ⊎ (¬ (Takes old edit new) × (done ≡ 0))

-- no more than its work, and no less than that where it is taken
pub record CountsOnEdit (old : NetHistory) (edit : Edit) (next : NetHistory) (before after : ℕ) : Type 0 where
  pub rises : before ≤ after
  pub most : (count : ℕ) → IsWorkOf old.present edit count → after ≤ before + count
  pub least : (count done : ℕ) → IsWorkOf old.present edit count → IsTakenWork old edit next count done → before + done ≤ after

-- ---- edits in turn
-- the work of a first edit and that of the others, where Rest tells it: of all edits, and of those that are taken
pub record FirstWork (old : NetHistory) (edit : Edit) (Rest : NetHistory → ℕ → ℕ → Type 0) (all done : ℕ) : Type 0 where
  pub said : EditSaid
  pub next : NetHistory
  pub answered : IsAnswered old edit said next
  pub count : ℕ
  pub is_count : IsWorkOf old.present edit count
  pub taken : ℕ
  pub is_taken : IsTakenWork old edit next count taken
  pub rest_all : ℕ
  pub rest_done : ℕ
  pub rest : Rest next rest_all rest_done
  pub sum_all : all ≡ count + rest_all
  pub sum_done : done ≡ taken + rest_done

abbrev pub WorkOfEdits : NetHistory → List Edit → (all done : ℕ) → Type 0
WorkOfEdits old [] all done = (all ≡ 0) × (done ≡ 0)
WorkOfEdits old (edit ∷ edits) all done = FirstWork old edit (λ next. WorkOfEdits next edits) all done

-- no more than the work of all, and where there is an answer no less than that of those that are taken
pub record CountsInTurn {A E : Type 0} (old : NetHistory) (edits : List Edit) (before after : ℕ) (r : Result A E) : Type 0 where
  pub rises : before ≤ after
  pub most : (all done : ℕ) → WorkOfEdits old edits all done → after ≤ before + all
  pub least : OnOk r ((all done : ℕ) → WorkOfEdits old edits all done → before + done ≤ after)

-- ---- the whole call
-- by a network and edits: no more than the work of all cells of the network and of what the edits touch, and where
-- there is a report no less than that of all cells and of what the edits that are taken touch; none by a cycle
pub record CountsOnEdits (net : Net) (edits : List Edit) (status old new : ℕ) : Type 0 where
  pub rises : old ≤ new
  pub most : (order : List ℕ) (all done : ℕ) → IsOrder net order → WorkOfEdits (begun net) edits all done
      → new ≤ old + (work_of_cells net order + all)
  pub report : status ≡ 0 → (order : List ℕ) (all done : ℕ) → IsOrder net order
      → WorkOfEdits (begun net) edits all done → old + (work_of_cells net order + done) ≤ new
  pub round : (walk : List ℕ) → IsCycle net walk → new ≡ old

-- by a network: none where the list gives no edits
pub record CountsOnList (net : Net) (edits_bytes : List ℕ) (status old new : ℕ) : Type 0 where
  pub edits : List Edit
  pub asked : AsksFor edits_bytes (map edit_view edits)
  pub counts : CountsOnEdits net edits status old new

abbrev pub CountsOnNet : Net → List ℕ → (status old new : ℕ) → Type 0
CountsOnNet net edits_bytes status old new =
    ((status ≢ 0) × (new ≡ old)) ⊎ CountsOnList net edits_bytes status old new
