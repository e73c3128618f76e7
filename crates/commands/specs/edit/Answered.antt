-- What is said of edits, and which network is the present one after them. Own choice.
use Rattle.std.specs.Prelude.{◌≡◌, ℕ, List, [], ◌∷◌, ◌++◌, length, Err}
use Rattle.net_model.specs.declared.edit.Edit.{Edit}
use Rattle.net_model.specs.declared.edit.Edit.TheVariants.{Undo}
use Rattle.net_model.specs.Networks.{Net}
use Rattle.net_model.specs.Accepted.{IsAccepted}
use Rattle.net_model.specs.Orders.{IsOrder}
use Rattle.net_cells.specs.declared.cell.Cell.{Cell}
use Rattle.net_cells.specs.Meanings.{CellTable}
use Rattle.net_cells.specs.FirstOver.{AnswersAll}
use Rattle.net_cells.specs.Order.{evaluation_order}
use Rattle.net_edits.specs.declared.fault.EditFault.{EditFault}
use Rattle.cell_store.specs.edit_store.Stored.{AreTouched}
use Rattle.cell_store.specs.edit_store.Applied.{Gives}
use Rattle.commands.specs.edit_report.Said.{EditSaid, Made, said_of}
use Rattle.commands.specs.edit.NetHistories.{NetHistory}
use Rattle.commands.specs.edit.Causes.{IsCause}

-- what every network keeps is kept, the servers have an order, and no cell is over a limit: each has its answer
pub record IsAnalysed (net : Net) (at : CellTable) : Type 0 where
  pub accepted : IsAccepted net
  pub order : List ℕ
  pub ordered : IsOrder net order
  pub answers : AnswersAll net at (evaluation_order net order)

-- ---- one edit
-- it is taken: the edited network comes on top, and it is told how many of its cells the edit touches
pub record IsTaken (old : NetHistory) (edit : Edit) (said : EditSaid) (new : NetHistory) : Type 0 where
  pub gives : Gives old.present edit new.present
  pub before : new.before ≡ old.before ++ old.present ∷ []
  pub table : CellTable
  pub analysed : IsAnalysed new.present table
  pub touched : List Cell
  pub are : AreTouched old.present new.present touched
  pub says : said ≡ Made (length touched)

-- it is an undo: the network before comes back, and no cell is touched
pub record IsUndone (old : NetHistory) (edit : Edit) (said : EditSaid) (new : NetHistory) : Type 0 where
  pub undo : edit ≡ Undo
  pub back : old.before ≡ new.before ++ new.present ∷ []
  pub says : said ≡ Made 0

-- it is refused: all is as before, and the first cause is told
pub record IsRefused (old : NetHistory) (edit : Edit) (said : EditSaid) (new : NetHistory) : Type 0 where
  pub same : new ≡ old
  pub fault : EditFault
  pub named_by : Net
  pub cause : IsCause old edit fault named_by
  pub says : said ≡ said_of named_by (Err fault)

pub data IsAnswered (old : NetHistory) (edit : Edit) (said : EditSaid) (new : NetHistory) : Type 0 where
  Taken : IsTaken old edit said new → IsAnswered old edit said new
  Undone : IsUndone old edit said new → IsAnswered old edit said new
  Refused : IsRefused old edit said new → IsAnswered old edit said new

-- ---- edits in turn
-- a first step, and then the others
pub record Then (First Rest : NetHistory → Type 0) : Type 0 where
  pub next : NetHistory
  pub first : First next
  pub rest : Rest next

-- this is said of each edit, and it moves what the edits before it left
abbrev pub AreAnswered : NetHistory → List Edit → List EditSaid → NetHistory → Type 0
AreAnswered old [] [] new = new ≡ old
AreAnswered old [] (said ∷ more) new = ⊥
AreAnswered old (edit ∷ edits) [] new = ⊥
AreAnswered old (edit ∷ edits) (said ∷ more) new =
    Then (IsAnswered old edit said) (λ next. AreAnswered next edits more new)
