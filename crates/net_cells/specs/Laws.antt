-- What holds of the cells of every network whose servers have an order. Own choice.
use Rattle.std.specs.Prelude.{◌≡◌, ◌≢◌, ℕ, List, ◌∷◌, ◌++◌, Ok, IsTrue, Contains, AllPairs}
use Rattle.upp_limits.specs.declared.op_kind.OpFault.{OpFault}
use Rattle.net_model.specs.Networks.{Net}
use Rattle.net_model.specs.Accepted.{IsAccepted}
use Rattle.net_model.specs.Orders.{IsOrder}
use Rattle.residuals.specs.CurveCalls.{IsDetermined}
use Rattle.residuals.specs.calls.InTurn.{IsPlaced}
use Rattle.net_cells.specs.declared.cell.Cell.{Cell}
use Rattle.net_cells.specs.Cells.{has_cell}
use Rattle.net_cells.specs.Order.{evaluation_order}
use Rattle.net_cells.specs.Formulas.{Formula, leaves, operators}
use Rattle.net_cells.specs.CellFormulas.{formula}
use Rattle.net_cells.specs.Meanings.{Meaning, CellTable}
use Rattle.net_cells.specs.Means.{Means}
use Rattle.net_cells.specs.Answers.{Answer, Answers}
use Rattle.net_cells.specs.Refusals.{RefusedAt}
use Rattle.net_cells.specs.Equations.{MeetsEquations, MeetsBelow}
use Rattle.net_cells.specs.FirstOver.{AnswersAll, FirstOver}
use Rattle.net_cells.specs.Work.{work}

-- ---- the order of the cells
-- exactly the cells of the network, each once
pub record IsListing (net : Net) (cells : List Cell) : Type 0 where
  pub only : (c : Cell) → Contains cells c → IsTrue (has_cell net c)
  pub all : (c : Cell) → IsTrue (has_cell net c) → Contains cells c
  pub once : AllPairs (λ c d. c ≢ d) cells

abbrev pub OrderHasEachCell : Type 0
OrderHasEachCell =
    (net : Net) (order : List ℕ) → IsAccepted net → IsOrder net order → IsListing net (evaluation_order net order)

-- the cells that a cell is made of stand before it
abbrev pub OperandsComeFirst : Type 0
OperandsComeFirst =
    (net : Net) (order : List ℕ) → IsAccepted net → IsOrder net order → (before after : List Cell) (c d : Cell)
    → evaluation_order net order ≡ before ++ c ∷ after → Contains (leaves (formula net c)) d → Contains before d

-- and are cells of the network too
abbrev pub OperandsAreCells : Type 0
OperandsAreCells =
    (net : Net) (order : List ℕ) → IsAccepted net → IsOrder net order → (c d : Cell) → IsTrue (has_cell net c)
    → Contains (leaves (formula net c)) d → IsTrue (has_cell net d)

-- no cell is made of another one twice
abbrev pub OperandsAreDifferent : Type 0
OperandsAreDifferent = (net : Net) (c : Cell) → AllPairs (λ d e. d ≢ e) (leaves (formula net c))

-- ---- formulas
-- two tables have the same values at a formula's cells
abbrev pub AgreeAtLeaves : Formula → CellTable → CellTable → Type 0
AgreeAtLeaves F at other = (c : Cell) → Contains (leaves F) c → at c ≡ other c

-- a formula means one value, and its answer is one, want of memory apart; where that is a value, the formula means it;
-- both read the formula's own cells alone
pub record FormulasAreDetermined : Type 0 where
  pub meaning : (at : CellTable) (F : Formula) (v w : Meaning) → Means at F v → Means at F w → v ≡ w
  pub answer : (at : CellTable) (F : Formula) → IsDetermined (Answers at F)
  pub agree : (at : CellTable) (F : Formula) (v : Meaning) → Answers at F (Ok v) → Means at F v
  pub meaning_reads : (at other : CellTable) (F : Formula) (v : Meaning) → AgreeAtLeaves F at other → Means at F v
      → Means other F v
  pub answer_reads : (at other : CellTable) (F : Formula) (r : Answer) → AgreeAtLeaves F at other → Answers at F r
      → Answers other F r

-- its refusals have places among its operators
abbrev pub RefusalsArePlaced : Type 0
RefusalsArePlaced = (at : CellTable) (F : Formula) → IsPlaced (RefusedAt at F) (Answers at F) (operators F)

-- ---- tables
-- two tables that meet the equations of a network have the same value at each of its cells
abbrev pub TablesAgree : Type 0
TablesAgree =
    (net : Net) (order : List ℕ) (at other : CellTable) → IsAccepted net → IsOrder net order → MeetsEquations net at
    → MeetsEquations net other → (c : Cell) → IsTrue (has_cell net c) → at c ≡ other c

-- a table whose cells are all answered meets the equations
abbrev pub AnswersMeetEquations : Type 0
AnswersMeetEquations =
    (net : Net) (order : List ℕ) (at : CellTable) → IsAccepted net → IsOrder net order
    → AnswersAll net at (evaluation_order net order) → MeetsEquations net at

-- where the cells before one are answered, all that it depends on meets the equations
abbrev pub FrontMeetsBelow : Type 0
FrontMeetsBelow =
    (net : Net) (order : List ℕ) (at : CellTable) → IsAccepted net → IsOrder net order
    → (before after : List Cell) (c : Cell)
    → evaluation_order net order ≡ before ++ c ∷ after → AnswersAll net at before → MeetsBelow net at c

-- at most one cell is the first over a limit, by one fault; it is a cell of the network; and then no table has all
-- cells answered
pub record OneIsFirstOver : Type 0 where
  pub cell : (net : Net) (order : List ℕ) (c d : Cell) (e f : OpFault) → IsAccepted net → IsOrder net order
      → FirstOver net order c e → FirstOver net order d f → c ≡ d
  pub fault : (net : Net) (order : List ℕ) (c d : Cell) (e f : OpFault) → IsAccepted net → IsOrder net order
      → FirstOver net order c e → FirstOver net order d f → e ≡ f
  pub exists : (net : Net) (order : List ℕ) (c : Cell) (e : OpFault) → FirstOver net order c e → IsTrue (has_cell net c)
  pub alone : (net : Net) (order : List ℕ) (c : Cell) (e : OpFault) (at : CellTable) → IsAccepted net
      → IsOrder net order
      → FirstOver net order c e → ¬ (AnswersAll net at (evaluation_order net order))

-- ---- work
-- it is the number of the operators on curves of the cell's formula
abbrev pub WorkIsOperators : Type 0
WorkIsOperators = (net : Net) (c : Cell) → work net c ≡ operators (formula net c)
