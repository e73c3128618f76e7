-- The cells before one, where they are answered by a table: those that a table has nothing at, and one that is refused.
use Rattle.std.proofs.Common.{◌≡◌, ℕ, ◌<◌, ◌+◌, List, [], ◌∷◌, ◌++◌, length, take, drop, sum_by, refl, sym, ◌∙◌, subst, inl}
use Rattle.std.specs.Prelude.{◌≢◌, None, Err, Contains}
use Rattle.upp_limits.specs.declared.op_kind.OpFault.{OpFault}
use Rattle.upp_limits.specs.declared.op_kind.OpFault.TheVariants as operator
use Rattle.net_model.specs.Networks.{Net}
use Rattle.net_cells.specs.declared.cell.Cell.{Cell}
use Rattle.net_cells.specs.CellFormulas.{formula}
use Rattle.net_cells.specs.Meanings.{CellTable}
use Rattle.net_cells.specs.FirstOver.{AnswersAll}
use Rattle.net_cells.specs.Work.{work}
use Rattle.net_cells.specs.MemoryEnds.{EndsAt, MemoryEnds, at_cell}
use Rattle.net_cells.proofs.cell_table.Fronts.{cell_at, at_place}
use Rattle.net_cells.proofs.Lists.{has_left, has_right, contains_has, has_contains}
use Rattle.net_cells.specs.declared.cell_table.fault.AnalysisFault.{AnalysisFault}
use Rattle.net_cells.specs.declared.cell_table.fault.AnalysisFault.TheVariants.{NoMemory}
use Rattle.net_cells.specs.cell_table.Gives.{Gives}
use Rattle.net_cells.specs.cell_table.Refusals.{fault_at}
use Rattle.net_cells.proofs.cell_table.GivesAnswers.{gives_over}
use Rattle.cell_eval.specs.flow_analysis.Analyses.{IsFirstOver, IsRefusal}

-- ---- nothing at other cells
pub still_nothing : (at more : CellTable) (front : List Cell) (c : Cell)
    → ((d : Cell) → ¬ (Contains front d) → at d ≡ None) → ((d : Cell) → d ≢ c → more d ≡ at d)
    → (d : Cell) → ¬ (Contains (front ++ c ∷ []) d) → more d ≡ None
still_nothing at more front c nothing others d out =
    others d (λ k. out (has_contains (front ++ c ∷ []) d (has_right front (c ∷ []) d (inl (sym k)))))
    ∙ nothing d (λ h. out (has_contains (front ++ c ∷ []) d (has_left front (c ∷ []) d (contains_has front d h))))

-- ---- a cell that is refused
first_over : (net : Net) (cells : List Cell) (at : CellTable) (front : List Cell) (c : Cell) (back : List Cell)
    (fault : OpFault) → fault ≢ operator.NoMemory → cells ≡ front ++ c ∷ back → AnswersAll net at front
    → Gives at (formula net c) (Err fault) → IsFirstOver net cells c fault
first_over net cells at front c back fault limit split all gives order is = record {
  before = front;
  after = back;
  is = sym is ∙ split;
  table = at;
  answered = all;
  over = gives_over at (formula net c) fault limit gives;
  limit = limit;
}

refused_at : (net : Net) (cells : List Cell) (at : CellTable) (front : List Cell) (c : Cell) (back : List Cell)
    (fault : OpFault) → cells ≡ front ++ c ∷ back → AnswersAll net at front → Gives at (formula net c) (Err fault)
    → IsRefusal (IsFirstOver net cells) (fault_at c fault)
refused_at net cells at front c back operator.TooMany split all gives =
    first_over net cells at front c back operator.TooMany (λ e. cc) split all gives
refused_at net cells at front c back operator.TooWide split all gives =
    first_over net cells at front c back operator.TooWide (λ e. cc) split all gives
refused_at net cells at front c back operator.NoMemory split all gives = tt

pub refused : (net : Net) (cells : List Cell) (at : CellTable) (front : List Cell) (c : Cell) (back : List Cell)
    (fault : OpFault) (why : AnalysisFault) → why ≡ fault_at c fault → cells ≡ front ++ c ∷ back
    → AnswersAll net at front
    → Gives at (formula net c) (Err fault) → IsRefusal (IsFirstOver net cells) why
refused net cells at front c back fault why e split all gives =
    subst (λ (w : AnalysisFault). IsRefusal (IsFirstOver net cells) w) (sym e)
    (refused_at net cells at front c back fault split all gives)

-- ---- want of memory
pub lacks_too : (c : Cell) (fault : OpFault) (why : AnalysisFault) → why ≡ fault_at c fault → why ≡ NoMemory
    → fault ≡ operator.NoMemory
lacks_too c operator.TooMany why e lack = absurd (let bad : ⊥ = cc in bad)
lacks_too c operator.TooWide why e lack = absurd (let bad : ⊥ = cc in bad)
lacks_too c operator.NoMemory why e lack = refl

-- ---- want of memory at one of the cells, where so many operators are counted for it
pub ends_here : (net : Net) (cells : List Cell) (at : CellTable) (i counted n : ℕ) → i < length cells → AnswersAll net at (take i cells)
    → EndsAt at (formula net (cell_at cells i)) counted → n ≡ sum_by (work net) (take i cells) + counted → MemoryEnds net cells n
ends_here net cells at i counted n h answered ends count =
    at_cell (record {
      before = take i cells;
      cell = cell_at cells i;
      after = drop (i + 1) cells;
      is = at_place cells i h;
      table = at;
      answered = answered;
      counted = counted;
      ends = ends;
      count = count;
    })
