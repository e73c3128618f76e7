-- Which recorded run of a network a text is, and the first fault of a text that is none. Own choice.
use Rattle.std.specs.Prelude.{◌≡◌, ◌⊎◌, ℕ, suc, ◌<◌, ◌≤◌, List, [], ◌∷◌, ◌++◌, length, Ok}
use Rattle.run_laws.specs.declared.steps.Step.{Step}
use Rattle.run_laws.specs.declared.steps.Step.TheVariants.{Enter, Reach, Work, Leave, Visit}
use Rattle.run_laws.specs.Runs.{SpecRun}
use Rattle.net_model.specs.Networks.{Net}
use Rattle.input_texts.specs.table_text.Rows.{Row, rows_of}
use Rattle.input_texts.specs.table_text.Traces.{most_rows}
use Rattle.run_check.specs.declared.run_table.fault.RunKind.{RunKind}
use Rattle.run_check.specs.declared.run_table.fault.RunKind.TheVariants.{T7, T8, NoMemory}
use Rattle.run_check.specs.declared.run_table.fault.RunFault.{RunFault}
use Rattle.run_check.specs.declared.run_table.run_rows.RunEntry.TheVariants.{Does}
use Rattle.run_check.specs.run_table.RunRows.{run_row, end_row, Gives, IsWrongIn}

-- how many packets have entered after a step
abbrev pub packets_after : ℕ → Step → ℕ
packets_after n (Enter f p t b) = suc n
packets_after n (Reach s p t) = n
packets_after n (Work s p a b w) = n
packets_after n (Leave s p t) = n
packets_after n (Visit s q t) = n

-- each row gives the step at its place
abbrev pub Give : Net → ℕ → List Row → List Step → Type 0
Give net n [] [] = Unit {0}
Give net n [] (x ∷ xs) = ⊥
Give net n (row ∷ rows) [] = ⊥
Give net n (row ∷ rows) (x ∷ xs) = Gives net n (run_row row) (Does x) × Give net (packets_after n x) rows xs

-- the row is that of the run's end
pub record IsEnd (row : Row) : Type 0 where
  pub time : Rattle.rational.specs.Rational.ℚ
  pub is : run_row row ≡ Ok (end_row time)

-- at most 10,000 rows: one for each step, in their order, and then one for the run's end
pub record IsRunOf (net : Net) (rows : List Row) (run : SpecRun) : Type 0 where
  pub before : List Row
  pub last : Row
  pub rows_are : rows ≡ before ++ last ∷ []
  pub give : Give net 0 before run.steps
  pub ends : run_row last ≡ Ok (end_row run.end)
  pub few : length rows ≤ most_rows

-- ---- the first fault
-- rows that give steps, and no end yet
pub record GiveSteps (net : Net) (rows : List Row) : Type 0 where
  pub steps : List Step
  pub give : Give net 0 rows steps

-- rows that give steps, and then the end
pub record GiveAll (net : Net) (rows : List Row) : Type 0 where
  pub before : List Row
  pub last : Row
  pub rows_are : rows ≡ before ++ last ∷ []
  pub steps : GiveSteps net before
  pub end : IsEnd last

-- what is wrong with a row behind these: it is one too many; else the run has ended before it; else it is wrong by
-- itself, or says a name that nothing has
abbrev pub IsWrong : Net → List Row → Row → RunKind → Type 0
IsWrong net before row kind =
    ((kind ≡ T7) × (most_rows ≤ length before) × (GiveSteps net before ⊎ GiveAll net before))
    ⊎ ((kind ≡ T8) × (length before < most_rows) × GiveAll net before)
    ⊎ ((length before < most_rows) × GiveSteps net before × IsWrongIn net (run_row row) kind)

-- the first row that is wrong, which is the 10,001st at most; rows are counted from 1
pub record IsWrongRow (net : Net) (text : List ℕ) (kind : RunKind) (number : ℕ) : Type 0 where
  pub before : List Row
  pub row : Row
  pub after : List Row
  pub rows_are : rows_of text ≡ before ++ row ∷ after
  pub place : number ≡ suc (length before)
  pub few : length before ≤ most_rows
  pub wrong : IsWrong net before row kind

-- all rows give steps, and none the end
pub record HasNoEnd (net : Net) (text : List ℕ) (kind : RunKind) (number : ℕ) : Type 0 where
  pub kind_is : kind ≡ T8
  pub place : number ≡ suc (length (rows_of text))
  pub few : length (rows_of text) ≤ most_rows
  pub steps : GiveSteps net (rows_of text)

abbrev pub IsFirstFault : Net → List ℕ → RunKind → ℕ → Type 0
IsFirstFault net text kind number = IsWrongRow net text kind number ⊎ HasNoEnd net text kind number

-- want of memory is no fault of the text, and has no row
abbrev pub out_of_memory : RunFault
out_of_memory = record { kind = NoMemory; row = 0 }
