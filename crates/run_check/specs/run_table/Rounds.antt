-- What one row puts behind what those before it gave.
use Rattle.std.specs.Prelude.{◌≡◌, ◌⊎◌, ℕ, ◌<◌, ◌≤◌, List, [], ◌∷◌, ◌++◌, Ok}
use Rattle.rational.specs.Rational.{ℚ}
use Rattle.run_laws.specs.declared.steps.Step.{Step}
use Rattle.net_model.specs.Networks.{Net}
use Rattle.input_texts.specs.table_text.Rows.{Row}
use Rattle.input_texts.specs.table_text.Traces.{most_rows}
use Rattle.run_check.specs.declared.run_table.fault.RunKind.{RunKind}
use Rattle.run_check.specs.declared.run_table.fault.RunKind.TheVariants.{T7, T8}
use Rattle.run_check.specs.declared.run_table.run_rows.RunEntry.TheVariants.{Does}
use Rattle.run_check.specs.run_table.RunRows.{run_row, end_row, Gives, IsWrongIn}
use Rattle.run_check.specs.run_table.Runs.{packets_after}

-- a row behind so many gives a step
pub record AddsStep (net : Net) (before packets : ℕ) (row : Row) (steps : List Step) (packets_then : ℕ)
    (steps_then : List Step) : Type 0 where
  pub step : Step
  pub gives : Gives net packets (run_row row) (Does step)
  pub room : before < most_rows
  pub packets_are : packets_then ≡ packets_after packets step
  pub steps_are : steps_then ≡ steps ++ step ∷ []

-- it says the end
pub record SaysEnd (before : ℕ) (row : Row) (steps steps_then : List Step) (end : ℚ) : Type 0 where
  pub is : run_row row ≡ Ok (end_row end)
  pub room : before < most_rows
  pub steps_are : steps_then ≡ steps

-- it is one too many, or wrong by itself, or says a name that nothing has
abbrev pub IsWrongNext : Net → ℕ → Row → RunKind → Type 0
IsWrongNext net before row kind =
    ((kind ≡ T7) × (most_rows ≤ before)) ⊎ ((before < most_rows) × IsWrongIn net (run_row row) kind)

-- what is wrong with the row behind the end
abbrev pub IsBehindEnd : ℕ → RunKind → Type 0
IsBehindEnd before kind = ((kind ≡ T7) × (most_rows ≤ before)) ⊎ ((kind ≡ T8) × (before < most_rows))
