-- A text is one run of a network at most, or has one first fault.
use Rattle.std.specs.Prelude.{◌≡◌, ℕ, List}
use Rattle.run_laws.specs.Runs.{SpecRun}
use Rattle.net_model.specs.Accepted.{IsAccepted}
use Rattle.net_model.specs.Networks.{Net}
use Rattle.input_texts.specs.table_text.Rows.{rows_of}
use Rattle.run_check.specs.declared.run_table.fault.RunKind.{RunKind}
use Rattle.run_check.specs.run_table.Runs.{IsRunOf, IsFirstFault}

abbrev pub HasOneRun : Net → List ℕ → Type 0
HasOneRun net text = (x y : SpecRun) → IsRunOf net (rows_of text) x → IsRunOf net (rows_of text) y → x ≡ y

abbrev pub HasOneFault : Net → List ℕ → Type 0
HasOneFault net text =
    (kind other : RunKind) (row another : ℕ) → IsFirstFault net text kind row → IsFirstFault net text other another
    → (kind ≡ other) × (row ≡ another)

abbrev pub HasNotBoth : Net → List ℕ → Type 0
HasNotBoth net text =
    (run : SpecRun) (kind : RunKind) (row : ℕ) → IsRunOf net (rows_of text) run → ¬ IsFirstFault net text kind row

pub record IsOneReading (net : Net) (text : List ℕ) : Type 0 where
  pub run : HasOneRun net text
  pub fault : HasOneFault net text
  pub not_both : HasNotBoth net text

abbrev pub ReadingsAreOne : Type 0
ReadingsAreOne = (net : Net) (text : List ℕ) → IsAccepted net → IsOneReading net text
