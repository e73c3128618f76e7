-- How many steps an answer on a script takes: an operator on curves takes one, and a closure those of its fold.
use Rattle.std.specs.Prelude.{◌≡◌, ◌≢◌, ◌⊎◌, ℕ, List, [], Ok}
use Rattle.input_texts.specs.curve_script.Scripts.{Numbered, IsScript}
use Rattle.curve_lang.specs.Answers.{Answered}
use Rattle.curve_lang.specs.Found.{Told, ScriptFinds}

-- those that are counted as these statements find something, which is their answers where there is a report
pub record CountsOnLines (lines : List Numbered) (status old new : ℕ) : Type 0 where
  pub told : Told
  pub finds : ScriptFinds [] [] lines told old new
  pub report : status ≡ 0 → (answers : List Answered) × (told ≡ Ok answers)

pub record CountsOnScript (bytes : List ℕ) (status old new : ℕ) : Type 0 where
  pub lines : List Numbered
  pub script : IsScript bytes lines
  pub counts : CountsOnLines lines status old new

-- those; none where the lines are not all read as statements
abbrev pub CountsOn : List ℕ → (status old new : ℕ) → Type 0
CountsOn bytes status old new = ((status ≢ 0) × (new ≡ old)) ⊎ CountsOnScript bytes status old new
