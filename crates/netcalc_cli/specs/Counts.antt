-- How many steps a call takes.
use Rattle.std.specs.Prelude.{◌≡◌, ◌⊎◌, ℕ, List, Option, Some, None}
use Rattle.netcalc_cli.specs.Commands.{Command, files_of, IsAnswer, CountsTo}
use Rattle.outside.specs.Files.{Told, MayHoldAll, AllFit}
use Rattle.netcalc_cli.specs.Files.{most_bytes}

-- The files of a command hold bytes that are not too many, and the steps are those of its answer on them.
pub record CountsOnFiles (told : Told) (command : Command) (status old new : ℕ) : Type 0 where
  pub files : List (List ℕ)
  pub held : MayHoldAll told (files_of command) files
  pub fit : AllFit most_bytes files
  pub counts : CountsTo command files status old new

-- That, or none; and not none where the status is that of an answer.
abbrev pub CountsOnCommand : Told → Command → (status old new : ℕ) → Type 0
CountsOnCommand told command status old new =
    ((¬ (IsAnswer command status)) × (new ≡ old)) ⊎ CountsOnFiles told command status old new

-- None where the words are not taken.
abbrev pub CountsOnCall : {I : Type 0} → (I → List ℕ → Option (List ℕ)) → Option Command → I → (status old new : ℕ) → Type 0
CountsOnCall content None inputs status old new = new ≡ old
CountsOnCall content (Some command) inputs status old new = CountsOnCommand (content inputs) command status old new
