-- What is read of the matches of a parse. Own choice.
use Rattle.std.specs.Prelude.{◌≡◌, ◌⊎◌, ◌++◌, Bool, true, false, List, Option, Some, None, codes}
use Rattle.std.specs.Option.{option_to_list}
use Rattle.clap.specs.Words.{Row, Text, first_of, one_of}

-- the operands that were given, in their order
abbrev pub values_in : List Row → List Text
values_in rows =
    option_to_list (first_of (codes "first") rows) ++ option_to_list (first_of (codes "second") rows)
    ++ option_to_list (first_of (codes "third") rows) ++ option_to_list (first_of (codes "fourth") rows)

-- what stands for the flag, and whether it was given
abbrev pub IsFlag : Option Text → Bool → Type 0
IsFlag found given =
    ((found ≡ None) × (given ≡ false))
    ⊎ (((found ≡ Some (codes "true")) × (given ≡ true)) ⊎ ((found ≡ Some (codes "false")) × (given ≡ false)))

-- the matches of a command: its operands, and whether `--json` was among them
pub record HasGiven (rows : List Row) (operands : List Text) (json : Bool) : Type 0 where
  pub values : values_in rows ≡ operands
  pub flag : IsFlag (one_of (codes "json") rows) json

-- those of the command that was met
pub record HasCalled (met : Option (Text × List Row)) (word : Text) (operands : List Text) (json : Bool) : Type 0 where
  pub rows : List Row
  pub is : met ≡ Some (word, rows)
  pub given : HasGiven rows operands json
