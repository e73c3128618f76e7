-- Command lines: the program's name, a command, and its operands, among which `--json` may stand. Own choice.
use Rattle.std.specs.Prelude.{◌≡◌, ◌==◌, ◌&&◌, ◌||◌, ℕ, Bool, true, false, not, List, [], ◌∷◌, length, map, codes}
use Rattle.std.specs.Prelude.{Option, Some, None, is_some, option_map, unwrap_or, String, string_bytes, if◌then◌else◌}
use Rattle.std.specs.List.{list_all}
use Rattle.std.specs.Str.{bytes_eq}
use Rattle.std.specs.declared.alloc.Global.{Global}

abbrev pub Text : Type 0
Text = List ℕ

-- the words as bytes
abbrev pub texts : List (String Global) → List Text
texts = map string_bytes

-- An operand is not empty and does not begin with `-`.
abbrev pub is_operand : Text → Bool
is_operand [] = false
is_operand (b ∷ bs) = not (b == 45)

-- ---- `--json`
abbrev pub is_json : Text → Bool
is_json word = bytes_eq word (codes "--json")

-- the words without the first `--json`, where there is one
abbrev pub without_json : List Text → Option (List Text)
without_json [] = None
without_json (word ∷ words) =
    if is_json word then Some words else option_map (λ rest. word ∷ rest) (without_json words)

-- ---- what stands behind a command
abbrev pub operands_of : List Text → List Text
operands_of rest = unwrap_or (without_json rest) rest

abbrev pub asks_json : List Text → Bool
asks_json rest = is_some (without_json rest)

-- the command takes so many operands
abbrev pub takes_operands : Text → ℕ → Bool
takes_operands word n =
    if bytes_eq word (codes "analyse") then n == 1
    else if bytes_eq word (codes "edit") then n == 2
    else if bytes_eq word (codes "simulate") then n == 2
    else if bytes_eq word (codes "exercise") then n == 1
    else if bytes_eq word (codes "check") then n == 2
    else if bytes_eq word (codes "measure") then n == 4
    else if bytes_eq word (codes "curve") then n == 1 else false

-- the command has a report in JSON
abbrev pub takes_json : Text → Bool
takes_json word = bytes_eq word (codes "analyse") || bytes_eq word (codes "edit")

-- the command takes what stands behind it
abbrev pub takes_rest : Text → List Text → Bool
takes_rest word rest =
    takes_operands word (length (operands_of rest)) && (list_all is_operand (operands_of rest)
    && (not (asks_json rest) || takes_json word))

-- ---- the whole line
pub record AreTaken (words : List Text) : Type 0 where
  pub program : Text
  pub word : Text
  pub rest : List Text
  pub is : words ≡ program ∷ word ∷ rest
  pub taken : takes_rest word rest ≡ true

-- a command's word, its operands, and whether its report is to be JSON
pub record IsCallOf (words : List Text) (word : Text) (operands : List Text) (json : Bool) : Type 0 where
  pub program : Text
  pub rest : List Text
  pub is : words ≡ program ∷ word ∷ rest
  pub given : operands ≡ operands_of rest
  pub asks : json ≡ asks_json rest
