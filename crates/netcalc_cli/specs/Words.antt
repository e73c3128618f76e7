-- The words of the command line.
use Rattle.std.specs.Prelude.{ℕ, ◌^◌, Bool, nat_lt, List, [], ◌∷◌, map, codes}
use Rattle.std.specs.Prelude.{Option, Some, None}
use Rattle.std.specs.Prelude.{String, string_bytes, if◌then◌else◌, Result, Ok, Err}
use Rattle.std.specs.declared.alloc.Global.{Global}
use Rattle.std.specs.List.{list_all}
use Rattle.std.specs.Str.{bytes_eq}
use Rattle.std.specs.Str.Parse.{digits_value}
use Rattle.rational.specs.Rational.{ℚ, lt_q}
use Rattle.min_plus.specs.Functions.{zero_q}
use Rattle.fraction128.specs.declared.fault.FracText.{FracText}
use Rattle.fraction128.specs.Text.{is_numeral, parse_of}
use Rattle.report_text.specs.declared.json_report.form.Form.TheVariants.{Lines, Json}
use Rattle.command_words.specs.Lines.{is_operand, operands_of, asks_json}
use Rattle.netcalc_cli.specs.Commands.{Command, Analyse, Edit, Simulate, Exercise, Check, Measure, Curve}

-- the words as bytes
abbrev pub texts : List (String Global) → List (List ℕ)
texts = map string_bytes

-- ---- a command in lines, by the number of its operands
-- the number that a word writes: digits and nothing else, of a number of 64 bits
abbrev pub in_64_bits : ℕ → Option ℕ
in_64_bits number = if nat_lt number (2 ^ 64) then Some number else None

abbrev pub seed_of : List ℕ → Option ℕ
seed_of word = if is_numeral word then in_64_bits (digits_value 10 word) else None

abbrev pub exercised : Option ℕ → Option Command
exercised (Some seed) = Some (Exercise seed)
exercised None = None

-- the command of this word on one file, or on a workload's number
abbrev pub on_one : List ℕ → List ℕ → Option Command
on_one word operand =
    if bytes_eq word (codes "analyse") then Some (Analyse Lines operand)
    else if bytes_eq word (codes "curve") then Some (Curve operand)
    else if bytes_eq word (codes "exercise") then exercised (seed_of operand) else None

-- and on two
abbrev pub on_two : List ℕ → (first second : List ℕ) → Option Command
on_two word first second =
    if bytes_eq word (codes "edit") then Some (Edit Lines first second)
    else if bytes_eq word (codes "simulate") then Some (Simulate first second)
    else if bytes_eq word (codes "check") then Some (Check first second) else None

-- the rate that a word writes: a number text from 0 on
abbrev pub from_0 : Result ℚ FracText → Option ℚ
from_0 (Ok rate) = if lt_q rate zero_q then None else Some rate
from_0 (Err fault) = None

abbrev pub rate_of : List ℕ → Option ℚ
rate_of word = from_0 (parse_of word)

-- and on two, a flow's name and a rate
abbrev pub measured : (net trace name : List ℕ) → Option ℚ → Option Command
measured net trace name (Some rate) = Some (Measure net trace name rate)
measured net trace name None = None

abbrev pub on_four : List ℕ → (net trace name rate : List ℕ) → Option Command
on_four word net trace name rate =
    if bytes_eq word (codes "measure") then measured net trace name (rate_of rate) else None

-- ---- a command on its operands
-- its report in lines
abbrev pub in_lines : List ℕ → List (List ℕ) → Option Command
in_lines word (operand ∷ []) = on_one word operand
in_lines word (first ∷ second ∷ []) = on_two word first second
in_lines word (net ∷ trace ∷ name ∷ rate ∷ []) = on_four word net trace name rate
in_lines word operands = None

-- its report in JSON, which two commands have
abbrev pub in_json : List ℕ → List (List ℕ) → Option Command
in_json word (file ∷ []) = if bytes_eq word (codes "analyse") then Some (Analyse Json file) else None
in_json word (first ∷ second ∷ []) = if bytes_eq word (codes "edit") then Some (Edit Json first second) else None
in_json word operands = None

abbrev pub called : List ℕ → List (List ℕ) → (json : Bool) → Option Command
called word operands json = if json then in_json word operands else in_lines word operands

-- ---- the whole command line
-- Each operand is not empty and does not begin with `-`.
abbrev pub command_on : List ℕ → List (List ℕ) → (json : Bool) → Option Command
command_on word operands json = if list_all is_operand operands then called word operands json else None

-- The words are taken where they are the program's name, a command and its operands; and for two commands once
-- `--json`, at any place after the command. Then they ask for this.
abbrev pub command_of : List (List ℕ) → Option Command
command_of (program ∷ word ∷ rest) = command_on word (operands_of rest) (asks_json rest)
command_of words = None
