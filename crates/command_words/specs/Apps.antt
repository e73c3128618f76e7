-- The command line of netcalc, as a parse reads it. Own choice.
use Rattle.std.specs.Prelude.{List, Some, true, codes, fold, if◌then◌else◌}
use Rattle.std.specs.Str.{bytes_eq}
use Rattle.clap.specs.Words.{App, Rule, Text, new_app, new_rule, with_rule, with_subcommand}
use Rattle.clap.specs.declared.builder.action.ArgAction.TheVariants.{SetTrue}

-- an operand, and the flag `--json`
abbrev pub operand_rule : Text → Rule
operand_rule id = record (new_rule id) { required = true }

abbrev pub json_rule : Rule
json_rule = record (new_rule (codes "json")) { long = Some (codes "json"); action = Some SetTrue }

abbrev pub argument_rule : Text → Rule
argument_rule id = if bytes_eq id (codes "json") then json_rule else operand_rule id

-- ---- commands by the names of their arguments
abbrev pub of_arguments : Text → List Text → App
of_arguments word ids = fold (λ app id. with_rule app (argument_rule id)) (new_app word) ids

-- ---- commands by the number of their operands
abbrev pub one : Text → App
one word = with_rule (new_app word) (operand_rule (codes "first"))

abbrev pub two : Text → App
two word = with_rule (one word) (operand_rule (codes "second"))

abbrev pub four : Text → App
four word = with_rule (with_rule (two word) (operand_rule (codes "third"))) (operand_rule (codes "fourth"))

abbrev pub with_json : App → App
with_json a = with_rule a json_rule

-- ---- all commands
abbrev pub netcalc : App
netcalc =
    with_subcommand (with_subcommand (with_subcommand (with_subcommand (with_subcommand (with_subcommand
    (with_subcommand (new_app (codes "netcalc")) (with_json (one (codes "analyse"))).top)
    (with_json (two (codes "edit"))).top)
    (two (codes "simulate")).top)
    (one (codes "exercise")).top)
    (two (codes "check")).top)
    (four (codes "measure")).top)
    (one (codes "curve")).top
