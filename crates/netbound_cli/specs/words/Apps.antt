-- The command line of netbound, as a parse reads it: two operands, `--overhead N` and `--json`. Own choice.
use Rattle.std.specs.Prelude.{Some, true, codes}
use Rattle.clap.specs.Words.{App, Rule, Text, new_app, new_rule, with_rule}
use Rattle.clap.specs.declared.builder.action.ArgAction.TheVariants.{Set, SetTrue}

abbrev pub operand_rule : Text → Rule
operand_rule id = record (new_rule id) { required = true }

abbrev pub overhead_rule : Rule
overhead_rule = record (new_rule (codes "overhead")) { long = Some (codes "overhead"); action = Some Set }

abbrev pub json_rule : Rule
json_rule = record (new_rule (codes "json")) { long = Some (codes "json"); action = Some SetTrue }

-- it answers `--version`
abbrev pub with_version : App → App
with_version a = record a { top = record a.top { has_version = true } }

abbrev pub netbound : App
netbound =
    with_rule (with_rule (with_rule (with_rule (with_version (new_app (codes "netbound")))
    (operand_rule (codes "ports"))) (operand_rule (codes "links"))) overhead_rule) json_rule
