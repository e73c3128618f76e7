use Rattle.std.specs.Prelude.{not}
use Rattle.std.specs.Str.{bytes_eq}
use Rattle.std.proofs.Common.{sym, ap, ◌∙◌}
use Rattle.document_tables.proofs.Named.{any_by_number, no_number}
use Rattle.document_tables.proofs.names.add_name.Goals as goal

pub push_name-requires : goal.push_name-requires
push_name-requires c = no_number (bytes_eq c.args.name.now) c.args.names.now c.number_of.result c.is_some.result c.number_of.ensures.value c.is_some.ensures c.if-is_some.false

pub returns-then-is_some-clause-new : goal.returns-then-is_some-clause-new
returns-then-is_some-clause-new c =
    ap not (sym c.if-is_some.true ∙ any_by_number (bytes_eq c.args.name.now) c.args.names.now c.number_of.result c.is_some.result c.number_of.ensures.value c.is_some.ensures)

pub returns-clause-new : goal.returns-clause-new
returns-clause-new c =
    ap not (sym c.if-is_some.false ∙ any_by_number (bytes_eq c.args.name.now) c.args.names.now c.number_of.result c.is_some.result c.number_of.ensures.value c.is_some.ensures)
