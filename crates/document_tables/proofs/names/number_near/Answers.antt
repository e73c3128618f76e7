use Rattle.std.specs.Str.{bytes_eq}
use Rattle.std.proofs.Common.{[], Some, sym}
use Rattle.document_tables.proofs.Named.{number_within}
use Rattle.document_tables.proofs.names.number_near.Goals as goal

pub returns-in-Some-clause-value : goal.returns-in-Some-clause-value
returns-in-Some-clause-value c = sym (c.are_own.ensures c.in-Some.number c.args.name.now c.in-Some.ensures)

pub returns-in-Some-clause-within : goal.returns-in-Some-clause-within
returns-in-Some-clause-within c =
    number_within (bytes_eq c.args.name.now) c.args.names.now [] (Some c.in-Some.number) (sym (c.are_own.ensures c.in-Some.number c.args.name.now c.in-Some.ensures))
