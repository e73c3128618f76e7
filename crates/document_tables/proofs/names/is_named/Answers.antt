use Rattle.std.proofs.Common.{Some, sym, ap, ◌∙◌}
use Rattle.std.proofs.lemmas.Slice.Eq.{bytes_eq-Decides}
use Rattle.document_tables.proofs.names.is_named.Goals as goal

pub returns-in-Some : goal.returns-in-Some
returns-in-Some c = λ is. sym c.in-Some.ensures ∙ ap Some ((bytes_eq-Decides c.in-Some.text.now c.args.name.now).0 (sym c.eq.ensures ∙ is))
