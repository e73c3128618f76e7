use Rattle.std.specs.List.{position}
use Rattle.std.specs.Str.{bytes_eq}
use Rattle.std.proofs.Common.{◌≡◌, ℕ, List, None, sym, subst}
use Rattle.document_tables.proofs.names.push_name.Goals as goal

pub push_text-requires-clause-new : goal.push_text-requires-clause-new
push_text-requires-clause-new c = subst (λ (ns : List (List ℕ)). position (bytes_eq c.args.name.now) ns ≡ None) (sym c.names.view_is) c.requires
