use Rattle.std.specs.String.{string_bytes}
use Rattle.std.proofs.Common.{List, ℕ, length, ap, arith}
use Rattle.std.proofs.lemmas.List.{length-map}
use Rattle.document_tables.proofs.names.Names.len.Goals as goal

pub returns : goal.returns
returns c =
    let n = length-map c.self.inside.texts.items string_bytes in
    let is = ap (λ (names : List (List ℕ)). length names) c.self.view_is in
    omega (arith, n, is, c.len.ensures)
