use Rattle.std.specs.List.{position}
use Rattle.std.specs.Str.{bytes_eq}
use Rattle.std.proofs.Common.{List, [], ℕ, ap, ◌∙◌}
use Rattle.document_tables.proofs.Named.{number_within}
use Rattle.document_tables.proofs.names.number_of.Goals as goal

pub returns-clause-value : goal.returns-clause-value
returns-clause-value c =
    c.copied.ensures
    ∙ (c.get.ensures.value
    ∙ (c.names.invariant.found c.args.name.now
    ∙ ap (λ (names : List (List ℕ)). position (bytes_eq c.args.name.now) names) c.names.view_is))

pub returns-clause-within : goal.returns-clause-within
returns-clause-within c =
    number_within (bytes_eq c.args.name.now) c.args.names.now [] c.copied.result
    (c.copied.ensures
    ∙ (c.get.ensures.value
    ∙ (c.names.invariant.found c.args.name.now
    ∙ ap (λ (names : List (List ℕ)). position (bytes_eq c.args.name.now) names) c.names.view_is)))
