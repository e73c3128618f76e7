use Rattle.std.specs.Prelude.{not}
use Rattle.std.specs.List.{list_any}
use Rattle.std.specs.Str.{bytes_eq}
use Rattle.std.proofs.Common.{ap, ◌∙◌}
use Rattle.net_draft.specs.NameTexts.{texts}
use Rattle.net_draft.proofs.Named.{texts_any}
use Rattle.net_draft.proofs.names.add_name.Goals as goal

pub returns-clause-new : goal.returns-clause-new
returns-clause-new c =
    c.in_ok-_number.ensures.added
    ∙ ap not (texts_any c.in_ok-from_str.field-0 c.args.names.now.keys ∙ ap (λ b. list_any (bytes_eq b) (texts c.args.names.now)) c.in_ok-from_str.ensures.ok)
