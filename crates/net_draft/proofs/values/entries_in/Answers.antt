use Rattle.std.proofs.Common.{map, sym, ap, ◌∙◌, List, Result, Ok, option_map}
use Rattle.toml.specs.Data.{Data}
use Rattle.toml.specs.View.{view}
use Rattle.net_model.specs.declared.fault.NetKind.{NetKind}
use Rattle.net_draft.specs.Values.{wanted, entries}
use Rattle.net_draft.proofs.Each.{entries_view}
use Rattle.net_draft.proofs.values.entries_in.Goals as goal

pub returns-in-Some : goal.returns-in-Some
returns-in-Some c =
    let found : List Data → Result (List Data) NetKind = λ ds. Ok ds in
    ap found (ap (map view) c.as_slice.ensures.value ∙ sym (entries_view c.in-Some.array.now.items)) ∙ ap (λ o. wanted (option_map entries o)) c.in-Some.ensures
