use Rattle.std.proofs.Common.{◌≡◌, Err, ap, ◌∙◌}
use Rattle.net_model.specs.declared.fault.NetKind.TheVariants.{M6}
use Rattle.net_draft.specs.Faults.{◌>>=◌}
use Rattle.net_draft.specs.Tables.{arrival_of_text}
use Rattle.net_draft.proofs.ThreeWords.{none_of_three}
use Rattle.net_draft.proofs.words.arrival_word.Goals as goal

pub returns : goal.returns
returns c =
    let other : Err M6 ≡ arrival_of_text c.in_ok-text.text.now =
    none_of_three _ _ _ _ _ _ _ c.if-eq.ensures c.if-eq-2.ensures c.if-eq-3.ensures in
    other ∙ ap (λ read. read >>= arrival_of_text) c.in_ok-text.ensures
