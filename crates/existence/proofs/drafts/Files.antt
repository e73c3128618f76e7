-- What a draft has, by the bytes of its file.
use Rattle.std.proofs.Common.{ℕ, subst}
use Rattle.net_draft.specs.Texts.{DraftText}
use Rattle.net_text.specs.Folds.{FoldsOf}
use Rattle.existence.specs.drafts.Drafts.{HasNetworkOrFault, DraftsExist, FoldsExist, DraftsHaveNetworks}
use Rattle.existence.proofs.drafts.Built.{has_network}
use Rattle.existence.proofs.drafts.Folds.{folds_of}
use Rattle.existence.proofs.drafts.Standing.{draft_stands}

pub drafts_exist : DraftsExist
drafts_exist bytes text h =
    let m = draft_stands bytes text h in
    record { draft = m.draft; is = m.text; kept = m.kept; services = m.services; arrivals = m.arrivals }

pub folds_exist : FoldsExist
folds_exist bytes text h =
    let m = draft_stands bytes text h in
    subst (λ (d : DraftText). (total : ℕ) × FoldsOf d.flows total) m.text
    (folds_of m.draft.flows.items (λ k e l. (m.kept.flows k e l).arrival.made) m.arrivals)

pub drafts_have_networks : DraftsHaveNetworks
drafts_have_networks bytes text h =
    let m = draft_stands bytes text h in
    subst HasNetworkOrFault m.text (has_network m.draft m.kept m.services m.arrivals)
