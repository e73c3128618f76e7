-- The first fault of a file whose draft has none.
use Rattle.std.specs.List.{AllZip}
use Rattle.std.proofs.Common.{◌≡◌, ℕ, List, Ok, inr}
use Rattle.net_model.specs.Networks.{NetServer}
use Rattle.net_draft.specs.declared.fault.DraftFault.{DraftFault}
use Rattle.net_draft.specs.declared.fault.DraftFault.TheVariants as answers
use Rattle.net_draft.specs.Drafts.{draft_of}
use Rattle.net_draft.specs.Faults.{fault_of}
use Rattle.net_draft.specs.Texts.{DraftText}
use Rattle.net_text.specs.Built.{IsServerOf}
use Rattle.net_text.specs.Firsts.{services_from, arrivals_from, FailsFirst}
use Rattle.net_text.specs.Reading.{FailsFile}
use Rattle.net_text.proofs.Firsts.{after_services, among_services}

pub servers_fail : (bytes : List ℕ) (d : DraftText) (e : DraftFault) → draft_of bytes ≡ Ok d → FailsFirst (services_from 0 d.servers) e → FailsFile bytes e
servers_fail bytes d answers.NoMemory is h = tt
servers_fail bytes d (answers.Fault f) is h = inr (record { draft = d; is_draft = is; first = among_services (services_from 0 d.servers) (arrivals_from 0 d.flows) (fault_of f) h })

pub flows_fail : (bytes : List ℕ) (d : DraftText) (e : DraftFault) (ss : List NetServer) → draft_of bytes ≡ Ok d → AllZip IsServerOf d.servers ss → FailsFirst (arrivals_from 0 d.flows) e → FailsFile bytes e
flows_fail bytes d answers.NoMemory ss is z h = tt
flows_fail bytes d (answers.Fault f) ss is z h = inr (record { draft = d; is_draft = is; first = after_services 0 d.servers ss (arrivals_from 0 d.flows) (fault_of f) z h })
