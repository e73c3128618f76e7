-- What contracts see of a draft.
use Rattle.net_draft.specs.declared.draft.Draft.{Draft}
use Rattle.net_draft.specs.Texts.{DraftText}
use Rattle.net_draft.specs.Views.{draft_of_parts}

abbrev pub draft_text : Draft → DraftText
draft_text d = draft_of_parts d.version d.servers.items d.flows.items
