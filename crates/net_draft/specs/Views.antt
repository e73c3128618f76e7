-- What contracts see of servers, flows and drafts.
use Rattle.std.specs.Prelude.{ℕ, List, map}
use Rattle.std.specs.String.{string_bytes}
use Rattle.net_model.specs.Views.{discipline_of}
use Rattle.net_draft.specs.declared.server_draft.ServerDraft.{ServerDraft}
use Rattle.net_draft.specs.declared.flow_draft.FlowDraft.{FlowDraft}
use Rattle.net_draft.specs.CurveTexts.{text_of}
use Rattle.net_draft.specs.Texts.{ServerText, FlowText, DraftText}

abbrev pub server_text : ServerDraft → ServerText
server_text s = record {
  name = string_bytes s.name;
  rate = s.rate;
  service = text_of s.service.text;
  link = s.link;
  discipline = discipline_of s.discipline;
}

abbrev pub flow_text : FlowDraft → FlowText
flow_text f = record {
  name = string_bytes f.name;
  packet = f.packet;
  arrival = text_of f.arrival.text;
  closes = f.closes;
  path = f.path.items;
}

abbrev pub draft_of_parts : ℕ → List ServerDraft → List FlowDraft → DraftText
draft_of_parts version servers flows = record {
  version = version;
  servers = map server_text servers;
  flows = map flow_text flows;
}
