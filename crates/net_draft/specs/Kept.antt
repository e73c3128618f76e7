-- What every draft keeps, so that a network can be made of it without a further test. Own choice.
use Rattle.std.specs.Prelude.{◌≡◌, ◌≢◌, ℕ, ◌≤◌, List, map, length, All, AllPairs}
use Rattle.std.specs.String.{string_bytes}
use Rattle.rational.specs.Rational.{ℚ, ◌≤ℚ◌, ◌<ℚ◌}
use Rattle.min_plus.specs.Functions.{zero_q}
use Rattle.net_model.specs.Names.{IsName}
use Rattle.net_model.specs.Accepted.{IsVersion, IsLength, HasFewQueues}
use Rattle.net_model.specs.Views.{discipline_of}
use Rattle.net_draft.specs.declared.curve_draft.CurveDraft.{CurveDraft}
use Rattle.net_draft.specs.declared.server_draft.ServerDraft.{ServerDraft}
use Rattle.net_draft.specs.declared.flow_draft.FlowDraft.{FlowDraft}
use Rattle.net_draft.specs.declared.draft.Draft.{Draft}
use Rattle.net_draft.specs.CurveTexts.{text_of}
use Rattle.net_draft.specs.Made.{IsMade}
use Rattle.net_draft.specs.Texts.{ServerText, FlowText, IsServiceOf, IsArrivalOf, IsHopOf, IsWithinQuantum}
use Rattle.net_draft.specs.Views.{server_text, flow_text}

-- no packet is longer than the quanta on its way
abbrev pub AreWithinQuanta : List ServerText → List FlowText → Type 0
AreWithinQuanta servers flows = All (λ f. All (IsWithinQuantum servers f.packet) f.path) flows

-- what was made is of the text
abbrev pub IsMadeDraft : CurveDraft → Type 0
IsMadeDraft c = IsMade (text_of c.text) c.made

pub record IsServiceDraft (rate : ℚ) (c : CurveDraft) : Type 0 where
  pub made : IsMadeDraft c
  pub own : IsServiceOf rate (text_of c.text)

pub record IsArrivalDraft (packet : ℕ) (c : CurveDraft) : Type 0 where
  pub made : IsMadeDraft c
  pub own : IsArrivalOf packet (text_of c.text)

pub record IsServerDraft (s : ServerDraft) : Type 0 where
  pub name : IsName (string_bytes s.name)
  pub rate : zero_q <ℚ s.rate
  pub service : IsServiceDraft s.rate s.service
  pub link : zero_q ≤ℚ s.link
  pub queues : HasFewQueues (discipline_of s.discipline)

-- 1 to 16 hops over these servers, over none twice
pub record IsFlowDraft (servers : List ServerText) (f : FlowDraft) : Type 0 where
  pub name : IsName (string_bytes f.name)
  pub packet : IsLength f.packet
  pub arrival : IsArrivalDraft f.packet f.arrival
  pub some : 1 ≤ length f.path.items
  pub few : length f.path.items ≤ 16
  pub hops : All (IsHopOf servers) f.path.items
  pub once : AllPairs (λ a b. a.server ≢ b.server) f.path.items

pub record IsDraft (d : Draft) : Type 0 where
  pub version : IsVersion d.version
  pub few_servers : length d.servers.items ≤ 64
  pub few_flows : length d.flows.items ≤ 256
  pub server_names : AllPairs (λ s t. s.name ≢ t.name) (map server_text d.servers.items)
  pub flow_names : AllPairs (λ f g. f.name ≢ g.name) (map flow_text d.flows.items)
  pub servers : All IsServerDraft d.servers.items
  pub flows : All (IsFlowDraft (map server_text d.servers.items)) d.flows.items
  pub quanta : AreWithinQuanta (map server_text d.servers.items) (map flow_text d.flows.items)
