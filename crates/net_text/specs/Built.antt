-- The network that is built of a draft. Own choice.
use Rattle.std.specs.Prelude.{◌≡◌, map, Option, Some, Ok}
use Rattle.std.specs.List.{AllZip}
use Rattle.net_model.specs.Networks.{Net, NetServer, NetFlow}
use Rattle.net_draft.specs.Laws.{kind_of}
use Rattle.net_draft.specs.Texts.{ServerText, FlowText, DraftText}
use Rattle.net_text.specs.Becoming.{BecomesItself, Becomes}

-- the server of a text
pub record IsServerOf (t : ServerText) (s : NetServer) : Type 0 where
  pub name : s.name ≡ t.name
  pub rate : s.rate ≡ t.rate
  pub kind : s.kind ≡ kind_of t.service
  pub service : BecomesItself t.service (Ok s.service)
  pub link : s.link ≡ t.link
  pub discipline : s.discipline ≡ t.discipline

-- the flow of a text
pub record IsFlowOf (t : FlowText) (f : NetFlow) : Type 0 where
  pub name : f.name ≡ t.name
  pub path : f.path ≡ map (λ h. h.server) t.path
  pub queues : f.queues ≡ map (λ h. h.queue) t.path
  pub packet : f.packet ≡ t.packet
  pub arrival : Becomes t.closes t.arrival (Ok f.arrival)

-- with no place left empty
pub record IsLiveFlowOf (t : FlowText) (o : Option NetFlow) : Type 0 where
  pub flow : NetFlow
  pub live : o ≡ Some flow
  pub is : IsFlowOf t flow

pub record IsBuilt (d : DraftText) (net : Net) : Type 0 where
  pub version : net.version ≡ d.version
  pub servers : AllZip IsServerOf d.servers net.servers
  pub flows : AllZip IsLiveFlowOf d.flows net.flows
