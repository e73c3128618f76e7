-- What an edit replaced of a network, the networks that come back where that is put back, and how a network came of another one by one change. Own
-- choice.
use Rattle.std.specs.Prelude.{◌≡◌, ◌⊎◌, ℕ, ◌-◌, ◌<◌, List, [], ◌∷◌, length, take, Option}
use Rattle.std.specs.Option.{option_map}
use Rattle.net_model.specs.Networks.{Net, NetServer, NetFlow}
use Rattle.net_model.specs.Views.{server_of, flow_of}
use Rattle.net_edits.specs.Changed.{put_server, put_flow, at_server, at_flow, with_more}
use Rattle.cell_rules.specs.declared.site.Site.{Site}
use Rattle.cell_rules.specs.declared.site.Site.TheVariants as site
use Rattle.cell_rules.specs.declared.edit_sites.replaced.Replaced.{Replaced}
use Rattle.cell_rules.specs.declared.edit_sites.replaced.Replaced.TheVariants.{Nothing, Server, Flow, Added}

-- ---- put back
abbrev pub without_last : Net → Net
without_last net = record net { flows = take (length net.flows - 1) net.flows }

abbrev pub put_back : Replaced → Net → Net
put_back Nothing net = net
put_back (Server number server) net = put_server net number (server_of server)
put_back (Flow number flow) net = put_flow net number (option_map flow_of flow)
put_back Added net = without_last net

-- ---- one edit after the other: what each replaced, the first one first, and the present network
-- all put back, the last one first: the first network
abbrev pub first_network : List Replaced → Net → Net
first_network [] net = net
first_network (r ∷ rs) net = put_back r (first_network rs net)

-- the networks before the present one, the first one first
abbrev pub networks_before : List Replaced → Net → List Net
networks_before [] net = []
networks_before (r ∷ rs) net = put_back r (first_network rs net) ∷ networks_before rs net

-- ---- how a network came of another one
pub record IsServerChanged (s : ℕ) (old new : Net) : Type 0 where
  pub change : NetServer → NetServer
  pub is : new ≡ at_server change old s

pub record IsFlowChanged (i : ℕ) (old new : Net) : Type 0 where
  pub within : i < length old.flows
  pub change : NetFlow → Option NetFlow
  pub is : new ≡ at_flow change old i

pub record IsFlowAdded (i : ℕ) (old new : Net) : Type 0 where
  pub flow : NetFlow
  pub last : i ≡ length old.flows
  pub is : new ≡ with_more flow old

-- by one change there
abbrev pub IsMadeAt : Site → Net → Net → Type 0
IsMadeAt site.Anywhere old new = ⊥
IsMadeAt (site.Server s) old new = IsServerChanged s old new
IsMadeAt (site.Flow i) old new = IsFlowChanged i old new ⊎ IsFlowAdded i old new

-- what was replaced there: put back, it gives the other one
abbrev pub IsReplacedAt : Site → Net → Replaced → Type 0
IsReplacedAt site old r = (new : Net) → IsMadeAt site old new → put_back r new ≡ old
