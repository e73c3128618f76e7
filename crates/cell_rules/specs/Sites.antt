-- Where two networks differ: at one server, or at one flow; and which cells may be made of other things then: those of
-- that server or flow, of the queues that the flow passes, and in version 2 of those that flows enter over the server's
-- link. Own choice.
use Rattle.std.specs.Prelude.{◌≡◌, ◌≢◌, ℕ, ◌+◌, length, ◌==◌, ◌||◌, ◌&&◌, List, [], ◌∷◌, Bool, true, false, IsTrue, slice_get}
use Rattle.std.specs.List.{list_any}
use Rattle.net_model.specs.Networks.{Net}
use Rattle.net_cells.specs.declared.cell.Cell.{Cell}
use Rattle.net_cells.specs.declared.cell.Kind.{Kind}
use Rattle.net_cells.specs.declared.cell.Kind.TheVariants.{In, Cross, Total, Higher, QueueService, Theta, Residual, QueueDelay, QueueBacklog, HopDelay, ShiftOut, DeconvOut, Out, PathService, Tfa, Sfa, Bound}
use Rattle.net_cells.specs.Cells.{has_cell}
use Rattle.net_cells.specs.Numbered.{flow_at, path, server_of_hop}
use Rattle.net_cells.specs.declared.visit.Visit.{Visit}
use Rattle.net_cells.specs.QueueParts.{in_part}
use Rattle.cell_rules.specs.cell_changes.Changes.{HasSameRule}
use Rattle.cell_rules.specs.declared.site.Site.{Site}
use Rattle.cell_rules.specs.declared.site.Site.TheVariants.{Anywhere, Server, Flow}

-- ---- where
-- the same flows, and as many servers, the same but one
pub record IsSameButServer (s : ℕ) (old new : Net) : Type 0 where
  pub version : old.version ≡ new.version
  pub flows : old.flows ≡ new.flows
  pub many : length old.servers ≡ length new.servers
  pub servers : (t : ℕ) → t ≢ s → slice_get old.servers t ≡ slice_get new.servers t

-- the same servers, and the same flows but one
pub record IsSameButFlow (i : ℕ) (old new : Net) : Type 0 where
  pub version : old.version ≡ new.version
  pub servers : old.servers ≡ new.servers
  pub flows : (j : ℕ) → j ≢ i → flow_at old j ≡ flow_at new j

-- two networks are the same but there
abbrev pub IsSameBut : Site → Net → Net → Type 0
IsSameBut Anywhere old new = Unit {0}
IsSameBut (Server s) old new = IsSameButServer s old new
IsSameBut (Flow i) old new = IsSameButFlow i old new

-- ---- which cells
abbrev pub is_among : ℕ → List ℕ → Bool
is_among n ns = list_any (λ m. m == n) ns

-- a flow passes a server
abbrev pub passes : Net → ℕ → ℕ → Bool
passes net i s = is_among s (path net i)

-- in one of two networks it does
abbrev pub comes_by : Net → Net → ℕ → ℕ → Bool
comes_by old new i s = passes old i s || passes new i s

abbrev pub has_hop : List Visit → Bool
has_hop [] = false
has_hop (v ∷ vs) = true

-- flows come to a queue from a server, and version 2 cuts their sum by its link
abbrev pub is_cut_by : Net → (s a b : ℕ) → Bool
is_cut_by net s a b = (net.version == 2) && has_hop (in_part net a b (s + 1))

-- those of a server, those of paths that read its link, and sums that are cut by it
abbrev pub reads_server : Net → ℕ → Kind → ℕ → ℕ → Bool
reads_server net s In a b = false
reads_server net s Cross a b = false
reads_server net s Total a b = (a == s) || is_cut_by net s a b
reads_server net s Higher a b = a == s
reads_server net s QueueService a b = a == s
reads_server net s Theta a b = false
reads_server net s Residual a b = false
reads_server net s QueueDelay a b = a == s
reads_server net s QueueBacklog a b = a == s
reads_server net s HopDelay a b = false
reads_server net s ShiftOut a b = false
reads_server net s DeconvOut a b = false
reads_server net s Out a b = false
reads_server net s PathService a b = false
reads_server net s Tfa a b = passes net a s
reads_server net s Sfa a b = passes net a s
reads_server net s Bound a b = false

-- those of a flow, and those of queues that read its packet or take its curve into a sum
abbrev pub reads_flow : Net → Net → ℕ → Kind → ℕ → ℕ → Bool
reads_flow old new i In a b = a == i
reads_flow old new i Cross a b = (a == i) || comes_by old new i (server_of_hop new a b)
reads_flow old new i Total a b = comes_by old new i a
reads_flow old new i Higher a b = false
reads_flow old new i QueueService a b = comes_by old new i a
reads_flow old new i Theta a b = a == i
reads_flow old new i Residual a b = a == i
reads_flow old new i QueueDelay a b = false
reads_flow old new i QueueBacklog a b = comes_by old new i a
reads_flow old new i HopDelay a b = a == i
reads_flow old new i ShiftOut a b = a == i
reads_flow old new i DeconvOut a b = a == i
reads_flow old new i Out a b = a == i
reads_flow old new i PathService a b = a == i
reads_flow old new i Tfa a b = a == i
reads_flow old new i Sfa a b = a == i
reads_flow old new i Bound a b = a == i

-- it may be made of other things where the networks differ there alone
abbrev pub is_candidate : Site → Net → Net → Cell → Bool
is_candidate Anywhere old new c = true
is_candidate (Server s) old new c = reads_server new s c.kind c.a c.b
is_candidate (Flow i) old new c = reads_flow old new i c.kind c.a c.b

-- every other cell of the new network is one of the old one, and made of the same
abbrev pub OthersKeepTheirRule : Type 0
OthersKeepTheirRule =
    (site : Site) (old new : Net) (c : Cell) → IsSameBut site old new → IsTrue (has_cell new c)
    → is_candidate site old new c ≡ false → HasSameRule old new c
