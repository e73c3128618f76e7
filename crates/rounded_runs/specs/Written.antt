-- Runs of the network that the rows of tables write, exact, and networks that have its numbers rounded to their grid.
use Rattle.std.specs.Prelude.{Option, Some, None, ◌≡◌, ℕ, pos, pred, List, All, map, get_or, slice_get}
use Rattle.rational.specs.Rational.{ℚ, frac, ◌*ℚ◌}
use Rattle.rational.specs.Extended.{Ext}
use Rattle.rational.specs.declared.Extended.TheVariants.{Fin}
use Rattle.min_plus.specs.Formulas.{stair_value, rate_latency_value, gate_value}
use Rattle.min_plus.specs.Pointwise.{excess}
use Rattle.run_laws.specs.Cards.{whole}
use Rattle.run_laws.specs.Runs.{SpecRun}
use Rattle.run_laws.specs.Servers as servers
use Rattle.tree_runs.specs.Trees.{TreeRoutes, IsLawfulTree, KeepsTreePremises}
use Rattle.table_cells.specs.declared.amount.Amount.{Amount}
use Rattle.tree_network.specs.declared.network.Link.{Link}
use Rattle.tree_network.specs.declared.network.Network.{Network}
use Rattle.document_rows.specs.declared.disciplines.GateRow.{GateRow}
use Rattle.document_rows.specs.Disciplines as disciplines
use Rattle.document_rows.specs.Disciplines.{DisciplineText}
use Rattle.document_rows.specs.PortRows.{PortText}
use Rattle.document_rows.specs.LinkRows.{frame_on_wire}
use Rattle.document_tables.specs.declared.links.LinkKeys.{LinkKeys}
use Rattle.document_tables.specs.Grids.{grid_port, port_on_grid, microsecond, millisecond}
use Rattle.document_tables.specs.Ranges.{IsPortText, AreLinkKeys}
use Rattle.table_cells.specs.Amounts as amounts
use Rattle.tree_bounds.specs.guarantee.Routes.{tree_of_link}
use Rattle.tree_bounds.specs.guarantee.Guarantee.{frame_of}

-- ---- what rows write, exact
-- the number of a cell, in the column's own unit
abbrev pub exact : Amount → ℚ
exact a = frac (pos a.top) (pred a.bottom)

-- the service curve of a port, in bits by microseconds (Mbit/s are bits a microsecond): its rate after its latency, or
-- that of its gate, of which what comes in the latency may be lost
abbrev pub curve_written : Option GateRow → PortText → ℚ → Ext
curve_written None port t = rate_latency_value (exact port.rate) (exact port.latency) t
curve_written (Some gate) port t =
    excess (gate_value (exact port.rate) (exact gate.cycle) (exact gate.slot) t) (Fin (exact port.rate *ℚ exact port.latency))

abbrev pub service_written : PortText → ℚ → Ext
service_written port t = curve_written port.gate port t

-- a frame each gap, which is written in milliseconds, each up to the jitter early
abbrev pub stair_written : (overhead : ℕ) → LinkKeys → ℚ → Ext
stair_written overhead keys t =
    stair_value (whole (frame_on_wire keys.largest_frame overhead)) (whole 1000 *ℚ exact keys.gap) (exact keys.jitter) t

-- ---- rows by their numbers; what is beyond the last means nothing
abbrev pub no_text : PortText
no_text = record {
  rate = amounts.whole 1;
  latency = amounts.whole 0;
  link = amounts.whole 0;
  discipline = disciplines.Fifo;
  gate = None;
}

abbrev pub text_at : List PortText → ℕ → PortText
text_at texts s = get_or texts s no_text

abbrev pub no_keys : LinkKeys
no_keys = record { gap = amounts.whole 1; largest_frame = 1; jitter = amounts.whole 0; priority = 0 }

abbrev pub keys_at : List LinkKeys → ℕ → LinkKeys
keys_at keys i = get_or keys i no_keys

-- ---- a network that has these numbers on its grid
pub record IsRoundedLink (overhead : ℕ) (keys : LinkKeys) (link : Link) : Type 0 where
  pub frame : link.frame ≡ frame_on_wire keys.largest_frame overhead
  pub gap : link.gap ≡ amounts.rounded_down millisecond keys.gap
  pub jitter : link.jitter ≡ amounts.rounded_up microsecond keys.jitter
  pub range : AreLinkKeys keys

pub record IsRounded (overhead : ℕ) (texts : List PortText) (keys : List LinkKeys) (net : Network) : Type 0 where
  pub ports : map grid_port net.ports.items ≡ map port_on_grid texts
  pub ranges : All IsPortText texts
  pub links : (i : ℕ) (link : Link) → slice_get net.links.items i ≡ Some link
      → IsRoundedLink overhead (keys_at keys i) link

-- ---- the network that is written
abbrev pub discipline_written : DisciplineText → servers.Discipline
discipline_written disciplines.Fifo = servers.Fifo
discipline_written (disciplines.Priority queues) = servers.Priority queues
discipline_written (disciplines.Drr quanta) = servers.Drr quanta

-- a port, whose works are no faster than the rate that is written
abbrev pub server_written : PortText → servers.Server
server_written port = record { discipline = discipline_written port.discipline; pace = Some (exact port.rate) }

abbrev pub time_written : PortText → ℚ
time_written port = exact port.link

-- ports with the rates, and links between them with the times that are written, under the trees of a network
abbrev pub routes_written : List PortText → Network → TreeRoutes
routes_written texts net = record {
  servers = map server_written texts;
  links = map time_written texts;
  flows = map tree_of_link net.links.items;
}

-- ---- runs
-- A lawful run of the network that is written, whose links keep the frames, gaps and jitters that are written, and whose
-- ports keep the service curves of what is written. Nothing of it is rounded.
pub record IsWrittenRun (overhead : ℕ) (texts : List PortText) (keys : List LinkKeys) (net : Network) (run : SpecRun)
    : Type 0 where
  pub lawful : IsLawfulTree (routes_written texts net) run
  pub premises : KeepsTreePremises (routes_written texts net) (frame_of net) (λ i. stair_written overhead (keys_at keys i))
      (λ s. service_written (text_at texts s)) run
