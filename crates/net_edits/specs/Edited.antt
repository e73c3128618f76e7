-- What an edit makes of a network, or the first reason why it makes none: names first, in the order of the row; then a
-- name that is taken; then values; then numbers. Own choice.
use Rattle.std.specs.Prelude.{ℕ, ℤ, pos, List, length, Option, Some, None, Ok, Err, Bool, true, false, not, ◌&&◌, nat_lt, string_bytes, slice_get}
use Rattle.rational.specs.Rational.{ℚ, lt_q, int}
use Rattle.min_plus.specs.Functions.{zero_q}
use Rattle.upp_curve.specs.Curve.{SpecCurve}
use Rattle.upp_curve.specs.Kinds.{bucket, stair, rate_latency}
use Rattle.net_model.specs.declared.server.ServiceKind.{ServiceKind}
use Rattle.net_model.specs.declared.server.ServiceKind.TheVariants.{Latency, Gate, Listed}
use Rattle.net_model.specs.declared.edit.Edit.{Edit}
use Rattle.net_model.specs.declared.edit.Edit.TheVariants as edit
use Rattle.net_model.specs.declared.edit.PathEntry.{PathEntry}
use Rattle.net_model.specs.Networks.{Net, NetServer, NetFlow}
use Rattle.net_model.specs.Quanta.{is_quantum_of}
use Rattle.net_cells.specs.declared.cell.Cell.{Cell}
use Rattle.net_cells.specs.declared.cell.Kind.TheVariants as kind
use Rattle.net_cells.specs.Cells.{cell_of}
use Rattle.net_cells.specs.Numbered.{discipline, packet}
use Rattle.net_edits.specs.Refusals.{name_taken, no_number_left, nothing_to_undo, Or, and_then, only_if}
use Rattle.net_edits.specs.Lookups.{server_number, flow_number, server_numbers, is_free}
use Rattle.net_edits.specs.Values.{whole_that, is_length, is_name, entry_queues, may_be_path, quanta_fit}
use Rattle.net_edits.specs.Changed.{at_server, service_of_kind, with_rate, with_latency, with_link, with_quantum, at_flow, with_arrival, with_packet, with_path, dropped, with_more}

-- a curve that an edit makes, which may be over a limit, and the cell that it then counts as
pub record MadeCurve : Type 0 where
  pub curve : SpecCurve
  pub cell : Cell

-- the network, and the curve that was made for it; a bucket is never over a limit
pub record Edited : Type 0 where
  pub net : Net
  pub made : Option MadeCurve

abbrev pub as_cell : Cell → SpecCurve → Option MadeCurve
as_cell cell c = Some record { curve = c; cell = cell }

-- a service counts as that of the server's first queue, an arrival curve as that at the flow's first hop
abbrev pub as_service : ℕ → SpecCurve → Option MadeCurve
as_service s c = as_cell (cell_of kind.QueueService s 0) c

abbrev pub as_arrival : ℕ → SpecCurve → Option MadeCurve
as_arrival i c = as_cell (cell_of kind.In i 0) c

abbrev pub is_positive : ℚ → Bool
is_positive x = lt_q zero_q x

abbrev pub is_negative : ℚ → Bool
is_negative x = lt_q x zero_q

-- the last of the values to be looked at: a quantum below the longest packet in its queue
abbrev pub fitting : Net → Option MadeCurve → Or Edited
fitting net made = only_if (quanta_fit net) (Ok record { net = net; made = made })

-- ---- servers
-- a rate makes the service of a listed curve no other one
abbrev pub made_by_kind : ℕ → ServiceKind → SpecCurve → Option MadeCurve
made_by_kind s (Latency latency) c = as_service s c
made_by_kind s (Gate cycle slot) c = as_service s c
made_by_kind s Listed c = None

abbrev pub rate_made : ℚ → ℕ → Option NetServer → Option MadeCurve
rate_made rate s None = None
rate_made rate s (Some server) = made_by_kind s server.kind (service_of_kind rate server.kind server.service)

abbrev pub rate_edited : Net → List ℕ → ℚ → Or Edited
rate_edited net name rate =
    and_then (server_number net name) (λ s.
    only_if (is_positive rate)
    (fitting (at_server (with_rate rate) net s) (rate_made rate s (slice_get net.servers s))))

abbrev pub is_latency : ServiceKind → Bool
is_latency (Latency latency) = true
is_latency (Gate cycle slot) = false
is_latency Listed = false

abbrev pub has_latency : Option NetServer → Bool
has_latency None = false
has_latency (Some server) = is_latency server.kind

abbrev pub latency_made : ℚ → ℕ → Option NetServer → Option MadeCurve
latency_made latency s None = None
latency_made latency s (Some server) = as_service s (rate_latency server.rate latency)

abbrev pub latency_edited : Net → List ℕ → ℚ → Or Edited
latency_edited net name latency =
    and_then (server_number net name) (λ s.
    only_if (not (is_negative latency) && has_latency (slice_get net.servers s))
    (fitting (at_server (with_latency latency) net s) (latency_made latency s (slice_get net.servers s))))

abbrev pub link_edited : Net → List ℕ → ℚ → Or Edited
link_edited net name link =
    and_then (server_number net name) (λ s.
    only_if (not (is_negative link)) (fitting (at_server (with_link link) net s) None))

abbrev pub quantum_edited : Net → List ℕ → ℤ → ℤ → Or Edited
quantum_edited net name queue bits =
    and_then (server_number net name) (λ s.
    and_then (whole_that (is_quantum_of (discipline net s)) queue) (λ q.
    and_then (whole_that is_length bits) (λ b. fitting (at_server (with_quantum q b) net s) None)))

-- ---- flows
abbrev pub bucket_edited : Net → List ℕ → ℚ → ℚ → Or Edited
bucket_edited net name burst rate =
    and_then (flow_number net name) (λ i.
    only_if (not (is_negative burst) && not (is_negative rate))
    (fitting (at_flow (with_arrival (bucket burst rate)) net i) None))

-- the stair of the flow's packet
abbrev pub stair_of : Net → ℕ → ℚ → ℚ → SpecCurve
stair_of net i period jitter = stair (int (pos (packet net i))) period jitter

abbrev pub stair_edited : Net → List ℕ → ℚ → ℚ → Or Edited
stair_edited net name period jitter =
    and_then (flow_number net name) (λ i.
    only_if (is_positive period && not (is_negative jitter))
    (fitting (at_flow (with_arrival (stair_of net i period jitter)) net i)
    (as_arrival i (stair_of net i period jitter))))

abbrev pub packet_edited : Net → List ℕ → ℤ → Or Edited
packet_edited net name bits =
    and_then (flow_number net name) (λ i.
    and_then (whole_that is_length bits) (λ b. fitting (at_flow (with_packet b) net i) None))

abbrev pub route_edited : Net → List ℕ → List PathEntry → Or Edited
route_edited net name path =
    and_then (flow_number net name) (λ i.
    and_then (server_numbers net path) (λ ss.
    only_if (may_be_path net ss (entry_queues path)) (fitting (at_flow (with_path ss (entry_queues path)) net i) None)))

abbrev pub drop_edited : Net → List ℕ → Or Edited
drop_edited net name = and_then (flow_number net name) (λ i. fitting (at_flow dropped net i) None)

-- ---- one flow more
abbrev pub only_if_free : Bool → List ℕ → Or Edited → Or Edited
only_if_free true name r = r
only_if_free false name r = Err (name_taken name)

-- 256 numbers are given at most, those of dropped flows too
abbrev pub only_if_left : Bool → Edited → Or Edited
only_if_left true e = Ok e
only_if_left false e = Err no_number_left

abbrev pub new_flow : List ℕ → ℕ → ℚ → ℚ → (path lanes : List ℕ) → NetFlow
new_flow name bits burst rate path lanes = record {
  name = name;
  path = path;
  queues = lanes;
  packet = bits;
  arrival = bucket burst rate;
}

abbrev pub add_edited : Net → List ℕ → ℤ → ℚ → ℚ → List PathEntry → Or Edited
add_edited net name bits burst rate path =
    and_then (server_numbers net path) (λ ss.
    only_if_free (is_free net name) name (
    only_if (is_name name && (not (is_negative burst) && not (is_negative rate))) (
    and_then (whole_that is_length bits) (λ b.
    only_if (may_be_path net ss (entry_queues path)) (
    and_then (fitting (with_more (new_flow name b burst rate ss (entry_queues path)) net) None)
    (only_if_left (nat_lt (length net.flows) 256)))))))

-- ---- all kinds
-- of one network alone there is nothing to undo
abbrev pub edited : Net → Edit → Or Edited
edited net (edit.Rate name rate) = rate_edited net (string_bytes name) rate
edited net (edit.Latency name latency) = latency_edited net (string_bytes name) latency
edited net (edit.Link name link) = link_edited net (string_bytes name) link
edited net (edit.Quantum name queue bits) = quantum_edited net (string_bytes name) queue bits
edited net (edit.Bucket name burst rate) = bucket_edited net (string_bytes name) burst rate
edited net (edit.Stair name period jitter) = stair_edited net (string_bytes name) period jitter
edited net (edit.Packet name bits) = packet_edited net (string_bytes name) bits
edited net (edit.Route name path) = route_edited net (string_bytes name) path.items
edited net (edit.Add name bits burst rate path) = add_edited net (string_bytes name) bits burst rate path.items
edited net (edit.Drop name) = drop_edited net (string_bytes name)
edited net edit.Undo = Err nothing_to_undo
