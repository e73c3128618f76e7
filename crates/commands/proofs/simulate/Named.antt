-- The numbers of a trace that rows give are those of live flows and of servers.
use Rattle.std.proofs.Common.{List, [], ◌∷◌, sym, subst, ◌<◌, length}
use Rattle.std.specs.Prelude.{All}
use Rattle.std.proofs.lemmas.List.Elements.{All-nil, All-cons}
use Rattle.std.proofs.lemmas.Option.{slice_get_within}
use Rattle.net_model.specs.declared.trace.TracePacket.{TracePacket}
use Rattle.net_model.specs.declared.trace.Stall.{Stall}
use Rattle.net_model.specs.Networks.{Net}
use Rattle.net_model.specs.Traces.{SpecTrace}
use Rattle.net_model.specs.stated_runs.FromTraces.{IsLive}
use Rattle.net_model.specs.stated_runs.FromTraces as stated
use Rattle.input_texts.specs.declared.table_text.trace_rows.Entry.{Entry}
use Rattle.input_texts.specs.declared.table_text.trace_rows.Entry.TheVariants.{Packet, Stop}
use Rattle.input_texts.specs.table_text.Rows.{Row}
use Rattle.input_texts.specs.table_text.TraceRows.{TraceRow, packet_row, stall_row, Names}
use Rattle.input_texts.specs.table_text.Traces.{packets_in, stalls_in, Give, IsTraceOf}

flow_of : (net : Net) (says : TraceRow) (p : TracePacket) → Names net says (Packet p) → IsLive net p.flow
flow_of net (packet_row time flow bits) p h = (h.2.flow, h.2.is)
flow_of net (stall_row server start end) p h = absurd h

server_of : (net : Net) (says : TraceRow) (s : Stall) → Names net says (Stop s) → s.server < length net.servers
server_of net (packet_row time flow bits) s h = absurd h
server_of net (stall_row server start end) s h = slice_get_within net.servers s.server h.2.server h.2.is

flows : (net : Net) (rows : List Row) (entries : List Entry) → Give net rows entries
    → All (λ (p : TracePacket). IsLive net p.flow) (packets_in entries)
flows net [] [] h = All-nil (λ (p : TracePacket). IsLive net p.flow)
flows net [] (x ∷ entries) h = absurd h
flows net (row ∷ rows) [] h = absurd h
flows net (row ∷ rows) (Packet p ∷ entries) h =
    All-cons (λ (q : TracePacket). IsLive net q.flow) p (packets_in entries) (flow_of net h.0.says p h.0.names)
    (flows net rows entries h.1)
flows net (row ∷ rows) (Stop s ∷ entries) h = flows net rows entries h.1

servers : (net : Net) (rows : List Row) (entries : List Entry) → Give net rows entries
    → All (λ (s : Stall). s.server < length net.servers) (stalls_in entries)
servers net [] [] h = All-nil (λ (s : Stall). s.server < length net.servers)
servers net [] (x ∷ entries) h = absurd h
servers net (row ∷ rows) [] h = absurd h
servers net (row ∷ rows) (Packet p ∷ entries) h = servers net rows entries h.1
servers net (row ∷ rows) (Stop s ∷ entries) h =
    All-cons (λ (x : Stall). x.server < length net.servers) s (stalls_in entries) (server_of net h.0.says s h.0.names)
    (servers net rows entries h.1)

pub named : (net : Net) (rows : List Row) (trace : SpecTrace) → IsTraceOf net rows trace → stated.IsTraceOf net trace
named net rows trace h = record {
  flows = subst (All (λ (p : TracePacket). IsLive net p.flow)) (sym h.packets) (flows net rows h.entries h.give);
  servers =
      subst (All (λ (s : Stall). s.server < length net.servers)) (sym h.stalls) (servers net rows h.entries h.give);
}
