use Rattle.std.proofs.Common.{◌≡◌, inl, inr, sym, subst, append-nil, ⊎_elim, ◌⊎◌}
use Rattle.csv.specs.Records.{fields_of}
use Rattle.input_texts.specs.declared.table_text.fault.TableKind.TheVariants.{T6, NoMemory}
use Rattle.input_texts.specs.declared.table_text.trace_rows.Entry.TheVariants.{Packet, Stop}
use Rattle.input_texts.specs.table_text.Kept.{IsKept}
use Rattle.input_texts.specs.table_text.TraceRows.{trace_row, Gives}
use Rattle.input_texts.specs.table_text.Traces.{IsEarlier, IsWrong}
use Rattle.std.proofs.lemmas.Result.{IfErr-weaker}
use Rattle.input_texts.proofs.table_text.TraceSteps.{both_ok}
use Rattle.input_texts.proofs.table_text.traces.add_row.Goals as goal

pub returns-in-Packet-clause-adds : goal.returns-in-Packet-clause-adds
returns-in-Packet-clause-adds c =
    let gives = subst (λ e. Gives c.args.net.now (trace_row (fields_of c.args.row.now)) e) c.in-Packet.is c.in_ok-packet.ensures.gives in
    let kept = subst IsKept c.in-Packet.is c.in_ok-packet.ensures.kept in
    both_ok c.add_packet.result (λ adds follows. record {
      entry = Packet c.in-Packet.packet;
      gives = gives;
      kept = kept;
      follows = follows;
      room = c.if-before-ge-MOST_ROWS.false;
      packets_are = adds;
      stalls_are = sym (append-nil c.args.stalls.now.items);
    }) c.add_packet.ensures.adds c.add_packet.ensures.follows

pub returns-in-Packet-clause-wrong : goal.returns-in-Packet-clause-wrong
returns-in-Packet-clause-wrong c =
    let net = c.args.net.now in
    let row = fields_of c.args.row.now in
    let ps = c.args.packets.now.items in
    let gives = subst (λ e. Gives net (trace_row row) e) c.in-Packet.is c.in_ok-packet.ensures.gives in
    IfErr-weaker c.add_packet.result (λ kind. (kind ≡ NoMemory) ⊎ ((kind ≡ T6) × IsEarlier ps c.in-Packet.packet.time)) (λ kind. (kind ≡ NoMemory) ⊎ IsWrong net c.args.before ps row kind)
    (λ kind w. ⊎_elim (λ memory. inl memory)
    (λ late. inr (inr (c.if-before-ge-MOST_ROWS.false, inr (late.0, record { packet = c.in-Packet.packet; gives = gives; earlier = late.1 })))) w)
    c.add_packet.ensures.wrong

pub returns-in_ok-push-in-Stop-clause-adds : goal.returns-in_ok-push-in-Stop-clause-adds
returns-in_ok-push-in-Stop-clause-adds c = record {
  entry = Stop c.in-Stop.stall;
  gives = subst (λ e. Gives c.args.net.now (trace_row (fields_of c.args.row.now)) e) c.in-Stop.is c.in_ok-packet.ensures.gives;
  kept = subst IsKept c.in-Stop.is c.in_ok-packet.ensures.kept;
  follows = tt;
  room = c.if-before-ge-MOST_ROWS.false;
  packets_are = sym (append-nil c.args.packets.now.items);
  stalls_are = c.in_ok-push-in-Stop.ensures.items;
}
