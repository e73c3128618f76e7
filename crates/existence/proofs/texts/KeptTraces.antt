-- A trace that is read keeps what every trace keeps, and its numbers are those of live flows and of servers.
use Rattle.std.proofs.Common.{◌≡◌, ℕ, ℤ, pos, negsuc, ◌+◌, ◌<◌, List, [], ◌∷◌, length, Ok, Err, Some, None, true, false, refl, sym, ap, subst, arith, inl, inr, ◌∙◌}
use Rattle.std.specs.Prelude.{Option, All, ok_or, option_and_then, nat_le, ◌==◌, not, if◌then◌else◌}
use Rattle.std.proofs.lemmas.Bool.{cases_Bool, leb-true}
use Rattle.std.proofs.lemmas.List.Elements.{All-cons, All-nil}
use Rattle.std.proofs.lemmas.Option.{slice_get_within}
use Rattle.rational.specs.Rational.{ℚ, lt_q, ◌≤ℚ◌, ◌<ℚ◌}
use Rattle.rational.proofs.Over.{lt_q_out, lt_q_in}
use Rattle.rational.proofs.Laws.{le_of_not_lt}
use Rattle.min_plus.specs.Functions.{zero_q}
use Rattle.net_model.specs.declared.trace.TracePacket.{TracePacket}
use Rattle.net_model.specs.declared.trace.Stall.{Stall}
use Rattle.net_model.specs.Accepted.{IsLength}
use Rattle.net_model.specs.Networks.{Net}
use Rattle.net_model.specs.Traces.{SpecTrace, IsTracePacket, IsStall}
use Rattle.net_model.specs.stated_runs.FromTraces.{IsLive}
use Rattle.input_texts.specs.declared.table_text.fault.TableKind.{TableKind}
use Rattle.input_texts.specs.declared.table_text.fault.TableKind.TheVariants.{T2, T3, T4}
use Rattle.input_texts.specs.declared.table_text.trace_rows.TraceWord.{TraceWord}
use Rattle.input_texts.specs.declared.table_text.trace_rows.TraceWord.TheVariants as words
use Rattle.input_texts.specs.declared.table_text.trace_rows.Entry.{Entry}
use Rattle.input_texts.specs.declared.table_text.trace_rows.Entry.TheVariants.{Packet, Stop}
use Rattle.input_texts.specs.table_text.Rows.{Row, Read, and_then, field, is_plain}
use Rattle.input_texts.specs.table_text.Fields.{number_in, not_below_zero, time_in, whole_in, length_of, bits_in}
use Rattle.input_texts.specs.table_text.TraceRows.{TraceRow, packet_row, stall_row, trace_word, row_with, trace_row, Names, Gives}
use Rattle.input_texts.specs.table_text.Traces.{packets_in, stalls_in, Give, IsTraceOf}
use Rattle.existence.specs.texts.Laws.{TracesStand}

-- ---- fields
from_zero : (o : Option ℚ) (t : ℚ) → option_and_then not_below_zero o ≡ Some t → zero_q ≤ℚ t
from_zero None t e = absurd (cc)
from_zero (Some x) t e = elim (cases_Bool (lt_q x zero_q)) [
  | inl low ↦ let bad = rw low at e in absurd (cc)
  | inr fine ↦
      let both : Some x ≡ Some t = rw fine at e in
      let same : x ≡ t = cc in
      subst (λ (y : ℚ). zero_q ≤ℚ y) same
      (le_of_not_lt (λ l. let is : lt_q x zero_q ≡ true = lt_q_out x zero_q l in let bad : true ≡ false = sym is ∙ fine in cc))
]

in_range : (o : Option ℤ) (n : ℕ) → option_and_then length_of o ≡ Some n → IsLength n
in_range None n e = absurd (cc)
in_range (Some (negsuc m)) n e = absurd (cc)
in_range (Some (pos m)) n e = elim (cases_Bool (nat_le 1 m)) [
  | inr low ↦ let bad = rw low at e in absurd (cc)
  | inl some ↦ elim (cases_Bool (nat_le m 16777216)) [
    | inr high ↦ let bad = rw (some, high) at e in absurd (cc)
    | inl few ↦
        let both : Some m ≡ Some n = rw (some, few) at e in
        let same : m ≡ n = cc in
        subst IsLength same (leb-true 1 m some, leb-true m 16777216 few)
  ]
]

-- ---- rows
-- a part that is there, and what is made of it
record IsPart {A B : Type 0} (o : Option A) (next : A → Read B) (y : B) : Type 0 where
  part : A
  is : o ≡ Some part
  gives : next part ≡ Ok y

part_of : {A B : Type 0} (o : Option A) (fault : TableKind) (next : A → Read B) (y : B) → and_then (ok_or o fault) next ≡ Ok y
    → IsPart o next y
part_of None fault next y e = absurd (cc)
part_of (Some x) fault next y e = record { part = x; is = refl; gives = e }

-- what a row that is read says of its packet or stall
abbrev SaysKept : TraceRow → Type 0
SaysKept (packet_row time flow bits) = (zero_q ≤ℚ time) × IsLength bits
SaysKept (stall_row server start end) = (zero_q ≤ℚ start) × (start <ℚ end)

abbrev after_time : Row → ℚ → Read TraceRow
after_time row time = and_then (ok_or (bits_in (field row 3)) T4) (λ bits. Ok (packet_row time (field row 2) bits))

abbrev after_end : Row → ℚ → ℚ → Read TraceRow
after_end row start end = if lt_q start end then Ok (stall_row (field row 1) start end) else Err T4

abbrev after_start : Row → ℚ → Read TraceRow
after_start row start = and_then (ok_or (number_in (field row 3)) T4) (after_end row start)

by_word : (word : TraceWord) (row : Row) (says : TraceRow) → row_with word row ≡ Ok says → SaysKept says
by_word words.Packet row says e =
    let t = part_of (time_in (field row 1)) T4 (after_time row) says e in
    let b = part_of (bits_in (field row 3)) T4 (λ bits. Ok (packet_row t.part (field row 2) bits)) says t.gives in
    let made : Ok (packet_row t.part (field row 2) b.part) ≡ Ok says = b.gives in
    let same : packet_row t.part (field row 2) b.part ≡ says = cc in
    subst SaysKept same (from_zero (number_in (field row 1)) t.part t.is, in_range (whole_in (field row 3)) b.part b.is)
by_word words.Stall row says e =
    let a = part_of (time_in (field row 2)) T4 (after_start row) says e in
    let b = part_of (number_in (field row 3)) T4 (after_end row a.part) says a.gives in
    elim (cases_Bool (lt_q a.part b.part)) [
      | inr fine ↦ let bad = rw fine at b.gives in absurd (cc)
      | inl later ↦
          let made : Ok (stall_row (field row 1) a.part b.part) ≡ Ok says = rw later at b.gives in
          let same : stall_row (field row 1) a.part b.part ≡ says = cc in
          subst SaysKept same (from_zero (number_in (field row 2)) a.part a.is, lt_q_in a.part b.part later)
    ]

abbrev after_word : Row → TraceWord → Read TraceRow
after_word row word = if not (length row == 4) then Err T3 else row_with word row

by_length : (row : Row) (says : TraceRow) (word : TraceWord) → after_word row word ≡ Ok says → SaysKept says
by_length row says word e = elim (cases_Bool (length row == 4)) [
  | inr fine ↦ let bad = rw fine at e in absurd (cc)
  | inl four ↦ by_word word row says (rw four at e)
]

says_kept : (row : Row) (says : TraceRow) → trace_row row ≡ Ok says → SaysKept says
unfolding trace_row
says_kept row says e = elim (cases_Bool (is_plain row)) [
  | inr fine ↦ let bad = rw fine at e in absurd (cc)
  | inl plain ↦
      let read : and_then (ok_or (trace_word (field row 0)) T2) (after_word row) ≡ Ok says = rw plain at e in
      let w = part_of (trace_word (field row 0)) T2 (after_word row) says read in
      by_length row says w.part w.gives
]

-- ---- entries
-- a packet of a live flow, or a stall of a server
abbrev Stands : Net → Entry → Type 0
Stands net (Packet p) = IsTracePacket p × IsLive net p.flow
Stands net (Stop s) = IsStall s × (s.server < length net.servers)

entry_stands : (net : Net) (says : TraceRow) (entry : Entry) → SaysKept says → Names net says entry → Stands net entry
entry_stands net (packet_row time flow bits) (Packet p) s n = (
  record { from_zero = subst (λ (x : ℚ). zero_q ≤ℚ x) (sym n.0) s.0; bits = subst IsLength (sym n.1) s.1 },
  (n.2.flow, n.2.is),
)
entry_stands net (packet_row time flow bits) (Stop t) s n = absurd n
entry_stands net (stall_row server start end) (Packet p) s n = absurd n
entry_stands net (stall_row server start end) (Stop t) s n = (
  record {
    from_zero = subst (λ (x : ℚ). zero_q ≤ℚ x) (sym n.0) s.0;
    forward = subst (λ (x : ℚ). x <ℚ t.end) (sym n.0) (subst (λ (x : ℚ). start <ℚ x) (sym n.1) s.1);
  },
  slice_get_within net.servers t.server n.2.server n.2.is,
)

row_stands : (net : Net) (row : Row) (entry : Entry) → Gives net (trace_row row) entry → Stands net entry
row_stands net row entry h = entry_stands net h.says entry (says_kept row h.says h.is) h.names

-- ---- traces
abbrev Packets : Net → List TracePacket → Type 0
Packets net ps = All (λ (p : TracePacket). IsTracePacket p × IsLive net p.flow) ps

abbrev Stalls : Net → List Stall → Type 0
Stalls net ss = All (λ (s : Stall). IsStall s × (s.server < length net.servers)) ss

record AllStand (net : Net) (rows : List Row) (es : List Entry) : Type 0 where
  few : length (packets_in es) + length (stalls_in es) ≡ length rows
  packets : Packets net (packets_in es)
  stalls : Stalls net (stalls_in es)

with_packet : (net : Net) (row : Row) (rows : List Row) (p : TracePacket) (es : List Entry) → Stands net (Packet p) → AllStand net rows es
    → AllStand net (row ∷ rows) (Packet p ∷ es)
with_packet net row rows p es here rest =
    let count = rest.few in
    record {
      few = omega (arith, count);
      packets = All-cons (λ (q : TracePacket). IsTracePacket q × IsLive net q.flow) p (packets_in es) here rest.packets;
      stalls = rest.stalls;
    }

with_stall : (net : Net) (row : Row) (rows : List Row) (s : Stall) (es : List Entry) → Stands net (Stop s) → AllStand net rows es
    → AllStand net (row ∷ rows) (Stop s ∷ es)
with_stall net row rows s es here rest =
    let count = rest.few in
    record {
      few = omega (arith, count);
      packets = rest.packets;
      stalls = All-cons (λ (t : Stall). IsStall t × (t.server < length net.servers)) s (stalls_in es) here rest.stalls;
    }

all_stand : (net : Net) (rows : List Row) (es : List Entry) → Give net rows es → AllStand net rows es
all_stand net [] [] h = record {
  few = refl;
  packets = All-nil (λ (q : TracePacket). IsTracePacket q × IsLive net q.flow);
  stalls = All-nil (λ (t : Stall). IsStall t × (t.server < length net.servers));
}
all_stand net [] (x ∷ es) h = absurd h
all_stand net (row ∷ rows) [] h = absurd h
all_stand net (row ∷ rows) (Packet p ∷ es) h =
    with_packet net row rows p es (row_stands net row (Packet p) h.0) (all_stand net rows es h.1)
all_stand net (row ∷ rows) (Stop s ∷ es) h =
    with_stall net row rows s es (row_stands net row (Stop s) h.0) (all_stand net rows es h.1)

pub traces_stand : TracesStand
traces_stand net rows trace h =
    let all = all_stand net rows h.entries h.give in
    let packets = subst (Packets net) (sym h.packets) all.packets in
    let stalls = subst (Stalls net) (sym h.stalls) all.stalls in
    let count = all.few in
    let few = h.few in
    let a = ap (λ (ps : List TracePacket). length ps) h.packets in
    let b = ap (λ (ss : List Stall). length ss) h.stalls in (
      record {
        few = omega (arith, count, few, a, b);
        packets = λ k d l. (packets k d l).0;
        in_order = h.in_order;
        stalls = λ k d l. (stalls k d l).0;
      },
      record { flows = λ k d l. (packets k d l).1; servers = λ k d l. (stalls k d l).1 },
    )

pub packets_kept : (net : Net) (rows : List Row) (trace : SpecTrace) → IsTraceOf net rows trace → All IsTracePacket trace.packets
packets_kept net rows trace h = (traces_stand net rows trace h).0.packets
