-- Rows of a trace.
use Rattle.std.proofs.Common.{⊎_elim, eq-or-lt_of_le, Ok, ◌≡◌, ℕ, ◌-◌, true, false, List, length, slice_get, get_or, Some, None, All, AllPairs, refl, sym, ap, subst, arith, inr, ◌∙◌}
use Rattle.std.proofs.lemmas.Option.{slice_get_within, get_or_from_slice_get}
use Rattle.rational.specs.Rational.{ℚ, lt_q, ◌≤ℚ◌}
use Rattle.rational.proofs.Over.{lt_q_out, lt_q_in}
use Rattle.rational.proofs.Laws.{le_trans, le_of_not_lt}
use Rattle.net_model.specs.declared.trace.TracePacket.{TracePacket}
use Rattle.net_model.specs.Networks.{Net}
use Rattle.net_model.specs.Names.{IsServerNamed, IsFlowNamed, FindsServer, FindsFlow}
use Rattle.input_texts.specs.declared.table_text.fault.TableKind.TheVariants.{T5}
use Rattle.input_texts.specs.declared.table_text.trace_rows.Entry.TheVariants.{Packet, Stop}
use Rattle.input_texts.specs.table_text.Rows.{Row, field}
use Rattle.input_texts.specs.table_text.Fields.{number_in, time_in, bits_in}
use Rattle.input_texts.specs.table_text.TraceRows.{packet_row, stall_row, packet_of, stall_of, Gives, IsWrongIn}
use Rattle.input_texts.specs.table_text.Traces.{IsEarlier}

-- ---- what a row gives
module _ (net : Net) (row : Row) (a b d : List ℕ) where
  packet_says : (time : ℚ) (bits : ℕ) → a ≡ field row 1 → b ≡ field row 3 → Some time ≡ time_in a → Some bits ≡ bits_in b → packet_of row ≡ Ok (packet_row time (field row 2) bits)
  packet_says time bits ea eb et es =
      let t : time_in (field row 1) ≡ Some time = ap time_in (sym ea) ∙ sym et in
      let s : bits_in (field row 3) ≡ Some bits = ap bits_in (sym eb) ∙ sym es in
      rw (t, s) refl

  pub packet_gives : (time : ℚ) (bits flow : ℕ) → a ≡ field row 1 → b ≡ field row 3 → d ≡ field row 2 → Some time ≡ time_in a → Some bits ≡ bits_in b → IsFlowNamed net.flows d flow
      → Gives net (packet_of row) (Packet (record { time = time; flow = flow; bits = bits }))
  packet_gives time bits flow ea eb ed et es n = record {
    says = packet_row time (field row 2) bits;
    is = packet_says time bits ea eb et es;
    names = (refl, refl, subst (λ x. IsFlowNamed net.flows x flow) ed n);
  }

  pub packet_unknown : (time : ℚ) (bits : ℕ) → a ≡ field row 1 → b ≡ field row 3 → d ≡ field row 2 → Some time ≡ time_in a → Some bits ≡ bits_in b → FindsFlow net.flows d None
      → IsWrongIn net (packet_of row) T5
  packet_unknown time bits ea eb ed et es n = inr (
    refl,
    record {
      says = packet_row time (field row 2) bits;
      is = packet_says time bits ea eb et es;
      unknown = subst (λ x. FindsFlow net.flows x None) ed n;
    },
  )

  stall_says : (start end : ℚ) → a ≡ field row 2 → b ≡ field row 3 → Some start ≡ time_in a → Some end ≡ number_in b → lt_q start end ≡ true → stall_of row ≡ Ok (stall_row (field row 1) start end)
  stall_says start end ea eb et es lt =
      let t : time_in (field row 2) ≡ Some start = ap time_in (sym ea) ∙ sym et in
      let s : number_in (field row 3) ≡ Some end = ap number_in (sym eb) ∙ sym es in
      rw (t, s, lt) refl

  pub stall_gives : (start end : ℚ) (server : ℕ) → a ≡ field row 2 → b ≡ field row 3 → d ≡ field row 1 → Some start ≡ time_in a → Some end ≡ number_in b → lt_q start end ≡ true → IsServerNamed net.servers d server
      → Gives net (stall_of row) (Stop (record { server = server; start = start; end = end }))
  stall_gives start end server ea eb ed et es lt n = record {
    says = stall_row (field row 1) start end;
    is = stall_says start end ea eb et es lt;
    names = (refl, refl, subst (λ x. IsServerNamed net.servers x server) ed n);
  }

  pub stall_unknown : (start end : ℚ) → a ≡ field row 2 → b ≡ field row 3 → d ≡ field row 1 → Some start ≡ time_in a → Some end ≡ number_in b → lt_q start end ≡ true → FindsServer net.servers d None
      → IsWrongIn net (stall_of row) T5
  stall_unknown start end ea eb ed et es lt n = inr (
    refl,
    record {
      says = stall_row (field row 1) start end;
      is = stall_says start end ea eb et es lt;
      unknown = subst (λ x. FindsServer net.servers x None) ed n;
    },
  )

-- ---- the order of packets
-- a time before that of the last packet
pub last_later : (packets : List TracePacket) (q : TracePacket) (time : ℚ) → Some q ≡ slice_get packets (length packets - 1) → lt_q time q.time ≡ true → IsEarlier packets time
last_later packets q time is h =
    let n = length packets - 1 in
    (n, q, slice_get_within packets n q (sym is), get_or_from_slice_get packets n q q (sym is), lt_q_in time q.time h)

-- and one that is not
last_not_later : (packets : List TracePacket) (q : TracePacket) (time : ℚ) → Some q ≡ slice_get packets (length packets - 1) → lt_q time q.time ≡ false → q.time ≤ℚ time
last_not_later packets q time is h = le_of_not_lt (λ k. let t : lt_q time q.time ≡ true = lt_q_out time q.time k in let bad : ⊥ = cc in bad)

pub none_later : (packets : List TracePacket) (q : TracePacket) (time : ℚ) → Some q ≡ slice_get packets (length packets - 1) → lt_q time q.time ≡ false
    → AllPairs (λ a b. a.time ≤ℚ b.time) packets → All (λ a. a.time ≤ℚ time) packets
none_later packets q time is h pairs k d within =
    let n = length packets - 1 in
    let low = last_not_later packets q time is h in
    let at : get_or packets n d ≡ q = get_or_from_slice_get packets n q d (sym is) in
    ⊎_elim
    (λ same. subst (λ (i : ℕ). (get_or packets i d).time ≤ℚ time) (sym same) (subst (λ (a : TracePacket). a.time ≤ℚ time) (sym at) low))
    (λ less. le_trans (subst (λ (a : TracePacket). (get_or packets k d).time ≤ℚ a.time) at (pairs k n d less (omega (arith, within)))) low)
    (eq-or-lt_of_le (omega (arith, within)))
