-- A text is a list of edits or has a first fault; so it is a trace of a network, or has one.
use Rattle.std.proofs.Common.{◌≡◌, ℕ, zero, suc, ◌<◌, List, [], ◌∷◌, ◌++◌, length, get_or, Ok, Err, Some, None, true, false, Bool, refl, sym, ap, ap₂, subst, arith, inl, inr, ◌⊎◌, ◌∙◌, append-nil, append_assoc}
use Rattle.std.specs.Prelude.{Option, All, slice_get}
use Rattle.std.specs.Str.{bytes_eq}
use Rattle.std.proofs.lemmas.Bool.{cases_lt}
use Rattle.std.proofs.lemmas.List.{length_push, map_push}
use Rattle.std.proofs.lemmas.Option.{slice_get_within}
use Rattle.std.proofs.lemmas.Slice.Eq.{bytes_eq-Decides}
use Rattle.rational.specs.Rational.{ℚ, ◌≤ℚ◌}
use Rattle.rational.proofs.Laws.{le_or_lt}
use Rattle.net_model.specs.declared.trace.TracePacket.{TracePacket}
use Rattle.net_model.specs.declared.trace.Stall.{Stall}
use Rattle.net_model.specs.Networks.{Net, NetServer, NetFlow}
use Rattle.net_model.specs.Names.{IsServerNamed, IsFlowNamed}
use Rattle.net_model.specs.Traces.{SpecTrace}
use Rattle.net_model.proofs.net_graph.Deciding.{IsTested, least_below}
use Rattle.input_texts.specs.declared.table_text.fault.TableKind.{TableKind}
use Rattle.input_texts.specs.declared.table_text.fault.TableKind.TheVariants.{T5, T6, T7}
use Rattle.input_texts.specs.declared.table_text.trace_rows.Entry.{Entry}
use Rattle.input_texts.specs.declared.table_text.trace_rows.Entry.TheVariants.{Packet, Stop}
use Rattle.input_texts.specs.table_text.Rows.{Row, Read, rows_of}
use Rattle.input_texts.specs.table_text.EditRows.{EditText, edit_row}
use Rattle.input_texts.specs.table_text.EditLists.{most_edits, AreEditsOf, IsEditWrong, IsFirstEditFault}
use Rattle.input_texts.specs.table_text.TraceRows.{TraceRow, packet_row, stall_row, trace_row, Names, IsUnknown, Gives}
use Rattle.input_texts.specs.table_text.Traces.{most_rows, packets_in, stalls_in, IsTraceOf, IsEarlier, IsWrong, IsFirstFault}
use Rattle.input_texts.specs.table_text.Kept.{Follows}
use Rattle.command_replies.specs.Replies.{table_fault_reply}
use Rattle.existence.specs.texts.Laws.{EditsAreRead, ListStagesEnd, TracesAreRead, TraceStagesEnd}
use Rattle.existence.proofs.texts.KeptTraces.{traces_stand}
use Rattle.input_texts.proofs.table_text.TraceSteps.{packets_more, stalls_more, give_more, ordered_more}

-- ---- lists of edits
abbrev IsListOrFaulty : List ℕ → Type 0
IsListOrFaulty text = ((edits : List EditText) × AreEditsOf (rows_of text) edits) ⊎ ((kind : TableKind) × (number : ℕ) × IsFirstEditFault text kind number)

wrong_edit : (text : List ℕ) (before : List Row) (row : Row) (rest : List Row) (es : List EditText) (kind : TableKind)
    → rows_of text ≡ before ++ row ∷ rest → AreEditsOf before es → IsEditWrong (length before) row kind → IsListOrFaulty text
wrong_edit text before row rest es kind e h wrong =
    let first : IsFirstEditFault text kind (suc (length before)) = record {
      edits = es;
      right = h;
      before = before;
      row = row;
      after = rest;
      rows = e;
      place = refl;
      wrong = wrong;
    } in
    inr (kind, suc (length before), first)

after_edit : (text : List ℕ) (before : List Row) (row : Row) (rest : List Row) (es : List EditText) → rows_of text ≡ before ++ row ∷ rest
    → AreEditsOf before es → length before < most_edits
    → ((x : EditText) → AreEditsOf (before ++ row ∷ []) (es ++ x ∷ []) → IsListOrFaulty text)
    → (r : Read EditText) → edit_row row ≡ r → IsListOrFaulty text
after_edit text before row rest es e h few next (Ok x) is =
    let ok : EditText → Read EditText = λ y. Ok y in
    let more = length_push before row in
    next x record {
      each = map_push edit_row before row ∙ ap₂ (λ (rs : List (Read EditText)) (r : Read EditText). rs ++ r ∷ []) h.each is ∙ sym (map_push ok es x);
      few = omega (arith, few, more);
    }
after_edit text before row rest es e h few next (Err kind) is = wrong_edit text before row rest es kind e h (inr (few, is))

edits_from : (text : List ℕ) (rest before : List Row) (es : List EditText) → rows_of text ≡ before ++ rest → AreEditsOf before es → IsListOrFaulty text
edits_from text [] before es e h = inl (es, subst (λ (rs : List Row). AreEditsOf rs es) (sym (e ∙ append-nil before)) h)
edits_from text (row ∷ rest) before es e h = elim (cases_lt (length before) most_edits) [
  | inl few ↦ after_edit text before row rest es e h few
      (λ x g. edits_from text rest (before ++ row ∷ []) (es ++ x ∷ []) (e ∙ sym (append_assoc before (row ∷ []) rest)) g) (edit_row row) refl
  | inr many ↦ wrong_edit text before row rest es T7 e h (inl (refl, many))
]

pub edits_are_read : EditsAreRead
edits_are_read text = edits_from text (rows_of text) [] [] refl record { each = refl; few = omega arith }

pub list_stages_end : ListStagesEnd
list_stages_end edits_file edits_bytes = elim (edits_are_read edits_bytes) [
  | inl read ↦ inr (read.0, record { are = read.1 })
  | inr bad ↦ inl (
    table_fault_reply edits_file record { kind = bad.0; row = bad.1 },
    record { fault = record { kind = bad.0; row = bad.1 }; first = bad.2; is = refl },
  )
]

-- ---- names
same_name : (a b : List ℕ) → (a ≡ b) ⊎ ¬ (a ≡ b)
same_name a b = by_test (bytes_eq a b) refl
  where
    by_test : (t : Bool) → bytes_eq a b ≡ t → (a ≡ b) ⊎ ¬ (a ≡ b)
    by_test true e = inl ((bytes_eq-Decides a b).0 e)
    by_test false e = inr (λ same. let bad : true ≡ false = sym ((bytes_eq-Decides a b).1 same) ∙ e in cc)

pub server_or_none : (servers : List NetServer) (name : List ℕ) → ((k : ℕ) × IsServerNamed servers name k) ⊎ ((k : ℕ) → ¬ (IsServerNamed servers name k))
server_or_none servers name = elim (least_below (λ k. IsServerNamed servers name k) tested (length servers)) [
  | inl f ↦ inl (f.0, f.2.meets)
  | inr none ↦ inr (λ k s. none k (slice_get_within servers k s.server s.is) s)
]
  where
    by_server : (k : ℕ) (o : Option NetServer) → slice_get servers k ≡ o → IsServerNamed servers name k ⊎ ¬ (IsServerNamed servers name k)
    by_server k None e = inr (λ s. let bad : None ≡ Some s.server = sym e ∙ s.is in cc)
    by_server k (Some x) e = elim (same_name x.name name) [
      | inl same ↦ inl record { server = x; is = e; named = same }
      | inr other ↦ inr (λ s. let both : Some x ≡ Some s.server = sym e ∙ s.is in let one : x ≡ s.server = cc in other (ap (λ (y : NetServer). y.name) one ∙ s.named))
    ]

    tested : IsTested (λ k. IsServerNamed servers name k)
    tested k = by_server k (slice_get servers k) refl

pub flow_or_none : (flows : List (Option NetFlow)) (name : List ℕ) → ((k : ℕ) × IsFlowNamed flows name k) ⊎ ((k : ℕ) → ¬ (IsFlowNamed flows name k))
flow_or_none flows name = elim (least_below (λ k. IsFlowNamed flows name k) tested (length flows)) [
  | inl f ↦ inl (f.0, f.2.meets)
  | inr none ↦ inr (λ k s. none k (slice_get_within flows k (Some s.flow) s.is) s)
]
  where
    by_flow : (k : ℕ) (o : Option (Option NetFlow)) → slice_get flows k ≡ o → IsFlowNamed flows name k ⊎ ¬ (IsFlowNamed flows name k)
    by_flow k None e = inr (λ s. let bad : None ≡ Some (Some s.flow) = sym e ∙ s.is in cc)
    by_flow k (Some None) e = inr (λ s. let both : Some None ≡ Some (Some s.flow) = sym e ∙ s.is in let bad : None ≡ Some s.flow = cc in cc)
    by_flow k (Some (Some x)) e = elim (same_name x.name name) [
      | inl same ↦ inl record { flow = x; is = e; named = same }
      | inr other ↦ inr (λ s.
          let both : Some (Some x) ≡ Some (Some s.flow) = sym e ∙ s.is in
          let inner : Some x ≡ Some s.flow = cc in
          let one : x ≡ s.flow = cc in
          other (ap (λ (y : NetFlow). y.name) one ∙ s.named))
    ]

    tested : IsTested (λ k. IsFlowNamed flows name k)
    tested k = by_flow k (slice_get flows k) refl

named_or_not : (net : Net) (says : TraceRow) → ((entry : Entry) × Names net says entry) ⊎ IsUnknown net says
named_or_not net (packet_row time flow bits) = elim (flow_or_none net.flows flow) [
  | inl f ↦ inl (Packet record { time = time; flow = f.0; bits = bits }, (refl, refl, f.1))
  | inr none ↦ inr none
]
named_or_not net (stall_row server start end) = elim (server_or_none net.servers server) [
  | inl s ↦ inl (Stop record { server = s.0; start = start; end = end }, (refl, refl, s.1))
  | inr none ↦ inr none
]

-- ---- the order of packets
earlier_or_not : (ps : List TracePacket) (t : ℚ) → IsEarlier ps t ⊎ All (λ q. q.time ≤ℚ t) ps
earlier_or_not [] t = inr (λ k d h. absurd (omega (arith, h)))
earlier_or_not (p ∷ ps) t = elim (le_or_lt p.time t) [
  | inr late ↦ inl (zero, p, omega arith, refl, late)
  | inl first ↦ elim (earlier_or_not ps t) [
    | inl a ↦ let l = a.2 in inl (suc a.0, a.1, omega (arith, l), a.3, a.4)
    | inr all ↦ inr (λ k d h. at_place k d h first all)
  ]
]
  where
    at_place : (k : ℕ) (d : TracePacket) → k < length (p ∷ ps) → p.time ≤ℚ t → All (λ q. q.time ≤ℚ t) ps → (get_or (p ∷ ps) k d).time ≤ℚ t
    at_place zero d h first all = first
    at_place (suc k) d h first all = all k d (omega (arith, h))

follows_or_not : (ps : List TracePacket) (entry : Entry) → Follows ps entry ⊎ ((p : TracePacket) × (entry ≡ Packet p) × IsEarlier ps p.time)
follows_or_not ps (Packet p) = elim (earlier_or_not ps p.time) [ inl a ↦ inr (p, refl, a) | inr all ↦ inl all ]
follows_or_not ps (Stop s) = inl tt

-- ---- traces
abbrev IsTraceOrFaulty : Net → List ℕ → Type 0
IsTraceOrFaulty net text = ((trace : SpecTrace) × IsTraceOf net (rows_of text) trace) ⊎ ((kind : TableKind) × (number : ℕ) × IsFirstFault net text kind number)

abbrev with_entry : SpecTrace → Entry → SpecTrace
with_entry t entry = record { packets = t.packets ++ packets_in (entry ∷ []); stalls = t.stalls ++ stalls_in (entry ∷ []) }

entry_more : (net : Net) (before : List Row) (row : Row) (t : SpecTrace) (entry : Entry) → IsTraceOf net before t → length before < most_rows
    → Gives net (trace_row row) entry → Follows t.packets entry → IsTraceOf net (before ++ row ∷ []) (with_entry t entry)
entry_more net before row t entry h few gives follows =
    let more = length_push before row in
    record {
      entries = h.entries ++ entry ∷ [];
      give = give_more net before h.entries row entry h.give gives;
      few = omega (arith, few, more);
      packets = ap (λ (qs : List TracePacket). qs ++ packets_in (entry ∷ [])) h.packets ∙ sym (packets_more h.entries entry);
      stalls = ap (λ (qs : List Stall). qs ++ stalls_in (entry ∷ [])) h.stalls ∙ sym (stalls_more h.entries entry);
      in_order = ordered_more t.packets entry h.in_order follows;
    }

module _ (net : Net) (text : List ℕ) (before : List Row) (row : Row) (rest : List Row) (t : SpecTrace) (e : rows_of text ≡ before ++ row ∷ rest) (h : IsTraceOf net before t) where
  wrong_row : (kind : TableKind) → IsWrong net (length before) t.packets row kind → IsTraceOrFaulty net text
  wrong_row kind wrong = inr (
    kind,
    suc (length before),
    record {
      before = before;
      row = row;
      after = rest;
      rows = e;
      place = refl;
      trace = t;
      right = h;
      wrong = wrong;
    },
  )

  after_row : length before < most_rows
      → ((entry : Entry) → IsTraceOf net (before ++ row ∷ []) (with_entry t entry) → IsTraceOrFaulty net text)
      → (r : Read TraceRow) → trace_row row ≡ r → IsTraceOrFaulty net text
  after_row few next (Err kind) is = wrong_row kind (inr (few, inl (inl is)))
  after_row few next (Ok says) is = elim (named_or_not net says) [
    | inr unknown ↦ wrong_row T5 (inr (few, inl (inr (refl, record { says = says; is = is; unknown = unknown }))))
    | inl named ↦
        let gives : Gives net (trace_row row) named.0 = record { says = says; is = is; names = named.1 } in
        elim (follows_or_not t.packets named.0) [
          | inl follows ↦ next named.0 (entry_more net before row t named.0 h few gives follows)
          | inr late ↦
              let given : Gives net (trace_row row) (Packet late.0) = subst (λ (x : Entry). Gives net (trace_row row) x) late.1 gives in
              wrong_row T6 (inr (few, inr (refl, record { packet = late.0; gives = given; earlier = late.2 })))
        ]
  ]

trace_from : (net : Net) (text : List ℕ) (rest before : List Row) (t : SpecTrace) → rows_of text ≡ before ++ rest → IsTraceOf net before t
    → IsTraceOrFaulty net text
trace_from net text [] before t e h = inl (t, subst (λ (rs : List Row). IsTraceOf net rs t) (sym (e ∙ append-nil before)) h)
trace_from net text (row ∷ rest) before t e h = elim (cases_lt (length before) most_rows) [
  | inl few ↦ after_row net text before row rest t e h few
      (λ entry g. trace_from net text rest (before ++ row ∷ []) (with_entry t entry) (e ∙ sym (append_assoc before (row ∷ []) rest)) g) (trace_row row) refl
  | inr many ↦ wrong_row net text before row rest t e h T7 (inl (refl, many))
]

pub traces_are_read : TracesAreRead
traces_are_read net text = trace_from net text (rows_of text) [] record { packets = []; stalls = [] } refl record {
  entries = [];
  give = tt;
  few = omega arith;
  packets = refl;
  stalls = refl;
  in_order = λ i j d l h. absurd (omega (arith, h));
}

pub trace_stages_end : TraceStagesEnd
trace_stages_end net trace_file trace_bytes = elim (traces_are_read net trace_bytes) [
  | inl read ↦
      let stands = traces_stand net (rows_of trace_bytes) read.0 read.1 in
      inr (read.0, record { reads = read.1; keeps = stands.0 })
  | inr bad ↦ inl (
    table_fault_reply trace_file record { kind = bad.0; row = bad.1 },
    record { fault = record { kind = bad.0; row = bad.1 }; first = bad.2; is = refl },
  )
]
