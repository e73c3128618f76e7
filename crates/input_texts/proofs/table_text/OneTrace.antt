-- A text is one trace at most, or has one first fault.
use Rattle.std.proofs.Common.{Bool, true, false, true≢false, le_refl, sub-eq-zero_of_le, ◌≡◌, ◌≢◌, ℕ, suc, List, [], ◌∷◌, ◌++◌, length, drop, get_or, Some, Result, Ok, Err, AllPairs, slice_get, refl, sym, ap, ap₂, subst, subst₂, arith, inl, inr, ⊎_elim, ◌⊎◌, ◌∙◌, length-append}
use Rattle.std.proofs.lemmas.Bool.{cases_order}
use Rattle.std.proofs.lemmas.Option.{slice_get_within, get_or_from_slice_get}
use Rattle.std.proofs.lemmas.List.{get_or_append_left, get_or-append_right}
use Rattle.rational.specs.Rational.{◌≤ℚ◌}
use Rattle.rational.proofs.Laws.{lt_irrefl, lt_le_trans}
use Rattle.net_model.specs.declared.trace.TracePacket.{TracePacket}
use Rattle.net_model.specs.declared.trace.Stall.{Stall}
use Rattle.net_model.specs.Networks.{Net}
use Rattle.net_model.specs.Accepted.{IsAccepted}
use Rattle.net_model.specs.Names.{DifferInName, IsServerNamed, IsFlowNamed}
use Rattle.net_model.specs.Traces.{SpecTrace}
use Rattle.input_texts.specs.declared.table_text.fault.TableKind.{TableKind}
use Rattle.input_texts.specs.declared.table_text.fault.TableKind.TheVariants.{T5, T6}
use Rattle.input_texts.specs.declared.table_text.trace_rows.Entry.{Entry}
use Rattle.input_texts.specs.declared.table_text.trace_rows.Entry.TheVariants.{Packet, Stop}
use Rattle.input_texts.specs.table_text.Rows.{Row, Read, rows_of}
use Rattle.input_texts.specs.table_text.TraceRows.{TraceRow, packet_row, stall_row, trace_row, Names, IsUnknown, Gives, IsWrongIn}
use Rattle.input_texts.specs.table_text.Traces.{packets_in, stalls_in, Give, IsTraceOf, IsEarlier, GivesEarlier, IsWrong, IsFirstFault}

-- ---- answers
value_or : {X E : Type 0} → X → Result X E → X
value_or d (Ok x) = x
value_or d (Err e) = d

kind_or : {X E : Type 0} → E → Result X E → E
kind_or d (Ok x) = d
kind_or d (Err e) = e

is_read : {X E : Type 0} → Result X E → Bool
is_read (Ok x) = true
is_read (Err e) = false

pub same_value : {X E : Type 0} (r : Result X E) (x y : X) → r ≡ Ok x → r ≡ Ok y → x ≡ y
unfolding value_or
same_value r x y a b = ap (value_or x) (sym a ∙ b)

pub same_kind : {X E : Type 0} (r : Result X E) (x y : E) → r ≡ Err x → r ≡ Err y → x ≡ y
unfolding kind_or
same_kind r x y a b = ap (kind_or x) (sym a ∙ b)

pub not_both_ways : {X E : Type 0} (r : Result X E) (x : X) (e : E) → r ≡ Ok x → r ≡ Err e → ⊥
unfolding is_read
not_both_ways r x e a b = true≢false (ap is_read (sym a ∙ b))

-- ---- names
one_place : {X : Type 0} (R : X → X → Type 0) (xs : List X) (i j : ℕ) (x y : X) → AllPairs R xs → slice_get xs i ≡ Some x → slice_get xs j ≡ Some y → (R x y → ⊥) → (R y x → ⊥) → i ≡ j
one_place R xs i j x y pairs ex ey nxy nyx =
    let xi : (d : _) → get_or xs i d ≡ x = λ d. get_or_from_slice_get xs i x d ex in
    let yj : (d : _) → get_or xs j d ≡ y = λ d. get_or_from_slice_get xs j y d ey in
    elim (cases_order i j) [
      | inl e ↦ e
      | inr apart ↦ elim apart [
        | inl less ↦ absurd (nxy (subst₂ R (xi x) (yj x) (pairs i j x less (slice_get_within xs j y ey))))
        | inr less ↦ absurd (nyx (subst₂ R (yj x) (xi x) (pairs j i x less (slice_get_within xs i x ex))))
      ]
    ]

-- two servers of a network, or two live flows, have two names
pub server_one : (net : Net) (name : List ℕ) (i j : ℕ) → IsAccepted net → IsServerNamed net.servers name i → IsServerNamed net.servers name j → i ≡ j
server_one net name i j ok a b =
    one_place (λ s t. s.name ≢ t.name) net.servers i j a.server b.server ok.names.0 a.is b.is (λ n. n (a.named ∙ sym b.named)) (λ n. n (b.named ∙ sym a.named))

pub flow_one : (net : Net) (name : List ℕ) (i j : ℕ) → IsAccepted net → IsFlowNamed net.flows name i → IsFlowNamed net.flows name j → i ≡ j
flow_one net name i j ok a b =
    one_place DifferInName net.flows i j (Some a.flow) (Some b.flow) ok.names.1 a.is b.is (λ n. n (a.named ∙ sym b.named)) (λ n. n (b.named ∙ sym a.named))

-- ---- entries
one_packet : (p q : TracePacket) → p.time ≡ q.time → p.flow ≡ q.flow → p.bits ≡ q.bits → p ≡ q
one_packet p q a b c =
    let first : p ≡ record p { time = q.time } = ap (λ x. record p { time = x }) a in
    let second : record p { time = q.time } ≡ record q { bits = p.bits } = ap (λ x. let r : TracePacket = record { time = q.time; flow = x; bits = p.bits } in r) b in
    let third : record q { bits = p.bits } ≡ q = ap (λ x. record q { bits = x }) c in
    first ∙ (second ∙ third)

one_stall : (p q : Stall) → p.server ≡ q.server → p.start ≡ q.start → p.end ≡ q.end → p ≡ q
one_stall p q a b c =
    let first : p ≡ record p { server = q.server } = ap (λ x. record p { server = x }) a in
    let second : record p { server = q.server } ≡ record q { end = p.end } = ap (λ x. let r : Stall = record { server = q.server; start = x; end = p.end } in r) b in
    let third : record q { end = p.end } ≡ q = ap (λ x. record q { end = x }) c in
    first ∙ (second ∙ third)

names_one : (net : Net) (w : TraceRow) (a b : Entry) → IsAccepted net → Names net w a → Names net w b → a ≡ b
names_one net (packet_row time flow bits) (Packet p) (Packet q) ok h k = ap Packet (one_packet p q (h.0 ∙ sym k.0) (flow_one net flow p.flow q.flow ok h.2 k.2) (h.1 ∙ sym k.1))
names_one net (packet_row time flow bits) (Packet p) (Stop s) ok h k = absurd k
names_one net (packet_row time flow bits) (Stop s) b ok h k = absurd h
names_one net (stall_row server start end) (Packet p) b ok h k = absurd h
names_one net (stall_row server start end) (Stop s) (Packet p) ok h k = absurd k
names_one net (stall_row server start end) (Stop s) (Stop t) ok h k = ap Stop (one_stall s t (server_one net server s.server t.server ok h.2 k.2) (h.0 ∙ sym k.0) (h.1 ∙ sym k.1))

gives_one : (net : Net) (r : Read TraceRow) (a b : Entry) → IsAccepted net → Gives net r a → Gives net r b → a ≡ b
gives_one net r a b ok h k =
    let w : h.says ≡ k.says = same_value r h.says k.says h.is k.is in
    names_one net k.says a b ok (subst (λ z. Names net z a) w h.names) k.names

give_one : (net : Net) (rows : List Row) (a b : List Entry) → IsAccepted net → Give net rows a → Give net rows b → a ≡ b
give_one net [] [] [] ok h k = refl
give_one net [] [] (y ∷ b) ok h k = absurd k
give_one net [] (x ∷ a) b ok h k = absurd h
give_one net (r ∷ rows) [] b ok h k = absurd h
give_one net (r ∷ rows) (x ∷ a) [] ok h k = absurd k
give_one net (r ∷ rows) (x ∷ a) (y ∷ b) ok h k = ap₂ (λ z zs. z ∷ zs) (gives_one net (trace_row r) x y ok h.0 k.0) (give_one net rows a b ok h.1 k.1)

pub trace_one : (net : Net) (rows : List Row) (t u : SpecTrace) → IsAccepted net → IsTraceOf net rows t → IsTraceOf net rows u → t ≡ u
trace_one net rows t u ok h k =
    let e : h.entries ≡ k.entries = give_one net rows h.entries k.entries ok h.give k.give in
    let p : t.packets ≡ u.packets = h.packets ∙ (ap packets_in e ∙ sym k.packets) in
    let s : t.stalls ≡ u.stalls = h.stalls ∙ (ap stalls_in e ∙ sym k.stalls) in
    let first : t ≡ record t { packets = u.packets } = ap (λ x. record t { packets = x }) p in
    first ∙ ap (λ x. record u { stalls = x }) s

-- ---- a wrong row gives no trace, whatever follows
unknown_named : (net : Net) (w : TraceRow) (e : Entry) → IsUnknown net w → Names net w e → ⊥
unknown_named net (packet_row time flow bits) (Packet p) u n = u p.flow n.2
unknown_named net (packet_row time flow bits) (Stop s) u n = n
unknown_named net (stall_row server start end) (Packet p) u n = n
unknown_named net (stall_row server start end) (Stop s) u n = u s.server n.2

-- the entries of the rows before one, its own, and those after it
record Parts (net : Net) (rows : List Row) (row : Row) (es : List Entry) : Type 0 where
  front : List Entry
  own : Entry
  back : List Entry
  give : Give net rows front
  gives : Gives net (trace_row row) own
  are : es ≡ front ++ own ∷ back

parts_of : (net : Net) (rows : List Row) (row : Row) (more : List Row) (es : List Entry) → Give net (rows ++ row ∷ more) es → Parts net rows row es
parts_of net [] row more [] h = absurd h
parts_of net [] row more (e ∷ es) h = record { front = []; own = e; back = es; give = tt; gives = h.0; are = refl }
parts_of net (r ∷ rows) row more [] h = absurd h
parts_of net (r ∷ rows) row more (e ∷ es) h =
    let p = parts_of net rows row more es h.1 in
    record { front = e ∷ p.front; own = p.own; back = p.back; give = (h.0, p.give); gives = p.gives; are = ap (λ zs. e ∷ zs) p.are }

packets_join : (a : List Entry) (p : TracePacket) (b : List Entry) → packets_in (a ++ Packet p ∷ b) ≡ packets_in a ++ p ∷ packets_in b
packets_join [] p b = refl
packets_join (Packet q ∷ a) p b = ap (λ zs. q ∷ zs) (packets_join a p b)
packets_join (Stop s ∷ a) p b = packets_join a p b

not_earlier : (ps : List TracePacket) (p : TracePacket) (qs : List TracePacket) → AllPairs (λ a b. a.time ≤ℚ b.time) (ps ++ p ∷ qs) → IsEarlier ps p.time → ⊥
not_earlier ps p qs pairs h =
    let all = ps ++ p ∷ qs in
    let n = length-append ps (p ∷ qs) in
    let i = h.0 in
    let q = h.1 in
    let at_i : get_or all i q ≡ q = get_or_append_left ps (p ∷ qs) q i h.2 ∙ h.3 in
    let at_n : get_or all (length ps) q ≡ p = get_or-append_right ps (p ∷ qs) (length ps) (length ps) q refl (le_refl (length ps)) ∙ ap (λ k. get_or (p ∷ qs) k q) (sub-eq-zero_of_le (le_refl (length ps))) in
    let low : (get_or all i q).time ≤ℚ (get_or all (length ps) q).time = pairs i (length ps) q h.2 (omega (arith, n)) in
    let at_most : q.time ≤ℚ p.time = subst₂ (λ (a b : TracePacket). a.time ≤ℚ b.time) at_i at_n low in
    lt_irrefl p.time (lt_le_trans h.4 at_most)

pub not_right : (net : Net) (before : List Row) (row : Row) (more : List Row) (t u : SpecTrace) (kind : TableKind) → IsAccepted net → IsTraceOf net before t → IsWrong net (length before) t.packets row kind
    → IsTraceOf net (before ++ row ∷ more) u → ⊥
not_right net before row more t u kind ok h wrong k =
    let parts = parts_of net before row more k.entries k.give in
    let gives = parts.gives in
    ⊎_elim
    (λ many. let n = length-append before (row ∷ more) in let few = k.few in let over = many.1 in omega (arith, n, few, over))
    (λ one. ⊎_elim
    (λ itself. ⊎_elim
    (λ bad. not_both_ways (trace_row row) gives.says kind gives.is bad)
    (λ unknown. let s = unknown.1 in let w : s.says ≡ gives.says = same_value (trace_row row) s.says gives.says s.is gives.is in
    unknown_named net gives.says parts.own (subst (IsUnknown net) w s.unknown) gives.names)
    itself)
    (λ late. let e = late.1 in
    let own : parts.own ≡ Packet e.packet = gives_one net (trace_row row) parts.own (Packet e.packet) ok gives e.gives in
    let front : parts.front ≡ h.entries = give_one net before parts.front h.entries ok parts.give h.give in
    let all : u.packets ≡ packets_in parts.front ++ e.packet ∷ packets_in parts.back =
    k.packets ∙ (ap packets_in (parts.are ∙ ap (λ x. parts.front ++ x ∷ parts.back) own) ∙ packets_join parts.front e.packet parts.back) in
    let before_it : t.packets ≡ packets_in parts.front = h.packets ∙ ap packets_in (sym front) in
    not_earlier (packets_in parts.front) e.packet (packets_in parts.back) (subst (AllPairs (λ a b. a.time ≤ℚ b.time)) all k.in_order)
    (subst (λ ps. IsEarlier ps e.packet.time) before_it e.earlier))
    one.1)
    wrong

pub no_trace : (net : Net) (text : List ℕ) (kind : TableKind) (number : ℕ) (t : SpecTrace) → IsAccepted net → IsFirstFault net text kind number → IsTraceOf net (rows_of text) t → ⊥
no_trace net text kind number t ok f h = not_right net f.before f.row f.after f.trace t kind ok f.right f.wrong (subst (λ rs. IsTraceOf net rs t) f.rows h)

-- ---- one kind
-- what is wrong with a row, apart from its place
RowWrong : Net → List TracePacket → Row → TableKind → Type 0
RowWrong net ps row kind = IsWrongIn net (trace_row row) kind ⊎ ((kind ≡ T6) × GivesEarlier net ps row)

SaysWrong : Net → TraceRow → TableKind → Type 0
SaysWrong net w kind = ((kind ≡ T5) × IsUnknown net w) ⊎ ((kind ≡ T6) × ((e : Entry) × Names net w e))

by_kind : (net : Net) (ps : List TracePacket) (row : Row) (kind e : TableKind) → trace_row row ≡ Err e → RowWrong net ps row kind → kind ≡ e
unfolding RowWrong
by_kind net ps row kind e is (inl (inl h)) = same_kind (trace_row row) kind e h is
by_kind net ps row kind e is (inl (inr h)) = absurd (not_both_ways (trace_row row) h.1.says e h.1.is is)
by_kind net ps row kind e is (inr h) = absurd (not_both_ways (trace_row row) h.1.gives.says e h.1.gives.is is)

by_value : (net : Net) (ps : List TracePacket) (row : Row) (kind : TableKind) (w : TraceRow) → trace_row row ≡ Ok w → RowWrong net ps row kind → SaysWrong net w kind
unfolding RowWrong SaysWrong
by_value net ps row kind w is (inl (inl h)) = absurd (not_both_ways (trace_row row) w kind is h)
by_value net ps row kind w is (inl (inr h)) = inl (h.0, subst (IsUnknown net) (same_value (trace_row row) h.1.says w h.1.is is) h.1.unknown)
by_value net ps row kind w is (inr h) =
    let g = h.1.gives in inr (h.0, (Packet h.1.packet, subst (λ z. Names net z (Packet h.1.packet)) (same_value (trace_row row) g.says w g.is is) g.names))

one_word : (net : Net) (w : TraceRow) (kind other : TableKind) → SaysWrong net w kind → SaysWrong net w other → kind ≡ other
unfolding SaysWrong
one_word net w kind other (inl a) (inl b) = a.0 ∙ sym b.0
one_word net w kind other (inl a) (inr b) = absurd (unknown_named net w b.1.0 a.1 b.1.1)
one_word net w kind other (inr a) (inl b) = absurd (unknown_named net w a.1.0 b.1 a.1.1)
one_word net w kind other (inr a) (inr b) = a.0 ∙ sym b.0

one_row : (net : Net) (ps qs : List TracePacket) (row : Row) (kind other : TableKind) (r : Read TraceRow) → trace_row row ≡ r → RowWrong net ps row kind → RowWrong net qs row other → kind ≡ other
one_row net ps qs row kind other (Ok w) is a b = one_word net w kind other (by_value net ps row kind w is a) (by_value net qs row other w is b)
one_row net ps qs row kind other (Err e) is a b = by_kind net ps row kind e is a ∙ sym (by_kind net qs row other e is b)

one_kind : (net : Net) (n : ℕ) (ps qs : List TracePacket) (row : Row) (kind other : TableKind) → IsWrong net n ps row kind → IsWrong net n qs row other → kind ≡ other
unfolding RowWrong
one_kind net n ps qs row kind other (inl a) (inl b) = a.0 ∙ sym b.0
one_kind net n ps qs row kind other (inl a) (inr b) = let x = a.1 in let y = b.0 in absurd (omega (arith, x, y))
one_kind net n ps qs row kind other (inr a) (inl b) = let x = a.0 in let y = b.1 in absurd (omega (arith, x, y))
one_kind net n ps qs row kind other (inr a) (inr b) = one_row net ps qs row kind other (trace_row row) refl a.1 b.1

-- ---- one place
-- two places in one list: the same, or one before the other
pub data Places {X : Type 0} (xs : List X) (x : X) (zs : List X) (z : X) : Type 0 where
  same : xs ≡ zs → x ≡ z → Places xs x zs z
  sooner : (m : List X) → zs ≡ xs ++ x ∷ m → Places xs x zs z
  later : (m : List X) → xs ≡ zs ++ z ∷ m → Places xs x zs z

places_more : {X : Type 0} (y : X) (w : X) (xs : List X) (x : X) (zs : List X) (z : X) → y ≡ w → Places xs x zs z → Places (y ∷ xs) x (w ∷ zs) z
places_more y w xs x zs z e (same a b) = same (ap₂ (λ q qs. q ∷ qs) e a) b
places_more y w xs x zs z e (sooner m a) = sooner m (ap₂ (λ q qs. q ∷ qs) (sym e) a)
places_more y w xs x zs z e (later m a) = later m (ap₂ (λ q qs. q ∷ qs) e a)

pub places : {X : Type 0} (xs : List X) (x : X) (ys zs : List X) (z : X) (ws : List X) → xs ++ x ∷ ys ≡ zs ++ z ∷ ws → Places xs x zs z
places [] x ys [] z ws e = same refl (ap (λ l. get_or l 0 x) e)
places [] x ys (w ∷ zs) z ws e = sooner zs (ap (λ q. q ∷ zs) (sym (ap (λ l. get_or l 0 x) e)))
places (y ∷ xs) x ys [] z ws e = later xs (ap (λ q. q ∷ xs) (ap (λ l. get_or l 0 y) e))
places (y ∷ xs) x ys (w ∷ zs) z ws e = places_more y w xs x zs z (ap (λ l. get_or l 0 y) e) (places xs x ys zs z ws (ap (drop 1) e))

pub fault_one : (net : Net) (text : List ℕ) (kind other : TableKind) (number place : ℕ) → IsAccepted net → IsFirstFault net text kind number → IsFirstFault net text other place → (kind ≡ other) × (number ≡ place)
fault_one net text kind other number place ok f g = go (places f.before f.row f.after g.before g.row g.after (sym f.rows ∙ g.rows))
  where
    go : Places f.before f.row g.before g.row → (kind ≡ other) × (number ≡ place)
    go (same a b) =
        let n : length f.before ≡ length g.before = ap length a in (
          one_kind net (length g.before) f.trace.packets g.trace.packets g.row kind other (subst₂ (λ k r. IsWrong net k f.trace.packets r kind) n b f.wrong) g.wrong,
          f.place ∙ (ap suc n ∙ sym g.place),
        )
    go (sooner m a) = absurd (not_right net f.before f.row m f.trace g.trace kind ok f.right f.wrong (subst (λ rs. IsTraceOf net rs g.trace) a g.right))
    go (later m a) = absurd (not_right net g.before g.row m g.trace f.trace other ok g.right g.wrong (subst (λ rs. IsTraceOf net rs f.trace) a f.right))
