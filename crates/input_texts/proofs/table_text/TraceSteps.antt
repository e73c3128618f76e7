-- One row after another.
use Rattle.std.proofs.Common.{◌≡◌, ◌≢◌, ℕ, suc, ◌+◌, ◌<◌, ◌≤◌, List, [], ◌∷◌, ◌++◌, length, take, drop, get_or, Result, Ok, Err, OnOk, All, AllPairs, refl, sym, ap, subst, arith, inl, inr, ◌⊎◌, ◌∙◌, append-nil, length-take, take_all}
use Rattle.std.proofs.lemmas.List.{take_more}
use Rattle.std.proofs.lemmas.List.Quantifiers.{all_pairs_push}
use Rattle.std.proofs.lemmas.List.Elements.{All-push}
use Rattle.rational.specs.Rational.{◌≤ℚ◌}
use Rattle.net_model.specs.declared.trace.TracePacket.{TracePacket}
use Rattle.net_model.specs.declared.trace.Stall.{Stall}
use Rattle.net_model.specs.Networks.{Net}
use Rattle.net_model.specs.Traces.{trace_of, IsTrace, IsTracePacket, IsStall}
use Rattle.input_texts.specs.declared.table_text.fault.TableKind.{TableKind}
use Rattle.input_texts.specs.declared.table_text.fault.TableKind.TheVariants.{NoMemory}
use Rattle.input_texts.specs.declared.table_text.trace_rows.Entry.{Entry}
use Rattle.input_texts.specs.declared.table_text.trace_rows.Entry.TheVariants.{Packet, Stop}
use Rattle.input_texts.specs.table_text.Rows.{Row, rows_of}
use Rattle.input_texts.specs.table_text.TraceRows.{trace_row, Gives}
use Rattle.input_texts.specs.table_text.Traces.{packets_in, stalls_in, Give, IsTraceOf, IsWrong, IsFirstFault}
use Rattle.input_texts.specs.table_text.Kept.{IsKept, Follows, Adds}
use Rattle.input_texts.proofs.table_text.RowPlaces.{so_many, parted}

-- ---- results
pub both_ok : {E : Type 0} {A B C : Type 0} (r : Result (Unit {0}) E) → (A → B → C) → OnOk r A → OnOk r B → OnOk r C
both_ok (Ok x) f a b = f a b
both_ok (Err e) f a b = tt

pub memory_or : (kind : TableKind) → (kind ≡ NoMemory) ⊎ (kind ≢ NoMemory)
memory_or NoMemory = inl refl
memory_or kind = inr (λ e. let bad : ⊥ = cc in bad)

-- ---- what entries hold
pub packets_more : (es : List Entry) (e : Entry) → packets_in (es ++ e ∷ []) ≡ packets_in es ++ packets_in (e ∷ [])
packets_more [] e = refl
packets_more (Packet p ∷ es) e = ap (λ ps. p ∷ ps) (packets_more es e)
packets_more (Stop s ∷ es) e = packets_more es e

pub stalls_more : (es : List Entry) (e : Entry) → stalls_in (es ++ e ∷ []) ≡ stalls_in es ++ stalls_in (e ∷ [])
stalls_more [] e = refl
stalls_more (Packet p ∷ es) e = stalls_more es e
stalls_more (Stop s ∷ es) e = ap (λ ss. s ∷ ss) (stalls_more es e)

in_all : (es : List Entry) → length (packets_in es) + length (stalls_in es) ≡ length es
in_all [] = refl
in_all (Packet p ∷ es) = let k = in_all es in omega (arith, k)
in_all (Stop s ∷ es) = let k = in_all es in omega (arith, k)

pub give_more : (net : Net) (rows : List Row) (es : List Entry) (row : Row) (e : Entry) → Give net rows es → Gives net (trace_row row) e → Give net (rows ++ row ∷ []) (es ++ e ∷ [])
give_more net [] [] row e h g = (g, tt)
give_more net [] (x ∷ es) row e h g = absurd h
give_more net (r ∷ rows) [] row e h g = absurd h
give_more net (r ∷ rows) (x ∷ es) row e h g = (h.0, give_more net rows es row e h.1 g)

give_length : (net : Net) (rows : List Row) (es : List Entry) → Give net rows es → length rows ≡ length es
give_length net [] [] h = refl
give_length net [] (x ∷ es) h = absurd h
give_length net (r ∷ rows) [] h = absurd h
give_length net (r ∷ rows) (x ∷ es) h = ap suc (give_length net rows es h.1)

-- ---- the order of packets, and what is kept
pub ordered_more : (ps : List TracePacket) (e : Entry) → AllPairs (λ p q. p.time ≤ℚ q.time) ps → Follows ps e → AllPairs (λ p q. p.time ≤ℚ q.time) (ps ++ packets_in (e ∷ []))
ordered_more ps (Packet p) h f = all_pairs_push (λ p q. p.time ≤ℚ q.time) ps p h f
ordered_more ps (Stop s) h f = subst (AllPairs (λ p q. p.time ≤ℚ q.time)) (sym (append-nil ps)) h

packets_kept : (ps : List TracePacket) (e : Entry) → All IsTracePacket ps → IsKept e → All IsTracePacket (ps ++ packets_in (e ∷ []))
packets_kept ps (Packet p) h k = All-push IsTracePacket ps p h k
packets_kept ps (Stop s) h k = subst (All IsTracePacket) (sym (append-nil ps)) h

stalls_kept : (ss : List Stall) (e : Entry) → All IsStall ss → IsKept e → All IsStall (ss ++ stalls_in (e ∷ []))
stalls_kept ss (Packet p) h k = subst (All IsStall) (sym (append-nil ss)) h
stalls_kept ss (Stop s) h k = All-push IsStall ss s h k

-- ---- the loop over the rows
-- what the rows before a place have given
pub record IsSoFar (net : Net) (rows : List Row) (k : ℕ) (ps : List TracePacket) (ss : List Stall) : Type 0 where
  pub right : IsTraceOf net (take k rows) (trace_of ps ss)
  pub packets : All IsTracePacket ps
  pub stalls : All IsStall ss

pub so_far_more : (net : Net) (rows : List Row) (k : ℕ) (row : Row) (ps : List TracePacket) (ss : List Stall) (ps2 : List TracePacket) (ss2 : List Stall) → k < length rows → get_or rows k row ≡ row
    → IsSoFar net rows k ps ss → Adds net k row ps ss ps2 ss2 → IsSoFar net rows (k + 1) ps2 ss2
so_far_more net rows k row ps ss ps2 ss2 within is so adds =
    let t = so.right in
    let e = adds.entry in
    let more : take (k + 1) rows ≡ take k rows ++ row ∷ [] = take_more rows k row within ∙ ap (λ (x : Row). take k rows ++ x ∷ []) is in
    record {
      right = record {
        entries = t.entries ++ e ∷ [];
        give = subst (λ rs. Give net rs (t.entries ++ e ∷ [])) (sym more) (give_more net (take k rows) t.entries row e t.give adds.gives);
        few = let n = length-take (k + 1) rows in let room = adds.room in omega (arith, n, room);
        packets = adds.packets_are ∙ (ap (λ qs. qs ++ packets_in (e ∷ [])) t.packets ∙ sym (packets_more t.entries e));
        stalls = adds.stalls_are ∙ (ap (λ qs. qs ++ stalls_in (e ∷ [])) t.stalls ∙ sym (stalls_more t.entries e));
        in_order = subst (AllPairs (λ p q. p.time ≤ℚ q.time)) (sym adds.packets_are) (ordered_more ps e t.in_order adds.follows);
      };
      packets = subst (All IsTracePacket) (sym adds.packets_are) (packets_kept ps e so.packets adds.kept);
      stalls = subst (All IsStall) (sym adds.stalls_are) (stalls_kept ss e so.stalls adds.kept);
    }

pub so_far_trace : (net : Net) (rows : List Row) (k : ℕ) (ps : List TracePacket) (ss : List Stall) → IsSoFar net rows k ps ss → IsTrace (trace_of ps ss)
so_far_trace net rows k ps ss so =
    let t = so.right in
    let n = give_length net (take k rows) t.entries t.give in
    let all = in_all t.entries in
    let a : length ps ≡ length (packets_in t.entries) = ap length t.packets in
    let b : length ss ≡ length (stalls_in t.entries) = ap length t.stalls in
    let few = t.few in
    record { few = omega (arith, n, all, a, b, few); packets = so.packets; in_order = t.in_order; stalls = so.stalls }

-- ---- at the end
-- no more rows than were asked for: they are all
pub all_taken : (all : List Row) → length (take 10001 all) ≤ 10000 → take 10001 all ≡ all
all_taken all h = let n = length-take 10001 all in take_all 10001 all (omega (arith, n, h))

pub so_far_all : (net : Net) (text : List ℕ) (rows : List Row) (k : ℕ) (ps : List TracePacket) (ss : List Stall) → rows ≡ take 10001 (rows_of text) → length rows ≤ k
    → IsSoFar net rows k ps ss → IsTraceOf net (rows_of text) (trace_of ps ss)
so_far_all net text rows k ps ss is past so =
    let whole : take k rows ≡ rows = take_all k rows past in
    let few : length rows ≤ 10000 = subst (λ rs. length rs ≤ 10000) whole so.right.few in
    let all : rows ≡ rows_of text = is ∙ all_taken (rows_of text) (subst (λ rs. length rs ≤ 10000) is few) in
    subst (λ rs. IsTraceOf net rs (trace_of ps ss)) (whole ∙ all) so.right

pub so_far_fault : (net : Net) (text : List ℕ) (rows : List Row) (k : ℕ) (row : Row) (ps : List TracePacket) (ss : List Stall) (kind : TableKind) (number : ℕ) → rows ≡ take 10001 (rows_of text)
    → k < length rows → get_or rows k row ≡ row → IsSoFar net rows k ps ss → IsWrong net k ps row kind → number ≡ k + 1 → IsFirstFault net text kind number
so_far_fault net text rows k row ps ss kind number is within at so wrong place =
    let n = so_many rows k within in
    record {
      before = take k rows;
      row = row;
      after = drop (k + 1) rows ++ drop 10001 (rows_of text);
      rows = parted (rows_of text) rows 10001 k row is within at;
      place = let e : number ≡ suc (length (take k rows)) = omega (arith, n, place) in e;
      trace = trace_of ps ss;
      right = so.right;
      wrong = subst (λ m. IsWrong net m ps row kind) (sym n) wrong;
    }
