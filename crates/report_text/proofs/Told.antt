-- The words of a cell tell the cell: its kind's word has no space, nor has a name, and names differ.
use Rattle.std.proofs.Common.{◌≡◌, ◌≢◌, ℕ, zero, suc, ◌<◌, ◌≤◌, ◌^◌, List, [], ◌∷◌, ◌++◌, length, refl, sym, ap, ◌∙◌, subst, inl, inr, arith, Bool, true, false, append_assoc}
use Rattle.std.specs.Prelude.{◌==◌, codes, sum, IsTrue, All, Option, Some, None, slice_get, if◌then◌else◌, is_some}
use Rattle.std.specs.Fmt.{decimal}
use Rattle.std.specs.Str.Parse.{digits_value}
use Rattle.std.proofs.lemmas.Bool.{ltb-true, eqb-true, cases_lt, cond-false, ne_eqb, and_parts}
use Rattle.std.proofs.lemmas.Fmt.{decimal_is_IsNumeral_wide}
use Rattle.std.proofs.lemmas.List.{get_or_past}
use Rattle.std.proofs.lemmas.Option.{slice_get_within, get_or_from_slice_get}
use Rattle.run_laws.specs.Servers.{queue_count}
use Rattle.net_model.specs.Networks.{Net, NetServer, NetFlow}
use Rattle.net_model.specs.Names.{is_name_byte, DifferInName}
use Rattle.net_model.specs.Accepted.{IsAccepted}
use Rattle.net_cells.specs.declared.cell.Kind.{Kind}
use Rattle.net_cells.specs.declared.cell.Kind.TheVariants.{In, Cross, Total, Higher, QueueService, Theta, Residual, QueueDelay, QueueBacklog, HopDelay, ShiftOut, DeconvOut, Out, PathService, Tfa, Sfa, Bound}
use Rattle.net_cells.specs.declared.cell.Scope.{Scope}
use Rattle.net_cells.specs.declared.cell.Scope.TheVariants.{EachHop, EachHopButLast, EachQueue, EachPriorityQueue, EachPath}
use Rattle.net_cells.specs.Numbered.{flow_at, path_of, is_live, hops, queues, levels, levels_of, discipline_of}
use Rattle.net_cells.specs.Cells.{cell_of, scope_of, is_in_scope}
use Rattle.net_model.proofs.FewQueues.{few_of}
use Rattle.net_cells.proofs.Precedes.{levels_few}
use Rattle.net_cells.proofs.Stored.{flow_kept, few_hops, server_kept}
use Rattle.report_text.specs.CellWords.{kind_word, name_of_server, name_of_flow, server_name, flow_name, words_at, cell_words}
use Rattle.report_text.specs.Laws.{WordsTellCells}
use Rattle.report_text.proofs.Fronts.{lacks, same_front, same_back}

-- ---- no byte of a text is a space
abbrev unspaced : List ℕ → Bool
unspaced xs = lacks 32 xs

-- ---- names
unspaced_name : (xs : List ℕ) → All (λ c. IsTrue (is_name_byte c)) xs → unspaced xs ≡ true
unspaced_name [] h = refl
unspaced_name (x ∷ xs) h =
    let here : is_name_byte x ≡ true = h zero 0 (omega arith) in
    let other : x ≡ 32 → ⊥ = λ e. let bad : false ≡ true = subst (λ c. is_name_byte c ≡ true) e here in absurd cc in
    cond-false (x == 32) false (unspaced xs) (ne_eqb x 32 other)
    ∙ unspaced_name xs (λ k d w. h (suc k) d (omega (arith, w)))

-- ---- kinds
-- by the sum of its word's bytes
kind_from : ℕ → Kind
kind_from n =
    if n == 215 then In else (
    if n == 554 then Cross else (
    if n == 548 then Total else (
    if n == 631 then Higher else (
    if n == 1347 then QueueService else (
    if n == 534 then Theta else (
    if n == 857 then Residual else (
    if n == 1121 then QueueDelay else (
    if n == 1317 then QueueBacklog else (
    if n == 899 then HopDelay else (
    if n == 931 then ShiftOut else (
    if n == 1028 then DeconvOut else (
    if n == 344 then Out else (
    if n == 1227 then PathService else (
    if n == 315 then Tfa else (
    if n == 314 then Sfa else (
    Bound))))))))))))))))

kind_known : (k : Kind) → kind_from (sum (kind_word k)) ≡ k
unfolding kind_from
kind_known In = refl
kind_known Cross = refl
kind_known Total = refl
kind_known Higher = refl
kind_known QueueService = refl
kind_known Theta = refl
kind_known Residual = refl
kind_known QueueDelay = refl
kind_known QueueBacklog = refl
kind_known HopDelay = refl
kind_known ShiftOut = refl
kind_known DeconvOut = refl
kind_known Out = refl
kind_known PathService = refl
kind_known Tfa = refl
kind_known Sfa = refl
kind_known Bound = refl

same_kind : (k l : Kind) → kind_word k ≡ kind_word l → k ≡ l
same_kind k l e = sym (kind_known k) ∙ ap (λ w. kind_from (sum w)) e ∙ kind_known l

kind_unspaced : (k : Kind) → unspaced (kind_word k) ≡ true
kind_unspaced In = refl
kind_unspaced Cross = refl
kind_unspaced Total = refl
kind_unspaced Higher = refl
kind_unspaced QueueService = refl
kind_unspaced Theta = refl
kind_unspaced Residual = refl
kind_unspaced QueueDelay = refl
kind_unspaced QueueBacklog = refl
kind_unspaced HopDelay = refl
kind_unspaced ShiftOut = refl
kind_unspaced DeconvOut = refl
kind_unspaced Out = refl
kind_unspaced PathService = refl
kind_unspaced Tfa = refl
kind_unspaced Sfa = refl
kind_unspaced Bound = refl

-- ---- numbers
same_number : (m n : ℕ) → m < 2 ^ 32 → n < 2 ^ 32 → decimal m ≡ decimal n → m ≡ n
same_number m n h k e =
    sym ((decimal_is_IsNumeral_wide m (omega (arith, h))).1) ∙ ap (digits_value 10) e
    ∙ (decimal_is_IsNumeral_wide n (omega (arith, k))).1

-- ---- servers
pub record IsServerOf (net : Net) (s : ℕ) : Type 0 where
  pub server : NetServer
  pub is : slice_get net.servers s ≡ Some server

with_queue : (net : Net) (s : ℕ) (o : Option NetServer) (q : ℕ) → slice_get net.servers s ≡ o
    → q < queue_count (discipline_of o) → IsServerOf net s
with_queue net s None q e h = absurd (omega (arith, h))
with_queue net s (Some x) q e h = record { server = x; is = e }

with_level : (net : Net) (s : ℕ) (o : Option NetServer) (q : ℕ) → slice_get net.servers s ≡ o
    → q < levels_of (discipline_of o) → IsServerOf net s
with_level net s None q e h = absurd (omega (arith, h))
with_level net s (Some x) q e h = record { server = x; is = e }

few_queues : (net : Net) (s : ℕ) → IsAccepted net → IsServerOf net s → queues net s ≤ 8
few_queues net s a h =
    let few = few_of h.server.discipline (server_kept net s h.server a h.is).queues in
    subst (λ (o : Option NetServer). queue_count (discipline_of o) ≤ 8) (sym h.is) few

few_levels : (net : Net) (s : ℕ) → IsAccepted net → IsServerOf net s → levels net s ≤ 8
few_levels net s a h =
    let few = levels_few h.server.discipline (server_kept net s h.server a h.is).queues in
    subst (λ (o : Option NetServer). levels_of (discipline_of o) ≤ 8) (sym h.is) few

server_unspaced : (net : Net) (s : ℕ) → IsAccepted net → IsServerOf net s → unspaced (server_name net s) ≡ true
server_unspaced net s a h =
    ap (λ (o : Option NetServer). unspaced (name_of_server o)) h.is
    ∙ unspaced_name h.server.name (server_kept net s h.server a h.is).name.bytes

servers_differ : (net : Net) (s t : ℕ) → IsAccepted net → (h : IsServerOf net s) → (k : IsServerOf net t) → s < t
    → h.server.name ≢ k.server.name
servers_differ net s t a h k l e =
    a.names.0 s t h.server l (slice_get_within net.servers t k.server k.is)
    (ap (λ (x : NetServer). x.name) (get_or_from_slice_get net.servers s h.server h.server h.is) ∙ e
    ∙ sym (ap (λ (x : NetServer). x.name) (get_or_from_slice_get net.servers t k.server h.server k.is)))

same_server : (net : Net) (s t : ℕ) → IsAccepted net → IsServerOf net s → IsServerOf net t
    → server_name net s ≡ server_name net t → s ≡ t
same_server net s t a h k e =
    let name = λ (o : Option NetServer). name_of_server o in
    let same : h.server.name ≡ k.server.name = sym (ap name h.is) ∙ e ∙ ap name k.is in
    elim (cases_lt s t) [
      | inl l ↦ absurd (servers_differ net s t a h k l same)
      | inr m ↦ elim (cases_lt t s) [
        | inl l ↦ absurd (servers_differ net t s a k h l (sym same))
        | inr n ↦ omega (arith, m, n)
      ]
    ]

-- ---- flows
pub record IsFlowOf (net : Net) (i : ℕ) : Type 0 where
  pub flow : NetFlow
  pub is : flow_at net i ≡ Some flow

with_hop : (net : Net) (i : ℕ) (o : Option NetFlow) (k : ℕ) → flow_at net i ≡ o → k < length (path_of o)
    → IsFlowOf net i
with_hop net i None k e h = absurd (omega (arith, h))
with_hop net i (Some f) k e h = record { flow = f; is = e }

with_life : (net : Net) (i : ℕ) (o : Option NetFlow) → flow_at net i ≡ o → is_some o ≡ true → IsFlowOf net i
with_life net i None e h = absurd cc
with_life net i (Some f) e h = record { flow = f; is = e }

flow_unspaced : (net : Net) (i : ℕ) → IsAccepted net → IsFlowOf net i → unspaced (flow_name net i) ≡ true
flow_unspaced net i a h =
    ap (λ (o : Option NetFlow). unspaced (name_of_flow o)) h.is
    ∙ unspaced_name h.flow.name (flow_kept net i h.flow a h.is).name.bytes

flow_within : (net : Net) (i : ℕ) → IsFlowOf net i → i < length net.flows
flow_within net i h =
    elim (cases_lt i (length net.flows)) [
      | inl l ↦ l
      | inr l ↦ let bad : None ≡ Some h.flow = sym (get_or_past net.flows i None l) ∙ h.is in absurd cc
    ]

flows_differ : (net : Net) (i j : ℕ) → IsAccepted net → (h : IsFlowOf net i) → (k : IsFlowOf net j) → i < j
    → h.flow.name ≢ k.flow.name
flows_differ net i j a h k l =
    let one = subst (λ (o : Option NetFlow). DifferInName o (flow_at net j)) h.is
    (a.names.1 i j None l (flow_within net j k)) in
    subst (λ (o : Option NetFlow). DifferInName (Some h.flow) o) k.is one

same_flow : (net : Net) (i j : ℕ) → IsAccepted net → IsFlowOf net i → IsFlowOf net j
    → flow_name net i ≡ flow_name net j → i ≡ j
same_flow net i j a h k e =
    let name = λ (o : Option NetFlow). name_of_flow o in
    let same : h.flow.name ≡ k.flow.name = sym (ap name h.is) ∙ e ∙ ap name k.is in
    elim (cases_lt i j) [
      | inl l ↦ absurd (flows_differ net i j a h k l same)
      | inr m ↦ elim (cases_lt j i) [
        | inl l ↦ absurd (flows_differ net j i a k h l (sym same))
        | inr n ↦ omega (arith, m, n)
      ]
    ]

-- ---- texts
grouped : (w n d : List ℕ) → w ++ codes " " ++ n ++ codes " " ++ d ≡ w ++ 32 ∷ (n ++ 32 ∷ d)
grouped w n d =
    append_assoc (w ++ 32 ∷ [] ++ n) (32 ∷ []) d ∙ append_assoc (w ++ 32 ∷ []) n (32 ∷ d)
    ∙ append_assoc w (32 ∷ []) (n ++ 32 ∷ d)

paired : (w n : List ℕ) → w ++ codes " " ++ n ≡ w ++ 32 ∷ n
paired w n = append_assoc w (32 ∷ []) n

-- two texts with a number: the words, and what is behind them
pub record AreSame (w v n m : List ℕ) (b d : ℕ) : Type 0 where
  pub names : n ≡ m
  pub numbers : b ≡ d

numbered_same : (w v n m : List ℕ) (b d : ℕ) → unspaced w ≡ true → unspaced v ≡ true → unspaced n ≡ true
    → unspaced m ≡ true → b < 2 ^ 32 → d < 2 ^ 32
    → w ++ codes " " ++ n ++ codes " " ++ decimal b ≡ v ++ codes " " ++ m ++ codes " " ++ decimal d
    → AreSame w v n m b d
numbered_same w v n m b d hw hv hn hm hb hd e =
    let all = sym (grouped w n (decimal b)) ∙ e ∙ grouped v m (decimal d) in
    let rest = same_back 32 w v (n ++ 32 ∷ decimal b) (m ++ 32 ∷ decimal d) hw hv all in
    record {
      names = same_front 32 n m (decimal b) (decimal d) hn hm rest;
      numbers = same_number b d hb hd (same_back 32 n m (decimal b) (decimal d) hn hm rest);
    }

-- at one scope: the same places
pub record AreOne (a b c d : ℕ) : Type 0 where
  pub first : a ≡ c
  pub second : b ≡ d

place_same : (net : Net) (w v : List ℕ) (s : Scope) (a b c d : ℕ) → IsAccepted net → is_in_scope net s a b ≡ true
    → is_in_scope net s c d ≡ true → unspaced w ≡ true → unspaced v ≡ true
    → words_at net w s a b ≡ words_at net v s c d → AreOne a b c d
place_same net w v EachHop a b c d acc h k hw hv e =
    let f = with_hop net a (flow_at net a) b refl (ltb-true b (hops net a) h) in
    let g = with_hop net c (flow_at net c) d refl (ltb-true d (hops net c) k) in
    let hb : b < 2 ^ 32 = omega (arith, ltb-true b (hops net a) h, few_hops net a acc) in
    let hd : d < 2 ^ 32 = omega (arith, ltb-true d (hops net c) k, few_hops net c acc) in
    let t = numbered_same w v _ _ b d hw hv (flow_unspaced net a acc f) (flow_unspaced net c acc g) hb hd e in
    record { first = same_flow net a c acc f g t.names; second = t.numbers }
place_same net w v EachHopButLast a b c d acc h k hw hv e =
    let f = with_hop net a (flow_at net a) b refl (omega (arith, ltb-true _ (hops net a) h)) in
    let g = with_hop net c (flow_at net c) d refl (omega (arith, ltb-true _ (hops net c) k)) in
    let hb : b < 2 ^ 32 = omega (arith, ltb-true _ (hops net a) h, few_hops net a acc) in
    let hd : d < 2 ^ 32 = omega (arith, ltb-true _ (hops net c) k, few_hops net c acc) in
    let t = numbered_same w v _ _ b d hw hv (flow_unspaced net a acc f) (flow_unspaced net c acc g) hb hd e in
    record { first = same_flow net a c acc f g t.names; second = t.numbers }
place_same net w v EachQueue a b c d acc h k hw hv e =
    let f = with_queue net a (slice_get net.servers a) b refl (ltb-true b (queues net a) h) in
    let g = with_queue net c (slice_get net.servers c) d refl (ltb-true d (queues net c) k) in
    let hb : b < 2 ^ 32 = omega (arith, ltb-true b (queues net a) h, few_queues net a acc f) in
    let hd : d < 2 ^ 32 = omega (arith, ltb-true d (queues net c) k, few_queues net c acc g) in
    let t = numbered_same w v _ _ b d hw hv (server_unspaced net a acc f) (server_unspaced net c acc g) hb hd e in
    record { first = same_server net a c acc f g t.names; second = t.numbers }
place_same net w v EachPriorityQueue a b c d acc h k hw hv e =
    let f = with_level net a (slice_get net.servers a) b refl (ltb-true b (levels net a) h) in
    let g = with_level net c (slice_get net.servers c) d refl (ltb-true d (levels net c) k) in
    let hb : b < 2 ^ 32 = omega (arith, ltb-true b (levels net a) h, few_levels net a acc f) in
    let hd : d < 2 ^ 32 = omega (arith, ltb-true d (levels net c) k, few_levels net c acc g) in
    let t = numbered_same w v _ _ b d hw hv (server_unspaced net a acc f) (server_unspaced net c acc g) hb hd e in
    record { first = same_server net a c acc f g t.names; second = t.numbers }
place_same net w v EachPath a b c d acc h k hw hv e =
    let p = and_parts (is_live net a) (b == 0) h in
    let q = and_parts (is_live net c) (d == 0) k in
    let f = with_life net a (flow_at net a) refl p.0 in
    let g = with_life net c (flow_at net c) refl q.0 in
    let all = sym (paired w (flow_name net a)) ∙ e ∙ paired v (flow_name net c) in
    record {
      first = same_flow net a c acc f g (same_back 32 w v (flow_name net a) (flow_name net c) hw hv all);
      second = eqb-true b 0 p.1 ∙ sym (eqb-true d 0 q.1);
    }

-- the words of a kind and what is behind them
split_words : (net : Net) (w : List ℕ) (s : Scope) (a b : ℕ) → (rest : List ℕ) × (words_at net w s a b ≡ w ++ 32 ∷ rest)
split_words net w EachHop a b = (_, grouped w (flow_name net a) (decimal b))
split_words net w EachHopButLast a b = (_, grouped w (flow_name net a) (decimal b))
split_words net w EachQueue a b = (_, grouped w (server_name net a) (decimal b))
split_words net w EachPriorityQueue a b = (_, grouped w (server_name net a) (decimal b))
split_words net w EachPath a b = (_, paired w (flow_name net a))

pub words_tell_cells : WordsTellCells
unfolding cell_words
words_tell_cells net c d acc h k e =
    let w = kind_word c.kind in
    let v = kind_word d.kind in
    let hw = kind_unspaced c.kind in
    let hv = kind_unspaced d.kind in
    let x = split_words net w (scope_of c.kind) c.a c.b in
    let y = split_words net v (scope_of d.kind) d.a d.b in
    let kinds = same_kind c.kind d.kind (same_front 32 w v x.0 y.0 hw hv (sym x.1 ∙ e ∙ y.1)) in
    let here = subst (λ (l : Kind). is_in_scope net (scope_of l) d.a d.b ≡ true) (sym kinds) k in
    let text = e ∙ ap (λ (l : Kind). words_at net v (scope_of l) d.a d.b) (sym kinds) in
    let one = place_same net w v (scope_of c.kind) c.a c.b d.a d.b acc h here hw hv text in
    ap (λ (l : Kind). cell_of l c.a c.b) kinds ∙ ap (λ i. cell_of d.kind i c.b) one.first
    ∙ ap (λ j. cell_of d.kind d.a j) one.second
