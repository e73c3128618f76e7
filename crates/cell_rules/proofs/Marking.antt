-- Servers that are marked: one more, and that each one with a candidate is.
use Rattle.std.proofs.Common.{◌≡◌, ◌≢◌, ◌⊎◌, ℕ, zero, suc, ◌<◌, ◌≤◌, ◌+◌, ◌-◌, ◌==◌, List, [], ◌∷◌, ◌++◌, length, get_or, take, Bool, true, false, refl, sym, ap, ◌∙◌, subst, inl, inr, arith, ⊎_elim}
use Rattle.std.specs.Prelude.{slice_set, slice_index, nat_lt}
use Rattle.std.proofs.lemmas.List.{get_or-set_same, get_or-set_other, get_or_past, length-set, take_more}
use Rattle.std.proofs.lemmas.Bool.{cases_lt, eqb-true, eq-eqb, ne_eqb, cond-false, or_cases, or_left, or_right, and_parts, ltb-true}
use Rattle.std.proofs.lemmas.Bool.Decides.{eqb_tells}
use Rattle.net_model.specs.Networks.{Net}
use Rattle.net_model.specs.Accepted.{IsAccepted}
use Rattle.net_cells.specs.declared.cell.Cell.{Cell}
use Rattle.net_cells.specs.declared.cell.Kind.{Kind}
use Rattle.net_cells.specs.declared.cell.Kind.TheVariants.{In, Cross, Total, Higher, QueueService, Theta, Residual, QueueDelay, QueueBacklog, HopDelay, ShiftOut, DeconvOut, Out, PathService, Tfa, Sfa, Bound}
use Rattle.net_cells.specs.declared.cell.Scope.TheVariants.{EachPath}
use Rattle.net_cells.specs.declared.visit.Visit.{Visit}
use Rattle.net_cells.specs.Numbered.{path, hops, server_of_hop, queue_of_hop}
use Rattle.net_cells.specs.Visits.{visits, visits_in}
use Rattle.net_cells.specs.QueueParts.{part_of, in_part}
use Rattle.net_cells.specs.Cells.{cell_of, scope_of, has_cell}
use Rattle.net_cells.specs.Order.{server_cells}
use Rattle.net_cells.proofs.Lists.{Has, contains_has, has_contains, has_either, filter_has}
use Rattle.net_cells.proofs.Places.{flow_inside, visit_has, home, server_have}
use Rattle.cell_rules.specs.cell_changes.Slots.{columns, HasSlot}
use Rattle.cell_rules.specs.declared.site.Site.TheVariants.{Server, Flow}
use Rattle.cell_rules.specs.Sites.{is_among, passes, comes_by, has_hop, is_cut_by, reads_server, reads_flow}
use Rattle.cell_rules.specs.Marks.{is_marked, goes_on, KeepsMarks, MarksEach, MarksPath, MarksBehind, MarksNext, MarksOnward, MarksCandidates}
use Rattle.net_cells.proofs.cell_table.Fronts.{no_cell, cell_at}

-- ---- one mark more
pub mark_here : (marks : List Bool) (s : ℕ) → is_marked (slice_set marks s true) s ≡ true
mark_here marks s = elim (cases_lt s (length marks)) [
  | inl l ↦ get_or-set_same marks s true true l
  | inr l ↦ get_or_past (slice_set marks s true) s true (omega (arith, l, length-set marks s true))
]

pub mark_kept : (marks : List Bool) (s : ℕ) → KeepsMarks marks (slice_set marks s true)
mark_kept marks s t m = ⊎_elim
    (λ (k : (t == s ≡ true) × (t ≡ s)).
    subst (λ (n : ℕ). is_marked (slice_set marks s true) n ≡ true) (sym k.1) (mark_here marks s))
    (λ (k : (t == s ≡ false) × (t ≢ s)). get_or-set_other marks s t true true k.1 ∙ m)
    (eqb_tells t s)

-- ---- numbers among others
pub among_last : (n m : ℕ) (ns : List ℕ) → is_among n (ns ++ m ∷ []) ≡ true → (is_among n ns ≡ true) ⊎ (m ≡ n)
among_last n m [] e = elim (or_cases (m == n) false e) [
  | inl is ↦ inr (eqb-true m n is)
  | inr never ↦ absurd (let bad : ⊥ = cc in bad)
]
among_last n m (x ∷ xs) e = elim (or_cases (x == n) (is_among n (xs ++ m ∷ [])) e) [
  | inl is ↦ inl (or_left (x == n) (is_among n xs) is)
  | inr rest ↦ elim (among_last n m xs rest) [ inl l ↦ inl (or_right (x == n) (is_among n xs) l) | inr r ↦ inr r ]
]

pub among_at : (ns : List ℕ) (k n : ℕ) → k < length ns → slice_index ns k ≡ n → is_among n ns ≡ true
among_at [] k n h e = absurd (omega (arith, h))
among_at (x ∷ xs) zero n h e = or_left (x == n) (is_among n xs) (eq-eqb x n e)
among_at (x ∷ xs) (suc k) n h e = or_right (x == n) (is_among n xs) (among_at xs k n (omega (arith, h)) e)

-- ---- as loops go on
pub each_more : (servers : List ℕ) (i d : ℕ) (marks : List Bool) → i < length servers → MarksEach (take i servers) marks
    → MarksEach (take (i + 1) servers) (slice_set marks (get_or servers i d) true)
each_more servers i d marks h each s m =
    elim (among_last s (get_or servers i d) (take i servers)
    (subst (λ (ns : List ℕ). is_among s ns ≡ true) (take_more servers i d h) m)) [
      | inl l ↦ mark_kept marks (get_or servers i d) s (each s l)
      | inr e ↦ subst (λ (n : ℕ). is_marked (slice_set marks (get_or servers i d) true) n ≡ true) e
          (mark_here marks (get_or servers i d))
    ]

pub behind_more : (path : List ℕ) (s hop : ℕ) (marks more : List Bool) → 1 ≤ hop → MarksBehind path s marks hop
    → KeepsMarks marks more
    → ((slice_index path (hop - 1) == s) ≡ true → is_marked more (slice_index path hop) ≡ true)
    → MarksBehind path s more (hop + 1)
behind_more path s hop marks more some behind kept here k h e =
    elim (cases_lt (suc k) hop) [
      | inl l ↦ kept (slice_index path (suc k)) (behind k l e)
      | inr l ↦
          let same : hop ≡ suc k = omega (arith, h, l) in
          let back : hop - 1 ≡ k = omega (arith, same) in
          subst (λ (n : ℕ). is_marked more (slice_index path n) ≡ true) same
          (here (eq-eqb (slice_index path (hop - 1)) s
          (ap (λ (n : ℕ). slice_index path n) back ∙ e)))
    ]

pub next_more : (net : Net) (s n : ℕ) (marks more : List Bool) → MarksNext net s marks n → KeepsMarks marks more
    → MarksBehind (path net n) s more (hops net n) → MarksNext net s more (n + 1)
next_more net s n marks more next kept behind i k h on at =
    elim (cases_lt i n) [
      | inl l ↦ kept (server_of_hop net i (suc k)) (next i k l on at)
      | inr l ↦ one (omega (arith, h, l))
    ]
  where
    one : i ≡ n → is_marked more (server_of_hop net i (suc k)) ≡ true
    one e =
        subst (λ (j : ℕ). suc k < hops net j → server_of_hop net j k ≡ s
        → is_marked more (server_of_hop net j (suc k)) ≡ true) (sym e) (λ l is. behind k l is) on at

pub onward_more : (net : Net) (cells : List Cell) (i : ℕ) (flags marks more : List Bool) → i < length cells
    → MarksOnward net (take i cells) flags marks → KeepsMarks marks more
    → (goes_on flags (cell_at cells i) ≡ true
    → is_marked more (server_of_hop net (cell_at cells i).a ((cell_at cells i).b + 1)) ≡ true)
    → MarksOnward net (take (i + 1) cells) flags more
onward_more net cells i flags marks more h onward kept here f k m e =
    elim (has_either (take i cells) (cell_at cells i ∷ []) (cell_of Out f k)
    (subst (λ (xs : List Cell). Has xs (cell_of Out f k)) (take_more cells i no_cell h)
    (contains_has (take (i + 1) cells) (cell_of Out f k) m))) [
      | inl l ↦ kept (server_of_hop net f (suc k)) (onward f k (has_contains (take i cells) (cell_of Out f k) l) e)
      | inr r ↦ last r
    ]
  where
    last : Has (cell_at cells i ∷ []) (cell_of Out f k) → is_marked more (server_of_hop net f (suc k)) ≡ true
    last (inl is) =
        let next : k + 1 ≡ suc k = omega arith in
        subst (λ (n : ℕ). is_marked more (server_of_hop net f n) ≡ true) next
        (subst (λ (c : Cell). goes_on flags c ≡ true → is_marked more (server_of_hop net c.a (c.b + 1)) ≡ true) is here e)
    last (inr n) = absurd n

-- ---- where a server has changed
-- a hop that enters over its link
record IsOver (net : Net) (s t : ℕ) : Type 0 where
  flow : ℕ
  hop : ℕ
  on_path : suc hop < hops net flow
  from : server_of_hop net flow hop ≡ s
  to : server_of_hop net flow (suc hop) ≡ t

first_hop : (vs : List Visit) → has_hop vs ≡ true → (v : Visit) × Has vs v
first_hop [] e = absurd (let bad : ⊥ = cc in bad)
first_hop (v ∷ vs) e = (v, inl refl)

over : (net : Net) (s t q : ℕ) → has_hop (in_part net t q (s + 1)) ≡ true → IsOver net s t
over net s t q e =
    let found = first_hop (in_part net t q (s + 1)) e in
    let part = filter_has (λ (v : Visit). part_of net v == s + 1) (visits_in net t q) found.0 found.1 in
    let lane = filter_has (λ (v : Visit). queue_of_hop net v.flow v.hop == q) (visits net t) found.0 part.0 in
    let here = visit_has net t found.0 lane.0 in
    by found.0.flow found.0.hop here.0 here.1 (eqb-true (part_of net found.0) (s + 1) part.1)
  where
    by : (i k : ℕ) → k < hops net i → server_of_hop net i k ≡ t
        → part_of net (record { flow = i; hop = k }) ≡ s + 1 → IsOver net s t
    by i zero h at part = let bad : 0 ≡ s + 1 = part in absurd (omega (arith, bad))
    by i (suc k) h at part =
        let back : suc k - 1 ≡ k = omega arith in
        let some : (suc k == 0) ≡ false = ne_eqb (suc k) 0 (λ e. absurd (omega (arith, e))) in
        let is : suc (server_of_hop net i (suc k - 1)) ≡ s + 1 = sym (cond-false (suc k == 0) _ _ some) ∙ part in
        let same : server_of_hop net i (suc k - 1) ≡ s = omega (arith, is) in
        record {
          flow = i;
          hop = k;
          on_path = h;
          from = ap (λ (n : ℕ). server_of_hop net i n) (sym back) ∙ same;
          to = at;
        }

pub marked_over : (net : Net) (s t q : ℕ) (marks : List Bool) → IsAccepted net → MarksNext net s marks 256
    → has_hop (in_part net t q (s + 1)) ≡ true → is_marked marks t ≡ true
marked_over net s t q marks a next e =
    let way = over net s t q e in
    let inside = flow_inside net way.flow (suc way.hop) way.on_path in
    let few = a.few_flows in
    subst (λ (n : ℕ). is_marked marks n ≡ true) way.to
    (next way.flow way.hop (omega (arith, inside, few)) way.on_path way.from)

pub server_marked : (net : Net) (s t : ℕ) (marks : List Bool) → IsAccepted net → is_marked marks s ≡ true
    → (net.version == 2 ≡ true → MarksNext net s marks 256)
    → (kind : Kind) (a b : ℕ) → home net (cell_of kind a b) ≡ t → scope_of kind ≢ EachPath
    → reads_server net s kind a b ≡ true → is_marked marks t ≡ true
server_marked net s t marks acc here next = by
  where
    at_it : (a : ℕ) → a ≡ t → (a == s) ≡ true → is_marked marks t ≡ true
    at_it a e is = subst (λ (n : ℕ). is_marked marks n ≡ true) (sym (eqb-true a s is) ∙ e) here

    by : (kind : Kind) (a b : ℕ) → home net (cell_of kind a b) ≡ t → scope_of kind ≢ EachPath
        → reads_server net s kind a b ≡ true → is_marked marks t ≡ true
    by In a b e n r = absurd (let bad : ⊥ = cc in bad)
    by Cross a b e n r = absurd (let bad : ⊥ = cc in bad)
    by Total a b e n r = elim (or_cases (a == s) (is_cut_by net s a b) r) [
      | inl is ↦ at_it a e is
      | inr cut ↦
          let parts = and_parts (net.version == 2) (has_hop (in_part net a b (s + 1))) cut in
          subst (λ (m : ℕ). is_marked marks m ≡ true) e
          (marked_over net s a b marks acc (next parts.0) parts.1)
    ]
    by Higher a b e n r = at_it a e r
    by QueueService a b e n r = at_it a e r
    by Theta a b e n r = absurd (let bad : ⊥ = cc in bad)
    by Residual a b e n r = absurd (let bad : ⊥ = cc in bad)
    by QueueDelay a b e n r = at_it a e r
    by QueueBacklog a b e n r = at_it a e r
    by HopDelay a b e n r = absurd (let bad : ⊥ = cc in bad)
    by ShiftOut a b e n r = absurd (let bad : ⊥ = cc in bad)
    by DeconvOut a b e n r = absurd (let bad : ⊥ = cc in bad)
    by Out a b e n r = absurd (let bad : ⊥ = cc in bad)
    by PathService a b e n r = absurd (n refl)
    by Tfa a b e n r = absurd (n refl)
    by Sfa a b e n r = absurd (n refl)
    by Bound a b e n r = absurd (n refl)

pub server_candidates : (net : Net) (s : ℕ) (marks : List Bool) → IsAccepted net → is_marked marks s ≡ true
    → (net.version == 2 ≡ true → MarksNext net s marks 256) → (old : Net) → MarksCandidates (Server s) old net marks
server_candidates net s marks acc here next old t c m is =
    let at = server_have net t c (contains_has (server_cells net t) c m) in
    server_marked net s t marks acc here next c.kind c.a c.b at.at_home at.no_path is

-- ---- where a flow has changed
pub flow_marked : (old net : Net) (i t : ℕ) (marks : List Bool) → MarksPath old i marks → MarksPath net i marks
    → (kind : Kind) (a b : ℕ) → has_cell net (cell_of kind a b) ≡ true → home net (cell_of kind a b) ≡ t
    → scope_of kind ≢ EachPath
    → reads_flow old net i kind a b ≡ true → is_marked marks t ≡ true
flow_marked old net i t marks was is = by
  where
    either : comes_by old net i t ≡ true → is_marked marks t ≡ true
    either c = elim (or_cases (passes old i t) (passes net i t) c) [ inl l ↦ was t l | inr r ↦ is t r ]

    on_it : (a b : ℕ) → b < hops net a → server_of_hop net a b ≡ t → (a == i) ≡ true → is_marked marks t ≡ true
    on_it a b h e same =
        is t (subst (λ (j : ℕ). passes net j t ≡ true) (eqb-true a i same) (among_at (path net a) b t h e))

    before : (a b : ℕ) → nat_lt (b + 1) (hops net a) ≡ true → b < hops net a
    before a b h = let l = ltb-true (b + 1) (hops net a) h in omega (arith, l)

    by : (kind : Kind) (a b : ℕ) → has_cell net (cell_of kind a b) ≡ true → home net (cell_of kind a b) ≡ t
        → scope_of kind ≢ EachPath
        → reads_flow old net i kind a b ≡ true → is_marked marks t ≡ true
    by In a b h e n r = on_it a b (ltb-true b (hops net a) h) e r
    by Cross a b h e n r = elim (or_cases (a == i) (comes_by old net i (server_of_hop net a b)) r) [
      | inl same ↦ on_it a b (ltb-true b (hops net a) h) e same
      | inr c ↦ either (subst (λ (s : ℕ). comes_by old net i s ≡ true) e c)
    ]
    by Total a b h e n r = either (subst (λ (s : ℕ). comes_by old net i s ≡ true) e r)
    by Higher a b h e n r = absurd (let bad : ⊥ = cc in bad)
    by QueueService a b h e n r = either (subst (λ (s : ℕ). comes_by old net i s ≡ true) e r)
    by Theta a b h e n r = on_it a b (ltb-true b (hops net a) h) e r
    by Residual a b h e n r = on_it a b (ltb-true b (hops net a) h) e r
    by QueueDelay a b h e n r = absurd (let bad : ⊥ = cc in bad)
    by QueueBacklog a b h e n r = either (subst (λ (s : ℕ). comes_by old net i s ≡ true) e r)
    by HopDelay a b h e n r = on_it a b (ltb-true b (hops net a) h) e r
    by ShiftOut a b h e n r = on_it a b (before a b h) e r
    by DeconvOut a b h e n r = on_it a b (before a b h) e r
    by Out a b h e n r = on_it a b (before a b h) e r
    by PathService a b h e n r = absurd (n refl)
    by Tfa a b h e n r = absurd (n refl)
    by Sfa a b h e n r = absurd (n refl)
    by Bound a b h e n r = absurd (n refl)

pub flow_candidates : (old net : Net) (i : ℕ) (marks : List Bool) → MarksPath old i marks → MarksPath net i marks
    → MarksCandidates (Flow i) old net marks
flow_candidates old net i marks was is t c m r =
    let at = server_have net t c (contains_has (server_cells net t) c m) in
    flow_marked old net i t marks was is c.kind c.a c.b at.exists at.at_home at.no_path r

-- ---- numbers of cells
pub few_columns : (c : Cell) → HasSlot c → c.b < 16
few_columns c h = by c.kind h.column
  where
    by : (kind : Kind) → c.b < columns kind → c.b < 16
    by In l = omega (arith, l)
    by Cross l = omega (arith, l)
    by Total l = omega (arith, l)
    by Higher l = omega (arith, l)
    by QueueService l = omega (arith, l)
    by Theta l = omega (arith, l)
    by Residual l = omega (arith, l)
    by QueueDelay l = omega (arith, l)
    by QueueBacklog l = omega (arith, l)
    by HopDelay l = omega (arith, l)
    by ShiftOut l = omega (arith, l)
    by DeconvOut l = omega (arith, l)
    by Out l = omega (arith, l)
    by PathService l = omega (arith, l)
    by Tfa l = omega (arith, l)
    by Sfa l = omega (arith, l)
    by Bound l = omega (arith, l)
