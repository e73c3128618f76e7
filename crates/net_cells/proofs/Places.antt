-- Which hops, queues and cells a network has: what stands in the lists of them.
use Rattle.std.proofs.Common.{◌≡◌, ◌≢◌, ℕ, ◌<◌, ◌+◌, List, length, map, refl, sym, ap, ◌∙◌, subst, arith, inl, inr, true, false, ◌≤◌, ◌++◌, get_or}
use Rattle.std.specs.Prelude.{Option, None, is_some}
use Rattle.std.specs.List.{filter, range_with_len}
use Rattle.std.proofs.lemmas.Bool.{cases_lt, ltb-true, lt-ltb, eqb-true, eq-eqb}
use Rattle.std.proofs.lemmas.List.{get_or_past}
use Rattle.net_model.specs.Networks.{Net, NetFlow}
use Rattle.net_cells.specs.declared.cell.Cell.{Cell}
use Rattle.net_cells.specs.declared.cell.Kind.{Kind}
use Rattle.net_cells.specs.declared.cell.Kind.TheVariants.{In, Cross, Total, Higher, QueueService, Theta, Residual, QueueDelay, QueueBacklog, HopDelay, ShiftOut, DeconvOut, Out, PathService, Tfa, Sfa, Bound}
use Rattle.net_cells.specs.declared.cell.Scope.{Scope}
use Rattle.net_cells.specs.declared.cell.Scope.TheVariants.{EachHop, EachHopButLast, EachQueue, EachPriorityQueue, EachPath}
use Rattle.net_cells.specs.Numbered.{flow_at, path_of, hops, server_of_hop, is_live, queues, levels}
use Rattle.net_cells.specs.Visits.{Visit, visit, all_visits, visits, is_at, goes_on}
use Rattle.net_cells.specs.cell_table.Rows.{kind_number}
use Rattle.net_cells.specs.Cells.{cell_of, scope_of, is_in_scope, has_cell, server_kinds, path_kinds}
use Rattle.net_cells.specs.Order.{at_visit, cells_in_scope, kind_cells, server_cells, path_cells}
use Rattle.net_cells.proofs.Lists.{Apart, map_has, apart_map, has_filter, filter_has, apart_filter, apart_back, Before, before_back, before_range, flat_has, apart_flat, has_range, range_has, apart_range}
use Rattle.run_laws.proofs.Members.{Has, has_map, has_flat}

-- ---- flows
pub flow_inside : (net : Net) (i k : ℕ) → k < hops net i → i < length net.flows
flow_inside net i k h =
    elim (cases_lt i (length net.flows)) [
      | inl l ↦ l
      | inr l ↦
          let none : flow_at net i ≡ None = get_or_past net.flows i None l in
          let no : hops net i ≡ 0 = ap (λ (o : Option NetFlow). length (path_of o)) none in
          absurd (omega (arith, no, h))
    ]

pub live_inside : (net : Net) (i : ℕ) → is_live net i ≡ true → i < length net.flows
live_inside net i h =
    elim (cases_lt i (length net.flows)) [
      | inl l ↦ l
      | inr l ↦
          let none : flow_at net i ≡ None = get_or_past net.flows i None l in
          let bad : true ≡ false = sym h ∙ ap (λ (o : Option NetFlow). is_some o) none in
          absurd cc
    ]

-- ---- hops
hops_of : Net → ℕ → List Visit
hops_of net i = map (visit i) (range_with_len 0 (hops net i))

pub has_all : (net : Net) (i k : ℕ) → k < hops net i → Has (all_visits net) (visit i k)
has_all net i k h =
    has_flat (λ j. map (visit j) (range_with_len 0 (hops net j))) (range_with_len 0 (length net.flows)) i (visit i k)
    (let inside = flow_inside net i k h in has_range 0 (length net.flows) i (omega arith) (omega (arith, inside)))
    (has_map (visit i) (range_with_len 0 (hops net i)) k (has_range 0 (hops net i) k (omega arith) (omega (arith, h))))

all_has : (net : Net) (v : Visit) → Has (all_visits net) v → v.hop < hops net v.flow
all_has net v h =
    let flow = flat_has (λ j. map (visit j) (range_with_len 0 (hops net j)))
    (range_with_len 0 (length net.flows)) v h in
    let hop = map_has (visit flow.0) (range_with_len 0 (hops net flow.0)) v flow.2 in
    let below : hop.0 < hops net flow.0 =
    let found = range_has 0 (hops net flow.0) hop.0 hop.1 in omega (arith, found.1) in
    subst (λ (w : Visit). w.hop < hops net w.flow) hop.2 below

pub has_visit : (net : Net) (s i k : ℕ) → k < hops net i → server_of_hop net i k ≡ s → Has (visits net s) (visit i k)
has_visit net s i k h e = has_filter (is_at net s) (all_visits net) (visit i k) (has_all net i k h)
    (eq-eqb (server_of_hop net i k) s e)

pub visit_has : (net : Net) (s : ℕ) (v : Visit) → Has (visits net s) v
    → (v.hop < hops net v.flow) × (server_of_hop net v.flow v.hop ≡ s)
visit_has net s v h =
    let found = filter_has (is_at net s) (all_visits net) v h in
    (all_has net v found.0, eqb-true (server_of_hop net v.flow v.hop) s found.1)

pub apart_visits : (net : Net) (s : ℕ) → Apart (visits net s)
apart_visits net s =
    apart_filter (is_at net s) (all_visits net)
    (apart_flat (λ j. map (visit j) (range_with_len 0 (hops net j))) (λ (v : Visit). v.flow)
    (range_with_len 0 (length net.flows))
    (λ i v h. let hop = map_has (visit i) (range_with_len 0 (hops net i)) v h in sym (ap (λ (w : Visit). w.flow) hop.2))
    (λ i. apart_map (visit i) (range_with_len 0 (hops net i)) (λ j k e. ap (λ (w : Visit). w.hop) e)
    (apart_range 0 (hops net i)))
    (apart_range 0 (length net.flows)))

-- ---- cells of one kind at a server
-- the server of a cell's hop or queue
abbrev pub home_in : Net → Scope → ℕ → ℕ → ℕ
home_in net EachHop a b = server_of_hop net a b
home_in net EachHopButLast a b = server_of_hop net a b
home_in net EachQueue a b = a
home_in net EachPriorityQueue a b = a
home_in net EachPath a b = 0

abbrev pub home : Net → Cell → ℕ
home net c = home_in net (scope_of c.kind) c.a c.b

-- what a cell in such a list is
pub record IsAt (net : Net) (s : ℕ) (kind : Kind) (scope : Scope) (c : Cell) : Type 0 where
  pub kind_is : c.kind ≡ kind
  pub exists : is_in_scope net scope c.a c.b ≡ true
  pub at_home : home_in net scope c.a c.b ≡ s
  pub no_path : scope ≢ EachPath

at_each_visit : (net : Net) (s : ℕ) (kind : Kind) (v : Visit) → Has (visits net s) v
    → IsAt net s kind EachHop (at_visit kind v)
at_each_visit net s kind v h =
    let found = visit_has net s v h in
    record { kind_is = refl; exists = lt-ltb v.hop (hops net v.flow) found.0; at_home = found.1; no_path = λ e. cc }

at_each_but_last : (net : Net) (s : ℕ) (kind : Kind) (v : Visit) → Has (filter (goes_on net) (visits net s)) v
    → IsAt net s kind EachHopButLast (at_visit kind v)
at_each_but_last net s kind v h =
    let kept = filter_has (goes_on net) (visits net s) v h in
    let found = visit_has net s v kept.0 in
    record { kind_is = refl; exists = kept.1; at_home = found.1; no_path = λ e. cc }

pub cells_have : (net : Net) (s : ℕ) (kind : Kind) (scope : Scope) (c : Cell) → Has (cells_in_scope net s kind scope) c
    → IsAt net s kind scope c
cells_have net s kind EachHop c h =
    let found = map_has (at_visit kind) (visits net s) c h in
    subst (IsAt net s kind EachHop) found.2 (at_each_visit net s kind found.0 found.1)
cells_have net s kind EachHopButLast c h =
    let found = map_has (at_visit kind) (filter (goes_on net) (visits net s)) c h in
    subst (IsAt net s kind EachHopButLast) found.2 (at_each_but_last net s kind found.0 found.1)
cells_have net s kind EachQueue c h =
    let found = map_has (cell_of kind s) (range_with_len 0 (queues net s)) c h in
    let below : found.0 < queues net s = let r = range_has 0 (queues net s) found.0 found.1 in omega (arith, r.1) in
    subst (IsAt net s kind EachQueue) found.2
    (record { kind_is = refl; exists = lt-ltb found.0 (queues net s) below; at_home = refl; no_path = λ e. cc })
cells_have net s kind EachPriorityQueue c h =
    let found = map_has (cell_of kind s) (range_with_len 0 (levels net s)) c h in
    let below : found.0 < levels net s = let r = range_has 0 (levels net s) found.0 found.1 in omega (arith, r.1) in
    subst (IsAt net s kind EachPriorityQueue) found.2
    (record { kind_is = refl; exists = lt-ltb found.0 (levels net s) below; at_home = refl; no_path = λ e. cc })
cells_have net s kind EachPath c h = absurd h

pub has_cells : (net : Net) (s : ℕ) (kind : Kind) (scope : Scope) (a b : ℕ) → is_in_scope net scope a b ≡ true
    → home_in net scope a b ≡ s → scope ≢ EachPath → Has (cells_in_scope net s kind scope) (cell_of kind a b)
has_cells net s kind EachHop a b h e n =
    has_map (at_visit kind) (visits net s) (visit a b) (has_visit net s a b (ltb-true b (hops net a) h) e)
has_cells net s kind EachHopButLast a b h e n =
    has_map (at_visit kind) (filter (goes_on net) (visits net s)) (visit a b)
    (has_filter (goes_on net) (visits net s) (visit a b)
    (has_visit net s a b (let l = ltb-true (b + 1) (hops net a) h in omega (arith, l)) e) h)
has_cells net s kind EachQueue a b h e n =
    subst (λ (t : ℕ). Has (cells_in_scope net t kind EachQueue) (cell_of kind a b)) e
    (has_map (cell_of kind a) (range_with_len 0 (queues net a)) b
    (has_range 0 (queues net a) b (omega arith) (let l = ltb-true b (queues net a) h in omega (arith, l))))
has_cells net s kind EachPriorityQueue a b h e n =
    subst (λ (t : ℕ). Has (cells_in_scope net t kind EachPriorityQueue) (cell_of kind a b)) e
    (has_map (cell_of kind a) (range_with_len 0 (levels net a)) b
    (has_range 0 (levels net a) b (omega arith) (let l = ltb-true b (levels net a) h in omega (arith, l))))
has_cells net s kind EachPath a b h e n = absurd (n refl)

pub at_visit_one : (kind : Kind) (v w : Visit) → at_visit kind v ≡ at_visit kind w → v ≡ w
at_visit_one kind v w e = ap (λ (c : Cell). visit c.a c.b) e

pub cell_of_one : (kind : Kind) (s p q : ℕ) → cell_of kind s p ≡ cell_of kind s q → p ≡ q
cell_of_one kind s p q e = ap (λ (c : Cell). c.b) e

pub apart_cells : (net : Net) (s : ℕ) (kind : Kind) (scope : Scope) → Apart (cells_in_scope net s kind scope)
apart_cells net s kind EachHop = apart_map (at_visit kind) (visits net s) (at_visit_one kind) (apart_visits net s)
apart_cells net s kind EachHopButLast =
    apart_map (at_visit kind) (filter (goes_on net) (visits net s)) (at_visit_one kind)
    (apart_filter (goes_on net) (visits net s) (apart_visits net s))
apart_cells net s kind EachQueue =
    apart_map (cell_of kind s) (range_with_len 0 (queues net s)) (cell_of_one kind s) (apart_range 0 (queues net s))
apart_cells net s kind EachPriorityQueue =
    apart_map (cell_of kind s) (range_with_len 0 (levels net s)) (cell_of_one kind s) (apart_range 0 (levels net s))
apart_cells net s kind EachPath = tt

-- ---- kinds
-- a kind at servers, or of whole paths
pub data Side (kind : Kind) : Type 0 where
  at_servers : Has server_kinds kind → scope_of kind ≢ EachPath → Side kind
  of_paths : Has path_kinds kind → scope_of kind ≡ EachPath → Side kind

pub side_of : (kind : Kind) → Side kind
side_of In = at_servers (inl refl) (λ e. cc)
side_of Cross = at_servers (inr (inl refl)) (λ e. cc)
side_of Total = at_servers (inr (inr (inl refl))) (λ e. cc)
side_of Higher = at_servers (inr (inr (inr (inl refl)))) (λ e. cc)
side_of QueueService = at_servers (inr (inr (inr (inr (inl refl))))) (λ e. cc)
side_of Theta = at_servers (inr (inr (inr (inr (inr (inl refl)))))) (λ e. cc)
side_of Residual = at_servers (inr (inr (inr (inr (inr (inr (inl refl))))))) (λ e. cc)
side_of QueueDelay = at_servers (inr (inr (inr (inr (inr (inr (inr (inl refl)))))))) (λ e. cc)
side_of QueueBacklog = at_servers (inr (inr (inr (inr (inr (inr (inr (inr (inl refl))))))))) (λ e. cc)
side_of HopDelay = at_servers (inr (inr (inr (inr (inr (inr (inr (inr (inr (inl refl)))))))))) (λ e. cc)
side_of ShiftOut = at_servers (inr (inr (inr (inr (inr (inr (inr (inr (inr (inr (inl refl))))))))))) (λ e. cc)
side_of DeconvOut = at_servers (inr (inr (inr (inr (inr (inr (inr (inr (inr (inr (inr (inl refl)))))))))))) (λ e. cc)
side_of Out = at_servers (inr (inr (inr (inr (inr (inr (inr (inr (inr (inr (inr (inr (inl refl))))))))))))) (λ e. cc)
side_of PathService = of_paths (inl refl) refl
side_of Tfa = of_paths (inr (inl refl)) refl
side_of Sfa = of_paths (inr (inr (inl refl))) refl
side_of Bound = of_paths (inr (inr (inr (inl refl)))) refl

-- by their places
abbrev pub rank : Kind → ℕ
rank kind = kind_number kind

apart_kinds : Apart server_kinds
apart_kinds = apart_back rank server_kinds (apart_range 0 13)

pub apart_path_kinds : Apart path_kinds
apart_path_kinds = apart_back rank path_kinds (apart_range 13 4)

-- and back
kinds : List Kind
kinds = server_kinds ++ path_kinds

kind_at : ℕ → Kind
unfolding kinds
kind_at n = get_or kinds n In

kind_at_rank : (kind : Kind) → kind_at (rank kind) ≡ kind
unfolding kind_at kinds
kind_at_rank In = refl
kind_at_rank Cross = refl
kind_at_rank Total = refl
kind_at_rank Higher = refl
kind_at_rank QueueService = refl
kind_at_rank Theta = refl
kind_at_rank Residual = refl
kind_at_rank QueueDelay = refl
kind_at_rank QueueBacklog = refl
kind_at_rank HopDelay = refl
kind_at_rank ShiftOut = refl
kind_at_rank DeconvOut = refl
kind_at_rank Out = refl
kind_at_rank PathService = refl
kind_at_rank Tfa = refl
kind_at_rank Sfa = refl
kind_at_rank Bound = refl

pub rank_one : (j k : Kind) → rank j ≡ rank k → j ≡ k
rank_one j k e = sym (kind_at_rank j) ∙ ap kind_at e ∙ kind_at_rank k

pub kinds_before : (j k : Kind) → rank j < rank k → rank k < 13 → Before j k server_kinds
kinds_before j k h l = before_back rank j k server_kinds rank_one
    (before_range 0 13 (rank j) (rank k) (omega arith) h l)

pub path_kinds_before : (j k : Kind) → 13 ≤ rank j → rank j < rank k → rank k < 17 → Before j k path_kinds
path_kinds_before j k g h l = before_back rank j k path_kinds rank_one (before_range 13 4 (rank j) (rank k) g h l)

pub path_scope : (kind : Kind) → Has path_kinds kind → scope_of kind ≡ EachPath
path_scope kind (inl e) = ap scope_of (sym e)
path_scope kind (inr (inl e)) = ap scope_of (sym e)
path_scope kind (inr (inr (inl e))) = ap scope_of (sym e)
path_scope kind (inr (inr (inr (inl e)))) = ap scope_of (sym e)
path_scope kind (inr (inr (inr (inr h)))) = absurd h

-- ---- cells of a server, and of a kind of whole paths
pub record IsHome (net : Net) (s : ℕ) (c : Cell) : Type 0 where
  pub exists : has_cell net c ≡ true
  pub at_home : home net c ≡ s
  pub no_path : scope_of c.kind ≢ EachPath

pub kind_have : (net : Net) (s : ℕ) (kind : Kind) (c : Cell) → Has (kind_cells net s kind) c → IsHome net s c
kind_have net s kind c h =
    let found = cells_have net s kind (scope_of kind) c h in
    record {
      exists = subst (λ (k : Kind). is_in_scope net (scope_of k) c.a c.b ≡ true) (sym found.kind_is) found.exists;
      at_home = subst (λ (k : Kind). home_in net (scope_of k) c.a c.b ≡ s) (sym found.kind_is) found.at_home;
      no_path = subst (λ (k : Kind). scope_of k ≢ EachPath) (sym found.kind_is) found.no_path;
    }

pub server_have : (net : Net) (s : ℕ) (c : Cell) → Has (server_cells net s) c → IsHome net s c
server_have net s c h =
    let kind = flat_has (kind_cells net s) server_kinds c h in
    kind_have net s kind.0 c kind.2

pub has_kind : (net : Net) (s : ℕ) (c : Cell) → IsHome net s c → Has (kind_cells net s c.kind) c
has_kind net s c h = has_cells net s c.kind (scope_of c.kind) c.a c.b h.exists h.at_home h.no_path

pub has_server : (net : Net) (s : ℕ) (c : Cell) → IsHome net s c → Has (server_cells net s) c
has_server net s c h = here (side_of c.kind)
  where
    here : Side c.kind → Has (server_cells net s) c
    here (at_servers m n) = has_flat (kind_cells net s) server_kinds c.kind c m (has_kind net s c h)
    here (of_paths m e) = absurd (h.no_path e)

pub apart_server : (net : Net) (s : ℕ) → Apart (server_cells net s)
apart_server net s =
    apart_flat (kind_cells net s) (λ (c : Cell). c.kind) server_kinds
    (λ kind c h. (cells_have net s kind (scope_of kind) c h).kind_is)
    (λ kind. apart_cells net s kind (scope_of kind)) apart_kinds

pub record IsOnPath (net : Net) (kind : Kind) (c : Cell) : Type 0 where
  pub kind_is : c.kind ≡ kind
  pub live : is_live net c.a ≡ true
  pub second : c.b ≡ 0

pub path_have : (net : Net) (kind : Kind) (c : Cell) → Has (path_cells net kind) c → IsOnPath net kind c
path_have net kind c h =
    let found = map_has (λ i. cell_of kind i 0) (filter (is_live net) (range_with_len 0 (length net.flows))) c h in
    let kept = filter_has (is_live net) (range_with_len 0 (length net.flows)) found.0 found.1 in
    subst (IsOnPath net kind) found.2 (record { kind_is = refl; live = kept.1; second = refl })

pub has_path : (net : Net) (kind : Kind) (i : ℕ) → is_live net i ≡ true → Has (path_cells net kind) (cell_of kind i 0)
has_path net kind i h =
    has_map (λ j. cell_of kind j 0) (filter (is_live net) (range_with_len 0 (length net.flows))) i
    (has_filter (is_live net) (range_with_len 0 (length net.flows)) i
    (let inside = live_inside net i h in has_range 0 (length net.flows) i (omega arith) (omega (arith, inside))) h)

pub apart_path : (net : Net) (kind : Kind) → Apart (path_cells net kind)
apart_path net kind =
    apart_map (λ i. cell_of kind i 0) (filter (is_live net) (range_with_len 0 (length net.flows)))
    (λ i j e. ap (λ (c : Cell). c.a) e)
    (apart_filter (is_live net) (range_with_len 0 (length net.flows)) (apart_range 0 (length net.flows)))
