-- A workload's network keeps what every network keeps, and its trace names its flows.
use Rattle.std.proofs.Common.{◌≡◌, ◌≢◌, ℕ, zero, suc, ◌+◌, ◌%◌, ◌<◌, ◌≤◌, List, [], ◌∷◌, ◌++◌, length, get_or, map, drop, refl, sym, ap, ◌∙◌, subst, arith, Bool, true, false, Option, Some, None}
use Rattle.std.specs.Prelude.{All, AllPairs, Contains, ◌==◌, ◌&&◌, ◌||◌, nat_le, if◌then◌else◌}
use Rattle.std.specs.Fmt.{decimal}
use Rattle.std.specs.List.{list_all, range_with_len}
use Rattle.std.proofs.Math.Nat.{mod-lt}
use Rattle.std.proofs.lemmas.Bool.{and_from, le-leb}
use Rattle.std.proofs.lemmas.Fmt.{decimal_by_steps, decimal_injective, length-decimal-le}
use Rattle.std.proofs.lemmas.List.{get_or-map, length-map}
use Rattle.std.proofs.lemmas.List.Folds.{list_all-append}
use Rattle.std.proofs.lemmas.List.FromFn.{get_or-range_with_len, length-range_with_len, get_or-map-range_with_len, length-map-range_with_len}
use Rattle.std.proofs.lemmas.Option.{slice_get-get_or, same_Some}
use Rattle.rational.proofs.Integers.{nat_nonneg, nat_lt}
use Rattle.rational.proofs.Laws.{le_refl}
use Rattle.min_plus.specs.Functions.{zero_q}
use Rattle.run_laws.specs.Servers.{Fifo, Priority, Drr, queue_count}
use Rattle.net_model.specs.Accepted.{IsAccepted, IsServer, IsFlow, IsHop, IsInQuantum, HasFewQueues, IsLength}
use Rattle.net_model.specs.declared.trace.TracePacket.{TracePacket}
use Rattle.net_model.specs.Names.{IsName, is_name_byte, DifferInName}
use Rattle.net_model.specs.Networks.{NetServer, NetFlow}
use Rattle.net_model.specs.declared.flow.Flow.{Flow}
use Rattle.net_model.specs.declared.server.Server.{Server}
use Rattle.net_model.specs.Views.{net_of, servers_of, flows_of}
use Rattle.net_model.specs.Walks.{IsNext, IsStep, Chain, IsFeedForward}
use Rattle.net_model.proofs.KindsStand.{kinds_may_stand}
use Rattle.net_model.proofs.PlainNets.{each_passes}
use Rattle.net_model.proofs.Short.{all_of}
use Rattle.net_model.specs.stated_runs.FromTraces.{IsLive}
use Rattle.exercise_load.specs.declared.drawn.DrawnFlow.{DrawnFlow}
use Rattle.exercise_load.specs.Bounds.{IsDrawn}
use Rattle.exercise_load.specs.Drawn.{drawn_flow, drawn_flows}
use Rattle.exercise_load.specs.Workloads.{numbered, whole, discipline_of, server, queue_at, path_of, flow_of, network_of, trace_of}
use Rattle.exercise_load.specs.WorkloadLaws.{WorkloadsStand}
use Rattle.exercise_load.proofs.DrawnAre.{bits_within, some_period, flow_is_drawn, drawn_at, many}
use Rattle.exercise_load.proofs.Sent.{keeps, hold_what_is_sent}

-- ---- names
-- one of the digits
digit_is : (n : ℕ) → n < 10 → is_name_byte (48 + n) ≡ true
digit_is n h = rw (low, high) (third (nat_le 97 (48 + n) && nat_le (48 + n) 122) (nat_le 65 (48 + n) && nat_le (48 + n) 90) _ _)
  where
    low : nat_le 48 (48 + n) ≡ true
    low = le-leb 48 (48 + n) (omega arith)

    high : nat_le (48 + n) 57 ≡ true
    high = le-leb (48 + n) 57 (omega (arith, h))

    third : (a b c d : Bool) → ((((a || b) || true) || c) || d) ≡ true
    third true b c d = refl
    third false true c d = refl
    third false false c d = refl

are_digits : (k : ℕ) → k < 24 → list_all is_name_byte (decimal k) ≡ true
are_digits k h =
    decimal_by_steps (λ n ds. list_all is_name_byte ds ≡ true)
    (λ n l. rw (digit_is n l) refl)
    (λ n ds l e. list_all-append is_name_byte ds ((48 + n % 10) ∷ [])
    ∙ rw (e, digit_is (n % 10) (mod-lt n (omega arith))) refl)
    k (omega (arith, h))

name_of : (letter k : ℕ) → is_name_byte letter ≡ true → k < 24 → IsName (numbered letter k)
name_of letter k first h =
    let few = length-decimal-le 2 k (omega arith) (omega (arith, h)) (omega (arith, h)) in
    record {
      some = omega arith;
      few = omega (arith, few);
      bytes = λ j d l.
          each_passes is_name_byte (numbered letter k)
          (and_from (is_name_byte letter) (list_all is_name_byte (decimal k)) first (are_digits k h)) j d l;
    }

differ : (letter i j : ℕ) → i < j → j < 24 → numbered letter i ≢ numbered letter j
differ letter i j h k e =
    let same : decimal i ≡ decimal j = ap (drop 1) e in
    let one = decimal_injective i j (omega (arith, h, k)) (omega (arith, k)) same in
    omega arith

-- ---- servers
server_at : (seed k : ℕ) (d : NetServer) → k < 16 → get_or (network_of seed).servers k d ≡ server k
unfolding network_of
server_at seed k d h = get_or-map-range_with_len server 0 16 k k d h (omega arith)

server_count : (seed : ℕ) → length (network_of seed).servers ≡ 16
unfolding network_of
server_count seed = length-map-range_with_len server 0 16

few_queues : (k : ℕ) → HasFewQueues (discipline_of k)
few_queues k = by_value (k % 3 == 0) (k % 3 == 1)
  where
    quanta : All IsLength (12000 ∷ 12000 ∷ [])
    quanta zero d l = (omega arith, omega arith)
    quanta (suc zero) d l = (omega arith, omega arith)
    quanta (suc (suc j)) d l = absurd (omega (arith, l))

    by_value : (a b : Bool) → HasFewQueues (if a then Fifo else (if b then Priority 2 else Drr (12000 ∷ 12000 ∷ [])))
    by_value true b = tt
    by_value false true = (omega arith, omega arith)
    by_value false false = ((omega arith, omega arith), quanta)

server_is : (k : ℕ) → k < 16 → IsServer (server k)
server_is k h = record {
  name = name_of 115 k refl (omega (arith, h));
  rate = nat_lt 0 100 (omega arith);
  kind = (nat_nonneg 10, refl);
  service = kinds_may_stand.rate_latency (whole 100) (whole 10) (nat_nonneg 100) (nat_nonneg 10);
  link = le_refl zero_q;
  queues = few_queues k;
}

-- ---- flows
pub flow_at : (seed i : ℕ) (d : Option NetFlow) → i < 24
    → get_or (network_of seed).flows i d ≡ Some (flow_of (drawn_flow seed i))
unfolding network_of
flow_at seed i d h =
    let long : i < length (drawn_flows seed) = subst (λ n. i < n) (sym (many seed)) h in
    get_or-map (λ f. Some (flow_of f)) (drawn_flows seed) i (drawn_flow seed i) d long
    ∙ ap (λ f. Some (flow_of f)) (drawn_at seed i (drawn_flow seed i) h)

pub flow_count : (seed : ℕ) → length (network_of seed).flows ≡ 24
unfolding network_of
flow_count seed = length-map (drawn_flows seed) (λ f. Some (flow_of f)) ∙ many seed

-- its queue at a server, where packets that long may stand
queue_is : (bits queue k : ℕ) → bits ≤ 12000 → queue < 2
    → (queue_at queue k < queue_count (discipline_of k)) × IsInQuantum (discipline_of k) (queue_at queue k) bits
queue_is bits queue k h q = by_value (k % 3 == 0) (k % 3 == 1)
  where
    most : ℕ
    most = 12000

    quantum : (n : ℕ) → n < 2 → get_or (12000 ∷ 12000 ∷ []) n 0 ≡ most
    quantum zero l = refl
    quantum (suc zero) l = refl
    quantum (suc (suc n)) l = absurd (omega (arith, l))

    by_value : (a b : Bool)
        → ((if a then 0 else queue)
        < queue_count (if a then Fifo else (if b then Priority 2 else Drr (12000 ∷ 12000 ∷ []))))
        × IsInQuantum (if a then Fifo else (if b then Priority 2 else Drr (12000 ∷ 12000 ∷ [])))
        (if a then 0 else queue) bits
    by_value true b = (omega arith, tt)
    by_value false true = (q, tt)
    by_value false false = (q, let e = quantum queue q in subst (λ n. bits ≤ n) (sym e) h)

flow_is : (seed : ℕ) (f : DrawnFlow) → IsDrawn f → IsFlow (network_of seed).servers (flow_of f)
flow_is seed f own = record {
  name = name_of 102 f.number refl own.number;
  packet = (let h = (bits_within f own).0 in omega arith, let h = (bits_within f own).1 in omega arith);
  some = let h = own.some_hops in omega (arith, count);
  few = let h = own.few_hops in omega (arith, count);
  paired = length-map (path_of f) (queue_at f.queue);
  hops = hop;
  once = once;
  arrival = kinds_may_stand.stair (whole f.packet) (whole f.period) zero_q (nat_nonneg f.packet)
      (nat_lt 0 f.period (some_period f own)) (le_refl zero_q);
}
  where
    count : length (path_of f) ≡ f.hops
    count = length-range_with_len f.first f.hops

    once : AllPairs (λ s t. s ≢ t) (path_of f)
    once i j d b l =
        let h : j < f.hops = subst (λ n. j < n) count l in
        let here = get_or-range_with_len f.first f.hops i d (omega (arith, b, h)) in
        let there = get_or-range_with_len f.first f.hops j d h in
        λ same. (omega (arith, b, here, there, same))

    hop : (k : ℕ) → k < length (path_of f)
        → IsHop (network_of seed).servers (get_or (path_of f) k 0) (get_or (map (queue_at f.queue) (path_of f)) k 0) f.packet
    hop k l =
        let h : k < f.hops = subst (λ n. k < n) count l in
        let s = get_or (path_of f) k 0 in
        let place = get_or-range_with_len f.first f.hops k 0 h in
        let range = own.servers in
        let below : s < 16 = omega (arith, place, range, h) in
        let long : s < length (network_of seed).servers =
        subst (λ n. s < n) (sym (server_count seed)) below in
        let queue : get_or (map (queue_at f.queue) (path_of f)) k 0 ≡ queue_at f.queue s =
        get_or-map (queue_at f.queue) (path_of f) k 0 0 l in
        let own_queue = queue_is f.packet f.queue s (bits_within f own).1 own.queue in
        record {
          server = server s;
          is = slice_get-get_or (network_of seed).servers s (server 0) long ∙ ap Some (server_at seed s (server 0) below);
          has_queue = subst (λ q. q < queue_count (discipline_of s)) (sym queue) own_queue.0;
          takes = subst (λ q. IsInQuantum (discipline_of s) q f.packet) (sym queue) own_queue.1;
        }

-- ---- the network
own_servers : (seed : ℕ) → AllPairs (λ s t. s.name ≢ t.name) (network_of seed).servers
own_servers seed i j d b l =
    let h : j < 16 = subst (λ n. j < n) (server_count seed) l in
    rw (server_at seed i d (omega (arith, b, h)), server_at seed j d h) (differ 115 i j b (omega (arith, h)))

own_flows : (seed : ℕ) → AllPairs DifferInName (network_of seed).flows
own_flows seed i j d b l =
    let h : j < 24 = subst (λ n. j < n) (flow_count seed) l in
    rw (flow_at seed i d (omega (arith, b, h)), flow_at seed j d h) (differ 102 i j b h)

each_server : (seed : ℕ) (s : NetServer) → Contains (network_of seed).servers s → IsServer s
each_server seed s c =
    let h : c.0 < 16 = subst (λ n. c.0 < n) (server_count seed) c.1 in
    subst IsServer (sym (server_at seed c.0 s h) ∙ c.2) (server_is c.0 h)

-- the number of a live flow's place
pub record IsPlaceOf (seed : ℕ) (f : NetFlow) : Type 0 where
  pub number : ℕ
  pub one : number < 24
  pub is : flow_of (drawn_flow seed number) ≡ f

pub place_of : (seed : ℕ) (f : NetFlow) → Contains (network_of seed).flows (Some f) → IsPlaceOf seed f
place_of seed f c =
    let h : c.0 < 24 = subst (λ n. c.0 < n) (flow_count seed) c.1 in
    record {
      number = c.0;
      one = h;
      is = same_Some (flow_of (drawn_flow seed c.0)) f (sym (flow_at seed c.0 (Some f) h) ∙ c.2);
    }

each_flow : (seed : ℕ) (f : NetFlow) → Contains (network_of seed).flows (Some f) → IsFlow (network_of seed).servers f
each_flow seed f c =
    let p = place_of seed f c in
    subst (λ g. IsFlow (network_of seed).servers g) p.is
    (flow_is seed (drawn_flow seed p.number) (flow_is_drawn seed p.number p.one))

pub accepted : (seed : ℕ) → IsAccepted (network_of seed)
unfolding network_of
accepted seed = record {
  version = (omega arith, omega arith);
  few_servers = let n = server_count seed in omega (arith, n);
  few_flows = let n = flow_count seed in omega (arith, n);
  names = (own_servers seed, own_flows seed);
  servers = each_server seed;
  flows = each_flow seed;
}

-- ---- as it is made
pub made_network : (seed : ℕ) (servers : List Server) (flows : List (Option Flow)) (drawn : List DrawnFlow)
    → servers_of servers ≡ map server (range_with_len 0 16) → flows_of flows ≡ map (λ f. Some (flow_of f)) drawn
    → drawn ≡ drawn_flows seed → net_of 1 servers flows ≡ network_of seed
unfolding network_of
made_network seed servers flows drawn s f e =
    ap (λ (x : List NetServer). record { version = 1; servers = x; flows = flows_of flows }) s
    ∙ ap (λ (y : List (Option NetFlow)). record { version = 1; servers = map server (range_with_len 0 16); flows = y })
    (f ∙ ap (map (λ (g : DrawnFlow). Some (flow_of g))) e)

-- ---- no walk comes back
-- each step goes to the next server
forward : (seed a b : ℕ) → IsNext (network_of seed) a b → a < b
forward seed a b n =
    let p = place_of seed n.flow n.live in
    let f = drawn_flow seed p.number in
    let s : IsStep (path_of f) a b = subst (λ g. IsStep g.path a b) (sym p.is) n.step in
    let count = length-range_with_len f.first f.hops in
    let on : suc s.hop < f.hops = subst (λ n. suc s.hop < n) count s.on_path in
    let from = get_or-range_with_len f.first f.hops s.hop 0 (omega (arith, on)) in
    let to = get_or-range_with_len f.first f.hops (suc s.hop) 0 on in
    let x = s.from in
    let y = s.to in
    omega (arith, from, to, x, y)

up : (seed x : ℕ) (ys : List ℕ) (z : ℕ) → Chain (IsNext (network_of seed)) (x ∷ (ys ++ z ∷ [])) → x < z
up seed x [] z c = forward seed x z c.0
up seed x (y ∷ ys) z c =
    let h = forward seed x y c.0 in
    let k = up seed y ys z c.1 in
    omega (arith, h, k)

feed_forward : (seed : ℕ) → IsFeedForward (network_of seed)
feed_forward seed walk c =
    let steps = subst (λ w. Chain (IsNext (network_of seed)) w) c.is c.steps in
    let h = up seed c.start c.between c.start steps in
    omega (arith, h)

-- ---- the trace
live : (seed : ℕ) (p : TracePacket) → Contains (trace_of seed).packets p → IsLive (network_of seed) p.flow
live seed p h =
    let s = (hold_what_is_sent seed).only p h in
    let f = flow_of (drawn_flow seed s.flow) in
    let long : s.flow < length (network_of seed).flows = subst (λ n. s.flow < n) (sym (flow_count seed)) s.one in
    subst (λ (q : TracePacket). IsLive (network_of seed) q.flow) (sym s.is)
    (f, slice_get-get_or (network_of seed).flows s.flow None long ∙ ap Some (flow_at seed s.flow None s.one))

pub workloads_stand : WorkloadsStand
unfolding trace_of
workloads_stand seed = record {
  accepted = accepted seed;
  feed_forward = feed_forward seed;
  keeps = keeps seed;
  named = record {
    flows = all_of (λ (p : TracePacket). IsLive (network_of seed) p.flow) (trace_of seed).packets (live seed);
    servers = λ k d l. absurd (omega (arith, l));
  };
}
