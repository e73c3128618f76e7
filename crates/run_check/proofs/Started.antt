-- Before the first row of a recorded run.
use Rattle.std.proofs.Common.{◌≡◌, ℕ, zero, suc, ◌<◌, ◌≤◌, ◌+◌, List, [], ◌∷◌, ◌++◌, length, map, get_or, refl, sym, ap, ◌∙◌, subst, arith, inl, inr, ◌⊎◌, Some, None, true, false}
use Rattle.std.specs.Prelude.{Option, ◌≢◌, pos, slice_get, AllPairs, if◌then◌else◌}
use Rattle.std.proofs.lemmas.Bool.{eq-eqb, ne_eqb}
use Rattle.std.proofs.lemmas.List.{length-map, length_push}
use Rattle.std.proofs.lemmas.Option.{slice_get_within, get_or_from_slice_get}
use Rattle.rational.specs.Rational.{ℚ, int, ◌≤ℚ◌}
use Rattle.rational.proofs.Laws.{le_refl}
use Rattle.run_laws.specs.Runs.{SpecRun}
use Rattle.run_laws.specs.Servers.{Fifo, Server, start}
use Rattle.run_laws.specs.Routes.{Route, server_at, PassesServer}
use Rattle.run_laws.specs.Lawful.{run_start}
use Rattle.run_laws.proofs.Views.{start_state}
use Rattle.net_model.specs.Networks.{Net, NetServer, NetFlow}
use Rattle.net_model.specs.NetRoutes.{routes_of, route_for, pace_for, server_for, hops_along}
use Rattle.net_model.specs.Accepted.{IsAccepted}
use Rattle.net_model.specs.Traces.{SpecTrace, IsTrace}
use Rattle.net_model.specs.declared.trace.TracePacket.{TracePacket}
use Rattle.net_model.proofs.stated_runs.MadeSetups.{traces_make_setups}
use Rattle.run_check.specs.broken_laws.Recorded.{PassOnce, HasPaths, AreRecorded}
use Rattle.run_check.proofs.broken_laws.Tracking.{tracked_start}
use Rattle.run_check.specs.declared.site.Site.{Site}
use Rattle.run_check.specs.declared.walk.Walk.{Walk}
use Rattle.run_check.specs.Sites.{IsSite, IsFineUnder}
use Rattle.run_check.specs.Fresh.{IsFreshAt, AreFresh}
use Rattle.run_check.specs.Following.{HaveNumbers, Follows}

-- ---- paths of an accepted network
pub record LiveFlow (fs : List (Option NetFlow)) (i : ℕ) : Type 0 where
  pub flow : NetFlow
  pub at : slice_get fs i ≡ Some (Some flow)
  pub route : get_or (map route_for fs) i record { live = false; hops = [] } ≡ route_for (Some flow)

live_flow : (fs : List (Option NetFlow)) (i : ℕ) → (get_or (map route_for fs) i record { live = false; hops = [] }).live ≡ true → LiveFlow fs i
live_flow [] i h = absurd (let f : false ≡ true = h in cc)
live_flow (None ∷ fs) zero h = absurd (let f : false ≡ true = h in cc)
live_flow (Some g ∷ fs) zero h = record { flow = g; at = refl; route = refl }
live_flow (x ∷ fs) (suc i) h = let k = live_flow fs i h in record { flow = k.flow; at = k.at; route = k.route }

-- a server of a path has a place there
passed_at : (path queues : List ℕ) (s : ℕ) → PassesServer s (hops_along path queues) → (k : ℕ) × (k < length path) × (get_or path k 0 ≡ s)
passed_at [] queues s h = absurd h
passed_at (p ∷ path) [] s h = absurd h
passed_at (p ∷ path) (q ∷ queues) s (inl e) = (0, omega arith, e)
passed_at (p ∷ path) (q ∷ queues) s (inr h) = let k = passed_at path queues s h in let l = k.1 in (suc k.0, omega (arith, l), k.2)

pass_once : (path queues : List ℕ) → AllPairs (λ s t. s ≢ t) path → PassOnce (hops_along path queues)
pass_once [] queues h = tt
pass_once (p ∷ path) [] h = tt
pass_once (p ∷ path) (q ∷ queues) h = (
  λ passes. let k = passed_at path queues p passes in let l = k.1 in h 0 (suc k.0) 0 (omega arith) (omega (arith, l)) (sym k.2),
  pass_once path queues (λ i j d l m. h (suc i) (suc j) d (omega (arith, l)) (omega (arith, m))),
)

-- a trace of one packet
abbrev one_packet : ℕ → SpecTrace
one_packet f = record { packets = record { time = int (pos 0); flow = f; bits = 1 } ∷ []; stalls = [] }

is_trace : (f : ℕ) → IsTrace (one_packet f)
is_trace f = record { few = omega arith; packets = one; in_order = pairs; stalls = λ k d l. absurd (omega (arith, l)) }
  where
    one : (k : ℕ) (d : TracePacket) → k < length (one_packet f).packets → Rattle.net_model.specs.Traces.IsTracePacket (get_or (one_packet f).packets k d)
    one zero d l = record { from_zero = le_refl (int (pos 0)); bits = (omega arith, omega arith) }
    one (suc k) d l = absurd (omega (arith, l))

    pairs : (i j : ℕ) (d : TracePacket) → i < j → j < length (one_packet f).packets → (get_or (one_packet f).packets i d).time ≤ℚ (get_or (one_packet f).packets j d).time
    pairs i j d l m = absurd (omega (arith, l, m))

pub has_paths : (net : Net) → IsAccepted net → HasPaths (routes_of net)
has_paths net ok f live =
    let k = live_flow net.flows f live in
    let within = slice_get_within net.flows f (Some k.flow) k.at in
    let kept = ok.flows k.flow (f, within, get_or_from_slice_get net.flows f (Some k.flow) (Some k.flow) k.at) in
    let setup = traces_make_setups net (one_packet f) ok (is_trace f) record { flows = named f k.flow k.at; servers = λ j d l. absurd (omega (arith, l)) } in
    let may = setup.packets 0 (omega arith) in
    record {
      some = may.some_hop;
      hops_are = may.hops;
      once = subst (λ (r : Route). PassOnce r.hops) (sym k.route) (pass_once k.flow.path k.flow.queues kept.once);
    }
  where
    named : (f : ℕ) (g : NetFlow) → slice_get net.flows f ≡ Some (Some g) → (k : ℕ) (d : TracePacket) → k < length (one_packet f).packets
        → Rattle.net_model.specs.stated_runs.FromTraces.IsLive net (get_or (one_packet f).packets k d).flow
    named f g e zero d l = (g, e)
    named f g e (suc k) d l = absurd (omega (arith, l))

-- ---- paces
pace_in : ℕ → Option NetServer → Option ℚ
pace_in v None = None
pace_in v (Some x) = pace_for v x.rate

pace_found : (v : ℕ) (xs : List NetServer) (s : ℕ)
    → (get_or (map (server_for v) xs) s record { discipline = Fifo; pace = None }).pace ≡ pace_in v (slice_get xs s)
unfolding pace_in
pace_found v [] s = refl
pace_found v (x ∷ xs) zero = refl
pace_found v (x ∷ xs) (suc s) = pace_found v xs s

pub no_pace : (net : Net) (s : ℕ) → net.version ≢ 2 → None ≡ (server_at (routes_of net) s).pace
unfolding pace_in
no_pace net s n = sym (pace_found net.version net.servers s ∙ one (slice_get net.servers s))
  where
    one : (o : Option NetServer) → pace_in net.version o ≡ None
    one None = refl
    one (Some x) = ap (λ b. if b then Some x.rate else None) (ne_eqb net.version 2 n)

pub past_pace : (net : Net) (s : ℕ) → slice_get net.servers s ≡ None → None ≡ (server_at (routes_of net) s).pace
unfolding pace_in
past_pace net s e = sym (pace_found net.version net.servers s ∙ ap (pace_in net.version) e)

pub rate_pace : (net : Net) (s : ℕ) (x : NetServer) → net.version ≡ 2 → slice_get net.servers s ≡ Some x
    → Some x.rate ≡ (server_at (routes_of net) s).pace
unfolding pace_in
rate_pace net s x v e =
    sym (pace_found net.version net.servers s ∙ ap (pace_in net.version) e ∙ ap (λ b. if b then Some x.rate else None) (eq-eqb net.version 2 v))

-- ---- sites
pub fresh_push : (servers : List NetServer) (room n : ℕ) (sites after : List Site) (x : Site) → AreFresh servers room n sites → IsFreshAt servers room n x
    → after ≡ sites ++ x ∷ [] → AreFresh servers room (n + 1) after
fresh_push servers room n sites after x h k is = record {
  many = ap length is ∙ (let l = length_push sites x in let m = h.many in let e : length (sites ++ x ∷ []) ≡ n + 1 = omega (arith, l, m) in e);
  each = λ s y e. elim (pushed sites s x y (ap (λ xs. slice_get xs s) (sym is) ∙ e)) [
    | inl i ↦ h.each s y i
    | inr i ↦ let m = h.many in let place : s ≡ n = omega (arith, m, i.0) in subst (λ j. IsFreshAt servers room j y) (sym place) (subst (IsFreshAt servers room n) i.1 k)
  ];
}
  where
    pushed : (xs : List Site) (s : ℕ) (x y : Site) → slice_get (xs ++ x ∷ []) s ≡ Some y → (slice_get xs s ≡ Some y) ⊎ ((s ≡ length xs) × (x ≡ y))
    pushed [] zero x y e = inr (refl, cc)
    pushed [] (suc s) x y e = absurd (cc)
    pushed (z ∷ zs) zero x y e = inl e
    pushed (z ∷ zs) (suc s) x y e = elim (pushed zs s x y e) [ inl i ↦ inl i | inr i ↦ inr (ap suc i.0, i.1) ]

server_is : (v : ℕ) (xs : List NetServer) (s : ℕ) (x : NetServer) → slice_get xs s ≡ Some x
    → get_or (map (server_for v) xs) s record { discipline = Fifo; pace = None } ≡ server_for v x
server_is v [] s x e = absurd (cc)
server_is v (y ∷ ys) zero x e = let g : y ≡ x = cc in ap (server_for v) g
server_is v (y ∷ ys) (suc s) x e = server_is v ys s x e

pub follows_start : (net : Net) (run : SpecRun) (w : Walk) (room : ℕ) → IsAccepted net → AreRecorded (routes_of net) [] run.steps → length run.steps ≤ room
    → HaveNumbers (routes_of net) run → AreFresh net.servers room (length net.servers) w.sites.items → w.flows.items ≡ [] → w.bits.items ≡ [] → w.places.items ≡ []
    → Follows (routes_of net) run 0 w
follows_start net run w room ok recorded few numbers fresh flows bits places = record {
  room = room;
  grid = numbers.grid;
  most = numbers.most;
  walkable = record { paths = has_paths net ok; recorded = recorded; fit = numbers.fit; few = few };
  keeps = record {
    tracked = subst (Rattle.run_check.specs.broken_laws.Tracked.IsTracked (routes_of net) [] (run_start (routes_of net))) (sym places) (tracked_start (routes_of net));
    flows = flows;
    bits = bits;
    many = fresh.many ∙ sym (length-map net.servers (server_for net.version));
    sites = λ s x e.
        let k = fresh.each s x e in
        let within = slice_get_within net.servers s k.server k.at in
        let many : length (map (server_for net.version) net.servers) ≡ length net.servers = length-map net.servers (server_for net.version) in
        let is = server_is net.version net.servers s k.server k.at in
        let state = start_state (routes_of net) s (omega (arith, within, many)) in
        subst (λ σ. IsSite (server_at (routes_of net) s).discipline room σ x) (sym state)
        (subst (λ (y : Server). IsSite y.discipline room (start y.discipline) x) (sym is) k.site);
    fine = λ s x e. subst (IsFineUnder numbers.grid numbers.most) (sym (fresh.each s x e).idle) tt;
    sizes = λ p l. absurd (omega (arith, l));
    few = omega arith;
  };
  none = tt;
}
