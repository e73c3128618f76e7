-- A simulation in which nothing has happened yet keeps the state of a run without steps.
use Rattle.std.specs.Prelude.{Some, None, ◌≡◌, ◌⊎◌, ◌↔◌, ℕ, zero, suc, pos, ◌+◌, ◌<◌, List, [], ◌∷◌, ◌++◌, length, get_or, map, slice_get, replicate}
use Rattle.std.proofs.Common.{refl, sym, ap, ◌∙◌, subst, arith, inl, inr}
use Rattle.std.proofs.lemmas.Bool.{cases_eq, eq-eqb, ne_eqb}
use Rattle.std.proofs.lemmas.List.{length-map, length_push}
use Rattle.std.proofs.lemmas.Option.{get_or_from_slice_get, slice_get-map}
use Rattle.std.specs.Option.{option_map}
use Rattle.rational.specs.Rational.{ℚ, int, ◌<ℚ◌}
use Rattle.run_laws.specs.Servers.{Fifo, Server, start}
use Rattle.run_laws.specs.Routes.{server_at}
use Rattle.run_laws.specs.Lawful.{state_at, run_start}
use Rattle.queue_sched.specs.index_links.Chains.{Chains, list_at, Has}
use Rattle.net_model.specs.declared.trace.Stall.{Stall}
use Rattle.net_model.specs.Networks.{Net, NetServer}
use Rattle.net_model.specs.Accepted.{IsAccepted}
use Rattle.net_model.specs.NetRoutes.{server_for}
use Rattle.net_model.specs.Traces.{SpecTrace, IsTrace, IsStall}
use Rattle.net_model.specs.stated_runs.Setups as setups
use Rattle.net_model.specs.stated_runs.Setups.{Setup, StallTimes, IsGateFor, IsStalled, opening_of, rate_of}
use Rattle.net_model.specs.stated_runs.FromTraces.{gate_of, stalls_at, openings_from, entering, setup_of, IsTraceOf}
use Rattle.net_model.specs.stated_runs.TimeGrids.{AreStallTimes, RunFits}
use Rattle.net_model.proofs.stated_runs.MadeSetups.{traces_make_setups}
use Rattle.sim_servers.specs.declared.opening.Opening.{Opening}
use Rattle.sim_servers.specs.declared.opening.Span.{Span}
use Rattle.sim_servers.specs.declared.station.Next.TheVariants.{Nothing}
use Rattle.sim_servers.specs.declared.station.Station.{Station}
use Rattle.sim_servers.specs.Openings.{stall_times, opening_for}
use Rattle.sim_servers.specs.Stations.{IsStation, IsOpeningOf, IsNextOf}
use Rattle.sim_servers.specs.declared.sim_states.arrival.Arrival.{Arrival}
use Rattle.sim_servers.specs.sim_states.Places.{ArePlaced}
use Rattle.sim_servers.specs.sim_states.Running.{AreRising, AreLinks}
use Rattle.sim_servers.proofs.sim_states.Places.{none_placed}
use Rattle.simulator.specs.packet_sim.Fresh.{IsFreshAt, AreFresh}
use Rattle.simulator.specs.packet_sim.Simulating.{HaveStallTimes, IsSimulating}

-- ---- the setup at a server
opening_at : (servers : List NetServer) (stalls : List Stall) (from k : ℕ) (y : NetServer) (d : setups.Opening) → slice_get servers k ≡ Some y
    → get_or (openings_from from servers stalls) k d ≡ record { gate = gate_of y.kind; stalls = stalls_at (from + k) stalls }
opening_at [] stalls from k y d e = absurd (cc)
opening_at (x ∷ xs) stalls from zero y d e =
    let g : x ≡ y = cc in
    ap (λ (z : NetServer). let o : setups.Opening = record { gate = gate_of z.kind; stalls = stalls_at from stalls } in o) g
    ∙ ap (λ j. let o : setups.Opening = record { gate = gate_of y.kind; stalls = stalls_at j stalls } in o) (let f : from ≡ from + zero = omega arith in f)
opening_at (x ∷ xs) stalls from (suc k) y d e =
    opening_at xs stalls (suc from) k y d e
    ∙ ap (λ j. let o : setups.Opening = record { gate = gate_of y.kind; stalls = stalls_at j stalls } in o) (let f : suc from + k ≡ from + suc k = omega arith in f)

opening_is : (net : Net) (trace : SpecTrace) (k : ℕ) (y : NetServer) → slice_get net.servers k ≡ Some y
    → opening_of (setup_of net trace) k ≡ record { gate = gate_of y.kind; stalls = stalls_at k trace.stalls }
opening_is net trace k y e =
    opening_at net.servers trace.stalls 0 k y record { gate = None; stalls = [] } e
    ∙ ap (λ j. let o : setups.Opening = record { gate = gate_of y.kind; stalls = stalls_at j trace.stalls } in o) (let f : 0 + k ≡ k = omega arith in f)

-- the stalls of a server take some time, as those of the trace do
stalls_forward : (s : ℕ) (stalls : List Stall) → ((k : ℕ) (d : Stall) → k < length stalls → IsStall (get_or stalls k d))
    → (k : ℕ) (d : StallTimes) → k < length (stalls_at s stalls) → (get_or (stalls_at s stalls) k d).start <ℚ (get_or (stalls_at s stalls) k d).end
stalls_forward s [] h = λ k d l. absurd (omega (arith, l))
stalls_forward s (x ∷ xs) h = elim (cases_eq x.server s) [
  | inl e ↦ rw (eq-eqb x.server s e) (first (record { start = x.start; end = x.end }) (stalls_at s xs) (h 0 x (omega arith)).forward
      (stalls_forward s xs (λ k d l. h (suc k) d (omega (arith, l)))))
  | inr n ↦ rw (ne_eqb x.server s n) (stalls_forward s xs (λ k d l. h (suc k) d (omega (arith, l))))
]
  where
    first : (y : StallTimes) (ys : List StallTimes) → y.start <ℚ y.end
        → ((k : ℕ) (d : StallTimes) → k < length ys → (get_or ys k d).start <ℚ (get_or ys k d).end)
        → (k : ℕ) (d : StallTimes) → k < length (y ∷ ys) → (get_or (y ∷ ys) k d).start <ℚ (get_or (y ∷ ys) k d).end
    first y ys a r zero d l = a
    first y ys a r (suc k) d l = r k d (omega (arith, l))

-- ---- stations
fresh_opening : (net : Net) (trace : SpecTrace) → IsAccepted net → IsTrace trace → IsTraceOf net trace → (k : ℕ) (x : Station)
    → (f : IsFreshAt net.servers trace k x) → IsOpeningOf (setup_of net trace) k x.opening
fresh_opening net trace ok fine named k x f =
    let S = setup_of net trace in
    let y = f.server in
    let o = opening_is net trace k y f.at in
    let gate : (opening_for x.opening).gate ≡ (opening_of S k).gate = f.fresh.gate ∙ ap (λ (z : setups.Opening). z.gate) (sym o) in
    record {
      order = record {
        gate = subst IsGateFor (sym gate) ((traces_make_setups net trace ok fine named).gates k);
        stalls = subst Rattle.sim_servers.specs.Openings.AreInOrder (sym f.fresh.stalls) record {
          sorted = f.sorted.in_order;
          forward = f.sorted.forward (stalls_forward k trace.stalls (λ j d l. (fine.stalls j d l)));
        };
        within = let p = f.fresh.passed in omega (arith, p);
      };
      gate = gate;
      stalled = λ t.
          subst (λ (v : List StallTimes). IsStalled (map stall_times x.opening.stalls.items) t ↔ IsStalled v t)
          (ap (λ (z : setups.Opening). z.stalls) (sym o))
          (subst (λ (v : List Span). IsStalled (map stall_times v) t ↔ IsStalled (stalls_at k trace.stalls) t) (sym f.fresh.stalls) (f.sorted.stalled t));
    }

start_at : (net : Net) (trace : SpecTrace) (k : ℕ) (y : NetServer) → slice_get net.servers k ≡ Some y
    → state_at (run_start (setup_of net trace).net) k ≡ start y.discipline
start_at net trace k y e =
    start_in net.version net.servers k y e
  where
    start_in : (version : ℕ) (servers : List NetServer) (k : ℕ) (y : NetServer) → slice_get servers k ≡ Some y
        → get_or (map (λ (s : Server). start s.discipline) (map (server_for version) servers)) k (start Fifo) ≡ start y.discipline
    start_in version [] k y e = absurd (cc)
    start_in version (x ∷ xs) zero y e = let g : x ≡ y = cc in ap (λ (z : NetServer). start z.discipline) g
    start_in version (x ∷ xs) (suc k) y e = start_in version xs k y e

vacant : (S : Setup) (s : ℕ) (y : NetServer) (o : Opening) → o.passed ≡ 0 → IsNextOf S s (start y.discipline) o Nothing
vacant S s y o p = record { idle = refl; none = refl; over = λ k d h. absurd (omega (arith, h, p)) }

fresh_station : (net : Net) (trace : SpecTrace) → IsAccepted net → IsTrace trace → IsTraceOf net trace → (k : ℕ) (x : Station)
    → IsFreshAt net.servers trace k x → IsStation (setup_of net trace) k (state_at (run_start (setup_of net trace).net) k) x
fresh_station net trace ok fine named k x f =
    let S = setup_of net trace in
    let y = f.server in
    let discipline : (server_at S.net k).discipline ≡ y.discipline =
    ap (λ (z : Server). z.discipline)
    (get_or_from_slice_get (map (server_for net.version) net.servers) k (server_for net.version y) record { discipline = Fifo; pace = None }
    (slice_get-map (server_for net.version) net.servers k ∙ ap (option_map (server_for net.version)) f.at)) in
    let rate : rate_of S k ≡ y.rate =
    get_or_from_slice_get (map (λ (z : NetServer). z.rate) net.servers) k y.rate (int (pos 1))
    (slice_get-map (λ (z : NetServer). z.rate) net.servers k ∙ ap (option_map (λ (z : NetServer). z.rate)) f.at) in
    subst (λ σ. IsStation S k σ x) (sym (start_at net trace k y f.at)) record {
      discipline = f.fresh.discipline ∙ sym discipline;
      queues = f.fresh.stands;
      opening = fresh_opening net trace ok fine named k x f;
      rate = f.fresh.rate ∙ sym rate;
      inside = f.fresh.inside;
      next = subst (λ m. IsNextOf S k (start y.discipline) x.opening m) (sym f.fresh.next) (vacant S k y x.opening f.fresh.passed);
    }

fresh_stalls : (net : Net) (trace : SpecTrace) (D : ℕ) (E : ℚ) → RunFits (setup_of net trace) D E → (stations : List Station)
    → AreFresh net.servers trace (length net.servers) stations → HaveStallTimes D E stations
fresh_stalls net trace D E fits stations h = λ k x at.
    let f = h.each k x at in
    let o = opening_is net trace k f.server f.at in
    subst (λ (v : List Span). AreStallTimes D E (map stall_times v)) (sym f.fresh.stalls)
    (f.sorted.times D E (subst (λ (z : setups.Opening). AreStallTimes D E z.stalls) o (fits.grid.stalls k)))

-- ---- links
no_list : (m l : ℕ) → get_or (replicate m (let z : List ℕ = [] in z)) l [] ≡ []
no_list zero l = refl
no_list (suc m) zero = refl
no_list (suc m) (suc l) = no_list m l

length_lists : (m : ℕ) → length (replicate m (let z : List ℕ = [] in z)) ≡ m
length_lists zero = refl
length_lists (suc m) = ap suc (length_lists m)

no_links : (S : Setup) (links : Chains) (arrivals : List Arrival) → links ≡ record { nodes = length S.packets; lists = replicate (length S.net.servers) [] }
    → length arrivals ≡ length S.packets → AreLinks S (run_start S.net) links arrivals
no_links S links arrivals is many =
    let empty : (s : ℕ) → list_at links s ≡ [] = λ s. ap (λ (v : Chains). list_at v s) is ∙ no_list (length S.net.servers) s in
    record {
      lists = ap (λ (v : Chains). length v.lists) is ∙ length_lists (length S.net.servers);
      nodes = ap (λ (v : Chains). v.nodes) is;
      long = many;
      on_way = λ s p h. absurd (subst (λ ps. Has ps p) (empty s) h);
      linked = λ d h. absurd h;
      rising = λ s. subst (AreRising arrivals) (sym (empty s)) tt;
      ahead = λ s p h. absurd (subst (λ ps. Has ps p) (empty s) h);
    }

pub same_links : (links : Chains) (m m' n n' : ℕ) → links ≡ record { nodes = n; lists = replicate m [] } → m ≡ m' → n ≡ n'
    → links ≡ record { nodes = n'; lists = replicate m' [] }
same_links links m m' n n' e a b =
    e ∙ ap (λ j. let z : Chains = record { nodes = j; lists = replicate m [] } in z) b
    ∙ ap (λ j. let z : Chains = record { nodes = n'; lists = replicate j [] } in z) a

-- ---- places

no_places : (S : Setup) → ArePlaced (run_start S.net)
no_places S = record {
  few = λ p. let h = none_placed p S.net.servers in omega (arith, h);
  none = λ p l. let h = none_placed p S.net.servers in omega (arith, h);
}

-- ---- one station more
last_or_before : {X : Type 0} (xs : List X) (x y : X) (k : ℕ) → slice_get (xs ++ x ∷ []) k ≡ Some y → (slice_get xs k ≡ Some y) ⊎ ((k ≡ length xs) × (x ≡ y))
last_or_before [] x y zero e = let g : x ≡ y = cc in inr (refl, g)
last_or_before [] x y (suc k) e = absurd (let f : None ≡ Some y = e in cc)
last_or_before (z ∷ zs) x y zero e = inl e
last_or_before (z ∷ zs) x y (suc k) e = elim (last_or_before zs x y k e) [ inl i ↦ inl i | inr i ↦ inr (ap suc i.0, i.1) ]

pub fresh_push : (servers : List NetServer) (trace : SpecTrace) (k : ℕ) (xs ys : List Station) (x : Station) → AreFresh servers trace k xs
    → IsFreshAt servers trace k x → ys ≡ xs ++ x ∷ [] → AreFresh servers trace (k + 1) ys
fresh_push servers trace k xs ys x h f e = record {
  as_many = ap length e ∙ length_push xs x ∙ ap (λ n. n + 1) h.as_many;
  each = λ j y at. elim (last_or_before xs x y j (ap (λ (v : List Station). slice_get v j) (sym e) ∙ at)) [
    | inl i ↦ h.each j y i
    | inr i ↦ subst (λ n. IsFreshAt servers trace n y) (sym (i.0 ∙ h.as_many)) (subst (λ (z : Station). IsFreshAt servers trace k z) i.1 f)
  ];
}

-- ---- the whole
pub new_runs : (net : Net) (trace : SpecTrace) (D : ℕ) (E : ℚ) → IsAccepted net → IsTrace trace → IsTraceOf net trace → RunFits (setup_of net trace) D E
    → (stations : List Station) (links : Chains) (arrivals : List Arrival) → AreFresh net.servers trace (length net.servers) stations
    → links ≡ record { nodes = length trace.packets; lists = replicate (length net.servers) [] } → length arrivals ≡ length trace.packets
    → IsSimulating (setup_of net trace) stations links arrivals 0 []
new_runs net trace D E ok fine named fits stations links arrivals fresh no_link many =
    let S = setup_of net trace in
    let packets : length S.packets ≡ length trace.packets = length-map trace.packets entering in
    let servers : length S.net.servers ≡ length net.servers = length-map net.servers (server_for net.version) in
    let few = fine.few in
    let few_servers = ok.few_servers in
    record {
      setup = traces_make_setups net trace ok fine named;
      few = omega (arith, packets, few);
      few_servers = omega (arith, servers, few_servers);
      grid = D;
      most = E;
      fits = fits;
      stalls = fresh_stalls net trace D E fits stations fresh;
      running = record {
        followed = tt;
        servers = record {
          many = fresh.as_many ∙ sym servers;
          kept = λ s x at. fresh_station net trace ok fine named s x (fresh.each s x at);
          rooms = λ s x at. (fresh.each s x at).fresh.room ∙ sym packets;
        };
        on_links = no_links S links arrivals
            (no_link ∙ ap (λ j. let z : Chains = record { nodes = j; lists = replicate (length net.servers) [] } in z) (sym packets)
            ∙ ap (λ j. let z : Chains = record { nodes = length S.packets; lists = replicate j [] } in z) (sym servers))
            (many ∙ sym packets);
        entered_is = refl;
        few = omega arith;
        entries = λ p h. absurd (omega (arith, h));
        placed = no_places S;
      };
    }
