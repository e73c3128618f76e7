-- Flows that come over one link arrive within what leaves the server before, and so within its pace; and a queue keeps the sum
-- of its parts.
use Rattle.std.specs.Prelude.{Option, Some, None, ◌≡◌, ℕ, zero, suc, ◌<◌, ◌≤◌, Bool, true, false, not, ◌&&◌, ◌==◌, List, [], ◌∷◌, ◌++◌, length, get_or, if◌then◌else◌}
use Rattle.std.proofs.Common.{arith, sym, ap, refl, inl, inr, subst}
use Rattle.std.proofs.lemmas.Bool.{cases_Bool, cases_eq, eqb-true, eq-eqb, ne_eqb, and_parts, and_from, or_left, or_right, both_ways}
use Rattle.rational.specs.Rational.{ℚ, ◌+ℚ◌, ◌-ℚ◌, ◌*ℚ◌, ◌≤ℚ◌}
use Rattle.rational.specs.Extended.{Ext}
use Rattle.rational.specs.declared.Extended.TheVariants.{Fin}
use Rattle.rational.proofs.ExtendedOrder.{min_greatest}
use Rattle.rational.proofs.Linear.{with1, with3, with4, with6}
use Rattle.min_plus.specs.Formulas.{bucket_value}
use Rattle.run_laws.specs.Runs.{SpecRun}
use Rattle.run_laws.specs.Cards.{Card, size, whole, of_flow, of_queue, ServerStep, Arrives, Works, Leaves, Visits}
use Rattle.run_laws.specs.Counts.{when, arrives, leaves, within, arrived_in, departed_in}
use Rattle.run_laws.specs.Allows.{IsLawfulView}
use Rattle.run_laws.specs.Premises.{EachArrival, KeepsArrivals}
use Rattle.run_laws.specs.RunPremises.{EnterSizes}
use Rattle.run_laws.specs.Routes.{Hop, Route, Routes, server_at, route_of, link_at, server_after}
use Rattle.run_laws.specs.Totals.{is_on, is_in}
use Rattle.run_laws.specs.Views.{view}
use Rattle.run_laws.specs.Lawful.{IsLawful, run_start}
use Rattle.run_laws.proofs.Arrivals.{arrivals_map, arrivals_all, same_arrivals, none_arrive, IsPassing, all_pass}
use Rattle.run_laws.proofs.Gone.{left_nonneg}
use Rattle.run_laws.proofs.Heads.{same_some}
use Rattle.run_laws.proofs.Sums.{when_false, each_all, total_sum, nothing}
use Rattle.run_laws.proofs.Totals.{its_flow_is_in}
use Rattle.run_laws.proofs.Views.{views_are_lawful}
use Rattle.net_laws.specs.Laws.{IsLink}
use Rattle.net_laws.specs.Paths.{IsPath}
use Rattle.net_laws.specs.Once.{IsOverPaths}
use Rattle.net_laws.specs.Sums.{sum_of_curves, with_number, IsSummed}
use Rattle.net_laws.proofs.PathRuns.{link_window}
use Rattle.net_laws.proofs.Paths.{link_of_path, rest_of_path}
use Rattle.net_laws.proofs.Sums.{sums_are_kept}
use Rattle.net_laws.specs.paces.Groups.{of_flows, IsPaced, cut_sum, server_before, part_number, is_of_part, some_below, part_curve, parts_curve, ArePaced}
use Rattle.net_laws.proofs.paces.Paces.{output_from_pace, pace_is_kept}

-- ---- the counts of flows that pass a test are those of one of them and of the others
but : ℕ → (ℕ → Bool) → ℕ → Bool
but n test i = test i && not (i == n)

one_apart : (a b t : Bool) (x : ℚ) → (b ≡ true → a ≡ true) → when (a && t) x ≡ when ((a && not b) && t) x +ℚ when (b && t) x
one_apart true false t x h = rw (when_false false x refl) (with1 (when t x) (λ c. omega (arith, c.le, c.lt, c.same)))
one_apart true true t x h = rw (when_false false x refl) (with1 (when t x) (λ c. omega (arith, c.le, c.lt, c.same)))
one_apart false true t x h = absurd (both_ways false refl (h refl))
one_apart false false t x h = rw (when_false false x refl) nothing

its_test : (test : ℕ → Bool) (n i : ℕ) → test n ≡ true → (i == n) ≡ true → test i ≡ true
its_test test n i e f = subst (λ (k : ℕ). test k ≡ true) (sym (eqb-true i n f)) e

arrives_apart : (test : ℕ → Bool) (n : ℕ) (p : ℚ → Bool) → test n ≡ true → (x : ServerStep)
    → arrives (of_flows test) p x ≡ arrives (of_flows (but n test)) p x +ℚ arrives (of_flow n) p x
unfolding but
arrives_apart test n p e (Arrives c t) = one_apart (test c.flow) (c.flow == n) (p t) (size c) (its_test test n c.flow e)
arrives_apart test n p e (Works c a b w) = nothing
arrives_apart test n p e (Leaves c t) = nothing
arrives_apart test n p e (Visits q t) = nothing

leaves_apart : (test : ℕ → Bool) (n : ℕ) (p : ℚ → Bool) → test n ≡ true → (x : ServerStep)
    → leaves (of_flows test) p x ≡ leaves (of_flows (but n test)) p x +ℚ leaves (of_flow n) p x
unfolding but
leaves_apart test n p e (Arrives c t) = nothing
leaves_apart test n p e (Works c a b w) = nothing
leaves_apart test n p e (Leaves c t) = one_apart (test c.flow) (c.flow == n) (p t) (size c) (its_test test n c.flow e)
leaves_apart test n p e (Visits q t) = nothing

but_passes : (test : ℕ → Bool) (n i : ℕ) → but n test i ≡ true → test i ≡ true
unfolding but
but_passes test n i e = (and_parts (test i) (not (i == n)) e).0

but_below : (test : ℕ → Bool) (n i : ℕ) → (test i ≡ true → i < suc n) → but n test i ≡ true → i < n
unfolding but
but_below test n i h e =
    let both = and_parts (test i) (not (i == n)) e in
    let most = h both.0 in
    elim (cases_eq i n) [
      | inl same ↦ absurd (both_ways (not (i == n)) (rw (eq-eqb i n same) refl) both.1)
      | inr differs ↦ omega arith
    ]

fewer : (test : ℕ → Bool) (n i : ℕ) → test n ≡ false → (test i ≡ true → i < suc n) → test i ≡ true → i < n
fewer test n i f h e =
    let most = h e in
    elim (cases_eq i n) [
      | inl same ↦ absurd (both_ways (test n) f (subst (λ (k : ℕ). test k ≡ true) same e))
      | inr differs ↦ omega arith
    ]

-- ---- what arrives of such flows over a link has left the server before
-- of one flow: what arrives in a window is at most what left in that window, moved back by the link
abbrev pub IsCarried : Routes → SpecRun → ℕ → ℕ → ℕ → Type 0
IsCarried net run i a b = (s t : ℚ) →
    arrived_in (of_flow i) (view net run b) s t ≤ℚ departed_in (of_flow i) (view net run a) (s -ℚ link_at net a) (t -ℚ link_at net a)

carried : (net : Routes) (run : SpecRun) (n : ℕ) (test : ℕ → Bool) (a b : ℕ) (s t : ℚ)
    → ((i : ℕ) → test i ≡ true → i < n) → ((i : ℕ) → test i ≡ true → IsCarried net run i a b)
    → arrived_in (of_flows test) (view net run b) s t ≤ℚ departed_in (of_flows test) (view net run a) (s -ℚ link_at net a) (t -ℚ link_at net a)
carried net run zero test a b s t below links =
    let none = none_arrive (of_flows test) (within s t) (view net run b) (arrivals_all (λ c. of_flows test c ≡ false) (λ c. no c) (view net run b)) in
    let some = left_nonneg (of_flows test) (within (s -ℚ link_at net a) (t -ℚ link_at net a)) (view net run a) in
    rw none some
  where
    no : (c : Card) → of_flows test c ≡ false
    no c = elim (cases_Bool (test c.flow)) [
      | inl e ↦ let k = below c.flow e in absurd (omega arith)
      | inr e ↦ e
    ]
carried net run (suc n) test a b s t below links = elim (cases_Bool (test n)) [
  | inr f ↦ carried net run n test a b s t (λ i e. fewer test n i f (below i) e) links
  | inl e ↦
      let u = s -ℚ link_at net a in
      let v = t -ℚ link_at net a in
      let rest = carried net run n (but n test) a b s t (λ i h. but_below test n i (below i) h) (λ i h. links i (but_passes test n i h)) in
      let one = links n e s t in
      let came = total_sum (arrives (of_flows test) (within s t)) (arrives (of_flows (but n test)) (within s t)) (arrives (of_flow n) (within s t)) (view net run b)
      (each_all (λ x. arrives (of_flows test) (within s t) x ≡ arrives (of_flows (but n test)) (within s t) x +ℚ arrives (of_flow n) (within s t) x) (arrives_apart test n (within s t) e) (view net run b)) in
      let left = total_sum (leaves (of_flows test) (within u v)) (leaves (of_flows (but n test)) (within u v)) (leaves (of_flow n) (within u v)) (view net run a)
      (each_all (λ x. leaves (of_flows test) (within u v) x ≡ leaves (of_flows (but n test)) (within u v) x +ℚ leaves (of_flow n) (within u v) x) (leaves_apart test n (within u v) e) (view net run a)) in
      with6 (arrived_in (of_flows test) (view net run b) s t) (arrived_in (of_flows (but n test)) (view net run b) s t) (arrived_in (of_flow n) (view net run b) s t)
      (departed_in (of_flows test) (view net run a) u v) (departed_in (of_flows (but n test)) (view net run a) u v) (departed_in (of_flow n) (view net run a) u v) (λ c. omega (arith, c.le, c.lt, c.same))
]

-- a flow of whose path something holds that does not hold of none is one of the network's
pub known_flow : (flows : List Route) (i : ℕ) (P : List Hop → Type 0) → ¬ P [] → P (get_or flows i record { live = false; hops = [] }).hops
    → i < length flows
known_flow [] i P none h = absurd (none h)
known_flow (r ∷ flows) zero P none h = omega arith
known_flow (r ∷ flows) (suc i) P none h = let k = known_flow flows i P none h in omega arith

link_flow : (net : Routes) (i a b : ℕ) → IsLink net i a b → i < length net.flows
link_flow net i a b link = known_flow net.flows i (λ hs. server_after a hs ≡ Some b) (λ e. absurd (cc)) link.next

-- by the server's view and by what each flow's link carries
pub group_cut_by : (net : Routes) (run : SpecRun) (test : ℕ → Bool) (from to bits : ℕ) (rate : ℚ)
    → IsLawfulView (server_at net from) run.end (view net run from) → IsPaced net run test from bits rate
    → ((i : ℕ) → test i ≡ true → i < length net.flows) → ((i : ℕ) → test i ≡ true → IsCarried net run i from to)
    → KeepsArrivals (of_flows test) (bucket_value (whole bits) rate) (view net run to)
group_cut_by net run test from to bits rate view_lawful paced below links s t l =
    let D = link_at net from in
    let V = view net run from in
    let order : s -ℚ D ≤ℚ t -ℚ D = with3 s t D (λ c. omega (arith, c.le, c.lt, c.same)) in
    let less = carried net run (length net.flows) test from to s t below links in
    let out = output_from_pace (server_at net from) run.end V (of_flows test) bits rate (s -ℚ D) (t -ℚ D) view_lawful paced.some
    (pace_is_kept (server_at net from) run.end V rate view_lawful paced.pace) paced.sizes order in
    let span : (t -ℚ D) -ℚ (s -ℚ D) ≡ t -ℚ s = with3 s t D (λ c. omega (arith, c.le, c.lt, c.same)) in
    let out_span = subst (λ (x : ℚ). departed_in (of_flows test) V (s -ℚ D) (t -ℚ D) ≤ℚ rate *ℚ x +ℚ whole bits) span out in
    with4 (arrived_in (of_flows test) (view net run to) s t) (departed_in (of_flows test) V (s -ℚ D) (t -ℚ D)) (rate *ℚ (t -ℚ s)) (whole bits) (λ c. omega (arith, c.le, c.lt, c.same))

pub group_is_cut : (net : Routes) (run : SpecRun) (test : ℕ → Bool) (from to bits : ℕ) (rate : ℚ) → IsLawful net run
    → IsPaced net run test from bits rate → ((i : ℕ) → test i ≡ true → IsLink net i from to)
    → KeepsArrivals (of_flows test) (bucket_value (whole bits) rate) (view net run to)
group_is_cut net run test from to bits rate lawful paced links =
    group_cut_by net run test from to bits rate (views_are_lawful net run from lawful paced.known) paced
    (λ i e. link_flow net i from to (links i e)) (λ i e s t. link_window net run i from to s t lawful (links i e))

-- the flows that pass a test keep the sum of their curves
pub flows_keep : (net : Routes) (test : ℕ → Bool) (α : ℕ → ℚ → Ext) (V : List ServerStep) → ((i : ℕ) → test i ≡ true → i < length net.flows)
    → ((i : ℕ) → test i ≡ true → KeepsArrivals (of_flow i) (α i) V) → KeepsArrivals (of_flows test) (sum_of_curves test α (length net.flows)) V
flows_keep net test α V known keeps =
    sums_are_kept (λ c. c.flow) test α (length net.flows) (of_flows test) V
    (arrivals_all (λ c. of_flows test c ≡ true → IsSummed (λ c. c.flow) test (length net.flows) c) (λ c e. record { below = known c.flow e; passes = e }) V)
    (λ k m e. keeps k e)

pub group_lesser_by : (net : Routes) (run : SpecRun) (test : ℕ → Bool) (from to bits : ℕ) (rate : ℚ) (α : ℕ → ℚ → Ext)
    → IsLawfulView (server_at net from) run.end (view net run from) → IsPaced net run test from bits rate
    → ((i : ℕ) → test i ≡ true → i < length net.flows) → ((i : ℕ) → test i ≡ true → IsCarried net run i from to)
    → ((i : ℕ) → test i ≡ true → KeepsArrivals (of_flow i) (α i) (view net run to))
    → KeepsArrivals (of_flows test) (cut_sum (length net.flows) test α bits rate) (view net run to)
group_lesser_by net run test from to bits rate α view_lawful paced below links keeps s t l =
    min_greatest (sum_of_curves test α (length net.flows) (t -ℚ s)) (bucket_value (whole bits) rate (t -ℚ s)) (Fin (arrived_in (of_flows test) (view net run to) s t))
    (flows_keep net test α (view net run to) below keeps s t l)
    (group_cut_by net run test from to bits rate view_lawful paced below links s t l)

pub group_keeps_lesser : (net : Routes) (run : SpecRun) (test : ℕ → Bool) (from to bits : ℕ) (rate : ℚ) (α : ℕ → ℚ → Ext)
    → IsLawful net run → IsPaced net run test from bits rate → ((i : ℕ) → test i ≡ true → IsLink net i from to)
    → ((i : ℕ) → test i ≡ true → KeepsArrivals (of_flow i) (α i) (view net run to))
    → KeepsArrivals (of_flows test) (cut_sum (length net.flows) test α bits rate) (view net run to)
group_keeps_lesser net run test from to bits rate α lawful paced links keeps =
    group_lesser_by net run test from to bits rate α (views_are_lawful net run from lawful paced.known) paced
    (λ i e. link_flow net i from to (links i e)) (λ i e s t. link_window net run i from to s t lawful (links i e)) keeps

-- ---- the parts of a queue
-- the hop before server s, and its own
record CameOver (hops : List Hop) (p s : ℕ) : Type 0 where
  done : List Hop
  here : Hop
  next : Hop
  rest : List Hop
  is : hops ≡ done ++ here ∷ next ∷ rest
  from : here.server ≡ p
  to : next.server ≡ s

came_over : (s p : ℕ) (hops : List Hop) → server_before s hops ≡ Some p → CameOver hops p s
came_over s p [] e = absurd (cc)
came_over s p (h ∷ []) e = absurd (cc)
came_over s p (h ∷ g ∷ hs) e = elim (cases_Bool (g.server == s)) [
  | inl f ↦ record { done = []; here = h; next = g; rest = hs; is = refl; from = same_some h.server p (rw f at e); to = eqb-true g.server s f }
  | inr f ↦ further h (g ∷ hs) (came_over s p (g ∷ hs) (rw f at e))
]
  where
    further : (h : Hop) (hops : List Hop) → CameOver hops p s → CameOver (h ∷ hops) p s
    further h hops c = record {
      done = h ∷ c.done;
      here = c.here;
      next = c.next;
      rest = c.rest;
      is = ap (λ (hs : List Hop). h ∷ hs) c.is;
      from = c.from;
      to = c.to;
    }

came_link : (net : Routes) (i p s : ℕ) → IsPath net (route_of net i).hops → server_before s (route_of net i).hops ≡ Some p → IsLink net i p s
came_link net i p s path e =
    let c = came_over s p (route_of net i).hops e in
    subst (λ (b : ℕ). IsLink net i p b) c.to (subst (λ (a : ℕ). IsLink net i a c.next.server) c.from (link_of_path net i c.done c.here c.next c.rest path c.is))

came_below : (net : Routes) (i s : ℕ) (from : Option ℕ) → IsPath net (route_of net i).hops → server_before s (route_of net i).hops ≡ from
    → part_number from < suc (length net.servers)
came_below net i s None path e = omega arith
came_below net i s (Some p) path e =
    let c = came_over s p (route_of net i).hops e in
    let known : c.here.server < length net.servers = (rest_of_path net i c.done (c.here ∷ c.next ∷ c.rest) path c.is).0 in
    let same = c.from in
    omega arith

pub came_is : (from : Option ℕ) (p : ℕ) → part_number from ≡ suc p → from ≡ Some p
came_is None p e = absurd (cc)
came_is (Some k) p e = let same : k ≡ p = cc in ap (λ (x : ℕ). Some x) same

some_passes : (test : ℕ → Bool) (n i : ℕ) → i < n → test i ≡ true → some_below test n ≡ true
some_passes test zero i l e = absurd (omega arith)
some_passes test (suc n) i l e = elim (cases_eq i n) [
  | inl same ↦ or_right (some_below test n) (test n) (subst (λ (k : ℕ). test k ≡ true) same e)
  | inr differs ↦ or_left (some_below test n) (test n) (some_passes test n i (omega arith) e)
]

-- ---- a queue is the sum of parts, by the server from which each flow comes there, if any
abbrev pub part_by : Routes → ℕ → ℕ → (ℕ → Option ℕ) → ℕ → ℕ → Bool
part_by net s q from k i = is_in net s q i && (part_number (from i) == k)

abbrev pub has_part_by : Routes → ℕ → ℕ → (ℕ → Option ℕ) → ℕ → Bool
has_part_by net s q from k = some_below (part_by net s q from k) (length net.flows)

-- the part of a packet of the queue; a number beyond them for others
number : Routes → ℕ → ℕ → (ℕ → Option ℕ) → Card → ℕ
number net s q from c = if is_in net s q c.flow then part_number (from c.flow) else suc (length net.servers)

number_in : (net : Routes) (s q : ℕ) (from : ℕ → Option ℕ) (c : Card) → is_in net s q c.flow ≡ true → number net s q from c ≡ part_number (from c.flow)
unfolding number
number_in net s q from c e = rw e refl

number_out : (net : Routes) (s q : ℕ) (from : ℕ → Option ℕ) (c : Card) → is_in net s q c.flow ≡ false → number net s q from c ≡ suc (length net.servers)
unfolding number
number_out net s q from c e = rw e refl

same_part : (net : Routes) (s q k : ℕ) (from : ℕ → Option ℕ) (c : Card) → k < suc (length net.servers) → (number net s q from c == k) ≡ part_by net s q from k c.flow
same_part net s q k from c l = elim (cases_Bool (is_in net s q c.flow)) [
  | inl e ↦ rw (number_in net s q from c e, e) refl
  | inr e ↦ rw (number_out net s q from c e, e) (ne_eqb (suc (length net.servers)) k (λ f. omega arith))
]

pub in_flow : (net : Routes) (s q i : ℕ) → is_in net s q i ≡ true → i < length net.flows
in_flow net s q i e =
    known_flow net.flows i (λ hs. is_on s q hs ≡ true) (λ f. absurd (cc)) (and_parts (route_of net i).live (is_on s q (route_of net i).hops) e).1

in_a_part : (net : Routes) (s q : ℕ) (packet : ℕ → ℕ) (from : ℕ → Option ℕ) (c : Card)
    → ((i : ℕ) → is_in net s q i ≡ true → part_number (from i) < suc (length net.servers)) → IsPassing net packet s c → of_queue q c ≡ true
    → IsSummed (number net s q from) (has_part_by net s q from) (suc (length net.servers)) c
in_a_part net s q packet from c below passing e =
    let inside = its_flow_is_in net packet s q c passing (eqb-true c.queue q e) in
    let own = from c.flow in
    let is = number_in net s q from c inside in
    let test : part_by net s q from (part_number own) c.flow ≡ true = and_from (is_in net s q c.flow) (part_number own == part_number own) inside (eq-eqb (part_number own) (part_number own) refl) in
    record {
      below = subst (λ (k : ℕ). k < suc (length net.servers)) (sym is) (below c.flow inside);
      passes = subst (λ (k : ℕ). has_part_by net s q from k ≡ true) (sym is) (some_passes (part_by net s q from (part_number own)) (length net.flows) c.flow (in_flow net s q c.flow inside) test);
    }

-- where each part keeps its curve the queue keeps their sum
pub queue_of_parts : (net : Routes) (run : SpecRun) (s q : ℕ) (packet : ℕ → ℕ) (from : ℕ → Option ℕ) (curve : ℕ → ℚ → Ext)
    → EachArrival (IsPassing net packet s) (view net run s)
    → ((i : ℕ) → is_in net s q i ≡ true → part_number (from i) < suc (length net.servers))
    → ((k : ℕ) → k < suc (length net.servers) → KeepsArrivals (of_flows (part_by net s q from k)) (curve k) (view net run s))
    → KeepsArrivals (of_queue q) (sum_of_curves (has_part_by net s q from) curve (suc (length net.servers))) (view net run s)
queue_of_parts net run s q packet from curve passing below parts =
    sums_are_kept (number net s q from) (has_part_by net s q from) curve (suc (length net.servers)) (of_queue q) (view net run s)
    (arrivals_map (IsPassing net packet s) (λ c. of_queue q c ≡ true → IsSummed (number net s q from) (has_part_by net s q from) (suc (length net.servers)) c)
    (λ c p e. in_a_part net s q packet from c below p e) (view net run s) passing)
    (λ k l e. keeps_part k l)
  where
    keeps_part : (k : ℕ) → k < suc (length net.servers) → KeepsArrivals (with_number (number net s q from) k) (curve k) (view net run s)
    keeps_part k l a b m =
        let C = with_number (number net s q from) k in
        let D = of_flows (part_by net s q from k) in
        let same = same_arrivals C D (within a b) (view net run s) (arrivals_all (λ c. C c ≡ D c) (λ c. same_part net s q k from c l) (view net run s)) in
        rw same (parts k l a b m)

record Kept (net : Routes) (run : SpecRun) (s q : ℕ) (packet longest : ℕ → ℕ) (rate : ℕ → ℚ) (α : ℕ → ℚ → Ext) : Type 0 where
  lawful : IsLawful net run
  paths : IsOverPaths net
  sizes : (i : ℕ) → (route_of net i).live ≡ true → EnterSizes i (packet i) run.steps
  paced : ArePaced net s q packet longest rate
  keeps : (i : ℕ) → is_in net s q i ≡ true → KeepsArrivals (of_flow i) (α i) (view net run s)

passing_at : (net : Routes) (run : SpecRun) (packet : ℕ → ℕ) (s : ℕ) → IsLawful net run
    → ((i : ℕ) → (route_of net i).live ≡ true → EnterSizes i (packet i) run.steps) → EachArrival (IsPassing net packet s) (view net run s)
passing_at net run packet s lawful sizes = all_pass net packet run.end (run_start net) run.steps s lawful.allowed sizes record { entries = λ p h. absurd (omega arith); dues = tt }

part_keeps : (net : Routes) (run : SpecRun) (s q k : ℕ) (packet longest : ℕ → ℕ) (rate : ℕ → ℚ) (α : ℕ → ℚ → Ext)
    → Kept net run s q packet longest rate α → k < suc (length net.servers)
    → KeepsArrivals (of_flows (is_of_part net s q k)) (part_curve net s q α longest rate k) (view net run s)
part_keeps net run s q zero packet longest rate α h l =
    let test = is_of_part net s q zero in
    let inside = λ (i : ℕ) (e : test i ≡ true). (and_parts (is_in net s q i) (part_number (server_before s (route_of net i).hops) == zero) e).0 in
    flows_keep net test α (view net run s) (λ i e. in_flow net s q i (inside i e)) (λ i e. h.keeps i (inside i e))
part_keeps net run s q (suc p) packet longest rate α h l =
    let test = is_of_part net s q (suc p) in
    let parts = λ (i : ℕ) (e : test i ≡ true). and_parts (is_in net s q i) (part_number (server_before s (route_of net i).hops) == suc p) e in
    let small = h.paced.none_longer p in
    group_keeps_lesser net run test p s (longest p) (rate p) α h.lawful
    record {
      known = omega arith;
      pace = h.paced.pace p (omega arith);
      some = h.paced.some p (omega arith);
      sizes = arrivals_map (IsPassing net packet p) (λ c. test c.flow ≡ true → c.bits ≤ longest p)
          (λ c own e. let one = own.small in let two = small c.flow e in omega arith) (view net run p) (passing_at net run packet p h.lawful h.sizes);
    }
    (λ i e.
    let is_live = (and_parts (route_of net i).live (is_on s q (route_of net i).hops) (parts i e).0).0 in
    came_link net i p s (h.paths i is_live) (came_is (server_before s (route_of net i).hops) p (eqb-true (part_number (server_before s (route_of net i).hops)) (suc p) (parts i e).1)))
    (λ i e. h.keeps i (parts i e).0)

pub parts_are_kept : (net : Routes) (run : SpecRun) (s q : ℕ) (packet longest : ℕ → ℕ) (rate : ℕ → ℚ) (α : ℕ → ℚ → Ext)
    → IsLawful net run → IsOverPaths net → ((i : ℕ) → (route_of net i).live ≡ true → EnterSizes i (packet i) run.steps)
    → ArePaced net s q packet longest rate → ((i : ℕ) → is_in net s q i ≡ true → KeepsArrivals (of_flow i) (α i) (view net run s))
    → KeepsArrivals (of_queue q) (parts_curve net s q α longest rate) (view net run s)
parts_are_kept net run s q packet longest rate α lawful paths sizes paced keeps =
    let h : Kept net run s q packet longest rate α = record { lawful = lawful; paths = paths; sizes = sizes; paced = paced; keeps = keeps } in
    queue_of_parts net run s q packet (λ i. server_before s (route_of net i).hops) (part_curve net s q α longest rate)
    (passing_at net run packet s lawful sizes)
    (λ i e. came_below net i s (server_before s (route_of net i).hops) (paths i (and_parts (route_of net i).live (is_on s q (route_of net i).hops) e).0) refl)
    (λ k l. part_keeps net run s q k packet longest rate α h l)
