-- No packet takes longer along a walk than its service and its hops' delays promise.
use Rattle.std.specs.Prelude.{◌≡◌, ◌<◌, ℕ, pos, ◌==◌, List, [], ◌∷◌, ◌++◌, length, All, ◌≤◌}
use Rattle.std.proofs.Common.{arith, sym, ap, ◌∙◌, refl, inl, inr, subst}
use Rattle.std.proofs.lemmas.Bool.{eqb-true, eq-eqb}
use Rattle.rational.specs.Rational.{ℚ, int, ◌+ℚ◌, ◌-ℚ◌, ◌≤ℚ◌, ◌<ℚ◌}
use Rattle.rational.specs.Extended.{Ext, ◌≤ₑ◌, ◌+ₑ◌}
use Rattle.rational.specs.declared.Extended.TheVariants.{Fin, Inf}
use Rattle.rational.proofs.Laws.{le_refl, le_trans, le_or_lt}
use Rattle.rational.proofs.ExtendedOrder.{le_ext_trans}
use Rattle.rational.proofs.Linear.{with2, with3, with4, with6, with7}
use Rattle.min_plus.specs.Functions.{IsRising}
use Rattle.min_plus.specs.Deviations.{IsHorizontalDeviation}
use Rattle.run_laws.specs.declared.steps.Step.{Step}
use Rattle.run_laws.specs.declared.steps.Step.TheVariants.{Enter, Reach, Work, Leave, Visit}
use Rattle.run_laws.specs.Runs.{SpecRun}
use Rattle.run_laws.specs.Cards.{of_flow, ServerStep, Arrives}
use Rattle.run_laws.specs.Servers.{start}
use Rattle.run_laws.specs.Next.{next, after}
use Rattle.run_laws.specs.Allows.{AllAllowed}
use Rattle.run_laws.specs.Counts.{arrived, arrived_upto, arrived_in, worked, departed, departed_in}
use Rattle.run_laws.specs.Premises.{KeepsArrivals}
use Rattle.run_laws.specs.Delays.{gone_at, hop_delays, AreAtMost}
use Rattle.run_laws.specs.FlowDelays.{delivered_at}
use Rattle.run_laws.specs.Routes.{Hop, Routes, server_at, route_of, link_at, first_server, last_server}
use Rattle.run_laws.specs.Views.{Entry, card_of, view_from, view}
use Rattle.run_laws.specs.Lawful.{Due, RunState, run_start}
use Rattle.run_laws.proofs.Counts.{arrived_in_is, upto_arrived, departed_rises, departed_upto}
use Rattle.run_laws.proofs.Delay.{delay_core, gone_most, kept_most, none_above_infinity}
use Rattle.min_plus.proofs.Deviations.{Within, within_deviation, deviation_nonneg}
use Rattle.run_laws.proofs.Entries.{entry_last, one_more}
use Rattle.run_laws.proofs.OneHop.{delivered_most}
use Rattle.run_laws.proofs.Orders.{left_worked, left_upto_worked, worked_arrived}
use Rattle.run_laws.proofs.Outputs.{departed_in_is}
use Rattle.run_laws.proofs.Waiting.{allowed-append}
use Rattle.net_laws.specs.Paths.{links_between, links_along, IsServedAlong, IsWithinSplits, IsServedOver, StaysAtMost, sum_along}
use Rattle.net_laws.proofs.Fifo.{IsAt, work_before_gone, work_by_gone, work_before_came, arrives_in_run}
use Rattle.run_laws.proofs.Shifted.{delay_at}
use Rattle.run_laws.specs.Rounds.{count_of}
use Rattle.net_laws.proofs.Views.{views_lawful}
use Rattle.net_laws.specs.Multicast.{NextServers, next_run_by, AllAllowedBy, after_run_by, IsLawfulBy, delays_to_from}
use Rattle.net_laws.proofs.Arcs.{IsArc, IsWalk}
use Rattle.net_laws.proofs.Links.{arc_carries, arc_window}
use Rattle.net_laws.proofs.Walks.{links_nonneg, walk_is_served}
use Rattle.net_laws.proofs.Journeys.{Since, since_start, since_next_by, since_both, ComesBy, comes_since_by, onward_by, now_gone, gone_later}

-- a packet arrives at server s at u, in the whole run
abbrev ComesIn : Routes → NextServers → SpecRun → ℕ → ℕ → Entry → ℚ → Type 0
ComesIn net to run s p e u = ComesBy net to run.end (run_start net) run.steps s p e u

-- when it is gone from there
abbrev gone_of : Routes → SpecRun → ℕ → ℕ → RunState → List Step → ℚ
gone_of net run s p r xs = gone_at run.end p (view_from net s r.entered xs)

is_at : (net : Routes) (to : NextServers) (run : SpecRun) (i s p : ℕ) (e : Entry) (u : ℚ) → IsLawfulBy net to run → s < length net.servers → e.flow ≡ i
    → (c : ComesIn net to run s p e u) → IsAt net run i s c.card u c.front (view_from net s c.state.entered c.rest)
is_at net to run i s p e u lawful known flow c = record { lawful = views_lawful net to run s lawful known; joined = c.joined; flow = c.flow ∙ flow }

record Times (net : Routes) (run : SpecRun) (s p : ℕ) (u gone : ℚ) : Type 0 where
  after_u : u ≤ℚ gone
  in_run : gone ≤ℚ run.end

times : (net : Routes) (to : NextServers) (run : SpecRun) (s p : ℕ) (e : Entry) (u : ℚ) → IsLawfulBy net to run → s < length net.servers
    → (c : ComesIn net to run s p e u) → Times net run s p u (gone_of net run s p c.state c.rest)
times net to run s p e u lawful known c =
    let server = server_at net s in
    let back = view_from net s c.state.entered c.rest in
    let view_lawful = views_lawful net to run s lawful known in
    let all = allowed-append server run.end (start server.discipline) c.front (Arrives c.card u ∷ back) (subst (AllAllowed server run.end (start server.discipline)) c.joined view_lawful.allowed) in
    let there = next server.discipline (after server.discipline (start server.discipline) c.front) (Arrives c.card u) in
    record {
      after_u = now_gone server run.end there [] back p all.1.1 all.1.0.0.in_run;
      in_run = gone_most server run.end there back p all.1.1;
    }

-- up to then less than all that came up to it is worked there
below_at : (net : Routes) (to : NextServers) (run : SpecRun) (i s p : ℕ) (e : Entry) (u t : ℚ) → IsLawfulBy net to run → s < length net.servers → e.flow ≡ i
    → (c : ComesIn net to run s p e u) → t <ℚ gone_of net run s p c.state c.rest
    → worked (of_flow i) (view net run s) t <ℚ arrived_upto (of_flow i) (view net run s) u
below_at net to run i s p e u t lawful known flow c l =
    let at = is_at net to run i s p e u lawful known flow c in
    let back = view_from net s c.state.entered c.rest in
    elim (le_or_lt t u) [
      | inl m ↦ work_before_came net run i s c.card u t c.front back at m
      | inr m ↦ work_before_gone net run i s c.card u t c.front back at (with2 t u (λ c. omega (arith, c.le, c.lt, c.same))) (subst (λ (n : ℕ). t <ℚ gone_at run.end n back) (sym c.packet) l)
    ]

-- ---- at the next server no more has come up to it
upto_next : (net : Routes) (to : NextServers) (run : SpecRun) (i a b : ℕ) (t : ℚ) → IsLawfulBy net to run → IsArc net to i a b → a < length net.servers → t ≤ℚ run.end
    → arrived_upto (of_flow i) (view net run b) t ≤ℚ worked (of_flow i) (view net run a) (t -ℚ link_at net a)
upto_next net to run i a b t lawful link known l =
    let s = t -ℚ link_at net a in
    let before = arc_carries net to run i a b t lawful link l in
    let now = arc_window net to run i a b t t lawful link in
    let came = arrived_in_is (of_flow i) (view net run b) t t (le_refl t) in
    let left = departed_in_is (of_flow i) (view net run a) s s (le_refl s) in
    let work = left_upto_worked (server_at net a) run.end (view net run a) (of_flow i) s (views_lawful net to run a lawful known) in
    less (arrived_upto (of_flow i) (view net run b) t) (arrived (of_flow i) (view net run b) t) (arrived_in (of_flow i) (view net run b) t t) (departed_upto (of_flow i) (view net run a) s) (departed (of_flow i) (view net run a) s) (departed_in (of_flow i) (view net run a) s s) (worked (of_flow i) (view net run a) s) came before now left work
  where
    less : (all first last gone left leaving work : ℚ) → all ≡ first +ℚ last → first ≡ left → last ≤ℚ leaving → gone ≡ left +ℚ leaving → gone ≤ℚ work → all ≤ℚ work
    less all first last gone left leaving work e f h k m = with7 all first last gone left leaving work (λ c. omega (arith, c.le, c.lt, c.same))

upto_at_next : (net : Routes) (to : NextServers) (run : SpecRun) (i a b p : ℕ) (e : Entry) (u : ℚ) → IsLawfulBy net to run → IsArc net to i a b → a < length net.servers
    → e.flow ≡ i → (c : ComesIn net to run a p e u) → gone_of net run a p c.state c.rest +ℚ link_at net a ≤ℚ run.end
    → arrived_upto (of_flow i) (view net run b) (gone_of net run a p c.state c.rest +ℚ link_at net a) ≤ℚ arrived_upto (of_flow i) (view net run a) u
upto_at_next net to run i a b p e u lawful link known flow c l =
    let g = gone_of net run a p c.state c.rest in
    let D = link_at net a in
    let less = upto_next net to run i a b (g +ℚ D) lawful link known l in
    let same : (g +ℚ D) -ℚ D ≡ g = with2 g D (λ c. omega (arith, c.le, c.lt, c.same)) in
    let t = times net to run a p e u lawful known c in
    let most = work_by_gone net run i a c.card u g c.front (view_from net a c.state.entered c.rest) (is_at net to run i a p e u lawful known flow c) t.after_u
    (subst (λ (n : ℕ). g ≤ℚ gone_at run.end n (view_from net a c.state.entered c.rest)) (sym c.packet) (le_refl g)) in
    le_trans (subst (λ (x : ℚ). arrived_upto (of_flow i) (view net run b) (g +ℚ D) ≤ℚ worked (of_flow i) (view net run a) x) same less) most

-- what is worked at the last server has come to the first
work_along : (net : Routes) (to : NextServers) (run : SpecRun) (i : ℕ) (h : Hop) (hs : List Hop) (t : ℚ) → IsLawfulBy net to run
    → IsWalk net to i (h ∷ hs) → t ≤ℚ run.end
    → worked (of_flow i) (view net run (last_server (h ∷ hs))) t ≤ℚ arrived (of_flow i) (view net run h.server) t
work_along net to run i h [] t lawful walk l =
    worked_arrived (server_at net h.server) run.end (view net run h.server) (of_flow i) t (views_lawful net to run h.server lawful walk.0)
work_along net to run i h (g ∷ hs) t lawful walk l =
    let D = link_at net h.server in
    let on = walk.1 in
    let rest = work_along net to run i g hs t lawful walk.3 l in
    let moved = arc_carries net to run i h.server g.server t lawful walk.2 l in
    let sooner = departed_rises (of_flow i) (view net run h.server) (t -ℚ D) t (with2 t D (λ c. omega (arith, c.le, c.lt, c.same))) in
    let view_lawful = views_lawful net to run h.server lawful walk.0 in
    let left = left_worked (server_at net h.server) run.end (view net run h.server) (of_flow i) t view_lawful in
    let came = worked_arrived (server_at net h.server) run.end (view net run h.server) (of_flow i) t view_lawful in
    chain (worked (of_flow i) (view net run (last_server (g ∷ hs))) t) (arrived (of_flow i) (view net run g.server) t) (departed (of_flow i) (view net run h.server) (t -ℚ D)) (departed (of_flow i) (view net run h.server) t) (worked (of_flow i) (view net run h.server) t) (arrived (of_flow i) (view net run h.server) t) rest moved sooner left came
  where
    chain : (work next moved left done came : ℚ) → work ≤ℚ next → next ≡ moved → moved ≤ℚ left → left ≤ℚ done → done ≤ℚ came → work ≤ℚ came
    chain work next moved left done came h e k l m = with6 work next moved left done came (λ c. omega (arith, c.le, c.lt, c.same))

-- ---- it is delivered a link after it is gone from the last server
delivered_by : (net : Routes) (to : NextServers) (run : SpecRun) (s p : ℕ) (e : Entry) (u : ℚ) (r : RunState) (xs : List Step) → IsLawfulBy net to run
    → s < length net.servers → int (pos 0) ≤ℚ link_at net s → Since net (run_start net) run.steps r xs
    → (c : ComesIn net to run s p e u) → Since net r xs c.state c.rest
    → delivered_at net run.end s p xs ≤ℚ gone_of net run s p c.state c.rest +ℚ link_at net s
delivered_by net to run s p e u r xs lawful known on whole c since =
    let server = server_at net s in
    let d = server.discipline in
    let back = view_from net s c.state.entered c.rest in
    let one = delivered_most net run.end s p r.entered xs on in
    let view_lawful = views_lawful net to run s lawful known in
    let all = allowed-append server run.end (start d) (whole s).0 (view_from net s r.entered xs) (subst (AllAllowed server run.end (start d)) (whole s).1 view_lawful.allowed) in
    let later = gone_later server run.end (after d (start d) (whole s).0) (since s).0 back p (subst (AllAllowed server run.end (after d (start d) (whole s).0)) (since s).1 all.1) in
    let same : gone_at run.end p (view_from net s r.entered xs) ≤ℚ gone_at run.end p back = subst (λ (V : List ServerStep). gone_at run.end p V ≤ℚ gone_at run.end p back) (sym (since s).1) later in
    with4 (delivered_at net run.end s p xs) (gone_at run.end p (view_from net s r.entered xs)) (gone_at run.end p back) (link_at net s) (λ c. omega (arith, c.le, c.lt, c.same))

delivered_end : (net : Routes) (to : NextServers) (run : SpecRun) (s p : ℕ) (r : RunState) (xs : List Step) → IsLawfulBy net to run → s < length net.servers
    → int (pos 0) ≤ℚ link_at net s → Since net (run_start net) run.steps r xs
    → delivered_at net run.end s p xs ≤ℚ run.end +ℚ link_at net s
delivered_end net to run s p r xs lawful known on whole =
    let server = server_at net s in
    let d = server.discipline in
    let one = delivered_most net run.end s p r.entered xs on in
    let view_lawful = views_lawful net to run s lawful known in
    let all = allowed-append server run.end (start d) (whole s).0 (view_from net s r.entered xs) (subst (AllAllowed server run.end (start d)) (whole s).1 view_lawful.allowed) in
    let most = gone_most server run.end (after d (start d) (whole s).0) (view_from net s r.entered xs) p all.1 in
    with4 (delivered_at net run.end s p xs) (gone_at run.end p (view_from net s r.entered xs)) run.end (link_at net s) (λ c. omega (arith, c.le, c.lt, c.same))

last_known : (net : Routes) (to : NextServers) (i : ℕ) (h : Hop) (hs : List Hop) → IsWalk net to i (h ∷ hs)
    → (last_server (h ∷ hs) < length net.servers) × (int (pos 0) ≤ℚ link_at net (last_server (h ∷ hs)))
last_known net to i h [] p = (p.0, p.1)
last_known net to i h (g ∷ hs) p = last_known net to i g hs p.3

first_known : (net : Routes) (to : NextServers) (i : ℕ) (h : Hop) (hs : List Hop) → IsWalk net to i (h ∷ hs) → h.server < length net.servers
first_known net to i h [] p = p.0
first_known net to i h (g ∷ hs) p = p.0

-- ---- up to a time by which it is delivered, but for the last link, less than all that came up to it is worked at the last
record Ends (net : Routes) (run : SpecRun) (i p last : ℕ) (xs : List Step) (bits : ℚ) : Type 0 where
  gone : ℚ
  in_run : gone ≤ℚ run.end
  below : (t : ℚ) → t <ℚ gone → worked (of_flow i) (view net run last) t <ℚ bits
  delivered : delivered_at net run.end last p xs ≤ℚ gone +ℚ link_at net last

-- it is past a hop within the run, and not at the next
stopped : (net : Routes) (to : NextServers) (run : SpecRun) (i p : ℕ) (e : Entry) (u bits : ℚ) (r : RunState) (xs : List Step) (h g : Hop) (hs : List Hop)
    → IsLawfulBy net to run → IsWalk net to i (h ∷ g ∷ hs) → e.flow ≡ i
    → Since net (run_start net) run.steps r xs → (c : ComesIn net to run h.server p e u)
    → arrived_upto (of_flow i) (view net run h.server) u ≤ℚ bits
    → run.end ≤ℚ gone_of net run h.server p c.state c.rest +ℚ link_at net h.server → Ends net run i p (last_server (g ∷ hs)) xs bits
stopped net to run i p e u bits r xs h g hs lawful walk flow whole c most stops =
    let last = last_known net to i g hs walk.3 in
    record {
      gone = run.end;
      in_run = le_refl run.end;
      below = λ t l.
          let D = link_at net h.server in
          let gone = gone_of net run h.server p c.state c.rest in
          let in_run : t ≤ℚ run.end = with2 t run.end (λ c. omega (arith, c.le, c.lt, c.same)) in
          let rest = work_along net to run i g hs t lawful walk.3 in_run in
          let moved = arc_carries net to run i h.server g.server t lawful walk.2 in_run in
          let left = left_worked (server_at net h.server) run.end (view net run h.server) (of_flow i) (t -ℚ D) (views_lawful net to run h.server lawful walk.0) in
          let few = below_at net to run i h.server p e u (t -ℚ D) lawful walk.0 flow c (with4 t D gone run.end (λ c. omega (arith, c.le, c.lt, c.same))) in
          chain (worked (of_flow i) (view net run (last_server (g ∷ hs))) t) (arrived (of_flow i) (view net run g.server) t) (departed (of_flow i) (view net run h.server) (t -ℚ D)) (worked (of_flow i) (view net run h.server) (t -ℚ D)) (arrived_upto (of_flow i) (view net run h.server) u) bits rest moved left few most;
      delivered = delivered_end net to run (last_server (g ∷ hs)) p r xs lawful last.0 last.1 whole;
    }
  where
    chain : (work came moved worked_there upto bits : ℚ) → work ≤ℚ came → came ≡ moved → moved ≤ℚ worked_there → worked_there <ℚ upto → upto ≤ℚ bits → work <ℚ bits
    chain work came moved worked_there upto bits h e k l m = with6 work came moved worked_there upto bits (λ c. omega (arith, c.le, c.lt, c.same))

ends : (net : Routes) (to : NextServers) (run : SpecRun) (i p : ℕ) (e : Entry) (u bits : ℚ) (r : RunState) (xs : List Step) (h : Hop) (hs : List Hop)
    → IsLawfulBy net to run → IsWalk net to i (h ∷ hs) → e.flow ≡ i
    → Since net (run_start net) run.steps r xs → (c : ComesIn net to run h.server p e u) → Since net r xs c.state c.rest
    → arrived_upto (of_flow i) (view net run h.server) u ≤ℚ bits → Ends net run i p (last_server (h ∷ hs)) xs bits
ends net to run i p e u bits r xs h [] lawful walk flow whole c since most =
    let t = times net to run h.server p e u lawful walk.0 c in
    record {
      gone = gone_of net run h.server p c.state c.rest;
      in_run = t.in_run;
      below = λ x l.
          let few = below_at net to run i h.server p e u x lawful walk.0 flow c l in
          with3 (worked (of_flow i) (view net run h.server) x) (arrived_upto (of_flow i) (view net run h.server) u) bits (λ c. omega (arith, c.le, c.lt, c.same));
      delivered = delivered_by net to run h.server p e u r xs lawful walk.0 walk.1 whole c since;
    }
ends net to run i p e u bits r xs h (g ∷ hs) lawful walk flow whole c since most =
    let goes : 1 ≤ count_of g.server (to e.flow h.server) = let once = ap (λ (j : ℕ). count_of g.server (to j h.server)) flow ∙ walk.2.next in omega arith in
    elim (onward_by net to run.end c.state c.rest h.server g.server p e c.allowed c.late c.knows goes walk.1) [
      | inl stops ↦ stopped net to run i p e u bits r xs h g hs lawful walk flow whole c most stops
      | inr on ↦
          let time = gone_of net run h.server p c.state c.rest +ℚ link_at net h.server in
          let there : ComesIn net to run g.server p e time = comes_since_by net to run.end (run_start net) run.steps c.state c.rest g.server p e time c.since on in
          let in_run = arrives_in_run net run i g.server there.card time there.front (view_from net g.server there.state.entered there.rest) (is_at net to run i g.server p e time lawful (first_known net to i g hs walk.3) flow there) in
          let less = upto_at_next net to run i h.server g.server p e u lawful walk.2 walk.0 flow c in_run in
          ends net to run i p e time bits r xs g hs lawful walk.3 flow whole there (since_both net r xs c.state c.rest on.state on.rest since on.since) (le_trans less most)
    ]

-- ---- by the hops
stay_at : (net : Routes) (to : NextServers) (run : SpecRun) (i s p : ℕ) (e : Entry) (u : ℚ) (most : Ext) → e.flow ≡ i → (c : ComesIn net to run s p e u)
    → AreAtMost most (hop_delays (of_flow i) run.end (view net run s)) → Fin (gone_of net run s p c.state c.rest -ℚ u) ≤ₑ most
stay_at net to run i s p e u most flow c h =
    let back = view_from net s c.state.entered c.rest in
    subst (λ (n : ℕ). Fin (gone_at run.end n back -ℚ u) ≤ₑ most) c.packet
    (delay_at (of_flow i) run.end c.front back c.card u most (eq-eqb c.card.flow i (c.flow ∙ flow)) (subst (λ (V : List ServerStep). AreAtMost most (hop_delays (of_flow i) run.end V)) c.joined h))

pub add_up : (delivered gone u link : ℚ) (d rest : Ext) → Fin (delivered -ℚ (gone +ℚ link)) ≤ₑ rest → Fin (gone -ℚ u) ≤ₑ d
    → Fin (delivered -ℚ u) ≤ₑ ((d +ₑ Fin link) +ₑ rest)
add_up delivered gone u link (Fin d) (Fin rest) h k = with6 delivered gone u link d rest (λ c. omega (arith, c.le, c.lt, c.same))
add_up delivered gone u link Inf rest h k = tt
add_up delivered gone u link (Fin d) Inf h k = tt

last_link_most : (net : Routes) (to : NextServers) (run : SpecRun) (i : ℕ) (h : Hop) (hs : List Hop) (ds : List Ext) → IsWalk net to i (h ∷ hs)
    → StaysAtMost net run i (h ∷ hs) ds → Fin (link_at net (last_server (h ∷ hs))) ≤ₑ sum_along net (h ∷ hs) ds
last_link_most net to run i h hs [] p stays = absurd stays
last_link_most net to run i h [] (d ∷ []) p stays = one d (link_at net h.server) stays.0
  where
    one : (d : Ext) (link : ℚ) → Fin (int (pos 0)) ≤ₑ d → Fin link ≤ₑ ((d +ₑ Fin link) +ₑ Fin (int (pos 0)))
    one (Fin d) link k = with2 d link (λ c. omega (arith, c.le, c.lt, c.same))
    one Inf link k = tt
last_link_most net to run i h [] (d ∷ x ∷ ds) p stays = absurd stays.2
last_link_most net to run i h (g ∷ hs) (d ∷ ds) p stays = more d (link_at net h.server) (link_at net (last_server (g ∷ hs))) (sum_along net (g ∷ hs) ds) stays.0 p.1 (last_link_most net to run i g hs ds p.3 stays.2)
  where
    more : (d : Ext) (link last : ℚ) (rest : Ext) → Fin (int (pos 0)) ≤ₑ d → int (pos 0) ≤ℚ link → Fin last ≤ₑ rest → Fin last ≤ₑ ((d +ₑ Fin link) +ₑ rest)
    more (Fin d) link last (Fin rest) k m n = with4 d link last rest (λ c. omega (arith, c.le, c.lt, c.same))
    more Inf link last rest k m n = tt
    more (Fin d) link last Inf k m n = tt

by_hops : (net : Routes) (to : NextServers) (run : SpecRun) (i p : ℕ) (e : Entry) (u : ℚ) (r : RunState) (xs : List Step) (h : Hop) (hs : List Hop) (ds : List Ext)
    → IsLawfulBy net to run → IsWalk net to i (h ∷ hs) → e.flow ≡ i
    → Since net (run_start net) run.steps r xs → (c : ComesIn net to run h.server p e u) → Since net r xs c.state c.rest
    → StaysAtMost net run i (h ∷ hs) ds
    → Fin (delivered_at net run.end (last_server (h ∷ hs)) p xs -ℚ u) ≤ₑ sum_along net (h ∷ hs) ds
by_hops net to run i p e u r xs h hs [] lawful walk flow whole c since stays = absurd stays
by_hops net to run i p e u r xs h [] (d ∷ x ∷ ds) lawful walk flow whole c since stays = absurd stays.2
by_hops net to run i p e u r xs h [] (d ∷ []) lawful walk flow whole c since stays =
    let gone = gone_of net run h.server p c.state c.rest in
    let by = delivered_by net to run h.server p e u r xs lawful walk.0 walk.1 whole c since in
    let short = stay_at net to run i h.server p e u d flow c stays.1 in
    add_up (delivered_at net run.end h.server p xs) gone u (link_at net h.server) d (Fin (int (pos 0)))
    (with3 (delivered_at net run.end h.server p xs) gone (link_at net h.server) (λ c. omega (arith, c.le, c.lt, c.same))) short
by_hops net to run i p e u r xs h (g ∷ hs) (d ∷ ds) lawful walk flow whole c since stays =
    let D = link_at net h.server in
    let gone = gone_of net run h.server p c.state c.rest in
    let last = last_known net to i g hs walk.3 in
    let short = stay_at net to run i h.server p e u d flow c stays.1 in
    let goes : 1 ≤ count_of g.server (to e.flow h.server) = let once = ap (λ (j : ℕ). count_of g.server (to j h.server)) flow ∙ walk.2.next in omega arith in
    let after_it : Fin (delivered_at net run.end (last_server (g ∷ hs)) p xs -ℚ (gone +ℚ D)) ≤ₑ sum_along net (g ∷ hs) ds =
    elim (onward_by net to run.end c.state c.rest h.server g.server p e c.allowed c.late c.knows goes walk.1) [
      | inl stops ↦
          let by = delivered_end net to run (last_server (g ∷ hs)) p r xs lawful last.0 last.1 whole in
          le_ext_trans (Fin (delivered_at net run.end (last_server (g ∷ hs)) p xs -ℚ (gone +ℚ D))) (Fin (link_at net (last_server (g ∷ hs)))) (sum_along net (g ∷ hs) ds)
          (no_more (delivered_at net run.end (last_server (g ∷ hs)) p xs) run.end (gone +ℚ D) (link_at net (last_server (g ∷ hs))) by stops)
          (last_link_most net to run i g hs ds walk.3 stays.2)
      | inr on ↦
          by_hops net to run i p e (gone +ℚ D) r xs g hs ds lawful walk.3 flow whole
          (comes_since_by net to run.end (run_start net) run.steps c.state c.rest g.server p e (gone +ℚ D) c.since on)
          (since_both net r xs c.state c.rest on.state on.rest since on.since) stays.2
    ] in
    add_up (delivered_at net run.end (last_server (g ∷ hs)) p xs) gone u D d (sum_along net (g ∷ hs) ds) after_it short
  where
    no_more : (delivered end gone link : ℚ) → delivered ≤ℚ end +ℚ link → end ≤ℚ gone → delivered -ℚ gone ≤ℚ link
    no_more delivered end gone link h k = with4 delivered end gone link (λ c. omega (arith, c.le, c.lt, c.same))

-- ---- all packets of a flow
-- p of flow i enters at its first server at u, and r and xs are left of the run then
record Enters (net : Routes) (to : NextServers) (run : SpecRun) (i p : ℕ) (u : ℚ) (r : RunState) (xs : List Step) : Type 0 where
  entry : Entry
  flow : entry.flow ≡ i
  whole : Since net (run_start net) run.steps r xs
  comes : ComesIn net to run (first_server (route_of net i).hops) p entry u
  since : Since net r xs comes.state comes.rest

entering : (net : Routes) (to : NextServers) (run : SpecRun) (r : RunState) (i p b : ℕ) (t : ℚ) (xs : List Step)
    → AllAllowedBy net to run.end r (Enter i p t b ∷ xs) → All (λ (c : Due). run.end <ℚ c.time) (after_run_by net to r (Enter i p t b ∷ xs)).due
    → Since net (run_start net) run.steps r (Enter i p t b ∷ xs) → Enters net to run i p t (next_run_by net to r (Enter i p t b)) xs
entering net to run r i p b t xs a late whole =
    let e : Entry = record { flow = i; bits = b } in
    let s = first_server (route_of net i).hops in
    let q = next_run_by net to r (Enter i p t b) in
    let turn = a.0.known.in_turn in
    let more = one_more r.entered e in
    let last = entry_last r.entered e p turn in
    let now : ComesBy net to run.end r (Enter i p t b ∷ xs) s p e t = record {
      state = q;
      rest = xs;
      allowed = a.1;
      late = late;
      knows = record { has_entered = omega arith; is = last };
      card = card_of net (r.entered ++ e ∷ []) p s;
      packet = refl;
      flow = ap (λ (x : Entry). x.flow) last;
      front = [];
      joined = rw (eq-eqb s s refl) refl;
      since = since_next_by net to r (Enter i p t b) xs;
    } in
    record {
      entry = e;
      flow = refl;
      whole = since_both net (run_start net) run.steps r (Enter i p t b ∷ xs) q xs whole (since_next_by net to r (Enter i p t b) xs);
      comes = comes_since_by net to run.end (run_start net) run.steps r (Enter i p t b ∷ xs) s p e t whole now;
      since = since_start net q xs;
    }

abbrev EachEnters : Routes → NextServers → SpecRun → ℕ → ℕ → Ext → Type 0
EachEnters net to run i s most = (p : ℕ) (u : ℚ) (r : RunState) (xs : List Step) → Enters net to run i p u r xs
    → Fin (delivered_at net run.end s p xs -ℚ u) ≤ₑ most

each_delay : (net : Routes) (to : NextServers) (run : SpecRun) (i s : ℕ) (most : Ext) (r : RunState) (xs : List Step) → EachEnters net to run i s most
    → AllAllowedBy net to run.end r xs → All (λ (c : Due). run.end <ℚ c.time) (after_run_by net to r xs).due
    → Since net (run_start net) run.steps r xs → AreAtMost most (delays_to_from net i s run.end xs)
each_delay net to run i s most r [] f a late whole = tt
each_delay net to run i s most r (Enter g p t b ∷ xs) f a late whole =
    kept_most (g == i) (delivered_at net run.end s p xs -ℚ t) (delays_to_from net i s run.end xs) most
    (λ e.
    let enters = entering net to run r g p b t xs a late whole in
    f p t (next_run_by net to r (Enter g p t b)) xs (subst (λ (j : ℕ). Enters net to run j p t (next_run_by net to r (Enter g p t b)) xs) (eqb-true g i e) enters))
    (each_delay net to run i s most (next_run_by net to r (Enter g p t b)) xs f a.1 late (since_both net (run_start net) run.steps r (Enter g p t b ∷ xs) (next_run_by net to r (Enter g p t b)) xs whole (since_next_by net to r (Enter g p t b) xs)))
each_delay net to run i s most r (Reach k p t ∷ xs) f a late whole =
    each_delay net to run i s most (next_run_by net to r (Reach k p t)) xs f a.1 late (since_both net (run_start net) run.steps r (Reach k p t ∷ xs) (next_run_by net to r (Reach k p t)) xs whole (since_next_by net to r (Reach k p t) xs))
each_delay net to run i s most r (Work k p c d w ∷ xs) f a late whole =
    each_delay net to run i s most (next_run_by net to r (Work k p c d w)) xs f a.1 late (since_both net (run_start net) run.steps r (Work k p c d w ∷ xs) (next_run_by net to r (Work k p c d w)) xs whole (since_next_by net to r (Work k p c d w) xs))
each_delay net to run i s most r (Leave k p t ∷ xs) f a late whole =
    each_delay net to run i s most (next_run_by net to r (Leave k p t)) xs f a.1 late (since_both net (run_start net) run.steps r (Leave k p t ∷ xs) (next_run_by net to r (Leave k p t)) xs whole (since_next_by net to r (Leave k p t) xs))
each_delay net to run i s most r (Visit k q t ∷ xs) f a late whole =
    each_delay net to run i s most (next_run_by net to r (Visit k q t)) xs f a.1 late (since_both net (run_start net) run.steps r (Visit k q t ∷ xs) (next_run_by net to r (Visit k q t)) xs whole (since_next_by net to r (Visit k q t) xs))

pub delays_along : (net : Routes) (to : NextServers) (run : SpecRun) (i : ℕ) (h : Hop) (hs : List Hop) (ds : List Ext) → IsLawfulBy net to run
    → first_server (route_of net i).hops ≡ h.server → IsWalk net to i (h ∷ hs) → StaysAtMost net run i (h ∷ hs) ds
    → AreAtMost (sum_along net (h ∷ hs) ds) (delays_to_from net i (last_server (h ∷ hs)) run.end run.steps)
delays_along net to run i h hs ds lawful first walk stays =
    each_delay net to run i (last_server (h ∷ hs)) (sum_along net (h ∷ hs) ds) (run_start net) run.steps
    (λ p u r xs enters. from_first (first_server (route_of net i).hops) first p u r xs enters.entry enters.flow enters.whole enters.comes enters.since)
    lawful.allowed lawful.none_overdue (since_start net (run_start net) run.steps)
  where
    from_first : (s : ℕ) → s ≡ h.server → (p : ℕ) (u : ℚ) (r : RunState) (xs : List Step) (e : Entry) → e.flow ≡ i
        → Since net (run_start net) run.steps r xs → (c : ComesIn net to run s p e u) → Since net r xs c.state c.rest
        → Fin (delivered_at net run.end (last_server (h ∷ hs)) p xs -ℚ u) ≤ₑ sum_along net (h ∷ hs) ds
    from_first s same p u r xs e flow whole c since =
        let (d, d_since) = subst (λ (k : ℕ). (d : ComesIn net to run k p e u) × Since net r xs d.state d.rest) same (c, since) in
        by_hops net to run i p e u r xs h hs ds lawful walk flow whole d d_since stays

-- ---- by the walk's service, up to all that came up to a packet
packet_by_service : (net : Routes) (to : NextServers) (run : SpecRun) (i : ℕ) (h : Hop) (hs : List Hop) (p : ℕ) (e : Entry) (u : ℚ) (r : RunState) (xs : List Step) (α γ : ℚ → Ext) (delay : ℚ)
    → IsLawfulBy net to run → IsWalk net to i (h ∷ hs) → e.flow ≡ i → Since net (run_start net) run.steps r xs
    → (c : ComesIn net to run h.server p e u) → Since net r xs c.state c.rest
    → KeepsArrivals (of_flow i) α (view net run h.server)
    → ((t : ℚ) → t ≤ℚ run.end → (s : ℚ) × IsServedOver net run i (h ∷ hs) γ t s) → int (pos 0) ≤ℚ delay → Within α γ delay
    → delivered_at net run.end (last_server (h ∷ hs)) p xs -ℚ u ≤ℚ delay +ℚ links_along net (h ∷ hs)
packet_by_service net to run i h hs p e u r xs α γ delay lawful walk flow whole c since keeps serves on within =
    let first = h.server in
    let last = last_server (h ∷ hs) in
    let moved = links_between net (h ∷ hs) in
    let bits = arrived_upto (of_flow i) (view net run first) u in
    let done = ends net to run i p e u bits r xs h hs lawful walk flow whole c since (le_refl bits) in
    let core = delay_core (arrived (of_flow i) (view net run first)) (departed (of_flow i) (view net run last)) (worked (of_flow i) (view net run last)) α γ run.end u done.gone bits moved delay record {
      served = λ t l. let (s, o) = serves t l in (s, o.earlier, o.left, o.kept_up);
      left_worked = λ t. left_worked (server_at net last) run.end (view net run last) (of_flow i) t (views_lawful net to run last lawful (last_known net to i h hs walk).0);
      from_curve = λ s l.
          let e = arrived_in_is (of_flow i) (view net run first) s u l in
          let m : bits -ℚ arrived (of_flow i) (view net run first) s ≤ℚ arrived_in (of_flow i) (view net run first) s u =
          with3 bits (arrived (of_flow i) (view net run first) s) (arrived_in (of_flow i) (view net run first) s u) (λ c. omega (arith, c.le, c.lt, c.same)) in
          le_ext_trans (Fin (bits -ℚ arrived (of_flow i) (view net run first) s)) (Fin (arrived_in (of_flow i) (view net run first) s u)) (α (u -ℚ s)) m (keeps s u l);
      later = λ s l. upto_arrived (of_flow i) (view net run first) u s l;
      below = λ t l m. done.below t m;
      in_run = done.in_run;
      moved_on = links_nonneg net to i (h ∷ hs) walk;
      delay_on = on;
      within = within;
    } in
    sum_up (delivered_at net run.end last p xs) done.gone u delay moved (link_at net last) done.delivered core
  where
    sum_up : (delivered gone u delay moved link : ℚ) → delivered ≤ℚ gone +ℚ link → gone -ℚ u ≤ℚ delay +ℚ moved
        → delivered -ℚ u ≤ℚ delay +ℚ (moved +ℚ link)
    sum_up delivered gone u delay moved link h k = with6 delivered gone u delay moved link (λ c. omega (arith, c.le, c.lt, c.same))

pub delays_by_service : (net : Routes) (to : NextServers) (run : SpecRun) (i : ℕ) (h : Hop) (hs : List Hop) (α γ : ℚ → Ext) (delay : Ext) (curves : List (ℚ → Ext)) → IsLawfulBy net to run
    → first_server (route_of net i).hops ≡ h.server → IsWalk net to i (h ∷ hs) → KeepsArrivals (of_flow i) α (view net run h.server)
    → IsServedAlong net run i (h ∷ hs) curves → IsWithinSplits γ curves → IsRising γ → IsHorizontalDeviation α γ delay
    → AreAtMost (delay +ₑ Fin (links_along net (h ∷ hs))) (delays_to_from net i (last_server (h ∷ hs)) run.end run.steps)
delays_by_service net to run i h hs α γ Inf curves lawful first walk keeps serves within rises dev = none_above_infinity (delays_to_from net i (last_server (h ∷ hs)) run.end run.steps)
delays_by_service net to run i h hs α γ (Fin delay) curves lawful first walk keeps serves within rises dev =
    each_delay net to run i (last_server (h ∷ hs)) (Fin (delay +ℚ links_along net (h ∷ hs))) (run_start net) run.steps
    (λ p u r xs enters. from_first (first_server (route_of net i).hops) first p u r xs enters.entry enters.flow enters.whole enters.comes enters.since)
    lawful.allowed lawful.none_overdue (since_start net (run_start net) run.steps)
  where
    from_first : (s : ℕ) → s ≡ h.server → (p : ℕ) (u : ℚ) (r : RunState) (xs : List Step) (e : Entry) → e.flow ≡ i
        → Since net (run_start net) run.steps r xs → (c : ComesIn net to run s p e u) → Since net r xs c.state c.rest
        → delivered_at net run.end (last_server (h ∷ hs)) p xs -ℚ u ≤ℚ delay +ℚ links_along net (h ∷ hs)
    from_first s same p u r xs e flow whole c since =
        let (d, d_since) = subst (λ (k : ℕ). (d : ComesIn net to run k p e u) × Since net r xs d.state d.rest) same (c, since) in
        packet_by_service net to run i h hs p e u r xs α γ delay lawful walk flow whole d d_since keeps
        (walk_is_served net to run i (h ∷ hs) γ curves lawful walk serves within) (deviation_nonneg α γ delay dev) (within_deviation α γ delay rises dev)
