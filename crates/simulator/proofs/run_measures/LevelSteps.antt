-- What is known of all packets and queues, after one step more of a lawful run.
use Rattle.std.specs.Prelude.{Some, ◌≡◌, ℕ, zero, suc, ◌+◌, ◌^◌, ◌<◌, ◌≤◌, List, [], ◌∷◌, ◌++◌, length, get_or, drop, slice_get}
use Rattle.std.proofs.Common.{arith, refl, sym, ap, ◌∙◌, subst}
use Rattle.std.proofs.lemmas.Bool.{eq-eqb}
use Rattle.std.proofs.lemmas.List.{get_or-map, length-map, map_push}
use Rattle.std.proofs.lemmas.Option.{slice_get-get_or}
use Rattle.rational.specs.Rational.{ℚ}
use Rattle.run_laws.specs.declared.steps.Step.{Step}
use Rattle.run_laws.specs.declared.steps.Step.TheVariants.{Enter, Reach, Work, Leave, Visit}
use Rattle.run_laws.specs.Runs.{SpecRun}
use Rattle.run_laws.specs.Cards.{Card, of_queue, Arrives}
use Rattle.run_laws.specs.Servers.{ServerState, queue_count}
use Rattle.run_laws.specs.Next.{next}
use Rattle.run_laws.specs.Allows.{Allows}
use Rattle.run_laws.specs.Routes.{Routes, server_at, route_of, queue_at, first_server}
use Rattle.run_laws.specs.Views.{Entry, entry_of, card_of, server_of, seen}
use Rattle.run_laws.specs.Lawful.{RunState, state_at, next_run, IsLawful}
use Rattle.run_laws.proofs.Entries.{one_more, entry_last, each_due_at, IsDueAfter}
use Rattle.run_laws.proofs.Views.{own_state}
use Rattle.simulator.specs.declared.run_measures.gauge.Gauge.{Gauge}
use Rattle.simulator.specs.declared.run_measures.levels.Levels.{Levels}
use Rattle.simulator.specs.run_measures.Gauges.{gauge_in, gauges_of, Gains, Loses, HasGauge, HasRoom, ChangesOne}
use Rattle.simulator.specs.run_measures.Gauged.{bits_of, AreFew, AreEntered, AreGauged, state_after}
use Rattle.simulator.specs.run_measures.Levels.{flow_for, bits_for, IsKnown, SamePackets, queue_for, MayGain, MayLose, Enters, GainsAt, LosesAt, Tells}
use Rattle.simulator.proofs.run_measures.Gauging.{bits_push, counted_own, held_bits}
use Rattle.simulator.proofs.run_measures.Standing.{stands_next, IsNext, is_next, queue_most, leaving_queue}
use Rattle.simulator.proofs.run_measures.GaugedSteps.{gauged_gain, gauged_loss, gauged_work, gauged_visit}

-- ---- the packets that have entered
pub known_packet : (entered : List Entry) (v : Levels) (p : ℕ) → AreEntered entered v.flows.items v.bits.items → p < length entered → IsKnown v p
known_packet entered v p h l =
    let flows : length v.flows.items ≡ length entered = ap length h.flows_are ∙ length-map entered (λ (e : Entry). e.flow) in
    let bits : length v.bits.items ≡ length entered = ap length h.bits_are ∙ length-map entered (λ (e : Entry). e.bits) in
    record { flow = omega (arith, flows, l); bits = omega (arith, bits, l) }

pub flow_is : (entered : List Entry) (v : Levels) (p : ℕ) → AreEntered entered v.flows.items v.bits.items → p < length entered
    → flow_for v p ≡ (entry_of entered p).flow
flow_is entered v p h l =
    ap (λ xs. get_or xs p 0) h.flows_are ∙ get_or-map (λ (e : Entry). e.flow) entered p record { flow = 0; bits = 0 } 0 l

pub bits_are : (entered : List Entry) (v : Levels) (p : ℕ) → AreEntered entered v.flows.items v.bits.items → p < length entered
    → bits_for v p ≡ (entry_of entered p).bits
bits_are entered v p h l =
    ap (λ xs. get_or xs p 0) h.bits_are ∙ get_or-map (λ (e : Entry). e.bits) entered p record { flow = 0; bits = 0 } 0 l

short_push : (es : List Entry) (e : Entry) → ((p : ℕ) → (entry_of es p).bits < 2 ^ 32) → e.bits < 2 ^ 32 → (p : ℕ) → (entry_of (es ++ e ∷ []) p).bits < 2 ^ 32
short_push [] e h k zero = k
short_push [] e h k (suc p) = omega arith
short_push (x ∷ xs) e h k zero = h 0
short_push (x ∷ xs) e h k (suc p) = short_push xs e (λ i. h (suc i)) k p

few_push : (entered : List Entry) (e : Entry) (p : ℕ) → AreFew entered → p ≡ length entered → p < 2 ^ 32 → e.bits < 2 ^ 32 → AreFew (entered ++ e ∷ [])
few_push entered e p h is low short =
    let more = one_more entered e in
    record { few = omega (arith, more, is, low); short = short_push entered e h.short short }

-- ---- the gauge of a queue
there : (net : Routes) (run : SpecRun) (k : ℕ) (r : RunState) (rows : List (List Gauge)) (s q : ℕ) → AreGauged net run k r rows → s < length net.servers
    → q < queue_count (server_at net s).discipline → HasGauge rows s q
there net run k r rows s q h known has =
    let many = h.as_many in
    let row = h.row s known in
    record { server = omega (arith, many, known); queue = omega (arith, row, has) }

-- a packet that arrives has room in its queue's gauge
record HasPlace (rows : List (List Gauge)) (s q bits : ℕ) : Type 0 where
  has : HasGauge rows s q
  room : HasRoom (gauge_in rows s q) bits

place_by : (n bits g left : ℕ) → g ≡ n → left < 2 ^ 32 → n + bits ≤ 18446744069414584320 → g + bits + left < 2 ^ 64
place_by n bits g left e short l = omega (arith, e, short, l)

place_of : (net : Routes) (run : SpecRun) (k : ℕ) (x : Step) (rows : List (List Gauge)) (c : Card) (τ : ℚ) → IsNext net run k x
    → seen net (state_after net run.steps k).entered x ≡ Arrives c τ → AreFew (next_run net (state_after net run.steps k) x).entered
    → AreGauged net run k (state_after net run.steps k) rows → HasPlace rows (server_of net x) c.queue c.bits
place_of net run k x rows c τ n e few h =
    let r = state_after net run.steps k in
    let s = server_of net x in
    let σ = state_at r s in
    let stands = n.stands in
    let known = stands.allowed.0.known_server in
    let many = stands.as_many in
    let a : Allows (server_at net s) run.end σ (Arrives c τ) = subst (Allows (server_at net s) run.end σ) e stands.allowed.0.at_server in
    let has_queue = a.1.known_queue in
    let inside : (state_at (next_run net r x) s).inside ≡ σ.inside ++ c ∷ [] =
    ap (λ (τ' : ServerState). τ'.inside) (own_state net r x (omega (arith, many, known)) ∙ ap (next (server_at net s).discipline σ) e) in
    let pushed : bits_of (of_queue c.queue) (σ.inside ++ c ∷ []) ≡ bits_of (of_queue c.queue) σ.inside + c.bits =
    bits_push (of_queue c.queue) σ.inside c ∙ ap (λ m. bits_of (of_queue c.queue) σ.inside + m) (counted_own (of_queue c.queue c) c.bits (eq-eqb c.queue c.queue refl)) in
    let most : bits_of (of_queue c.queue) σ.inside + c.bits ≤ 18446744069414584320 =
    subst (λ m. m ≤ 18446744069414584320) (ap (bits_of (of_queue c.queue)) inside ∙ pushed)
    (queue_most net run.end (next_run net r x) (drop (suc k) run.steps) s (of_queue c.queue) (stands_next net run.end r x (drop (suc k) run.steps) stands) few known) in
    let g = h.each s c.queue known has_queue in
    record {
      has = there net run k r rows s c.queue h known has_queue;
      room = place_by (bits_of (of_queue c.queue) σ.inside) c.bits (gauge_in rows s c.queue).present (gauge_in rows s c.queue).left g.present g.short most;
    }

-- ---- a packet enters
-- what is known of the step, and of the packet's card
record IsEntering (net : Routes) (run : SpecRun) (k f p : ℕ) (t : ℚ) (b : ℕ) (c : Card) : Type 0 where
  next_is : IsNext net run k (Enter f p t b)
  in_turn : p ≡ length (state_after net run.steps k).entered
  queue : c.queue ≡ queue_for net f (first_server (route_of net f).hops)
  bits : c.bits ≡ b

entering : (net : Routes) (run : SpecRun) (k f p : ℕ) (t : ℚ) (b : ℕ) → IsLawful net run → slice_get run.steps k ≡ Some (Enter f p t b)
    → IsEntering net run k f p t b
    (card_of net ((state_after net run.steps k).entered ++ record { flow = f; bits = b } ∷ []) p (first_server (route_of net f).hops))
entering net run k f p t b lawful at =
    let n = is_next net run k (Enter f p t b) lawful at in
    let s = first_server (route_of net f).hops in
    let in_turn = n.stands.allowed.0.known.in_turn in
    let last = entry_last (state_after net run.steps k).entered record { flow = f; bits = b } p in_turn in
    record {
      next_is = n;
      in_turn = in_turn;
      queue = ap (λ (y : Entry). queue_at s (route_of net y.flow).hops) last;
      bits = ap (λ (y : Entry). y.bits) last;
    }

pub may_enter : (net : Routes) (run : SpecRun) (k : ℕ) (f p : ℕ) (t : ℚ) (b : ℕ) (v : Levels) → IsLawful net run → slice_get run.steps k ≡ Some (Enter f p t b)
    → Tells net run k v → p < 2 ^ 32 → b < 2 ^ 32 → MayGain net v (first_server (route_of net f).hops) f b
may_enter net run k f p t b v lawful at h low short =
    let m = entering net run k f p t b lawful at in
    let r = state_after net run.steps k in
    let e : Entry = record { flow = f; bits = b } in
    let s = first_server (route_of net f).hops in
    let c = card_of net (r.entered ++ e ∷ []) p s in
    let place = place_of net run k (Enter f p t b) (gauges_of v.rows.items) c t m.next_is refl (few_push r.entered e p h.entered.are_few m.in_turn low short) h.gauged in
    let here : HasPlace (gauges_of v.rows.items) s (queue_for net f s) b =
    subst (λ i. HasPlace (gauges_of v.rows.items) s (queue_for net f s) i) m.bits (subst (λ q. HasPlace (gauges_of v.rows.items) s q c.bits) m.queue place) in
    record { has = here.has; room = here.room }

pub enter_tells : (net : Routes) (run : SpecRun) (k : ℕ) (f p : ℕ) (t : ℚ) (b : ℕ) (v w : Levels) → IsLawful net run → slice_get run.steps k ≡ Some (Enter f p t b)
    → Tells net run k v → p < 2 ^ 32 → b < 2 ^ 32 → Enters net v w f b t → Tells net run (suc k) w
enter_tells net run k f p t b v w lawful at h low short enters =
    let m = entering net run k f p t b lawful at in
    let before = gauges_of v.rows.items in
    let after = gauges_of w.rows.items in
    let n = m.next_is in
    let r = state_after net run.steps k in
    let e : Entry = record { flow = f; bits = b } in
    let s = first_server (route_of net f).hops in
    let c = card_of net (r.entered ++ e ∷ []) p s in
    let may = may_enter net run k f p t b v lawful at h low short in
    let has : HasGauge before s c.queue = subst (HasGauge before s) (sym m.queue) may.has in
    let change : ChangesOne (λ g h. Gains g h c.bits t) before after s c.queue =
    subst (λ i. ChangesOne (λ g h. Gains g h i t) before after s c.queue) (sym m.bits) (subst (ChangesOne (λ g h. Gains g h b t) before after s) (sym m.queue) enters.gains) in
    let now : AreEntered (r.entered ++ e ∷ []) w.flows.items w.bits.items = record {
      flows_are = enters.flows ∙ ap (λ xs. xs ++ f ∷ []) h.entered.flows_are ∙ sym (map_push (λ (y : Entry). y.flow) r.entered e);
      bits_are = enters.bits_are ∙ ap (λ xs. xs ++ b ∷ []) h.entered.bits_are ∙ sym (map_push (λ (y : Entry). y.bits) r.entered e);
      are_few = few_push r.entered e p h.entered.are_few m.in_turn low short;
    } in
    record {
      entered = subst (λ (r' : RunState). AreEntered r'.entered w.flows.items w.bits.items) (sym n.after) now;
      gauged = gauged_gain net run k (Enter f p t b) before after c t n refl has change h.gauged;
    }

-- ---- a packet reaches a server
reach_known : (net : Routes) (run : SpecRun) (k s p : ℕ) (t : ℚ) → IsNext net run k (Reach s p t) → p < length (state_after net run.steps k).entered
reach_known net run k s p t n =
    let r = state_after net run.steps k in
    let (i, l, e) = n.stands.allowed.0.known in
    (each_due_at (IsDueAfter net r.entered) r.due record { packet = p; server = s; time = t } i n.stands.dues l e).has_entered

-- the card of a packet, by what is known of it
queue_is : (net : Routes) (entered : List Entry) (v : Levels) (p s : ℕ) → AreEntered entered v.flows.items v.bits.items → p < length entered
    → queue_for net (flow_for v p) s ≡ (card_of net entered p s).queue
queue_is net entered v p s h l = ap (λ f. queue_at s (route_of net f).hops) (flow_is entered v p h l)

pub may_reach : (net : Routes) (run : SpecRun) (k s p : ℕ) (t : ℚ) (v : Levels) → IsLawful net run → slice_get run.steps k ≡ Some (Reach s p t)
    → Tells net run k v → IsKnown v p × MayGain net v s (flow_for v p) (bits_for v p)
may_reach net run k s p t v lawful at h =
    let n = is_next net run k (Reach s p t) lawful at in
    let r = state_after net run.steps k in
    let l = reach_known net run k s p t n in
    let c = card_of net r.entered p s in
    let rows = gauges_of v.rows.items in
    let queue = queue_is net r.entered v p s h.entered l in
    let bits = bits_are r.entered v p h.entered l in
    let place = place_of net run k (Reach s p t) rows c t n refl h.entered.are_few h.gauged in
    let here : HasPlace rows s (queue_for net (flow_for v p) s) (bits_for v p) =
    subst (HasPlace rows s (queue_for net (flow_for v p) s)) (sym bits) (subst (λ q. HasPlace rows s q c.bits) (sym queue) place) in
    (known_packet r.entered v p h.entered l, record { has = here.has; room = here.room })

-- the packets stay as they are
same_entered : (entered : List Entry) (v w : Levels) → SamePackets v w → AreEntered entered v.flows.items v.bits.items → AreEntered entered w.flows.items w.bits.items
same_entered entered v w same h = record { flows_are = same.flows ∙ h.flows_are; bits_are = same.bits ∙ h.bits_are; are_few = h.are_few }

pub reach_tells : (net : Routes) (run : SpecRun) (k s p : ℕ) (t : ℚ) (v w : Levels) → IsLawful net run → slice_get run.steps k ≡ Some (Reach s p t)
    → Tells net run k v → SamePackets v w → GainsAt net v w s (flow_for v p) (bits_for v p) t → Tells net run (suc k) w
reach_tells net run k s p t v w lawful at h same gains =
    let n = is_next net run k (Reach s p t) lawful at in
    let r = state_after net run.steps k in
    let l = reach_known net run k s p t n in
    let c = card_of net r.entered p s in
    let before = gauges_of v.rows.items in
    let after = gauges_of w.rows.items in
    let queue = queue_is net r.entered v p s h.entered l in
    let bits = bits_are r.entered v p h.entered l in
    let may = (may_reach net run k s p t v lawful at h).1 in
    let has : HasGauge before s c.queue = subst (HasGauge before s) queue may.has in
    let change : ChangesOne (λ g h. Gains g h c.bits t) before after s c.queue =
    subst (λ i. ChangesOne (λ g h. Gains g h i t) before after s c.queue) bits (subst (ChangesOne (λ g h. Gains g h (bits_for v p) t) before after s) queue gains) in
    record {
      entered = subst (λ (r' : RunState). AreEntered r'.entered w.flows.items w.bits.items) (sym n.after) (same_entered r.entered v w same h.entered);
      gauged = gauged_gain net run k (Reach s p t) before after c t n refl has change h.gauged;
    }

-- ---- a packet leaves a server
pub may_leave : (net : Routes) (run : SpecRun) (k s p : ℕ) (t : ℚ) (v : Levels) → IsLawful net run → slice_get run.steps k ≡ Some (Leave s p t)
    → Tells net run k v → IsKnown v p × MayLose net v s (flow_for v p) (bits_for v p)
may_leave net run k s p t v lawful at h =
    let n = is_next net run k (Leave s p t) lawful at in
    let r = state_after net run.steps k in
    let l = n.stands.allowed.0.known.has_entered in
    let c = card_of net r.entered p s in
    let σ = state_at r s in
    let rows = gauges_of v.rows.items in
    let queue = queue_is net r.entered v p s h.entered l in
    let bits = bits_are r.entered v p h.entered l in
    let known = n.stands.allowed.0.known_server in
    let may = n.stands.allowed.0.at_server.1 in
    let has_queue = leaving_queue net run.end r (Leave s p t ∷ drop (suc k) run.steps) s c t n.stands known may in
    let g = h.gauged.each s c.queue known has_queue in
    let present = g.present in
    let held = held_bits c.queue σ c t (n.stands.sound s known) may refl in
    let few : c.bits ≤ (gauge_in rows s c.queue).present = omega (arith, present, held) in
    let low : bits_for v p ≤ (gauge_in rows s (queue_for net (flow_for v p) s)).present =
    subst (λ q. bits_for v p ≤ (gauge_in rows s q).present) (sym queue) (subst (λ i. i ≤ (gauge_in rows s c.queue).present) (sym bits) few) in
    (known_packet r.entered v p h.entered l, record { has = subst (HasGauge rows s) (sym queue) (there net run k r rows s c.queue h.gauged known has_queue); held = low })

pub leave_tells : (net : Routes) (run : SpecRun) (k s p : ℕ) (t : ℚ) (v w : Levels) → IsLawful net run → slice_get run.steps k ≡ Some (Leave s p t)
    → Tells net run k v → SamePackets v w → LosesAt net v w s (flow_for v p) (bits_for v p) t → Tells net run (suc k) w
leave_tells net run k s p t v w lawful at h same loses =
    let n = is_next net run k (Leave s p t) lawful at in
    let r = state_after net run.steps k in
    let l = n.stands.allowed.0.known.has_entered in
    let c = card_of net r.entered p s in
    let before = gauges_of v.rows.items in
    let after = gauges_of w.rows.items in
    let queue = queue_is net r.entered v p s h.entered l in
    let bits = bits_are r.entered v p h.entered l in
    let may = (may_leave net run k s p t v lawful at h).1 in
    let has : HasGauge before s c.queue = subst (HasGauge before s) queue may.has in
    let change : ChangesOne (λ g h. Loses g h c.bits t) before after s c.queue =
    subst (λ i. ChangesOne (λ g h. Loses g h i t) before after s c.queue) bits (subst (ChangesOne (λ g h. Loses g h (bits_for v p) t) before after s) queue loses) in
    record {
      entered = subst (λ (r' : RunState). AreEntered r'.entered w.flows.items w.bits.items) (sym n.after) (same_entered r.entered v w same h.entered);
      gauged = gauged_loss net run k (Leave s p t) before after c t n refl (h.entered.are_few.short p) has change h.gauged;
    }

-- ---- other steps
pub work_tells : (net : Routes) (run : SpecRun) (k s p : ℕ) (a b w : ℚ) (v : Levels) → IsLawful net run → slice_get run.steps k ≡ Some (Work s p a b w)
    → Tells net run k v → Tells net run (suc k) v
work_tells net run k s p a b w v lawful at h =
    let n = is_next net run k (Work s p a b w) lawful at in
    record {
      entered = subst (λ (r' : RunState). AreEntered r'.entered v.flows.items v.bits.items) (sym n.after) h.entered;
      gauged = gauged_work net run k s p a b w (gauges_of v.rows.items) n h.gauged;
    }

pub visit_tells : (net : Routes) (run : SpecRun) (k s q : ℕ) (t : ℚ) (v : Levels) → IsLawful net run → slice_get run.steps k ≡ Some (Visit s q t)
    → Tells net run k v → Tells net run (suc k) v
visit_tells net run k s q t v lawful at h =
    let n = is_next net run k (Visit s q t) lawful at in
    record {
      entered = subst (λ (r' : RunState). AreEntered r'.entered v.flows.items v.bits.items) (sym n.after) h.entered;
      gauged = gauged_visit net run k s q t (gauges_of v.rows.items) n h.gauged;
    }

-- ---- for the code
-- the step at a place of a list
pub step_at : (xs ys : List Step) (k : ℕ) (y x : Step) → xs ≡ ys → k < length ys → y ≡ get_or xs k y → y ≡ x → slice_get ys k ≡ Some x
step_at xs ys k y x e l is same = slice_get-get_or ys k y l ∙ ap Some (ap (λ zs. get_or zs k y) (sym e) ∙ sym is ∙ same)

pub next_place : (net : Routes) (run : SpecRun) (k : ℕ) (v : Levels) → Tells net run (suc k) v → Tells net run (k + 1) v
next_place net run k v h = subst (λ n. Tells net run n v) (let e : suc k ≡ k + 1 = omega arith in e) h

-- a packet that enters has the next number
pub next_number : (net : Routes) (run : SpecRun) (k : ℕ) (f p : ℕ) (t : ℚ) (b : ℕ) (v : Levels) → IsLawful net run → slice_get run.steps k ≡ Some (Enter f p t b)
    → Tells net run k v → p ≡ length v.flows.items
next_number net run k f p t b v lawful at h =
    let n = is_next net run k (Enter f p t b) lawful at in
    let entered = (state_after net run.steps k).entered in
    n.stands.allowed.0.known.in_turn ∙ sym (ap length h.entered.flows_are ∙ length-map entered (λ (e : Entry). e.flow))
