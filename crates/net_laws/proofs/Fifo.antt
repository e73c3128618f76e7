-- A packet of a flow at one server: what its flow's work there comes to before it is gone, and by then.
use Rattle.std.specs.Prelude.{Option, Some, None, ◌≡◌, ℕ, pos, ◌==◌, Bool, true, false, ◌&&◌, List, [], ◌∷◌, ◌++◌}
use Rattle.std.proofs.Common.{arith, sym, ap, ◌∙◌, refl, inl, inr, subst, append_assoc}
use Rattle.std.proofs.lemmas.Bool.{cases_Bool, both_ways, eqb-true, eq-eqb, and_parts, and_from}
use Rattle.rational.specs.Rational.{ℚ, int, ◌+ℚ◌, ◌≤ℚ◌, ◌<ℚ◌}
use Rattle.rational.proofs.Over.{le_q_out, le_q_in, lt_q_in}
use Rattle.rational.proofs.Laws.{le_refl, le_trans}
use Rattle.rational.proofs.Linear.{with1, with2, with3, with5, with7}
use Rattle.run_laws.specs.declared.steps.Step.{Step}
use Rattle.run_laws.specs.declared.steps.Step.TheVariants.{Enter, Reach, Work, Leave, Visit}
use Rattle.run_laws.specs.Runs.{SpecRun}
use Rattle.run_laws.specs.Cards.{Card, size, Class, of_flow, ServerStep, Arrives, Works, Leaves, Visits, time_of}
use Rattle.run_laws.proofs.Always.{IsAlwaysOfQueue}
use Rattle.run_laws.specs.Servers.{Server, Under, start}
use Rattle.run_laws.specs.Next.{next, after}
use Rattle.run_laws.specs.Allows.{AllAllowed, IsLawfulView}
use Rattle.run_laws.specs.Counts.{total, arrives, leaves, works, before, upto, within, arrived, arrived_upto, arrived_in, worked}
use Rattle.run_laws.specs.Delays.{gone_at}
use Rattle.run_laws.specs.Routes.{Routes, server_at, route_of, queue_at, first_server}
use Rattle.run_laws.specs.Views.{Entry, card_of, entered_after, server_of, seen, view_from, view}
use Rattle.run_laws.proofs.Sums.{when_true, when_false, Each, each_map, each-append, total-append, total_same, add_nothing}
use Rattle.run_laws.proofs.Counts.{arrived_in_is, arrivals_nonneg}
use Rattle.run_laws.proofs.Heads.{sum_of}
use Rattle.run_laws.proofs.States.{IsSoundFor, IsUnderWay, sound_next, sound_after, balance_after, work_after, if_true, done_by, done_at_most, done_at}
use Rattle.run_laws.proofs.Cuts.{before_edge, IsBefore, at_time}
use Rattle.run_laws.proofs.Orders.{worked_arrived}
use Rattle.run_laws.proofs.Waiting.{of_class, bits_of, class-append, class_head, sum_class, bits_nonneg, KeepsPacket, allowed-append, all_upto, not_worked}
use Rattle.run_laws.proofs.Oldest.{departures_of, arrivals_of, queue_order}
use Rattle.run_laws.proofs.Sizes.{size_nonneg, size_pos}
use Rattle.run_laws.proofs.Lag.{Begins, begins_more}

-- ---- the packets that left before it is gone are none of its number
abbrev NoneOf : ℕ → List Card → Type 0
NoneOf n [] = Unit {0}
NoneOf n (c ∷ cs) = ((c.packet == n) ≡ false) × NoneOf n cs

none_departs : (C : Class) (n : ℕ) (V : List ServerStep) → Each (KeepsPacket n) V → NoneOf n (departures_of C V)
none_departs C n [] h = tt
none_departs C n (Arrives c t ∷ V) h = none_departs C n V h.1
none_departs C n (Works c a b w ∷ V) h = none_departs C n V h.1
none_departs C n (Leaves c t ∷ V) h = elim (cases_Bool (C c)) [
  | inl e ↦ rw e (h.0, none_departs C n V h.1)
  | inr e ↦ rw e (none_departs C n V h.1)
]
none_departs C n (Visits q t ∷ V) h = none_departs C n V h.1

kept_before : (end g : ℚ) (n : ℕ) (V W : List ServerStep) → Each (IsBefore (before g)) V → g ≤ℚ gone_at end n (V ++ W)
    → Each (KeepsPacket n) V
kept_before end g n [] W h l = tt
kept_before end g n (Arrives c t ∷ V) W h l = (tt, kept_before end g n V W h.1 l)
kept_before end g n (Works c a b w ∷ V) W h l = (tt, kept_before end g n V W h.1 l)
kept_before end g n (Visits q t ∷ V) W h l = (tt, kept_before end g n V W h.1 l)
kept_before end g n (Leaves c t ∷ V) W h l = elim (cases_Bool (c.packet == n)) [
  | inl e ↦
      let m : g ≤ℚ t = rw e at l in
      let k = lt_q_in t g h.0 in
      absurd (with2 t g (λ c. omega (arith, c.le, c.lt, c.same)))
  | inr e ↦ (e, kept_before end g n V W h.1 (rw e at l))
]

left_bits : (C : Class) (p : ℚ → Bool) (V : List ServerStep) → Each (IsBefore p) V
    → total (leaves C p) V ≡ bits_of (departures_of C V)
left_bits C p [] h = refl
left_bits C p (Arrives c t ∷ V) h = add_nothing (total (leaves C p) V) ∙ left_bits C p V h.1
left_bits C p (Works c a b w ∷ V) h = add_nothing (total (leaves C p) V) ∙ left_bits C p V h.1
left_bits C p (Visits q t ∷ V) h = add_nothing (total (leaves C p) V) ∙ left_bits C p V h.1
left_bits C p (Leaves c t ∷ V) h = elim (cases_Bool (C c)) [
  | inl e ↦ rw (if_true (C c) (p t) (size c) h.0, e, when_true true (size c) refl) (ap (λ (x : ℚ). size c +ℚ x) (left_bits C p V h.1))
  | inr e ↦ rw (if_true (C c) (p t) (size c) h.0, e, when_false false (size c) refl) (add_nothing (total (leaves C p) V) ∙ left_bits C p V h.1)
]

-- so they are among those that were there before it, and it waits behind the others of these
behind : (gone inside there rest : List Card) (p : Card) → gone ++ inside ≡ there ++ p ∷ rest → NoneOf p.packet gone
    → Begins gone inside there rest p
behind [] inside there rest p h k = record { ahead = there; is = h; bits = with1 (bits_of there) (λ c. omega (arith, c.le, c.lt, c.same)) }
behind (c ∷ gone) inside [] rest p h k =
    let same : c ≡ p = cc in
    absurd (both_ways (c.packet == p.packet) k.0 (eq-eqb c.packet p.packet (ap (λ (x : Card). x.packet) same)))
behind (c ∷ gone) inside (d ∷ there) rest p h k =
    let same : c ≡ d = cc in
    let tail : gone ++ inside ≡ there ++ p ∷ rest = cc in
    begins_more c d gone inside there rest p (ap size same) (behind gone inside there rest p tail k.1)

-- ---- the work on the one under way is of those ahead, or of it
first_within : (cards : List Card) (busy : ℚ) (u : Under) (p : Card) (t : ℚ) (ahead rest tail : List Card) → IsUnderWay cards busy u
    → u.card ∷ tail ≡ ahead ++ p ∷ rest → done_at t u ≤ℚ bits_of ahead +ℚ size p
first_within cards busy u p t [] rest tail h e =
    let same : u.card ≡ p = cc in
    let equal : size u.card ≡ size p = ap size same in
    let most = done_at_most cards busy u t h in
    with3 (done_at t u) (size u.card) (size p) (λ c. omega (arith, c.le, c.lt, c.same))
first_within cards busy u p t (z ∷ ahead) rest tail h e =
    let same : u.card ≡ z = cc in
    let equal : size u.card ≡ size z = ap size same in
    let most = done_at_most cards busy u t h in
    let some = size_nonneg p in
    let others = bits_nonneg ahead in
    with5 (done_at t u) (size u.card) (size z) (size p) (bits_of ahead) (λ c. omega (arith, c.le, c.lt, c.same))

done_within : (cards : List Card) (busy : ℚ) (under : Option Under) (C : Class) (q : ℕ) (p : Card) (t : ℚ) (ahead rest : List Card)
    → IsSoundFor cards busy under → IsAlwaysOfQueue C q → of_class C cards ≡ ahead ++ p ∷ rest → done_by C t under ≤ℚ bits_of ahead +ℚ size p
done_within cards busy None C q p t ahead rest h g is =
    let some = size_nonneg p in
    let others = bits_nonneg ahead in
    with2 (size p) (bits_of ahead) (λ c. omega (arith, c.le, c.lt, c.same))
done_within cards busy (Some u) C q p t ahead rest h g is = elim (cases_Bool (C u.card)) [
  | inr e ↦
      let some = size_nonneg p in
      let others = bits_nonneg ahead in
      rw (when_false (C u.card) (done_at t u) e) (with2 (size p) (bits_of ahead) (λ c. omega (arith, c.le, c.lt, c.same)))
  | inl e ↦
      let own = subst (λ (r : ℕ). IsAlwaysOfQueue C r) (sym (g u.card e)) g in
      let first = class_head C u.card.queue u.card cards own h.is_head e in
      rw (when_true (C u.card) (done_at t u) e) (first_within cards busy u p t ahead rest _ h (sym first ∙ is))
]

-- ---- by the time it is gone, the work on its class comes to no more than what arrived up to it
work_most : (work first_work later_work first_done later_done first_left later_left left here came ahead still_ahead own gone : ℚ)
    → work ≡ first_work +ℚ (int (pos 0) +ℚ later_work) → first_done +ℚ first_left ≡ int (pos 0) +ℚ first_work
    → later_done +ℚ later_left ≡ first_done +ℚ later_work → later_left ≡ left → here +ℚ first_left ≡ int (pos 0) +ℚ came
    → here ≡ ahead → left ≡ gone → ahead ≡ gone +ℚ still_ahead → later_done ≤ℚ still_ahead +ℚ own → work ≤ℚ came +ℚ own
work_most work first_work later_work first_done later_done first_left later_left left here came ahead still_ahead own gone e1 e2 e3 e4 e5 e6 e7 e8 h =
    let works : work ≡ first_left +ℚ later_done +ℚ later_left =
    with7 work first_work later_work first_done later_done first_left later_left (λ c. omega (arith, c.le, c.lt, c.same)) in
    let same_left : later_left ≡ gone = e4 ∙ e7 in
    let comes : came ≡ first_left +ℚ still_ahead +ℚ gone =
    with7 here first_left came ahead still_ahead gone own (λ c. omega (arith, c.le, c.lt, c.same)) in
    let comes_later : came ≡ first_left +ℚ still_ahead +ℚ later_left = subst (λ (x : ℚ). came ≡ first_left +ℚ still_ahead +ℚ x) (sym same_left) comes in
    with7 work first_left later_done later_left came still_ahead own (λ c. omega (arith, c.le, c.lt, c.same))

by_gone : (server : Server) (end : ℚ) (V front back : List ServerStep) (C : Class) (q : ℕ) (p : Card) (u g : ℚ)
    → IsLawfulView server end V → V ≡ front ++ Arrives p u ∷ back → IsAlwaysOfQueue C q → C p ≡ true → u ≤ℚ g → g ≤ℚ gone_at end p.packet back
    → worked C V g ≤ℚ total (arrives C (upto u)) front +ℚ size p
by_gone server end V front back C q p u g lawful joined own counted l m =
    let d = server.discipline in
    let all = allowed-append server end (start d) front (Arrives p u ∷ back) (subst (AllAllowed server end (start d)) joined lawful.allowed) in
    let upto_u = all_upto server end (start d) front back (Arrives p u) (subst (AllAllowed server end (start d)) joined lawful.allowed) in
    let upto_g = each_map (IsBefore (upto u)) (λ x. time_of x ≤ℚ g) (λ x e. le_trans (le_q_in (time_of x) u e) l) front upto_u in
    let one = after d (start d) front in
    let sound_one = sound_after server end (start d) front all.0 tt in
    let two = next d one (Arrives p u) in
    let sound_two = sound_next server end one (Arrives p u) all.1.0 sound_one in
    let balance = balance_after server end (start d) front C (upto u) all.0 tt upto_u in
    let work = work_after server end (start d) front C (upto u) g all.0 tt upto_u upto_g in
    let a = at_time server end two back (before g) g (before_edge g) all.1.1 sound_two in
    let P = a.at.front in
    let three = after d two P in
    let there = of_class C one.inside in
    let sums = sum_class C one.inside in
    let order : departures_of C P ++ of_class C three.inside ≡ there ++ p ∷ arrivals_of C P =
    queue_order server end two P C q own a.at.front_allowed sound_two ∙ ap (λ (xs : List Card). xs ++ arrivals_of C P) (class-append C one.inside (p ∷ []) ∙ rw counted refl) ∙ append_assoc there (p ∷ []) (arrivals_of C P) in
    let kept = kept_before end g p.packet P a.at.back a.at.front_before (subst (λ (W : List ServerStep). g ≤ℚ gone_at end p.packet W) a.at.joined m) in
    let b = behind (departures_of C P) (of_class C three.inside) there (arrivals_of C P) p order (none_departs C p.packet P kept) in
    let most = done_within three.inside three.busy three.under C q p g b.ahead (arrivals_of C P) a.sound own b.is in
    let whole_work : worked C V g ≡ total (works C g) front +ℚ (int (pos 0) +ℚ total (works C g) back) = ap (total (works C g)) joined ∙ total-append (works C g) front (Arrives p u ∷ back) in
    work_most (worked C V g) (total (works C g) front) (total (works C g) back) (done_by C g one.under) (done_by C g three.under) (total (leaves C (upto u)) front) (total (leaves C (before g)) back) (total (leaves C (before g)) P)
    (sum_of C one.inside) (total (arrives C (upto u)) front) (bits_of there) (bits_of b.ahead) (size p) (bits_of (departures_of C P))
    whole_work work (a.work C) (a.left C) balance sums (left_bits C (before g) P a.at.front_before) b.bits most

-- ---- the packets of a flow have one queue at a server
abbrev HasQueue : Routes → ℕ → ServerStep → Type 0
HasQueue net s (Arrives c t) = c.queue ≡ queue_at s (route_of net c.flow).hops
HasQueue net s (Works c a b w) = c.queue ≡ queue_at s (route_of net c.flow).hops
HasQueue net s (Leaves c t) = c.queue ≡ queue_at s (route_of net c.flow).hops
HasQueue net s (Visits q t) = Unit {0}

one_queue : (net : Routes) (s : ℕ) (entered : List Entry) (x : Step) → server_of net x ≡ s → HasQueue net s (seen net entered x)
one_queue net s entered (Enter f p t b) e =
    let c = card_of net (entered ++ record { flow = f; bits = b } ∷ []) p (first_server (route_of net f).hops) in
    ap (λ (k : ℕ). queue_at k (route_of net c.flow).hops) e
one_queue net s entered (Reach r p t) e = ap (λ (k : ℕ). queue_at k (route_of net (card_of net entered p r).flow).hops) e
one_queue net s entered (Work r p a b w) e = ap (λ (k : ℕ). queue_at k (route_of net (card_of net entered p r).flow).hops) e
one_queue net s entered (Leave r p t) e = ap (λ (k : ℕ). queue_at k (route_of net (card_of net entered p r).flow).hops) e
one_queue net s entered (Visit r q t) e = tt

view_queues : (net : Routes) (s : ℕ) (entered : List Entry) (xs : List Step) → Each (HasQueue net s) (view_from net s entered xs)
view_queues net s entered [] = tt
view_queues net s entered (x ∷ xs) = elim (cases_Bool (server_of net x == s)) [
  | inl e ↦ rw e (one_queue net s entered x (eqb-true (server_of net x) s e), view_queues net s (entered_after entered x) xs)
  | inr e ↦ rw e (view_queues net s (entered_after entered x) xs)
]

abbrev own : Routes → ℕ → ℕ → Class
own net s i c = (c.flow == i) && (c.queue == queue_at s (route_of net i).hops)

own_queue : (net : Routes) (s i : ℕ) → IsAlwaysOfQueue (own net s i) (queue_at s (route_of net i).hops)
own_queue net s i c e = eqb-true c.queue (queue_at s (route_of net i).hops) (and_parts (c.flow == i) (c.queue == queue_at s (route_of net i).hops) e).1

own_card : (net : Routes) (s i : ℕ) (c : Card) → c.queue ≡ queue_at s (route_of net c.flow).hops → own net s i c ≡ of_flow i c
own_card net s i c e = elim (cases_Bool (c.flow == i)) [
  | inr f ↦ rw f refl
  | inl f ↦
      let same : c.queue ≡ queue_at s (route_of net i).hops = subst (λ (j : ℕ). c.queue ≡ queue_at s (route_of net j).hops) (eqb-true c.flow i f) e in
      rw (f, eq-eqb c.queue (queue_at s (route_of net i).hops) same) refl
]

own_works : (net : Routes) (s i : ℕ) (t : ℚ) (x : ServerStep) → HasQueue net s x → works (own net s i) t x ≡ works (of_flow i) t x
own_works net s i t (Arrives c u) h = refl
own_works net s i t (Works c a b w) h = rw (own_card net s i c h) refl
own_works net s i t (Leaves c u) h = refl
own_works net s i t (Visits q u) h = refl

own_arrives : (net : Routes) (s i : ℕ) (p : ℚ → Bool) (x : ServerStep) → HasQueue net s x → arrives (own net s i) p x ≡ arrives (of_flow i) p x
own_arrives net s i p (Arrives c u) h = rw (own_card net s i c h) refl
own_arrives net s i p (Works c a b w) h = refl
own_arrives net s i p (Leaves c u) h = refl
own_arrives net s i p (Visits q u) h = refl

-- ---- what arrives in a window in which the packet does is at least the packet
at_least : (i : ℕ) (V front back : List ServerStep) (p : Card) (s t u : ℚ) → V ≡ front ++ Arrives p u ∷ back → p.flow ≡ i → s ≤ℚ u → u ≤ℚ t
    → total (arrives (of_flow i) (within s t)) front +ℚ size p ≤ℚ arrived_in (of_flow i) V s t
at_least i V front back p s t u joined flow l m =
    let test : (of_flow i p && within s t u) ≡ true = and_from (of_flow i p) (within s t u) (eq-eqb p.flow i flow) (and_from _ _ (le_q_out s u l) (le_q_out u t m)) in
    let all : arrived_in (of_flow i) V s t ≡ total (arrives (of_flow i) (within s t)) front +ℚ (arrives (of_flow i) (within s t) (Arrives p u) +ℚ total (arrives (of_flow i) (within s t)) back) =
    ap (total (arrives (of_flow i) (within s t))) joined ∙ total-append (arrives (of_flow i) (within s t)) front (Arrives p u ∷ back) in
    let one = when_true _ (size p) test in
    let rest = arrivals_nonneg (of_flow i) (within s t) back in
    with5 (arrived_in (of_flow i) V s t) (total (arrives (of_flow i) (within s t)) front) (arrives (of_flow i) (within s t) (Arrives p u)) (size p) (total (arrives (of_flow i) (within s t)) back) (λ c. omega (arith, c.le, c.lt, c.same))

upto_packet : (i : ℕ) (V front back : List ServerStep) (p : Card) (u : ℚ) → V ≡ front ++ Arrives p u ∷ back → p.flow ≡ i
    → total (arrives (of_flow i) (upto u)) front +ℚ size p ≤ℚ arrived_upto (of_flow i) V u
upto_packet i V front back p u joined flow =
    let test : (of_flow i p && upto u u) ≡ true = and_from (of_flow i p) (upto u u) (eq-eqb p.flow i flow) (le_q_out u u (le_refl u)) in
    let all : arrived_upto (of_flow i) V u ≡ total (arrives (of_flow i) (upto u)) front +ℚ (arrives (of_flow i) (upto u) (Arrives p u) +ℚ total (arrives (of_flow i) (upto u)) back) =
    ap (total (arrives (of_flow i) (upto u))) joined ∙ total-append (arrives (of_flow i) (upto u)) front (Arrives p u ∷ back) in
    let one = when_true _ (size p) test in
    let rest = arrivals_nonneg (of_flow i) (upto u) back in
    with5 (arrived_upto (of_flow i) V u) (total (arrives (of_flow i) (upto u)) front) (arrives (of_flow i) (upto u) (Arrives p u)) (size p) (total (arrives (of_flow i) (upto u)) back) (λ c. omega (arith, c.le, c.lt, c.same))

-- ---- so of a flow in a run
pub record IsAt (net : Routes) (run : SpecRun) (i s : ℕ) (card : Card) (u : ℚ) (front back : List ServerStep) : Type 0 where
  pub lawful : IsLawfulView (server_at net s) run.end (view net run s)
  pub joined : view net run s ≡ front ++ Arrives card u ∷ back
  pub flow : card.flow ≡ i

-- its bits; the front of the view counts the same for the flow and for its queue
record Counts (net : Routes) (i s : ℕ) (V front : List ServerStep) (card : Card) (u : ℚ) : Type 0 where
  of_own : own net s i card ≡ true
  came : total (arrives (own net s i) (upto u)) front ≡ total (arrives (of_flow i) (upto u)) front
  work : (t : ℚ) → worked (own net s i) V t ≡ worked (of_flow i) V t

counts_of : (net : Routes) (run : SpecRun) (i s : ℕ) (card : Card) (u : ℚ) (front back : List ServerStep) → IsAt net run i s card u front back
    → Counts net i s (view net run s) front card u
counts_of net run i s card u front back at =
    let queues = view_queues net s [] run.steps in
    let parts = each-append (HasQueue net s) front (Arrives card u ∷ back) (subst (Each (HasQueue net s)) at.joined queues) in
    record {
      of_own = own_card net s i card parts.1.0 ∙ eq-eqb card.flow i at.flow;
      came = total_same (arrives (own net s i) (upto u)) (arrives (of_flow i) (upto u)) front (each_map (HasQueue net s) (λ x. arrives (own net s i) (upto u) x ≡ arrives (of_flow i) (upto u) x) (own_arrives net s i (upto u)) front parts.0);
      work = λ t. total_same (works (own net s i) t) (works (of_flow i) t) (view net run s) (each_map (HasQueue net s) (λ x. works (own net s i) t x ≡ works (of_flow i) t x) (own_works net s i t) (view net run s) queues);
    }

pub work_before_gone : (net : Routes) (run : SpecRun) (i s : ℕ) (card : Card) (u t : ℚ) (front back : List ServerStep) → IsAt net run i s card u front back
    → u ≤ℚ t → t <ℚ gone_at run.end card.packet back → worked (of_flow i) (view net run s) t <ℚ arrived_upto (of_flow i) (view net run s) u
work_before_gone net run i s card u t front back at l m =
    let V = view net run s in
    let counts = counts_of net run i s card u front back at in
    let below = not_worked (server_at net s) run.end V front back (own net s i) (queue_at s (route_of net i).hops) card u t at.lawful at.joined (own_queue net s i) counts.of_own l m in
    let work = counts.work t in
    let came = counts.came in
    let upto_u = upto_packet i V front back card u at.joined at.flow in
    less (worked (own net s i) V t) (worked (of_flow i) V t) (total (arrives (own net s i) (upto u)) front) (total (arrives (of_flow i) (upto u)) front) (size card) (arrived_upto (of_flow i) V u) below work came upto_u
  where
    less : (own_work work own_came came bits all : ℚ) → own_work <ℚ own_came +ℚ bits → own_work ≡ work → own_came ≡ came → came +ℚ bits ≤ℚ all → work <ℚ all
    less own_work work own_came came bits all h e f k = with7 own_work work own_came came bits all bits (λ c. omega (arith, c.le, c.lt, c.same))

pub work_by_gone : (net : Routes) (run : SpecRun) (i s : ℕ) (card : Card) (u g : ℚ) (front back : List ServerStep) → IsAt net run i s card u front back
    → u ≤ℚ g → g ≤ℚ gone_at run.end card.packet back → worked (of_flow i) (view net run s) g ≤ℚ arrived_upto (of_flow i) (view net run s) u
work_by_gone net run i s card u g front back at l m =
    let V = view net run s in
    let counts = counts_of net run i s card u front back at in
    let most = by_gone (server_at net s) run.end V front back (own net s i) (queue_at s (route_of net i).hops) card u g at.lawful at.joined (own_queue net s i) counts.of_own l m in
    let work = counts.work g in
    let came = counts.came in
    let upto_u = upto_packet i V front back card u at.joined at.flow in
    less (worked (own net s i) V g) (worked (of_flow i) V g) (total (arrives (own net s i) (upto u)) front) (total (arrives (of_flow i) (upto u)) front) (size card) (arrived_upto (of_flow i) V u) most work came upto_u
  where
    less : (own_work work own_came came bits all : ℚ) → own_work ≤ℚ own_came +ℚ bits → own_work ≡ work → own_came ≡ came → came +ℚ bits ≤ℚ all → work ≤ℚ all
    less own_work work own_came came bits all h e f k = with7 own_work work own_came came bits all bits (λ c. omega (arith, c.le, c.lt, c.same))

-- the packet has some bits, and arrives within the run
some_bits : (net : Routes) (run : SpecRun) (i s : ℕ) (card : Card) (u : ℚ) (front back : List ServerStep) → IsAt net run i s card u front back
    → (int (pos 0) <ℚ size card) × (u ≤ℚ run.end)
some_bits net run i s card u front back at =
    let server = server_at net s in
    let lawful = at.lawful in
    let all = allowed-append server run.end (start server.discipline) front (Arrives card u ∷ back) (subst (AllAllowed server run.end (start server.discipline)) at.joined lawful.allowed) in
    (size_pos card all.1.0.1.some_bits, all.1.0.0.in_run)

pub arrives_in_run : (net : Routes) (run : SpecRun) (i s : ℕ) (card : Card) (u : ℚ) (front back : List ServerStep) → IsAt net run i s card u front back
    → u ≤ℚ run.end
arrives_in_run net run i s card u front back at = (some_bits net run i s card u front back at).1

-- before it arrives, too, less is worked
pub work_before_came : (net : Routes) (run : SpecRun) (i s : ℕ) (card : Card) (u t : ℚ) (front back : List ServerStep) → IsAt net run i s card u front back
    → t ≤ℚ u → worked (of_flow i) (view net run s) t <ℚ arrived_upto (of_flow i) (view net run s) u
work_before_came net run i s card u t front back at l =
    let V = view net run s in
    let order = worked_arrived (server_at net s) run.end V (of_flow i) t at.lawful in
    let window = arrived_in_is (of_flow i) V t u l in
    let some = (some_bits net run i s card u front back at).0 in
    let one = at_least i V front back card t u u at.joined at.flow l (le_refl u) in
    let front_on = arrivals_nonneg (of_flow i) (within t u) front in
    less (worked (of_flow i) V t) (arrived (of_flow i) V t) (arrived_upto (of_flow i) V u) (arrived_in (of_flow i) V t u) (size card) (total (arrives (of_flow i) (within t u)) front) order window some one front_on
  where
    less : (work came all window bits first : ℚ) → work ≤ℚ came → all ≡ came +ℚ window → int (pos 0) <ℚ bits → first +ℚ bits ≤ℚ window → int (pos 0) ≤ℚ first → work <ℚ all
    less work came all window bits first h e k l m = with7 work came all window bits first bits (λ c. omega (arith, c.le, c.lt, c.same))
