-- A row that has a packet reach a server, or enter.
use Rattle.std.proofs.Common.{◌≡◌, ℕ, zero, suc, ◌<◌, ◌≤◌, List, [], ◌∷◌, ◌++◌, length, set, get_or, refl, sym, ap, ◌∙◌, subst, arith, inl, inr, ◌⊎◌, Some, None, true, false}
use Rattle.std.specs.Prelude.{◌≢◌, ◌↔◌, slice_get, Bool, IsTrue}
use Rattle.std.proofs.lemmas.List.{map_push}
use Rattle.rational.specs.Rational.{ℚ, ◌<ℚ◌}
use Rattle.run_laws.specs.declared.steps.Step.{Step}
use Rattle.run_laws.specs.declared.steps.Step.TheVariants.{Enter, Reach}
use Rattle.run_laws.specs.Cards.{Card}
use Rattle.run_laws.specs.Servers.{queue_count}
use Rattle.run_laws.specs.Routes.{Routes, server_at, route_of, queue_at, first_server}
use Rattle.run_laws.specs.Views.{Entry, card_of}
use Rattle.run_laws.specs.Lawful.{RunState, state_at}
use Rattle.run_laws.proofs.Entries.{entry_last}
use Rattle.queue_sched.specs.Turns.{IsCard}
use Rattle.queue_sched.specs.Waiting.{HasPacket}
use Rattle.net_model.proofs.stated_runs.Lists.{In, contains_in, in_contains}
use Rattle.run_check.specs.declared.broken_laws.law.Law.{Law}
use Rattle.run_check.specs.declared.broken_laws.law.Law.TheVariants.{L1, L2, L3, L4, L5, L6, L7, L8, L9}
use Rattle.run_packets.specs.declared.place.Place.TheVariants.{At, OnLink}
use Rattle.run_check.specs.broken_laws.FirstBroken.{number_of, BreaksNone}
use Rattle.run_check.specs.broken_laws.Broken.{Breaks}
use Rattle.run_check.specs.broken_laws.Tracked.{place_of}
use Rattle.run_check.proofs.broken_laws.Breaking.{allows}
use Rattle.run_check.specs.declared.site.Site.{Site}
use Rattle.run_check.specs.declared.walk.Walk.{Walk}
use Rattle.run_check.specs.Sites.{IsFineUnder, IsOut, MayTake}
use Rattle.run_check.specs.Rows.{ChangesAt, Arrived}
use Rattle.run_check.specs.Walks.{Stands, Told}
use Rattle.run_check.proofs.WalkSteps.{walk_next, below_first, timely, untimely}
use Rattle.run_check.proofs.LeaveRows.{flow_at, bits_at}
use Rattle.run_check.proofs.RowSteps.{in_time, out_of_time}
use Rattle.net_model.proofs.stated_runs.Routed.{first_passes}

-- a packet that is there has a card there
pub has_card : (cs : List Card) (p : ℕ) → HasPacket cs p → (c : Card) × In cs c × (c.packet ≡ p)
has_card [] p h = absurd h
has_card (c ∷ cs) p (inl e) = (c, inl refl, e)
has_card (c ∷ cs) p (inr h) = let k = has_card cs p h in (k.0, inr k.1, k.2)

reach_none : (net : Routes) (end : ℚ) (before : List Step) (r : RunState) (s p : ℕ) (t : ℚ) → ¬ IsOut (state_at r s) end t → p < length r.entered
    → In r.due record { packet = p; server = s; time = t } → BreaksNone net end before r (Reach s p t)
reach_none net end before r s p t n l d L1 k = timely (state_at r s) end t n k
reach_none net end before r s p t n l d L2 k = omega (arith, l, k)
reach_none net end before r s p t n l d L3 k = k (in_contains r.due record { packet = p; server = s; time = t } d)
reach_none net end before r s p t n l d L4 k = k
reach_none net end before r s p t n l d L5 k = k
reach_none net end before r s p t n l d L6 k = k
reach_none net end before r s p t n l d L7 k = k
reach_none net end before r s p t n l d L8 k = k
reach_none net end before r s p t n l d L9 k = k

reach_below : (net : Routes) (end : ℚ) (before : List Step) (r : RunState) (s p : ℕ) (t : ℚ) → ¬ IsOut (state_at r s) end t
    → (other : Law) → number_of other < 2 → ¬ Breaks net end before r (Reach s p t) other
reach_below net end before r s p t n L1 l k = timely (state_at r s) end t n k
reach_below net end before r s p t n L2 l k = omega (arith, l)
reach_below net end before r s p t n L3 l k = omega (arith, l)
reach_below net end before r s p t n L4 l k = k
reach_below net end before r s p t n L5 l k = k
reach_below net end before r s p t n L6 l k = k
reach_below net end before r s p t n L7 l k = k
reach_below net end before r s p t n L8 l k = k
reach_below net end before r s p t n L9 l k = k

reach_below_third : (net : Routes) (end : ℚ) (before : List Step) (r : RunState) (s p : ℕ) (t : ℚ) → ¬ IsOut (state_at r s) end t → p < length r.entered
    → (other : Law) → number_of other < 3 → ¬ Breaks net end before r (Reach s p t) other
reach_below_third net end before r s p t n m L1 l k = timely (state_at r s) end t n k
reach_below_third net end before r s p t n m L2 l k = omega (arith, m, k)
reach_below_third net end before r s p t n m L3 l k = omega (arith, l)
reach_below_third net end before r s p t n m L4 l k = k
reach_below_third net end before r s p t n m L5 l k = k
reach_below_third net end before r s p t n m L6 l k = k
reach_below_third net end before r s p t n m L7 l k = k
reach_below_third net end before r s p t n m L8 l k = k
reach_below_third net end before r s p t n m L9 l k = k

pub reach_early : (net : Routes) (w after : Walk) (s p : ℕ) (t : ℚ) (k : Stands net (Reach s p t) w) (end : ℚ) → IsOut (state_at k.state s) end t
    → Told net (Reach s p t) w k end after (Some L1)
reach_early net w after s p t k end o = record { breaks = untimely (state_at k.state s) end t o; no_other = λ other l b. below_first other l }

pub reach_unknown : (net : Routes) (w after : Walk) (s p : ℕ) (t : ℚ) (k : Stands net (Reach s p t) w) (end : ℚ) → ¬ IsOut (state_at k.state s) end t
    → length w.places.items ≤ p → Told net (Reach s p t) w k end after (Some L2)
reach_unknown net w after s p t k end o l =
    let long = k.keeps.tracked.long in
    record { breaks = omega (arith, l, long); no_other = λ other m b. reach_below net end k.before k.state s p t o other m b }

pub reach_not_due : (net : Routes) (w after : Walk) (s p : ℕ) (t : ℚ) (k : Stands net (Reach s p t) w) (end : ℚ) → ¬ IsOut (state_at k.state s) end t
    → p < length w.places.items → place_of w.places.items p ≢ OnLink s t → Told net (Reach s p t) w k end after (Some L3)
reach_not_due net w after s p t k end o l n =
    let long = k.keeps.tracked.long in
    record {
      breaks = λ c. n (k.keeps.tracked.dues record { packet = p; server = s; time = t } (contains_in k.state.due record { packet = p; server = s; time = t } c)).place;
      no_other = λ other m b. reach_below_third net end k.before k.state s p t o (omega (arith, l, long)) other m b;
    }

pub reach_allowed : (net : Routes) (w : Walk) (s p : ℕ) (t : ℚ) (k : Stands net (Reach s p t) w) (end : ℚ) → ¬ IsOut (state_at k.state s) end t
    → p < length w.places.items → place_of w.places.items p ≡ OnLink s t → BreaksNone net end k.before k.state (Reach s p t)
reach_allowed net w s p t k end o l e =
    let long = k.keeps.tracked.long in
    reach_none net end k.before k.state s p t o (omega (arith, l, long)) (k.keeps.tracked.links s p t e)

-- the packet may join its queue
pub reach_takes : (net : Routes) (w : Walk) (s p : ℕ) (t : ℚ) (k : Stands net (Reach s p t) w) (end : ℚ) (q : ℕ) → ¬ IsOut (state_at k.state s) end t
    → p < length w.places.items → place_of w.places.items p ≡ OnLink s t → q ≡ queue_at s (route_of net (get_or w.flows.items p 0)).hops
    → (x : Site) → slice_get w.sites.items s ≡ Some x → MayTake x p q
reach_takes net w s p t k end q o l e is x at =
    let h = k.keeps in
    let long = h.tracked.long in
    let known : p < length k.state.entered = omega (arith, l, long) in
    let a = allows net end k.before k.state w.places.items h.tracked k.paths (Reach s p t) k.recorded (reach_allowed net w s p t k end o l e) in
    let queue : q ≡ (card_of net k.state.entered p s).queue = is ∙ ap (λ f. queue_at s (route_of net f).hops) (flow_at net k.room k.grid k.most k.before k.state w p h known) in
    record {
      some = record { discipline = (server_at net s).discipline; room = k.room; state = state_at k.state s; keeps = h.sites s x at };
      not_there = λ there.
          let c = has_card (state_at k.state s).inside p there in
          let f : OnLink s t ≡ At s = sym e ∙ (ap (place_of w.places.items) (sym c.2) ∙ (h.tracked.cards s c.0 c.1).place) in cc;
      known_queue = subst (λ j. j < queue_count (server_at net s).discipline) (sym queue) a.at_server.1.known_queue;
      known_packet = let few = h.few in let more = k.more in omega (arith, known, few, more);
    }

pub reach_told : (net : Routes) (w after : Walk) (s p : ℕ) (t : ℚ) (k : Stands net (Reach s p t) w) (end : ℚ) (q b : ℕ) → ¬ IsOut (state_at k.state s) end t
    → p < length w.places.items → place_of w.places.items p ≡ OnLink s t → q ≡ queue_at s (route_of net (get_or w.flows.items p 0)).hops → b ≡ get_or w.bits.items p 0
    → ChangesAt (Arrived p q b t) w.sites.items after.sites.items s → after.places.items ≡ set w.places.items p (At s) → after.flows.items ≡ w.flows.items
    → after.bits.items ≡ w.bits.items → Told net (Reach s p t) w k end after None
reach_told net w after s p t k end q b o l e is bits_is c places flows bits =
    let h = k.keeps in
    let long = h.tracked.long in
    let known : p < length k.state.entered = omega (arith, l, long) in
    let none = reach_allowed net w s p t k end o l e in
    let card : IsCard (card_of net k.state.entered p s) p q b = record {
      packet_is = refl;
      queue_is = sym (is ∙ ap (λ f. queue_at s (route_of net f).hops) (flow_at net k.room k.grid k.most k.before k.state w p h known));
      bits_are = sym (bits_is ∙ bits_at net k.room k.grid k.most k.before k.state w p h known);
    } in (
      none,
      walk_next net (Reach s p t) w after k end none c.old c.new c.was c.is
          (c.changed.0 (server_at net s).discipline k.room (state_at k.state s) (card_of net k.state.entered p s) (h.sites s c.old c.was) card)
          (subst (λ u. IsFineUnder k.grid k.most u) (sym c.changed.1) (h.fine s c.old c.was)) places (flows ∙ h.flows) (bits ∙ h.bits),
    )

-- ---- a packet enters
enter_none : (net : Routes) (end : ℚ) (before : List Step) (r : RunState) (f p : ℕ) (t : ℚ) (b : ℕ) → ¬ IsOut (state_at r (first_server (route_of net f).hops)) end t
    → BreaksNone net end before r (Enter f p t b)
enter_none net end before r f p t b n L1 k = timely (state_at r (first_server (route_of net f).hops)) end t n k
enter_none net end before r f p t b n L2 k = k
enter_none net end before r f p t b n L3 k = k
enter_none net end before r f p t b n L4 k = k
enter_none net end before r f p t b n L5 k = k
enter_none net end before r f p t b n L6 k = k
enter_none net end before r f p t b n L7 k = k
enter_none net end before r f p t b n L8 k = k
enter_none net end before r f p t b n L9 k = k

pub enter_early : (net : Routes) (w after : Walk) (f p : ℕ) (t : ℚ) (b : ℕ) (k : Stands net (Enter f p t b) w) (end : ℚ) → IsOut (state_at k.state (first_server (route_of net f).hops)) end t
    → Told net (Enter f p t b) w k end after (Some L1)
enter_early net w after f p t b k end o = record { breaks = untimely (state_at k.state (first_server (route_of net f).hops)) end t o; no_other = λ other l z. below_first other l }

enter_card : (net : Routes) (r : RunState) (f p b s : ℕ) → p ≡ length r.entered → IsCard (card_of net (r.entered ++ record { flow = f; bits = b } ∷ []) p s) p (queue_at s (route_of net f).hops) b
enter_card net r f p b s turn =
    let last = entry_last r.entered record { flow = f; bits = b } p turn in
    record {
      packet_is = refl;
      queue_is = ap (λ (e : Entry). queue_at s (route_of net e.flow).hops) last;
      bits_are = ap (λ (e : Entry). e.bits) last;
    }

pub enter_takes : (net : Routes) (w : Walk) (f p : ℕ) (t : ℚ) (b : ℕ) (k : Stands net (Enter f p t b) w) (end : ℚ) (s q : ℕ) → s ≡ first_server (route_of net f).hops
    → ¬ IsOut (state_at k.state s) end t → q ≡ queue_at s (route_of net f).hops → (x : Site) → slice_get w.sites.items s ≡ Some x → MayTake x p q
enter_takes net w f p t b k end s q is o queue x at =
    let h = k.keeps in
    let s0 = first_server (route_of net f).hops in
    let out : ¬ IsOut (state_at k.state s0) end t = subst (λ j. ¬ IsOut (state_at k.state j) end t) is o in
    let a = allows net end k.before k.state w.places.items h.tracked k.paths (Enter f p t b) k.recorded (enter_none net end k.before k.state f p t b out) in
    let turn = k.recorded.in_turn in
    let card = enter_card net k.state f p b s0 turn in
    record {
      some = record { discipline = (server_at net s).discipline; room = k.room; state = state_at k.state s; keeps = h.sites s x at };
      not_there = λ there.
          let c = has_card (state_at k.state s).inside p there in
          let l = (h.tracked.cards s c.0 c.1).card.entered_one in
          let e = c.2 in omega (arith, l, e, turn);
      known_queue = subst (λ j. j < queue_count (server_at net s).discipline) (sym (queue ∙ ap (λ j. queue_at j (route_of net f).hops) is))
          (subst (λ j. queue_at s0 (route_of net f).hops < queue_count (server_at net j).discipline) (sym is)
          (subst (λ j. j < queue_count (server_at net s0).discipline) card.queue_is a.at_server.1.known_queue));
      known_packet = let few = h.few in let more = k.more in omega (arith, turn, few, more);
    }

pub enter_told : (net : Routes) (w after : Walk) (f p : ℕ) (t : ℚ) (b : ℕ) (k : Stands net (Enter f p t b) w) (end : ℚ) (s q : ℕ) → s ≡ first_server (route_of net f).hops
    → ¬ IsOut (state_at k.state s) end t → q ≡ queue_at s (route_of net f).hops → ChangesAt (Arrived p q b t) w.sites.items after.sites.items s
    → after.places.items ≡ w.places.items ++ At s ∷ [] → after.flows.items ≡ w.flows.items ++ f ∷ [] → after.bits.items ≡ w.bits.items ++ b ∷ []
    → Told net (Enter f p t b) w k end after None
enter_told net w after f p t b k end s q is o queue c places flows bits =
    let h = k.keeps in
    let s0 = first_server (route_of net f).hops in
    let e : Entry = record { flow = f; bits = b } in
    let out : ¬ IsOut (state_at k.state s0) end t = subst (λ j. ¬ IsOut (state_at k.state j) end t) is o in
    let none = enter_none net end k.before k.state f p t b out in
    let d : ChangesAt (Arrived p q b t) w.sites.items after.sites.items s0 = subst (ChangesAt (Arrived p q b t) w.sites.items after.sites.items) is c in
    let q_is : q ≡ queue_at s0 (route_of net f).hops = queue ∙ ap (λ j. queue_at j (route_of net f).hops) is in
    let card : IsCard (card_of net (k.state.entered ++ e ∷ []) p s0) p q b =
    subst (λ j. IsCard (card_of net (k.state.entered ++ e ∷ []) p s0) p j b) (sym q_is) (enter_card net k.state f p b s0 k.recorded.in_turn) in (
      none,
      walk_next net (Enter f p t b) w after k end none d.old d.new d.was d.is
          (d.changed.0 (server_at net s0).discipline k.room (state_at k.state s0) (card_of net (k.state.entered ++ e ∷ []) p s0) (h.sites s0 d.old d.was) card)
          (subst (λ u. IsFineUnder k.grid k.most u) (sym d.changed.1) (h.fine s0 d.old d.was))
          (places ∙ ap (λ j. w.places.items ++ At j ∷ []) is)
          (flows ∙ (ap (λ xs. xs ++ f ∷ []) h.flows ∙ sym (map_push (λ (y : Entry). y.flow) k.state.entered e)))
          (bits ∙ (ap (λ xs. xs ++ b ∷ []) h.bits ∙ sym (map_push (λ (y : Entry). y.bits) k.state.entered e))),
    )

-- ---- times
pub some_site : (xs : List Site) (s : ℕ) → s < length xs → (x : Site) × (slice_get xs s ≡ Some x)
some_site [] s l = absurd (omega (arith, l))
some_site (x ∷ xs) zero l = (x, refl)
some_site (x ∷ xs) (suc s) l = some_site xs s (omega (arith, l))

pub is_out : (net : Routes) (y : Step) (w : Walk) (k : Stands net y w) (s : ℕ) (end t : ℚ) (b : Bool) {xs : List Site} → xs ≡ w.sites.items → s < length net.servers
    → ((x : Site) → slice_get xs s ≡ Some x → IsTrue b ↔ ((t <ℚ x.latest) ⊎ (end <ℚ t))) → b ≡ true → IsOut (state_at k.state s) end t
is_out net y w k s end t b {xs} same l tells e =
    let many = k.keeps.many in
    let (x, at) = some_site w.sites.items s (omega (arith, l, many)) in
    out_of_time (server_at net s).discipline k.room (state_at k.state s) x end t b (k.keeps.sites s x at) (tells x (ap (λ ls. slice_get ls s) same ∙ at)) e

pub not_out : (net : Routes) (y : Step) (w : Walk) (k : Stands net y w) (s : ℕ) (end t : ℚ) (b : Bool) {xs : List Site} → xs ≡ w.sites.items → s < length net.servers
    → ((x : Site) → slice_get xs s ≡ Some x → IsTrue b ↔ ((t <ℚ x.latest) ⊎ (end <ℚ t))) → b ≡ false → ¬ IsOut (state_at k.state s) end t
not_out net y w k s end t b {xs} same l tells e =
    let many = k.keeps.many in
    let (x, at) = some_site w.sites.items s (omega (arith, l, many)) in
    in_time (server_at net s).discipline k.room (state_at k.state s) x end t b (k.keeps.sites s x at) (tells x (ap (λ ls. slice_get ls s) same ∙ at)) e

-- the server at which a flow's packets enter
pub known_entrance : (net : Routes) (w : Walk) (f p : ℕ) (t : ℚ) (b : ℕ) (k : Stands net (Enter f p t b) w) → first_server (route_of net f).hops < length net.servers
known_entrance net w f p t b k =
    let path = k.paths f k.recorded.is_live in
    let first = first_passes (route_of net f).hops path.some in
    (Rattle.net_model.proofs.stated_runs.Routed.place_of net (first_server (route_of net f).hops) (route_of net f).hops path.hops_are first.0).known_server
