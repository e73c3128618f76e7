-- While a packet of a class of one queue is at the server, the work on the class is below all that arrived up to it.
use Rattle.std.specs.Prelude.{Option, Some, None, ◌≡◌, ◌≤◌, ℕ, pos, ◌==◌, Bool, true, false, List, [], ◌∷◌, ◌++◌, if◌then◌else◌}
use Rattle.std.proofs.Common.{arith, sym, ap, ◌∙◌, refl, inl, inr, subst, append_assoc}
use Rattle.std.proofs.lemmas.Bool.{cases_Bool, both_ways, eq-eqb, and_from, and_left}
use Rattle.rational.specs.Rational.{ℚ, int, ◌+ℚ◌, ◌≤ℚ◌, ◌<ℚ◌}
use Rattle.rational.proofs.Laws.{le_refl, le_trans, le_or_lt, add_zero}
use Rattle.rational.proofs.Linear.{with2, with3, with4, with5, with7}
use Rattle.run_laws.specs.Cards.{Card, size, Class, ServerStep, Arrives, Works, Leaves, Visits, time_of}
use Rattle.run_laws.proofs.Always.{IsAlwaysOfQueue}
use Rattle.run_laws.specs.Servers.{Server, Under, ServerState, done, start, clip, head_of, without_head}
use Rattle.run_laws.specs.Next.{next, after}
use Rattle.run_laws.specs.Allows.{Allows, AllAllowed, IsLawfulView, IsComplete}
use Rattle.run_laws.specs.Counts.{total, arrives, leaves, works, upto, worked}
use Rattle.run_laws.specs.Delays.{gone_at}
use Rattle.rational.proofs.Over.{le_q_out, le_q_in}
use Rattle.run_laws.proofs.Clips.{clip_strict, clip_late}
use Rattle.run_laws.proofs.Sums.{when_true, when_false, Each, each_map, total-append}
use Rattle.run_laws.proofs.Heads.{same_some, sum_of}
use Rattle.run_laws.proofs.States.{IsSound, IsSoundFor, IsUnderWay, sound_next, sound_after, leaving, balance_after, work_after, done_by, done_at_most, done_at}
use Rattle.run_laws.proofs.Cuts.{upto_edge, AtTime, at_time, IsBefore, time_in_order}
use Rattle.run_laws.proofs.Gone.{complete_leaves, first_gone, after-append}
use Rattle.run_laws.proofs.Sizes.{size_nonneg, size_pos}

-- ---- the cards of a class
abbrev pub of_class : Class → List Card → List Card
of_class C [] = []
of_class C (c ∷ cs) = if C c then c ∷ of_class C cs else of_class C cs

abbrev pub bits_of : List Card → ℚ
bits_of [] = int (pos 0)
bits_of (c ∷ cs) = size c +ℚ bits_of cs

pub class-append : (C : Class) (cs ds : List Card) → of_class C (cs ++ ds) ≡ of_class C cs ++ of_class C ds
class-append C [] ds = refl
class-append C (c ∷ cs) ds = elim (cases_Bool (C c)) [
  | inl e ↦ rw e (ap (λ (xs : List Card). c ∷ xs) (class-append C cs ds))
  | inr e ↦ rw e (class-append C cs ds)
]

pub sum_class : (C : Class) (cs : List Card) → sum_of C cs ≡ bits_of (of_class C cs)
sum_class C [] = refl
sum_class C (c ∷ cs) = elim (cases_Bool (C c)) [
  | inl e ↦ rw (when_true (C c) (size c) e, e) (ap (λ (x : ℚ). size c +ℚ x) (sum_class C cs))
  | inr e ↦
      let k = sum_class C cs in
      rw (when_false (C c) (size c) e, e) (with2 (sum_of C cs) (bits_of (of_class C cs)) (λ c. omega (arith, c.le, c.lt, c.same)))
]

-- the first packet of the class's queue, of the class
pub class_head : (C : Class) (q : ℕ) (c : Card) (cs : List Card) → IsAlwaysOfQueue C q → head_of q cs ≡ Some c → C c ≡ true
    → of_class C cs ≡ c ∷ of_class C (without_head q cs)
class_head C q c [] g h k = absurd (cc)
class_head C q c (x ∷ cs) g h k = elim (cases_Bool (x.queue == q)) [
  | inl e ↦
      let same : x ≡ c = same_some x c (rw e at h) in
      rw (e, same, k) refl
  | inr e ↦ elim (cases_Bool (C x)) [
    | inl f ↦ absurd (both_ways (x.queue == q) e (eq-eqb x.queue q (g x f)))
    | inr f ↦ rw (e, f) (class_head C q c cs g (rw e at h) k)
  ]
]

pub class_other : (C : Class) (q : ℕ) (c : Card) (cs : List Card) → head_of q cs ≡ Some c → C c ≡ false
    → of_class C (without_head q cs) ≡ of_class C cs
class_other C q c [] h k = absurd (cc)
class_other C q c (x ∷ cs) h k = elim (cases_Bool (x.queue == q)) [
  | inl e ↦
      let same : x ≡ c = same_some x c (rw e at h) in
      rw (e, same, k) refl
  | inr e ↦ elim (cases_Bool (C x)) [
    | inl f ↦ rw (e, f) (ap (λ (xs : List Card). x ∷ xs) (class_other C q c cs (rw e at h) k))
    | inr f ↦ rw (e, f) (class_other C q c cs (rw e at h) k)
  ]
]

-- ---- a packet waits behind those of its class that arrived before it
pub record IsWaiting (C : Class) (p : Card) (cards ahead : List Card) : Type 0 where
  pub rest : List Card
  pub is : of_class C cards ≡ ahead ++ p ∷ rest

-- no packet of this number leaves here
abbrev pub KeepsPacket : ℕ → ServerStep → Type 0
KeepsPacket n (Arrives c t) = Unit {0}
KeepsPacket n (Works c a b w) = Unit {0}
KeepsPacket n (Leaves c t) = (c.packet == n) ≡ false
KeepsPacket n (Visits q t) = Unit {0}

record Waits (C : Class) (p : Card) (cards ahead : List Card) (left : ℚ) : Type 0 where
  now_ahead : List Card
  waiting : IsWaiting C p cards now_ahead
  balance : bits_of now_ahead +ℚ left ≡ bits_of ahead

-- c leaves from the front of these
gone_first : (C : Class) (p c : Card) (q : ℕ) (cards ahead rest : List Card) → of_class C cards ≡ c ∷ of_class C (without_head q cards)
    → of_class C cards ≡ ahead ++ p ∷ rest → (c.packet == p.packet) ≡ false → Waits C p (without_head q cards) ahead (size c)
gone_first C p c q cards [] rest f g k =
    let e : c ∷ of_class C (without_head q cards) ≡ p ∷ rest = sym f ∙ g in
    let same : c ≡ p = cc in
    absurd (both_ways (c.packet == p.packet) k (eq-eqb c.packet p.packet (ap (λ (x : Card). x.packet) same)))
gone_first C p c q cards (z ∷ ahead) rest f g k =
    let e : c ∷ of_class C (without_head q cards) ≡ z ∷ (ahead ++ p ∷ rest) = sym f ∙ g in
    let same : c ≡ z = cc in
    let tail : of_class C (without_head q cards) ≡ ahead ++ p ∷ rest = cc in
    record {
      now_ahead = ahead;
      waiting = record { rest = rest; is = tail };
      balance = rw same (with2 (bits_of ahead) (size z) (λ c. omega (arith, c.le, c.lt, c.same)));
    }

waits_next : (server : Server) (end : ℚ) (σ : ServerState) (x : ServerStep) (C : Class) (q : ℕ) (p : Card) (ahead : List Card) (test : ℚ → Bool) → IsAlwaysOfQueue C q → Allows server end σ x → IsSound σ → test (time_of x) ≡ true
    → KeepsPacket p.packet x → IsWaiting C p σ.inside ahead → Waits C p (next server.discipline σ x).inside ahead (leaves C test x)
waits_next server end σ (Arrives c t) C q p ahead test g a h e k w = record {
  now_ahead = ahead;
  waiting = record { rest = w.rest ++ of_class C (c ∷ []); is = class-append C σ.inside (c ∷ []) ∙ ap (λ (xs : List Card). xs ++ of_class C (c ∷ [])) w.is ∙ append_assoc ahead (p ∷ w.rest) (of_class C (c ∷ [])) };
  balance = add_zero (bits_of ahead);
}
waits_next server end σ (Works c a b f) C q p ahead test g m h e k w = record { now_ahead = ahead; waiting = w; balance = add_zero (bits_of ahead) }
waits_next server end σ (Leaves c t) C q p ahead test g a h e k w =
    let head = leaving σ.inside σ.busy σ.under c t h a.1 in
    elim (cases_Bool (C c)) [
      | inl f ↦
          let own = subst (λ (r : ℕ). IsAlwaysOfQueue C r) (sym (g c f)) g in
          rw (when_true _ (size c) (and_from (C c) (test t) f e)) (gone_first C p c c.queue σ.inside ahead w.rest (class_head C c.queue c σ.inside own head f) w.is k)
      | inr f ↦ record {
        now_ahead = ahead;
        waiting = record { rest = w.rest; is = class_other C c.queue c σ.inside head f ∙ w.is };
        balance = rw (when_false _ (size c) (and_left (C c) (test t) f)) (add_zero (bits_of ahead));
      }
    ]
waits_next server end σ (Visits r t) C q p ahead test g a h e k w = record { now_ahead = ahead; waiting = w; balance = add_zero (bits_of ahead) }

waits_after : (server : Server) (end : ℚ) (σ : ServerState) (V : List ServerStep) (C : Class) (q : ℕ) (p : Card) (ahead : List Card) (test : ℚ → Bool) → IsAlwaysOfQueue C q → AllAllowed server end σ V → IsSound σ → Each (IsBefore test) V
    → Each (KeepsPacket p.packet) V → IsWaiting C p σ.inside ahead
    → Waits C p (after server.discipline σ V).inside ahead (total (leaves C test) V)
waits_after server end σ [] C q p ahead test g a h e k w = record { now_ahead = ahead; waiting = w; balance = add_zero (bits_of ahead) }
waits_after server end σ (x ∷ V) C q p ahead test g a h e k w =
    let one = waits_next server end σ x C q p ahead test g a.0 h e.0 k.0 w in
    let rest = waits_after server end (next server.discipline σ x) V C q p one.now_ahead test g a.1 (sound_next server end σ x a.0 h) e.1 k.1 one.waiting in
    let b = one.balance in
    let c = rest.balance in
    record {
      now_ahead = rest.now_ahead;
      waiting = rest.waiting;
      balance = with5 (bits_of ahead) (bits_of one.now_ahead) (bits_of rest.now_ahead) (leaves C test x) (total (leaves C test) V) (λ c. omega (arith, c.le, c.lt, c.same));
    }

-- ---- the work on the one under way is not all of these
pub bits_nonneg : (cs : List Card) → int (pos 0) ≤ℚ bits_of cs
bits_nonneg [] = le_refl (int (pos 0))
bits_nonneg (c ∷ cs) =
    let h = size_nonneg c in
    let k = bits_nonneg cs in
    with2 (size c) (bits_of cs) (λ c. omega (arith, c.le, c.lt, c.same))

-- it is worked off by t, and the packet
pub record IsOver (p : Card) (t : ℚ) (u : Under) : Type 0 where
  pub is_card : u.card ≡ p
  pub complete : done u ≡ size u.card
  pub over : u.last.end ≤ℚ t

abbrev pub NotOver : Card → ℚ → Option Under → Type 0
NotOver p t None = Unit {0}
NotOver p t (Some u) = ¬ IsOver p t u

-- the packet under way is the first of these
first_below : (cards : List Card) (busy : ℚ) (u : Under) (p : Card) (t : ℚ) (ahead rest : List Card) → IsUnderWay cards busy u → 1 ≤ p.bits
    → (ahead ≡ [] → NotOver p t (Some u)) → (tail : List Card) → u.card ∷ tail ≡ ahead ++ p ∷ rest → done_at t u <ℚ bits_of ahead +ℚ size p
first_below cards busy u p t [] rest h some n tail e =
    let same : u.card ≡ p = cc in
    let most = done_at_most cards busy u t h in
    let within = h.within_bits in
    let equal : size u.card ≡ size p = ap size same in
    elim (le_or_lt u.last.end t) [
      | inr l ↦
          let strict = clip_strict u.last t h.is_span l in
          with5 u.before u.last.bits (clip u.last t) (size u.card) (size p) (λ c. omega (arith, c.le, c.lt, c.same))
      | inl l ↦
          let late = clip_late u.last t h.is_span.forward l in
          elim (le_or_lt (size p) (done u)) [
            | inr m ↦ with5 u.before u.last.bits (clip u.last t) (size u.card) (size p) (λ c. omega (arith, c.le, c.lt, c.same))
            | inl m ↦ absurd (n refl record {
              is_card = same;
              complete = with4 u.before u.last.bits (size u.card) (size p) (λ c. omega (arith, c.le, c.lt, c.same));
              over = l;
            })
          ]
    ]
first_below cards busy u p t (z ∷ ahead) rest h some n tail e =
    let same : u.card ≡ z = cc in
    let most = done_at_most cards busy u t h in
    let equal : size u.card ≡ size z = ap size same in
    let more = size_pos p some in
    let others = bits_nonneg ahead in
    with5 (done_at t u) (size u.card) (size z) (size p) (bits_of ahead) (λ c. omega (arith, c.le, c.lt, c.same))

pub done_below : (cards : List Card) (busy : ℚ) (under : Option Under) (C : Class) (q : ℕ) (p : Card) (t : ℚ) (ahead : List Card)
    → IsSoundFor cards busy under → IsAlwaysOfQueue C q → 1 ≤ p.bits → (ahead ≡ [] → NotOver p t under) → IsWaiting C p cards ahead
    → done_by C t under <ℚ bits_of ahead +ℚ size p
done_below cards busy None C q p t ahead h g some n w =
    let more = size_pos p some in
    let others = bits_nonneg ahead in
    with2 (size p) (bits_of ahead) (λ c. omega (arith, c.le, c.lt, c.same))
done_below cards busy (Some u) C q p t ahead h g some n w = elim (cases_Bool (C u.card)) [
  | inr e ↦
      let more = size_pos p some in
      let others = bits_nonneg ahead in
      rw (when_false (C u.card) (done_at t u) e) (with2 (size p) (bits_of ahead) (λ c. omega (arith, c.le, c.lt, c.same)))
  | inl e ↦
      let own = subst (λ (r : ℕ). IsAlwaysOfQueue C r) (sym (g u.card e)) g in
      let first = class_head C u.card.queue u.card cards own h.is_head e in
      rw (when_true (C u.card) (done_at t u) e) (first_below cards busy u p t ahead w.rest h some n (of_class C (without_head u.card.queue cards)) (sym first ∙ w.is))
]

-- ---- before it is gone
record Stays (end : ℚ) (n : ℕ) (V W : List ServerStep) : Type 0 where
  kept : Each (KeepsPacket n) V
  same : gone_at end n (V ++ W) ≡ gone_at end n W

stays : (end : ℚ) (n : ℕ) (V W : List ServerStep) (t : ℚ) → Each (IsBefore (upto t)) V → t <ℚ gone_at end n (V ++ W) → Stays end n V W
stays end n [] W t h k = record { kept = tt; same = refl }
stays end n (Arrives c u ∷ V) W t h k = let r = stays end n V W t h.1 k in record { kept = (tt, r.kept); same = r.same }
stays end n (Works c a b w ∷ V) W t h k = let r = stays end n V W t h.1 k in record { kept = (tt, r.kept); same = r.same }
stays end n (Visits q u ∷ V) W t h k = let r = stays end n V W t h.1 k in record { kept = (tt, r.kept); same = r.same }
stays end n (Leaves c u ∷ V) W t h k = elim (cases_Bool (c.packet == n)) [
  | inl e ↦
      let l : t <ℚ u = rw e at k in
      let m = le_q_in u t h.0 in
      absurd (with2 t u (λ c. omega (arith, c.le, c.lt, c.same)))
  | inr e ↦
      let r = stays end n V W t h.1 (rw e at k) in
      record { kept = (e, r.kept); same = rw e r.same }
]

not_over : (server : Server) (end : ℚ) (σ : ServerState) (V : List ServerStep) (p : Card) (t : ℚ) (under : Option Under)
    → AllAllowed server end σ V → σ.under ≡ under → ¬ IsComplete (after server.discipline σ V).under → t <ℚ gone_at end p.packet V
    → NotOver p t under
not_over server end σ V p t None a e n k = tt
not_over server end σ V p t (Some u) a e n k = λ o.
    let first = complete_leaves server end σ V u a e o.complete n in
    let at : gone_at end u.card.packet V ≡ u.last.end = first_gone end u.card u.last.end V first in
    let at_p : gone_at end p.packet V ≡ u.last.end = subst (λ (c : Card). gone_at end c.packet V ≡ u.last.end) o.is_card at in
    let l = o.over in
    with3 t u.last.end (gone_at end p.packet V) (λ c. omega (arith, c.le, c.lt, c.same))

-- ---- lists of allowed steps
pub allowed-append : (server : Server) (end : ℚ) (σ : ServerState) (V W : List ServerStep) → AllAllowed server end σ (V ++ W)
    → AllAllowed server end σ V × AllAllowed server end (after server.discipline σ V) W
allowed-append server end σ [] W a = (tt, a)
allowed-append server end σ (x ∷ V) W a = let k = allowed-append server end (next server.discipline σ x) V W a.1 in ((a.0, k.0), k.1)

now_upto : (server : Server) (end : ℚ) (σ : ServerState) (V W : List ServerStep) (x : ServerStep) → AllAllowed server end σ (V ++ x ∷ W)
    → σ.now ≤ℚ time_of x
now_upto server end σ [] W x a = (time_in_order server end σ x a.0).in_order
now_upto server end σ (y ∷ V) W x a = le_trans (time_in_order server end σ y a.0).in_order (now_upto server end (next server.discipline σ y) V W x a.1)

pub all_upto : (server : Server) (end : ℚ) (σ : ServerState) (V W : List ServerStep) (x : ServerStep)
    → AllAllowed server end σ (V ++ x ∷ W) → Each (IsBefore (upto (time_of x))) V
all_upto server end σ [] W x a = tt
all_upto server end σ (y ∷ V) W x a = (le_q_out _ _ (now_upto server end (next server.discipline σ y) V W x a.1), all_upto server end (next server.discipline σ y) V W x a.1)

-- the sums of the next law
pub combine : (work first_work later_work first_done later_done first_left later_left left here came ahead still_ahead own : ℚ)
    → work ≡ first_work +ℚ (int (pos 0) +ℚ later_work) → first_done +ℚ first_left ≡ int (pos 0) +ℚ first_work
    → later_done +ℚ later_left ≡ first_done +ℚ later_work → later_left ≡ left → here +ℚ first_left ≡ int (pos 0) +ℚ came
    → here ≡ ahead → still_ahead +ℚ left ≡ ahead → later_done <ℚ still_ahead +ℚ own → work <ℚ came +ℚ own
combine work first_work later_work first_done later_done first_left later_left left here came ahead still_ahead own e1 e2 e3 e4 e5 e6 e7 h =
    let works : work ≡ first_left +ℚ later_done +ℚ later_left = with7 work first_work later_work first_done later_done first_left later_left (λ c. omega (arith, c.le, c.lt, c.same)) in
    let comes : came ≡ first_left +ℚ still_ahead +ℚ later_left = with7 here first_left came ahead still_ahead later_left left (λ c. omega (arith, c.le, c.lt, c.same)) in
    with7 work first_left later_done later_left came still_ahead own (λ c. omega (arith, c.le, c.lt, c.same))

-- a view cut where a card arrives, and at a time from then on
pub record AtArrival (server : Server) (end : ℚ) (V front back : List ServerStep) (C : Class) (p : Card) (u t : ℚ) : Type 0 where
  pub allowed : AllAllowed server end (start server.discipline) front
      × AllAllowed server end (after server.discipline (start server.discipline) front) (Arrives p u ∷ back)
  pub sound : IsSound (next server.discipline (after server.discipline (start server.discipline) front) (Arrives p u))
  pub balance : sum_of C (after server.discipline (start server.discipline) front).inside +ℚ total (leaves C (upto u)) front
      ≡ int (pos 0) +ℚ total (arrives C (upto u)) front
  pub so_far : done_by C t (after server.discipline (start server.discipline) front).under +ℚ total (leaves C (upto u)) front
      ≡ int (pos 0) +ℚ total (works C t) front
  pub work : worked C V t ≡ total (works C t) front +ℚ (int (pos 0) +ℚ total (works C t) back)
  pub at : AtTime server end (next server.discipline (after server.discipline (start server.discipline) front) (Arrives p u)) back (upto t) t

pub at_arrival : (server : Server) (end : ℚ) (V front back : List ServerStep) (C : Class) (p : Card) (u t : ℚ)
    → IsLawfulView server end V → V ≡ front ++ Arrives p u ∷ back → u ≤ℚ t → AtArrival server end V front back C p u t
at_arrival server end V front back C p u t lawful joined l =
    let d = server.discipline in
    let joined_allowed = subst (AllAllowed server end (start d)) joined lawful.allowed in
    let all = allowed-append server end (start d) front (Arrives p u ∷ back) joined_allowed in
    let upto_u = all_upto server end (start d) front back (Arrives p u) joined_allowed in
    let upto_t = each_map (IsBefore (upto u)) (λ x. time_of x ≤ℚ t) (λ x e. le_trans (le_q_in (time_of x) u e) l) front upto_u in
    let one = after d (start d) front in
    let sound_two = sound_next server end one (Arrives p u) all.1.0 (sound_after server end (start d) front all.0 tt) in
    record {
      allowed = all;
      sound = sound_two;
      balance = balance_after server end (start d) front C (upto u) all.0 tt upto_u;
      so_far = work_after server end (start d) front C (upto u) t all.0 tt upto_u upto_t;
      work = ap (total (works C t)) joined ∙ total-append (works C t) front (Arrives p u ∷ back);
      at = at_time server end (next d one (Arrives p u)) back (upto t) t (upto_edge t) all.1.1 sound_two;
    }

-- ---- so the work on the class does not come up to it before it is gone
pub not_worked : (server : Server) (end : ℚ) (V front back : List ServerStep) (C : Class) (q : ℕ) (p : Card) (u t : ℚ)
    → IsLawfulView server end V → V ≡ front ++ Arrives p u ∷ back → IsAlwaysOfQueue C q → C p ≡ true → u ≤ℚ t → t <ℚ gone_at end p.packet back
    → worked C V t <ℚ total (arrives C (upto u)) front +ℚ size p
not_worked server end V front back C q p u t lawful joined g counted l k =
    let d = server.discipline in
    let cut = at_arrival server end V front back C p u t lawful joined l in
    let one = after d (start d) front in
    let two = next d one (Arrives p u) in
    let a = cut.at in
    let three = after d two a.at.front in
    let P = a.at.front in
    let later = a.work C in
    let same = a.left C in
    let stay = stays end p.packet P a.at.back t a.at.front_before (subst (λ (W : List ServerStep). t <ℚ gone_at end p.packet W) a.at.joined k) in
    let waiting : IsWaiting C p two.inside (of_class C one.inside) = record { rest = []; is = class-append C one.inside (p ∷ []) ∙ rw counted refl } in
    let waits = waits_after server end two P C q p (of_class C one.inside) (upto t) g a.at.front_allowed cut.sound a.at.front_before stay.kept waiting in
    let ahead = waits.balance in
    let sums = sum_class C one.inside in
    let complete : ¬ IsComplete (after d three a.at.back).under =
    subst (λ (σ : ServerState). ¬ IsComplete σ.under) (ap (after d (start d)) joined ∙ after-append server (start d) front (Arrives p u ∷ back) ∙ ap (after d two) a.at.joined ∙ after-append server two P a.at.back) lawful.none_complete in
    let still : t <ℚ gone_at end p.packet a.at.back = subst (λ (y : ℚ). t <ℚ y) (ap (gone_at end p.packet) a.at.joined ∙ stay.same) k in
    let below = done_below three.inside three.busy three.under C q p t waits.now_ahead a.sound g cut.allowed.1.0.1.some_bits (λ _. not_over server end three a.at.back p t three.under a.at.back_allowed refl complete still) waits.waiting in
    combine (worked C V t) (total (works C t) front) (total (works C t) back) (done_by C t one.under) (done_by C t three.under) (total (leaves C (upto u)) front) (total (leaves C (upto t)) back) (total (leaves C (upto t)) P)
    (sum_of C one.inside) (total (arrives C (upto u)) front) (bits_of (of_class C one.inside)) (bits_of waits.now_ahead) (size p) cut.work cut.so_far later same cut.balance sums ahead below
