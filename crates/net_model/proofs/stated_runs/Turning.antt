-- A server with a packet inside and none under way has one that it may start, or a visit that it may make.
use Rattle.std.proofs.Common.{◌≡◌, ℕ, zero, suc, ◌<◌, ◌≤◌, ◌+◌, ◌^◌, List, [], ◌∷◌, length, get_or, refl, sym, ap, ◌∙◌, subst, arith, inl, inr, ◌⊎◌, Some, None}
use Rattle.std.specs.Prelude.{Option}
use Rattle.std.proofs.lemmas.Bool.{le-leb, eq-eqb}
use Rattle.rational.specs.Rational.{ℚ}
use Rattle.run_laws.specs.Cards.{Card, Arrives, Works, Leaves, Visits}
use Rattle.run_laws.specs.Servers.{Discipline, Fifo, Priority, Drr, queue_count, Under, Round, ServerState, head_of, without_head, done_so_far}
use Rattle.run_laws.specs.Next.{next, fits, worked_round}
use Rattle.run_laws.specs.Allows.{pick, or_else, first_head, visited_head, next_card, MayVisit, IsFirst}
use Rattle.run_laws.proofs.Heads.{same_some, head_push, pick_is_head}
use Rattle.run_laws.specs.Rounds.{VisitIsFirst, count_of, presence}
use Rattle.run_laws.proofs.Rounds.{HasLeft, first_counts, head_without}
use Rattle.queue_sched.specs.InTurn.{IsInTurn, quantum_of, longest, turn_goes_on}
use Rattle.queue_sched.proofs.InTurnSteps.{turn_arrives, turn_starts, turn_left, turn_visits}

abbrev pub KeepsRound : Discipline → ServerState → Type 0
KeepsRound Fifo σ = Unit {0}
KeepsRound (Priority n) σ = Unit {0}
KeepsRound (Drr quanta) σ = IsInTurn quanta σ.inside σ.under σ.round

pub record KeepsTurns (d : Discipline) (σ : ServerState) : Type 0 where
  pub head : (u : Under) → σ.under ≡ Some u → head_of u.card.queue σ.inside ≡ Some u.card
  pub turn : KeepsRound d σ

-- the first packets are in queues of the server, and not long
pub record AreHeads (d : Discipline) (cards : List Card) : Type 0 where
  pub known : (q : ℕ) (c : Card) → head_of q cards ≡ Some c → q < queue_count d
  pub small : (q : ℕ) (c : Card) → head_of q cards ≡ Some c → c.bits ≤ 2 ^ 32

-- ---- steps
pub turning_arrive : (d : Discipline) (σ : ServerState) (c : Card) (t : ℚ) → KeepsTurns d σ → KeepsTurns d (next d σ (Arrives c t))
turning_arrive d σ c t h = record { head = λ u e. head_push u.card.queue u.card c σ.inside (h.head u e); turn = arrive_turn d σ c t h.turn }
  where
    arrive_turn : (d : Discipline) (σ : ServerState) (c : Card) (t : ℚ) → KeepsRound d σ → KeepsRound d (next d σ (Arrives c t))
    arrive_turn Fifo σ c t h = tt
    arrive_turn (Priority n) σ c t h = tt
    arrive_turn (Drr quanta) σ c t h = turn_arrives quanta σ.inside σ.under σ.round c (head_of c.queue σ.inside) refl h

pub turning_work : (d : Discipline) (σ : ServerState) (c : Card) (a b w : ℚ) → KeepsTurns d σ → next_card σ.under d σ.inside σ.round ≡ Some c
    → KeepsTurns d (next d σ (Works c a b w))
turning_work d σ c a b w h n =
    let s : Under = record { card = c; before = done_so_far σ.under; last = record { start = a; end = b; bits = w } } in
    let first : head_of c.queue σ.inside ≡ Some c = head_of_next σ.under refl n in
    record {
      head = λ u e. let f : s ≡ u = same_some s u e in subst (λ (v : Under). head_of v.card.queue σ.inside ≡ Some v.card) f first;
      turn = work_turn d σ c s refl σ.under refl n h.turn;
    }
  where
    head_of_next : (o : Option Under) → σ.under ≡ o → next_card o d σ.inside σ.round ≡ Some c → head_of c.queue σ.inside ≡ Some c
    head_of_next None e n = pick_is_head d σ.inside σ.round c n
    head_of_next (Some u) e n = subst (λ (x : Card). head_of x.queue σ.inside ≡ Some x) (same_some u.card c n) (h.head u e)

    work_turn : (d : Discipline) (σ : ServerState) (c : Card) (s : Under) → s.card ≡ c → (o : Option Under) → σ.under ≡ o
        → next_card o d σ.inside σ.round ≡ Some c → KeepsRound d σ
        → KeepsRound d (next d σ (Works c s.last.start s.last.end s.last.bits))
    work_turn Fifo σ c s k o e n h = tt
    work_turn (Priority n) σ c s k o e m h = tt
    work_turn (Drr quanta) σ c s k None e n h =
        let after : Under = record { card = c; before = done_so_far σ.under; last = record { start = s.last.start; end = s.last.end; bits = s.last.bits } } in
        subst (λ o. IsInTurn quanta σ.inside (Some after) (worked_round o c σ.round)) (sym e)
        (turn_starts quanta σ.inside σ.round c after refl n (subst (λ o. IsInTurn quanta σ.inside o σ.round) e h))
    work_turn (Drr quanta) σ c s k (Some v) e n h =
        let after : Under = record { card = c; before = done_so_far σ.under; last = record { start = s.last.start; end = s.last.end; bits = s.last.bits } } in
        subst (λ o. IsInTurn quanta σ.inside (Some after) (worked_round o c σ.round)) (sym e)
        (turn_goes_on quanta σ.inside σ.round v after (sym (same_some v.card c n)) (subst (λ o. IsInTurn quanta σ.inside o σ.round) e h))

left_of : (quanta : List ℕ) (cards : List Card) (r : Round) (u : Under) → IsInTurn quanta cards (Some u) r → head_of u.card.queue cards ≡ Some u.card
    → HasLeft (quantum_of quanta) longest (without_head u.card.queue cards) r u.card.queue
left_of quanta cards r u h head =
    let q = u.card.queue in
    let k = h.round in
    let o = k.opened q k.of_visit in
    record {
      lists = λ j d. rw (head_without j q cards (λ g. d (sym g))) (k.lists j);
      once = k.lists q ∙ ap presence head;
      is_first = subst (λ x. VisitIsFirst x r.active) k.of_visit k.is_first;
      visited = k.of_visit;
      empty = λ j d n. k.empty j (sym (head_without j q cards (λ g. d (sym g))) ∙ n);
      closed = λ j d. k.closed j (λ g. d (same_some j q (sym g ∙ k.of_visit)));
      opened = omega (arith, o);
    }

pub turning_leave : (d : Discipline) (σ : ServerState) (u : Under) (t : ℚ) → σ.under ≡ Some u
    → ((c : Card) → head_of u.card.queue (without_head u.card.queue σ.inside) ≡ Some c → c.bits ≤ 2 ^ 32)
    → KeepsTurns d σ → KeepsTurns d (next d σ (Leaves u.card t))
turning_leave d σ u t busy small h = record {
  head = λ v e. absurd (let f : None ≡ Some v = e in cc);
  turn = leave_turn d h.turn;
}
  where
    leave_turn : (d : Discipline) → KeepsRound d σ → KeepsRound d (next d σ (Leaves u.card t))
    leave_turn Fifo k = tt
    leave_turn (Priority n) k = tt
    leave_turn (Drr quanta) k =
        let g : IsInTurn quanta σ.inside (Some u) σ.round = subst (λ o. IsInTurn quanta σ.inside o σ.round) busy k in
        turn_left quanta (without_head u.card.queue σ.inside) σ.round u.card.queue (head_of u.card.queue (without_head u.card.queue σ.inside)) refl small g.long
        (left_of quanta σ.inside σ.round u g (h.head u busy))

pub head_cases : (o : Option Card) → (o ≡ None) ⊎ ((c : Card) × (o ≡ Some c))
head_cases None = inl refl
head_cases (Some c) = inr (c, refl)

pub turning_visit : (d : Discipline) (σ : ServerState) (q : ℕ) (t : ℚ) → MayVisit d σ q → AreHeads d σ.inside → KeepsTurns d σ
    → KeepsTurns d (next d σ (Visits q t))
turning_visit Fifo σ q t m k h = absurd m
turning_visit (Priority n) σ q t m k h = absurd m
turning_visit (Drr quanta) σ q t m k h =
    let g : IsInTurn quanta σ.inside None σ.round = subst (λ o. IsInTurn quanta σ.inside o σ.round) m.idle h.turn in
    let one = first_counts q σ.round.active m.is_first in
    let lists = g.round.lists q in
    let known : q < length quanta = elim (head_cases (head_of q σ.inside)) [
      | inl n ↦ absurd (let z : presence (head_of q σ.inside) ≡ 0 = ap presence n in omega (arith, one, lists, z))
      | inr s ↦ k.known q s.0 s.1
    ] in
    record {
      head = h.head;
      turn = subst (λ o. IsInTurn quanta σ.inside o (Rattle.run_laws.specs.Next.visited_round (get_or quanta q 0) (head_of q σ.inside) q σ.round)) (sym m.idle)
          (turn_visits quanta σ.inside σ.round q (head_of q σ.inside) refl (k.small q) known m.no_visit m.is_first g);
    }

-- ---- progress
first_some : (n q k : ℕ) (cs : List Card) (c : Card) → k < n → head_of (q + k) cs ≡ Some c → (e : Card) × (first_head n q cs ≡ Some e)
first_some zero q k cs c h e = absurd (omega (arith, h))
first_some (suc n) q zero cs c h e =
    (c, ap (λ o. or_else o (first_head n (suc q) cs)) (ap (λ i. head_of i cs) (let f : q ≡ q + zero = omega arith in f) ∙ e))
first_some (suc n) q (suc k) cs c h e = elim (head_cases (head_of q cs)) [
  | inl none ↦
      let r = first_some n (suc q) k cs c (omega (arith, h)) (ap (λ i. head_of i cs) (let f : suc q + k ≡ q + suc k = omega arith in f) ∙ e) in
      (r.0, ap (λ o. or_else o (first_head n (suc q) cs)) none ∙ r.1)
  | inr s ↦ (s.0, ap (λ o. or_else o (first_head n (suc q) cs)) s.1)
]

own_head : (c : Card) (cs : List Card) → head_of c.queue (c ∷ cs) ≡ Some c
own_head c cs = rw (eq-eqb c.queue c.queue refl) refl

-- a list that has a queue has a head
has_first : (j : ℕ) (ks : List ℕ) → 1 ≤ count_of j ks → (q : ℕ) × IsFirst q ks
has_first j [] h = absurd (omega (arith, h))
has_first j (k ∷ ks) h = (k, refl)

pub progress : (d : Discipline) (σ : ServerState) (c : Card) (cs : List Card) → σ.inside ≡ c ∷ cs → σ.under ≡ None → AreHeads d σ.inside → KeepsTurns d σ
    → ((e : Card) × (pick d σ.inside σ.round ≡ Some e)) ⊎ ((q : ℕ) × MayVisit d σ q)
progress d σ c cs is idle k h =
    let mine : head_of c.queue σ.inside ≡ Some c = ap (head_of c.queue) is ∙ own_head c cs in
    by_discipline d k.known h.turn mine
  where
    by_discipline : (d : Discipline) → ((q : ℕ) (c : Card) → head_of q σ.inside ≡ Some c → q < queue_count d) → KeepsRound d σ → head_of c.queue σ.inside ≡ Some c
        → ((e : Card) × (pick d σ.inside σ.round ≡ Some e)) ⊎ ((q : ℕ) × MayVisit d σ q)
    by_discipline Fifo known t mine =
        let z : c.queue ≡ 0 = let l = known c.queue c mine in omega (arith, l) in
        inl (c, ap (λ q. head_of q σ.inside) (sym z) ∙ mine)
    by_discipline (Priority n) known t mine =
        inl (first_some n 0 c.queue σ.inside c (known c.queue c mine) (ap (λ q. head_of q σ.inside) (let f : 0 + c.queue ≡ c.queue = omega arith in f) ∙ mine))
    by_discipline (Drr quanta) known t mine = by_visit σ.round.visited refl
      where
        by_visit : (o : Option ℕ) → σ.round.visited ≡ o → ((e : Card) × (visited_head σ.round.visited σ.round.deficits σ.inside ≡ Some e)) ⊎ ((q : ℕ) × MayVisit (Drr quanta) σ q)
        by_visit None v =
            let lists = t.round.lists c.queue in
            let one : presence (head_of c.queue σ.inside) ≡ 1 = ap presence mine in
            let f = has_first c.queue σ.round.active (omega (arith, lists, one)) in
            inr (f.0, record { idle = idle; no_visit = v; is_first = f.1 })
        by_visit (Some q) v =
            let r = t.ready q v idle in
            let fit : fits (Some r.0) (get_or σ.round.deficits q 0) ≡ Some r.0 = rw (le-leb r.0.bits (get_or σ.round.deficits q 0) r.2) refl in
            inl (r.0, ap (λ o. visited_head o σ.round.deficits σ.inside) v ∙ ap (λ o. fits o (get_or σ.round.deficits q 0)) r.1 ∙ fit)
