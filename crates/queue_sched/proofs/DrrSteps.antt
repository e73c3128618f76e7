-- A deficit round robin scheduler moves as its server's state does.
use Rattle.std.proofs.Common.{◌≡◌, ℕ, ◌+◌, ◌-◌, ◌<◌, ◌≤◌, ◌^◌, List, [], ◌∷◌, ◌++◌, length, get_or, set, drop, refl, sym, ap, ◌∙◌, subst, arith, inl, inr, ◌⊎◌, Some, None, true, false, Bool}
use Rattle.std.specs.Prelude.{Option, ◌≢◌, ◌==◌, nat_le}
use Rattle.std.proofs.lemmas.Bool.{cases_eq, cases_lt, cases_Bool, le-leb, lt-leb}
use Rattle.std.proofs.lemmas.List.{get_or-set_same, get_or-set_other, get_or_past}
use Rattle.std.proofs.Math.ListN.{length-set}
use Rattle.rational.specs.Rational.{ℚ}
use Rattle.run_laws.specs.Cards.{Card, Arrives, Leaves, Visits}
use Rattle.run_laws.specs.Servers.{Drr, Round, Under, ServerState, head_of, without_head, done_so_far}
use Rattle.run_laws.specs.Next.{next, fits, to_tail, rotated, visit_on, left_round, arrived_round, worked_round, visited_round}
use Rattle.run_laws.specs.Allows.{visited_head, IsFirst, MayVisit}
use Rattle.run_laws.proofs.Heads.{same_some}
use Rattle.queue_sched.specs.index_links.Chains.{Chains, list_at, Has, IsFree, first_of, with_list}
use Rattle.queue_sched.specs.Waiting.{HasPacket, Waits}
use Rattle.queue_sched.specs.Moves.{head_queue, waits_work}
use Rattle.run_laws.specs.Rounds.{IsRound, count_of, same_queue, presence, VisitIsFirst}
use Rattle.run_laws.proofs.Rounds.{HasLeft, own_count, head_without}
use Rattle.queue_sched.specs.InTurn.{IsInTurn, quantum_of, longest}
use Rattle.queue_sched.proofs.InTurnSteps.{turn_arrives, turn_starts, turn_left, turn_visits}
use Rattle.queue_sched.specs.DrrStates.{DrrState, round_of, HasRoom, IsInside, WaitsInTurn, joined, arrived, with_deficit, fitting, opened, turned, emptied, left_with, with_waiting}
use Rattle.queue_sched.specs.Turns.{Sends}
use Rattle.queue_sched.proofs.WaitingLemmas.{list_same, waiting_first, head_first, no_head, none_inside, waits_joined, waits_left}

-- a scheduler of these parts
abbrev pub state_of : Chains → Chains → List ℕ → List ℕ → List ℕ → Option ℕ → DrrState
state_of waiting turns quanta deficits lengths visited = record {
  waiting = waiting;
  turns = turns;
  quanta = quanta;
  deficits = deficits;
  lengths = lengths;
  visited = visited;
}

-- ---- cards inside
inside_either : (cs : List Card) (x c : Card) → IsInside (cs ++ x ∷ []) c → IsInside cs c ⊎ (x ≡ c)
inside_either [] x c (inl e) = inr e
inside_either [] x c (inr h) = absurd h
inside_either (y ∷ ys) x c (inl e) = inl (inl e)
inside_either (y ∷ ys) x c (inr h) = elim (inside_either ys x c h) [ inl l ↦ inl (inr l) | inr r ↦ inr r ]

inside_rest : (q : ℕ) (cs : List Card) (c : Card) → IsInside (without_head q cs) c → IsInside cs c
inside_rest q [] c h = absurd h
inside_rest q (y ∷ ys) c h = elim (cases_Bool (y.queue == q)) [
  | inl e ↦ inr (let a : without_head q (y ∷ ys) ≡ ys = rw e refl in subst (λ t. IsInside t c) a h)
  | inr e ↦
      let a : without_head q (y ∷ ys) ≡ y ∷ without_head q ys = rw e refl in
      let g : IsInside (y ∷ without_head q ys) c = subst (λ t. IsInside t c) a h in
      elim g [ inl i ↦ inl i | inr i ↦ inr (inside_rest q ys c i) ]
]

head_inside : (q : ℕ) (cs : List Card) (c : Card) → head_of q cs ≡ Some c → IsInside cs c
head_inside q [] c e = absurd (cc)
head_inside q (y ∷ ys) c e = elim (cases_Bool (y.queue == q)) [
  | inl i ↦ inl (same_some y c (rw i at e))
  | inr i ↦ inr (head_inside q ys c (rw i at e))
]

has_inside : (cs : List Card) (c : Card) → IsInside cs c → HasPacket cs c.packet
has_inside [] c h = absurd h
has_inside (y ∷ ys) c (inl e) = inl (ap (λ (t : Card). t.packet) e)
has_inside (y ∷ ys) c (inr h) = inr (has_inside ys c h)

-- ---- heads
option_cases : {A : Type 0} (o : Option A) → (o ≡ None) ⊎ ((x : A) × (o ≡ Some x))
option_cases None = inl refl
option_cases (Some x) = inr (x, refl)

pub no_first : (v : DrrState) (σ : ServerState) (q : ℕ) → WaitsInTurn v σ → head_of q σ.inside ≡ None → first_of (list_at v.waiting q) ≡ None
no_first v σ q h e = elim (option_cases (first_of (list_at v.waiting q))) [
  | inl n ↦ n
  | inr k ↦
      let r = waiting_first v.waiting σ q k.0 h.waits k.1 in
      absurd (let f : None ≡ Some r.card = sym e ∙ r.is_head in cc)
]

pub some_first : (v : DrrState) (σ : ServerState) (q : ℕ) (c : Card) → WaitsInTurn v σ → head_of q σ.inside ≡ Some c → first_of (list_at v.waiting q) ≡ Some c.packet
some_first v σ q c h e = ap first_of (sym (h.waits.queues q)) ∙ head_first q σ.inside c e

has_count : (j : ℕ) (ks : List ℕ) → Has ks j → 1 ≤ count_of j ks
has_count j [] h = absurd h
has_count j (k ∷ ks) (inl e) = let o = own_count j in let f : same_queue k j ≡ 1 = ap (λ t. same_queue t j) e ∙ o in omega arith
has_count j (k ∷ ks) (inr h) = let o = has_count j ks h in omega arith

first_count : (j : ℕ) (ks : List ℕ) → first_of ks ≡ Some j → (1 ≤ count_of j ks) × IsFirst j ks
first_count j [] e = absurd (cc)
first_count j (k ∷ ks) e =
    let f : k ≡ j = cc in
    (let o = own_count j in let g : same_queue k j ≡ 1 = ap (λ t. same_queue t j) f ∙ o in omega arith, f)

is_first_of : (j : ℕ) (ks : List ℕ) → IsFirst j ks → first_of ks ≡ Some j
is_first_of j [] h = absurd h
is_first_of j (k ∷ ks) h = ap (λ t. Some t) h

-- a queue that has no packet waits for no visit
pub turn_free : (v : DrrState) (σ : ServerState) (q : ℕ) → WaitsInTurn v σ → head_of q σ.inside ≡ None → IsFree v.turns q
turn_free v σ q h e = λ l has. elim (cases_eq l 0) [
  | inl z ↦
      let one = has_count q (list_at v.turns 0) (subst (λ t. Has (list_at v.turns t) q) z has) in
      let k = h.turn.round.lists q in
      let n : presence (head_of q σ.inside) ≡ 0 = ap presence e in
      omega (arith, one, k, n)
  | inr n ↦
      let past : list_at v.turns l ≡ [] = get_or_past v.turns.lists l [] (let o = h.room.one_list in omega (arith, o, n)) in
      subst (λ t. Has t q) past has
]

-- ---- a packet arrives
same_round : (r : Round) (a b : List ℕ) → a ≡ b → (let x : Round = record { active = a; deficits = r.deficits; visited = r.visited } in x) ≡ record { active = b; deficits = r.deficits; visited = r.visited }
same_round r a b e = ap (λ t. let x : Round = record { active = t; deficits = r.deficits; visited = r.visited } in x) e

arrive_round : (v : DrrState) (packet q bits : ℕ) (waits : Bool) (x : Option Card) → 0 < length v.turns.lists
    → (waits ≡ true → x ≢ None) → (waits ≡ false → x ≡ None) → round_of (arrived v packet q bits waits) ≡ arrived_round x q (round_of v)
arrive_round v packet q bits true None h t f = absurd (t refl refl)
arrive_round v packet q bits true (Some c) h t f = refl
arrive_round v packet q bits false None h t f = same_round (round_of v) _ _ (list_same v.turns 0 (list_at v.turns 0 ++ q ∷ []) h)
arrive_round v packet q bits false (Some c) h t f = absurd (let g = f refl in cc)

room_arrived : (v : DrrState) (packet q bits : ℕ) (waits : Bool) → HasRoom v → bits ≤ 2 ^ 32 → HasRoom (arrived v packet q bits waits)
room_arrived v packet q bits waits h small = record {
  queues = length-set v.waiting.lists q _ ∙ h.queues;
  turn_nodes = nodes waits ∙ h.turn_nodes;
  one_list = one waits ∙ h.one_list;
  lengths = h.lengths ∙ sym (length-set v.lengths packet bits);
  small_quanta = h.small_quanta;
  small_lengths = λ p. elim (cases_eq p packet) [
    | inl e ↦ elim (cases_lt packet (length v.lengths)) [
      | inl l ↦ let g : get_or (set v.lengths packet bits) p 0 ≡ bits = ap (λ t. get_or (set v.lengths packet bits) t 0) e ∙ get_or-set_same v.lengths packet bits 0 l in omega (arith, g, small)
      | inr l ↦ let g : get_or (set v.lengths packet bits) p 0 ≡ 0 = get_or_past (set v.lengths packet bits) p 0 (omega (arith, l, e, length-set v.lengths packet bits)) in omega (arith, g)
    ]
    | inr n ↦ let g = get_or-set_other v.lengths packet p bits 0 n in let s = h.small_lengths p in omega (arith, g, s)
  ];
}
  where
    nodes : (w : Bool) → (joined w q v.turns).nodes ≡ v.turns.nodes
    nodes true = refl
    nodes false = refl

    one : (w : Bool) → length (joined w q v.turns).lists ≡ length v.turns.lists
    one true = refl
    one false = length-set v.turns.lists 0 _

pub drr_joined : (v : DrrState) (σ : ServerState) (c : Card) (t : ℚ) (bits : ℕ) (waits : Bool) → WaitsInTurn v σ → ¬ (HasPacket σ.inside c.packet)
    → c.queue < length v.quanta → c.packet < length v.lengths → c.bits ≡ bits → bits ≤ 2 ^ 32
    → (waits ≡ true → head_of c.queue σ.inside ≢ None) → (waits ≡ false → head_of c.queue σ.inside ≡ None)
    → WaitsInTurn (arrived v c.packet c.queue bits waits) (next (Drr v.quanta) σ (Arrives c t))
drr_joined v σ c t bits waits h new known packet is small there gone =
    let v' = arrived v c.packet c.queue bits waits in
    let τ = next (Drr v.quanta) σ (Arrives c t) in
    let round : round_of v' ≡ arrived_round (head_of c.queue σ.inside) c.queue (round_of v) =
    arrive_round v c.packet c.queue bits waits (head_of c.queue σ.inside) (let o = h.room.one_list in omega (arith, o)) there gone in
    record {
      waits = waits_joined (Drr v.quanta) v.waiting σ c t h.waits (let o = h.room.queues in omega (arith, o, known));
      round_is = ap (arrived_round (head_of c.queue σ.inside) c.queue) h.round_is ∙ sym round;
      lengths = λ x i. elim (inside_either σ.inside c x i) [
        | inl j ↦ get_or-set_other v.lengths c.packet x.packet bits 0 (λ e. new (subst (λ p. HasPacket σ.inside p) e (has_inside σ.inside x j))) ∙ h.lengths x j
        | inr e ↦ ap (λ (y : Card). get_or (set v.lengths c.packet bits) y.packet 0) (sym e) ∙ get_or-set_same v.lengths c.packet bits 0 packet ∙ sym is ∙ ap (λ (y : Card). y.bits) e
      ];
      turn = subst (λ r. IsInTurn v.quanta (σ.inside ++ c ∷ []) σ.under r) (sym round)
          (turn_arrives v.quanta σ.inside σ.under (round_of v) c (head_of c.queue σ.inside) refl h.turn);
      room = room_arrived v c.packet c.queue bits waits h.room small;
    }

-- ---- a packet starts
fit_is : (c : Card) (d : ℕ) → c.bits ≤ d → fits (Some c) d ≡ Some c
fit_is c d h = rw (le-leb c.bits d h) refl

fit_not : (c : Card) (d : ℕ) → d < c.bits → fits (Some c) d ≡ None
fit_not c d h = rw (lt-leb c.bits d h) refl

room_deficit : (v : DrrState) (q d : ℕ) → HasRoom v → HasRoom (with_deficit v q d)
room_deficit v q d h = record {
  queues = h.queues;
  turn_nodes = h.turn_nodes;
  one_list = h.one_list;
  lengths = h.lengths;
  small_quanta = h.small_quanta;
  small_lengths = h.small_lengths;
}

-- the visited queue's first packet, which fits
pub record IsFitting (v : DrrState) (σ : ServerState) (q p : ℕ) : Type 0 where
  pub card : Card
  pub is_head : head_of q σ.inside ≡ Some card
  pub is_packet : card.packet ≡ p
  pub length_is : get_or v.lengths p 0 ≡ card.bits
  pub fits_now : card.bits ≤ get_or v.deficits q 0

pub ready_head : (v : DrrState) (σ : ServerState) (q p : ℕ) → WaitsInTurn v σ → σ.under ≡ None → v.visited ≡ Some q → first_of (list_at v.waiting q) ≡ Some p
    → IsFitting v σ q p
ready_head v σ q p h idle visit e =
    let f = waiting_first v.waiting σ q p h.waits e in
    let k = h.turn.ready q visit idle in
    let same : k.0 ≡ f.card = same_some k.0 f.card (sym k.1 ∙ f.is_head) in
    record {
      card = f.card;
      is_head = f.is_head;
      is_packet = f.is_packet;
      length_is = ap (λ i. get_or v.lengths i 0) (sym f.is_packet) ∙ h.lengths f.card (head_inside q σ.inside f.card f.is_head);
      fits_now = subst (λ (x : Card). x.bits ≤ get_or v.deficits q 0) same k.2;
    }

pub drr_sends : (v : DrrState) (σ : ServerState) (q p : ℕ) → WaitsInTurn v σ → σ.under ≡ None → v.visited ≡ Some q → first_of (list_at v.waiting q) ≡ Some p
    → Sends (Drr v.quanta) (WaitsInTurn (with_deficit v q (get_or v.deficits q 0 - get_or v.lengths p 0))) σ p
drr_sends v σ q p h idle visit e =
    let f = ready_head v σ q p h idle visit e in
    let c = f.card in
    let own : c.queue ≡ q = head_queue q σ.inside c f.is_head in
    let seen : visited_head v.visited v.deficits σ.inside ≡ Some c =
    ap (λ o. visited_head o v.deficits σ.inside) visit ∙ ap (λ o. fits o (get_or v.deficits q 0)) f.is_head ∙ fit_is c (get_or v.deficits q 0) f.fits_now in
    let v' = with_deficit v q (get_or v.deficits q 0 - get_or v.lengths p 0) in
    let round : round_of v' ≡ worked_round None c (round_of v) =
    ap (λ i. let x : Round = record { active = list_at v.turns 0; deficits = set v.deficits q (get_or v.deficits q 0 - i); visited = v.visited } in x) f.length_is
    ∙ ap (λ i. let x : Round = record { active = list_at v.turns 0; deficits = set v.deficits i (get_or v.deficits i 0 - c.bits); visited = v.visited } in x) (sym own) in
    record {
      card = c;
      packet_is = f.is_packet;
      picked = ap (λ (r : Round). visited_head r.visited r.deficits σ.inside) h.round_is ∙ seen;
      moved = λ a b w.
          let s : Under = record { card = c; before = done_so_far σ.under; last = record { start = a; end = b; bits = w } } in
          record {
            waits = waits_work (Drr v.quanta) v.waiting σ c a b w h.waits (ap (λ i. head_of i σ.inside) own ∙ f.is_head);
            round_is = ap (λ o. worked_round o c σ.round) idle ∙ ap (worked_round None c) h.round_is ∙ sym round;
            lengths = h.lengths;
            turn = subst (λ r. IsInTurn v.quanta σ.inside (Some s) r) (sym round)
                (turn_starts v.quanta σ.inside (round_of v) c s refl seen (subst (λ o. IsInTurn v.quanta σ.inside o (round_of v)) idle h.turn));
            room = room_deficit v q (get_or v.deficits q 0 - get_or v.lengths p 0) h.room;
          };
    }

-- ---- a visit
-- with other queues that wait for a visit
room_turns : (v : DrrState) (qs deficits : List ℕ) → HasRoom v
    → HasRoom (state_of v.waiting (with_list v.turns 0 qs) v.quanta deficits v.lengths None)
room_turns v qs deficits h = record {
  queues = h.queues;
  turn_nodes = h.turn_nodes;
  one_list = length-set v.turns.lists 0 qs ∙ h.one_list;
  lengths = h.lengths;
  small_quanta = h.small_quanta;
  small_lengths = h.small_lengths;
}

room_opened : (b : Bool) (q : ℕ) (v : DrrState) → HasRoom v → HasRoom (opened b q v)
room_opened true q v h = record { queues = h.queues; turn_nodes = h.turn_nodes; one_list = h.one_list; lengths = h.lengths; small_quanta = h.small_quanta; small_lengths = h.small_lengths }
room_opened false q v h = room_turns v (to_tail (list_at v.turns 0)) v.deficits h

opened_round : (q : ℕ) (v : DrrState) (c : Card) (d l : ℕ) → 0 < length v.turns.lists → l ≡ c.bits
    → round_of (opened (nat_le l d) q v) ≡ visit_on (fits (Some c) d) q (round_of v)
opened_round q v c d l h e = elim (cases_lt d c.bits) [
  | inl less ↦ rw (lt-leb l d (omega (arith, e, less)), fit_not c d less) (tail_round h)
  | inr more ↦ rw (le-leb l d (omega (arith, e, more)), fit_is c d more) refl
]
  where
    tail_round : 0 < length v.turns.lists → round_of (opened false q v) ≡ rotated (round_of v)
    tail_round h = ap (λ t. let x : Round = record { active = t; deficits = v.deficits; visited = None } in x) (list_same v.turns 0 (to_tail (list_at v.turns 0)) h)

-- the first queue of those that wait has a packet
pub record IsWaiting (v : DrrState) (σ : ServerState) (q : ℕ) : Type 0 where
  pub card : Card
  pub is_head : head_of q σ.inside ≡ Some card
  pub known : q < length v.quanta
  pub is_first : IsFirst q (list_at v.turns 0)

pub first_waits : (v : DrrState) (σ : ServerState) (q : ℕ) → WaitsInTurn v σ → first_of (list_at v.turns 0) ≡ Some q → IsWaiting v σ q
first_waits v σ q h e =
    let one = first_count q (list_at v.turns 0) e in
    let k = h.turn.round.lists q in
    elim (option_cases (head_of q σ.inside)) [
      | inl n ↦ absurd (let z : presence (head_of q σ.inside) ≡ 0 = ap presence n in omega (arith, one.0, k, z))
      | inr s ↦ record {
        card = s.0;
        is_head = s.1;
        known = (let o = Rattle.queue_sched.proofs.WaitingLemmas.known_queue v.waiting σ q s.0 h.waits s.1 in let r = h.room.queues in omega (arith, o, r));
        is_first = one.1;
      }
    ]

small_head : (v : DrrState) (σ : ServerState) (q : ℕ) (c : Card) → WaitsInTurn v σ → head_of q σ.inside ≡ Some c → c.bits ≤ 2 ^ 32
small_head v σ q c h e = let k = h.lengths c (head_inside q σ.inside c e) in let s = h.room.small_lengths c.packet in omega (arith, k, s)

pub drr_visits : (v : DrrState) (σ : ServerState) (q : ℕ) → WaitsInTurn v σ → σ.under ≡ None → v.visited ≡ None → first_of (list_at v.turns 0) ≡ Some q
    → MayVisit (Drr v.quanta) σ q × ((t : ℚ) → WaitsInTurn (turned v q) (next (Drr v.quanta) σ (Visits q t))) × (σ.inside ≢ [])
drr_visits v σ q h idle none e =
    let f = first_waits v σ q h e in
    let c = f.card in
    let d = get_or v.deficits q 0 + get_or v.quanta q 0 in
    let wd = with_deficit v q d in
    let length_is : get_or v.lengths c.packet 0 ≡ c.bits = h.lengths c (head_inside q σ.inside c f.is_head) in
    let first : first_of (list_at v.waiting q) ≡ Some c.packet = some_first v σ q c h f.is_head in
    let v' = turned v q in
    let is_opened : v' ≡ opened (nat_le (get_or v.lengths c.packet 0) d) q wd = ap (λ o. opened (fitting o v.lengths d) q wd) first in
    let one : 0 < length v.turns.lists = let o = h.room.one_list in omega (arith, o) in
    let round : round_of v' ≡ visited_round (get_or v.quanta q 0) (head_of q σ.inside) q (round_of v) =
    ap round_of is_opened ∙ opened_round q wd c d (get_or v.lengths c.packet 0) one length_is
    ∙ ap (λ o. visit_on (fits (Some c) d) q (let x : Round = record { active = list_at v.turns 0; deficits = set v.deficits q d; visited = o } in x)) none
    ∙ ap (λ o. visited_round (get_or v.quanta q 0) o q (round_of v)) (sym f.is_head) in
    let turn = turn_visits v.quanta σ.inside (round_of v) q (head_of q σ.inside) refl (λ x k. small_head v σ q x h k) f.known none f.is_first
    (subst (λ o. IsInTurn v.quanta σ.inside o (round_of v)) idle h.turn) in (
      record {
        idle = idle;
        no_visit = ap (λ (r : Round). r.visited) h.round_is ∙ none;
        is_first = subst (λ (r : Round). IsFirst q r.active) (sym h.round_is) f.is_first;
      },
      λ t. record {
        waits = subst (λ (w : DrrState). Waits w.waiting (next (Drr v.quanta) σ (Visits q t))) (sym is_opened)
            (by_bool (nat_le (get_or v.lengths c.packet 0) d) q wd (next (Drr v.quanta) σ (Visits q t)) (record { queues = h.waits.queues; first = h.waits.first }));
        round_is = ap (visited_round (get_or v.quanta q 0) (head_of q σ.inside) q) h.round_is ∙ sym round;
        lengths = subst (λ (w : DrrState). (x : Card) → IsInside σ.inside x → get_or w.lengths x.packet 0 ≡ x.bits) (sym is_opened)
            (by_bool_lengths (nat_le (get_or v.lengths c.packet 0) d) q wd σ.inside h.lengths);
        turn = subst (λ (w : DrrState). IsInTurn w.quanta σ.inside σ.under (round_of v')) (sym is_opened)
            (subst (λ x. IsInTurn x σ.inside σ.under (round_of v')) (sym (by_bool_quanta (nat_le (get_or v.lengths c.packet 0) d) q wd))
            (subst (λ o. IsInTurn v.quanta σ.inside o (round_of v')) (sym idle) (subst (λ r. IsInTurn v.quanta σ.inside None r) (sym round) turn)));
        room = subst (λ w. HasRoom w) (sym is_opened) (room_opened (nat_le (get_or v.lengths c.packet 0) d) q wd (room_deficit v q d h.room));
      },
      λ empty.
          let there : head_of q σ.inside ≡ Some c = f.is_head in
          let gone : head_of q σ.inside ≡ None = ap (head_of q) empty in
          cc,
    )
  where
    by_bool : (b : Bool) (q : ℕ) (v : DrrState) (τ : ServerState) → Waits v.waiting τ → Waits (opened b q v).waiting τ
    by_bool true q v τ w = w
    by_bool false q v τ w = w

    by_bool_lengths : (b : Bool) (q : ℕ) (v : DrrState) (cs : List Card) → ((x : Card) → IsInside cs x → get_or v.lengths x.packet 0 ≡ x.bits)
        → (x : Card) → IsInside cs x → get_or (opened b q v).lengths x.packet 0 ≡ x.bits
    by_bool_lengths true q v cs h = h
    by_bool_lengths false q v cs h = h

    by_bool_quanta : (b : Bool) (q : ℕ) (v : DrrState) → (opened b q v).quanta ≡ v.quanta
    by_bool_quanta true q v = refl
    by_bool_quanta false q v = refl

-- where none waits for a visit there is no packet
pub drr_none : (v : DrrState) (σ : ServerState) → WaitsInTurn v σ → first_of (list_at v.turns 0) ≡ None → σ.inside ≡ []
drr_none v σ h e = none_inside σ.inside (λ q. ap first_of (h.waits.queues q) ∙ no_first v σ q h (elim (option_cases (head_of q σ.inside)) [
  | inl n ↦ n
  | inr s ↦ absurd (
      let k = h.turn.round.lists q in
      let one : presence (head_of q σ.inside) ≡ 1 = ap presence s.1 in
      let none : list_at v.turns 0 ≡ [] = empty_of (list_at v.turns 0) e in
      let z : count_of q (list_at v.turns 0) ≡ 0 = ap (count_of q) none in
      omega (arith, k, one, z))
]))
  where
    empty_of : (ks : List ℕ) → first_of ks ≡ None → ks ≡ []
    empty_of [] e = refl
    empty_of (k ∷ ks) e = absurd (cc)

-- ---- a packet leaves
left_lists : (v : DrrState) (σ : ServerState) (u : Under) → WaitsInTurn v σ → σ.under ≡ Some u
    → HasLeft (quantum_of v.quanta) longest (without_head u.card.queue σ.inside) (round_of v) u.card.queue
left_lists v σ u h busy =
    let q = u.card.queue in
    let r = subst (λ o. IsRound (quantum_of v.quanta) longest σ.inside o (round_of v)) busy h.turn.round in
    let head = h.waits.first u busy in
    let o = r.opened q r.of_visit in
    record {
      lists = λ j k. rw (head_without j q σ.inside (λ g. k (sym g))) (r.lists j);
      once = r.lists q ∙ ap presence head;
      is_first = subst (λ x. VisitIsFirst x (list_at v.turns 0)) r.of_visit r.is_first;
      visited = r.of_visit;
      empty = λ j k n. r.empty j (sym (head_without j q σ.inside (λ g. k (sym g))) ∙ n);
      closed = λ j k. r.closed j (λ g. k (same_some j q (sym g ∙ r.of_visit)));
      opened = omega (arith, o);
    }

-- the packet under way is the first of the visited queue
pub record IsVisiting (v : DrrState) (q p : ℕ) : Type 0 where
  pub visited : v.visited ≡ Some q
  pub first : first_of (list_at v.waiting q) ≡ Some p
  pub known : q < length v.quanta
  pub turns : first_of (list_at v.turns 0) ≡ Some q

pub is_visiting : (v : DrrState) (σ : ServerState) (u : Under) → WaitsInTurn v σ → σ.under ≡ Some u → IsVisiting v u.card.queue u.card.packet
is_visiting v σ u h busy =
    let l = left_lists v σ u h busy in
    record {
      visited = l.visited;
      first = some_first v σ u.card.queue u.card h (h.waits.first u busy);
      known = (let o = Rattle.queue_sched.proofs.WaitingLemmas.known_queue v.waiting σ u.card.queue u.card h.waits (h.waits.first u busy) in let r = h.room.queues in omega (arith, o, r));
      turns = is_first_of u.card.queue (list_at v.turns 0) l.is_first;
    }

room_waiting : (v : DrrState) (q : ℕ) (xs : List ℕ) → HasRoom v → HasRoom (with_waiting v (with_list v.waiting q xs))
room_waiting v q xs h = record {
  queues = length-set v.waiting.lists q xs ∙ h.queues;
  turn_nodes = h.turn_nodes;
  one_list = h.one_list;
  lengths = h.lengths;
  small_quanta = h.small_quanta;
  small_lengths = h.small_lengths;
}

room_emptied : (v : DrrState) (q : ℕ) → HasRoom v → HasRoom (emptied v q)
room_emptied v q h = room_turns v (drop 1 (list_at v.turns 0)) (set v.deficits q 0) h

-- what stays where a visit goes on or ends
pub record IsKept (v w : DrrState) : Type 0 where
  pub waiting : w.waiting ≡ v.waiting
  pub quanta : w.quanta ≡ v.quanta
  pub lengths : w.lengths ≡ v.lengths

kept_opened : (b : Bool) (q : ℕ) (v : DrrState) → IsKept v (opened b q v)
kept_opened true q v = record { waiting = refl; quanta = refl; lengths = refl }
kept_opened false q v = record { waiting = refl; quanta = refl; lengths = refl }

kept_left : (o : Option ℕ) (v : DrrState) (q : ℕ) → IsKept v (left_with o v q)
kept_left None v q = record { waiting = refl; quanta = refl; lengths = refl }
kept_left (Some p) v q = kept_opened (nat_le (get_or v.lengths p 0) (get_or v.deficits q 0)) q v

room_left : (o : Option ℕ) (v : DrrState) (q : ℕ) → HasRoom v → HasRoom (left_with o v q)
room_left None v q h = room_emptied v q h
room_left (Some p) v q h = room_opened (nat_le (get_or v.lengths p 0) (get_or v.deficits q 0)) q v h

left_round_is : (v : DrrState) (q : ℕ) (o : Option ℕ) (x : Option Card) → 0 < length v.turns.lists → (x ≡ None → o ≡ None)
    → ((c : Card) → x ≡ Some c → (o ≡ Some c.packet) × (get_or v.lengths c.packet 0 ≡ c.bits)) → round_of (left_with o v q) ≡ left_round x q (round_of v)
left_round_is v q o None h n s =
    ap (λ i. round_of (left_with i v q)) (n refl)
    ∙ ap (λ t. let x : Round = record { active = t; deficits = set v.deficits q 0; visited = None } in x) (list_same v.turns 0 (drop 1 (list_at v.turns 0)) h)
left_round_is v q o (Some c) h n s =
    let k = s c refl in
    ap (λ i. round_of (left_with i v q)) k.0 ∙ opened_round q v c (get_or v.deficits q 0) (get_or v.lengths c.packet 0) h k.1

pub drr_left : (v : DrrState) (σ : ServerState) (u : Under) (t : ℚ) → WaitsInTurn v σ → σ.under ≡ Some u
    → (let q = u.card.queue in
    let w = with_waiting v (with_list v.waiting q (drop 1 (list_at v.waiting q))) in
    WaitsInTurn (left_with (first_of (list_at w.waiting q)) w q) (next (Drr v.quanta) σ (Leaves u.card t)))
drr_left v σ u t h busy =
    let q = u.card.queue in
    let known = Rattle.queue_sched.proofs.WaitingLemmas.known_queue v.waiting σ q u.card h.waits (h.waits.first u busy) in
    let w = with_waiting v (with_list v.waiting q (drop 1 (list_at v.waiting q))) in
    let τ = next (Drr v.quanta) σ (Leaves u.card t) in
    let o = first_of (list_at w.waiting q) in
    let v' = left_with o w q in
    let rest = without_head q σ.inside in
    let waits : Waits w.waiting τ = waits_left (Drr v.quanta) v.waiting σ u.card t h.waits known in
    let lengths : (c : Card) → IsInside rest c → get_or v.lengths c.packet 0 ≡ c.bits = λ c i. h.lengths c (inside_rest q σ.inside c i) in
    let none : head_of q rest ≡ None → o ≡ None = λ e. elim (option_cases o) [
      | inl n ↦ n
      | inr k ↦
          let r = waiting_first w.waiting τ q k.0 waits k.1 in
          absurd (let f : None ≡ Some r.card = sym e ∙ r.is_head in cc)
    ] in
    let some : (c : Card) → head_of q rest ≡ Some c → (o ≡ Some c.packet) × (get_or w.lengths c.packet 0 ≡ c.bits) =
    λ c e. (ap first_of (sym (waits.queues q)) ∙ head_first q rest c e, lengths c (head_inside q rest c e)) in
    let one : 0 < length v.turns.lists = let k = h.room.one_list in omega (arith, k) in
    let round : round_of v' ≡ left_round (head_of q rest) q (round_of w) = left_round_is w q o (head_of q rest) one none some in
    let kept = kept_left o w q in
    let small : (c : Card) → head_of q rest ≡ Some c → c.bits ≤ 2 ^ 32 =
    λ c e. (let k = lengths c (head_inside q rest c e) in let s = h.room.small_lengths c.packet in omega (arith, k, s)) in
    let turn : IsInTurn v.quanta rest None (left_round (head_of q rest) q (round_of w)) =
    turn_left v.quanta rest (round_of v) q (head_of q rest) refl small h.turn.long (left_lists v σ u h busy) in
    record {
      waits = subst (λ x. Waits x τ) (sym kept.waiting) waits;
      round_is = ap (left_round (head_of q rest) q) h.round_is ∙ sym round;
      lengths = subst (λ (ls : List ℕ). (c : Card) → IsInside rest c → get_or ls c.packet 0 ≡ c.bits) (sym kept.lengths) lengths;
      turn = subst (λ x. IsInTurn x rest None (round_of v')) (sym kept.quanta) (subst (λ r. IsInTurn v.quanta rest None r) (sym round) turn);
      room = room_left o w q (room_waiting v q (drop 1 (list_at v.waiting q)) h.room);
    }

-- the first node of a queue's list tells whether the queue has a packet
pub head_cases : (v : DrrState) (σ : ServerState) (q : ℕ) → WaitsInTurn v σ → first_of (list_at v.waiting q) ≡ None → head_of q σ.inside ≡ None
head_cases v σ q h e = no_head q σ.inside (ap first_of (h.waits.queues q) ∙ e)

pub none_of : (o : Option ℕ) → Rattle.std.specs.Prelude.is_some o ≡ false → o ≡ None
none_of None e = refl
none_of (Some x) e = absurd (cc)

pub some_not_none : (o : Option ℕ) → Rattle.std.specs.Prelude.is_some o ≡ true → o ≢ None
some_not_none None e n = absurd (cc)
some_not_none (Some x) e n = absurd (cc)
