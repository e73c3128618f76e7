-- Deficit round robin along a stretch of a queue: turns, and the bits that were started.
use Rattle.run_laws.proofs.Sizes.{whole_sum}
use Rattle.std.specs.Prelude.{Option, Some, None, ◌≡◌, ◌≢◌, ◌≤◌, ◌<◌, ◌+◌, ◌-◌, ◌*◌, ℕ, pos, ◌==◌, Bool, true, false, List, [], ◌∷◌, ◌++◌, length, get_or, set, if◌then◌else◌}
use Rattle.std.proofs.Common.{arith, sym, ap, ◌∙◌, refl, inl, inr, subst}
use Rattle.std.proofs.lemmas.Bool.{cases_Bool, cases_eq, eqb-true, eq-eqb, both_ways}
use Rattle.std.proofs.lemmas.List.{get_or-set_same, length-set}
use Rattle.rational.specs.Rational.{ℚ, int, ◌+ℚ◌}
use Rattle.rational.proofs.Linear.{with1, with2, with3, with8}
use Rattle.run_laws.specs.Cards.{Card, size, whole, ServerStep, Arrives, Works, Leaves, Visits, time_of, of_queue}
use Rattle.run_laws.specs.Servers.{Discipline, Drr, Server, Round, Under, ServerState, head_of, without_head}
use Rattle.run_laws.specs.Next.{next, next_under, next_inside, next_visits, next_round, after, fits, visit_on, left_round, arrived_round, worked_round, visited_round}
use Rattle.run_laws.specs.Allows.{Allows, AllAllowed, MayLeave, MayVisit, IsVisit, next_card}
use Rattle.run_laws.specs.Counts.{when, total, leaves}
use Rattle.run_laws.proofs.Sums.{Each}
use Rattle.run_laws.proofs.Heads.{same_some}
use Rattle.run_laws.proofs.Cuts.{IsBefore}
use Rattle.run_laws.proofs.States.{IsSound, sound_next, leaving, if_true}
use Rattle.run_laws.proofs.Orders.{AllSmall}
use Rattle.run_laws.proofs.Places.{under_bits}
use Rattle.run_laws.specs.Rounds.{presence, same_queue, count_of, IsRound}
use Rattle.run_laws.proofs.Rounds.{has_left, round_next, is_started, own_count, other_count, set_other, head_without, first_counts}
use Rattle.residual_laws.proofs.Turns.{HasHadTurns, started_of, turn_arrives, turn_works, turn_left, turn_visits}

-- ---- what the steps do to the deficits
arrived_deficits : (x : Option Card) (q : ℕ) (r : Round) → (arrived_round x q r).deficits ≡ r.deficits
arrived_deficits None q r = refl
arrived_deficits (Some c) q r = refl

on_deficits : (x : Option Card) (q : ℕ) (r : Round) → (visit_on x q r).deficits ≡ r.deficits
on_deficits None q r = refl
on_deficits (Some c) q r = refl

left_deficits : (x : Option Card) (q i : ℕ) (r : Round) → (q ≡ i → (c : Card) × (x ≡ Some c))
    → get_or (left_round x q r).deficits i 0 ≡ get_or r.deficits i 0
left_deficits None q i r f = elim (cases_eq i q) [
  | inl e ↦ let k = f (sym e) in let m = k.1 in absurd (cc)
  | inr e ↦ set_other r.deficits q i 0 e
]
left_deficits (Some c) q i r f = ap (λ (xs : List ℕ). get_or xs i 0) (on_deficits (fits (Some c) (get_or r.deficits q 0)) q r)

left_length : (x : Option Card) (q : ℕ) (r : Round) → length (left_round x q r).deficits ≡ length r.deficits
left_length None q r = length-set r.deficits q 0
left_length (Some c) q r = ap (λ (xs : List ℕ). length xs) (on_deficits (fits (Some c) (get_or r.deficits q 0)) q r)

worked_length : (under : Option Under) (c : Card) (r : Round) → length (worked_round under c r).deficits ≡ length r.deficits
worked_length None c r = length-set r.deficits c.queue _
worked_length (Some u) c r = refl

visited_length : (k : ℕ) (x : Option Card) (q : ℕ) (r : Round) → length (visited_round k x q r).deficits ≡ length r.deficits
visited_length k x q r =
    ap (λ (xs : List ℕ). length xs) (on_deficits (fits x (get_or r.deficits q 0 + k)) q record { active = r.active; deficits = set r.deficits q (get_or r.deficits q 0 + k); visited = None })
    ∙ length-set r.deficits q (get_or r.deficits q 0 + k)

pub long_next : (quanta : List ℕ) (σ : ServerState) (x : ServerStep) → length (next_visits quanta σ x).deficits ≡ length σ.round.deficits
long_next quanta σ (Arrives c t) = ap (λ (xs : List ℕ). length xs) (arrived_deficits (head_of c.queue σ.inside) c.queue σ.round)
long_next quanta σ (Works c a b w) = worked_length σ.under c σ.round
long_next quanta σ (Leaves c t) = left_length (head_of c.queue (without_head c.queue σ.inside)) c.queue σ.round
long_next quanta σ (Visits q t) = visited_length (get_or quanta q 0) (head_of q σ.inside) q σ.round

-- ---- counters
abbrev pub visit_of : ℕ → ServerStep → ℕ
visit_of j (Arrives c t) = 0
visit_of j (Works c a b w) = 0
visit_of j (Leaves c t) = 0
visit_of j (Visits q t) = same_queue q j

abbrev pub start_of : ℕ → Option Under → ServerStep → ℕ
start_of j under (Arrives c t) = 0
start_of j under (Works c a b w) = started_of j under c
start_of j under (Leaves c t) = 0
start_of j under (Visits q t) = 0

abbrev pub visits_of : ℕ → List ServerStep → ℕ
visits_of j [] = 0
visits_of j (x ∷ xs) = visit_of j x + visits_of j xs

-- the bits of queue j's packets that are started
abbrev pub starts_of : ℕ → Discipline → ServerState → List ServerStep → ℕ
starts_of j d σ [] = 0
starts_of j d σ (x ∷ xs) = start_of j σ.under x + starts_of j d (next d σ x) xs

-- ---- what i was given: m turns
own_worked : (quanta : List ℕ) (i : ℕ) (cards : List Card) (under : Option Under) (r : Round) (c : Card) (m g : ℕ) → i < length r.deficits
    → next_card under (Drr quanta) cards r ≡ Some c → m * get_or quanta i 0 ≤ g + get_or r.deficits i 0
    → m * get_or quanta i 0 ≤ g + started_of i under c + get_or (worked_round under c r).deficits i 0
own_worked quanta i cards (Some u) r c m g l k h = omega arith
own_worked quanta i cards None r c m g l k h =
    let s = is_started r r.visited cards c refl k in
    let fit = s.fitting in
    elim (cases_Bool (c.queue == i)) [
      | inl e ↦
          let f = eqb-true c.queue i e in
          let fit_i : c.bits ≤ get_or r.deficits i 0 = subst (λ (q : ℕ). c.bits ≤ get_or r.deficits q 0) f fit in
          let same : get_or (set r.deficits c.queue (get_or r.deficits c.queue 0 - c.bits)) i 0 ≡ get_or r.deficits i 0 - c.bits =
          subst (λ (q : ℕ). get_or (set r.deficits q (get_or r.deficits q 0 - c.bits)) i 0 ≡ get_or r.deficits i 0 - c.bits) (sym f) (get_or-set_same r.deficits i (get_or r.deficits i 0 - c.bits) 0 l) in
          rw e (omega arith)
      | inr e ↦
          let same = set_other r.deficits c.queue i (get_or r.deficits c.queue 0 - c.bits) (λ g. both_ways (c.queue == i) e (eq-eqb c.queue i (sym g))) in
          rw e (omega arith)
    ]

own_visited : (quanta : List ℕ) (i q : ℕ) (x : Option Card) (r : Round) (m g : ℕ) → i < length r.deficits
    → m * get_or quanta i 0 ≤ g + get_or r.deficits i 0
    → (m + same_queue q i) * get_or quanta i 0 ≤ g + get_or (visited_round (get_or quanta q 0) x q r).deficits i 0
own_visited quanta i q x r m g l h =
    let D = get_or r.deficits q 0 + get_or quanta q 0 in
    let same : get_or (visited_round (get_or quanta q 0) x q r).deficits i 0 ≡ get_or (set r.deficits q D) i 0 =
    ap (λ (xs : List ℕ). get_or xs i 0) (on_deficits (fits x D) q record { active = r.active; deficits = set r.deficits q D; visited = None }) in
    elim (cases_eq q i) [
      | inl e ↦
          let one : same_queue q i ≡ 1 = rw e (own_count i) in
          let put : get_or (set r.deficits q D) i 0 ≡ get_or r.deficits i 0 + get_or quanta i 0 =
          subst (λ (k : ℕ). get_or (set r.deficits k (get_or r.deficits k 0 + get_or quanta k 0)) i 0 ≡ get_or r.deficits i 0 + get_or quanta i 0) (sym e) (get_or-set_same r.deficits i (get_or r.deficits i 0 + get_or quanta i 0) 0 l) in
          rw (one, same, put) (omega arith)
      | inr e ↦
          let none : same_queue q i ≡ 0 = other_count q i e in
          let put = set_other r.deficits q i D (λ f. e (sym f)) in
          rw (none, same, put) (omega arith)
    ]

-- ---- all of this at a place
pub record IsAlong (quanta : List ℕ) (l : ℕ → ℕ) (i j : ℕ) (σ : ServerState) (m n G g : ℕ) : Type 0 where
  pub sound : IsSound σ
  pub round : IsRound (λ q. get_or quanta q 0) l σ.inside σ.under σ.round
  pub turn : HasHadTurns (λ q. get_or quanta q 0) l i j σ.inside σ.round m n G
  pub own : m * get_or quanta i 0 ≤ g + get_or σ.round.deficits i 0
  pub long : length σ.round.deficits ≡ length quanta

-- a packet of the queue is there
pub record IsHere (i : ℕ) (σ : ServerState) : Type 0 where
  pub first : Card
  pub is : head_of i σ.inside ≡ Some first

-- where nothing is counted: neither a visit, nor bits of a packet that starts
no_visit : (Q l : ℕ → ℕ) (i j : ℕ) (cards : List Card) (r : Round) (m n G : ℕ) → HasHadTurns Q l i j cards r m n G
    → HasHadTurns Q l i j cards r (m + 0) (n + 0) G
no_visit Q l i j cards r m n G k = rw (add_zero m, add_zero n) k
  where
    add_zero : (a : ℕ) → a + 0 ≡ a
    add_zero a = omega arith

no_start : (Q l : ℕ → ℕ) (i j : ℕ) (cards : List Card) (r : Round) (m n G : ℕ) → HasHadTurns Q l i j cards r m n G
    → HasHadTurns Q l i j cards r (m + 0) (n + 0) (G + 0)
no_start Q l i j cards r m n G k =
    let same : G + 0 ≡ G = omega arith in
    rw same (no_visit Q l i j cards r m n G k)

turn_next : (server : Server) (end : ℚ) (quanta : List ℕ) (l : ℕ → ℕ) (i j : ℕ) (σ : ServerState) (x : ServerStep) (m n G g : ℕ)
    → server.discipline ≡ Drr quanta → j ≢ i → Allows server end σ x → IsHere i σ
    → IsAlong quanta l i j σ m n G g
    → HasHadTurns (λ q. get_or quanta q 0) l i j (next_inside σ.inside x) (next_visits quanta σ x) (m + visit_of i x) (n + visit_of j x) (G + start_of j σ.under x)
turn_next server end quanta l i j σ (Arrives c t) m n G g e d a here h =
    let k = turn_arrives (λ q. get_or quanta q 0) l i j σ.inside σ.under σ.round m n G c here.first (head_of c.queue σ.inside) d refl here.is h.round h.turn in
    no_start (λ q. get_or quanta q 0) l i j (σ.inside ++ c ∷ []) (arrived_round (head_of c.queue σ.inside) c.queue σ.round) m n G k
turn_next server end quanta l i j σ (Works c b f w) m n G g e d a here h =
    let k : next_card σ.under (Drr quanta) σ.inside σ.round ≡ Some c = subst (λ (y : Discipline). next_card σ.under y σ.inside σ.round ≡ Some c) e a.1.is_next in
    let t = turn_works (λ q. get_or quanta q 0) l quanta i j σ.inside σ.under σ.round m n G c k h.turn in
    no_visit (λ q. get_or quanta q 0) l i j σ.inside (worked_round σ.under c σ.round) m n (G + started_of j σ.under c) t
turn_next server end quanta l i j σ (Leaves c t) m n G g e d a here h =
    let left = has_left (λ q. get_or quanta q 0) l σ.inside σ.busy σ.under σ.round c t h.sound a.1 h.round in
    let head = leaving σ.inside σ.busy σ.under c t h.sound a.1 in
    let k = turn_left (λ q. get_or quanta q 0) l i j σ.inside (without_head c.queue σ.inside) σ.round m n G c.queue (head_of c.queue (without_head c.queue σ.inside)) d refl
    (λ f. head_without j c.queue σ.inside f) left.visited left.is_first (h.round.lists i ∙ ap presence here.is) (λ f. subst (λ (q : ℕ). count_of q σ.round.active ≡ 1) f left.once) h.turn in
    no_start (λ q. get_or quanta q 0) l i j (without_head c.queue σ.inside) (left_round (head_of c.queue (without_head c.queue σ.inside)) c.queue σ.round) m n G k
turn_next server end quanta l i j σ (Visits q t) m n G g e d a here h =
    let v : IsVisit σ q = subst (λ (y : Discipline). MayVisit y σ q) e a.1 in
    by_head (head_of q σ.inside) refl v
  where
    by_head : (x : Option Card) → head_of q σ.inside ≡ x → IsVisit σ q
        → HasHadTurns (λ q. get_or quanta q 0) l i j σ.inside (visited_round (get_or quanta q 0) x q σ.round) (m + same_queue q i) (n + same_queue q j) (G + 0)
    by_head None f v =
        let k = h.round.lists q in
        let o = first_counts q σ.round.active v.is_first in
        let z : presence (head_of q σ.inside) ≡ 0 = ap presence f in
        absurd (omega arith)
    by_head (Some c) f v =
        let k = turn_visits (λ q. get_or quanta q 0) l i j σ.inside σ.under σ.round m n G q c here.first d f here.is v.no_visit v.is_first h.round h.turn in
        let zero_more : G + 0 ≡ G = omega arith in
        rw zero_more k

own_next : (server : Server) (end : ℚ) (quanta : List ℕ) (l : ℕ → ℕ) (i j : ℕ) (σ : ServerState) (x : ServerStep) (m n G g : ℕ)
    → server.discipline ≡ Drr quanta → i < length quanta → Allows server end σ x → IsHere i (next server.discipline σ x)
    → IsAlong quanta l i j σ m n G g
    → (m + visit_of i x) * get_or quanta i 0 ≤ g + start_of i σ.under x + get_or (next_visits quanta σ x).deficits i 0
own_next server end quanta l i j σ (Arrives c t) m n G g e r a here h =
    let o = h.own in
    let d : get_or (arrived_round (head_of c.queue σ.inside) c.queue σ.round).deficits i 0 ≡ get_or σ.round.deficits i 0 = ap (λ (xs : List ℕ). get_or xs i 0) (arrived_deficits (head_of c.queue σ.inside) c.queue σ.round) in
    omega arith
own_next server end quanta l i j σ (Works c b f w) m n G g e r a here h =
    let k : next_card σ.under (Drr quanta) σ.inside σ.round ≡ Some c = subst (λ (y : Discipline). next_card σ.under y σ.inside σ.round ≡ Some c) e a.1.is_next in
    let o = own_worked quanta i σ.inside σ.under σ.round c m g (rw h.long r) k h.own in
    let zero_more : m + 0 ≡ m = omega arith in
    rw zero_more o
own_next server end quanta l i j σ (Leaves c t) m n G g e r a here h =
    let o = h.own in
    let d = left_deficits (head_of c.queue (without_head c.queue σ.inside)) c.queue i σ.round (λ f. (here.first, subst (λ (q : ℕ). head_of q (without_head c.queue σ.inside) ≡ Some here.first) (sym f) here.is)) in
    omega arith
own_next server end quanta l i j σ (Visits q t) m n G g e r a here h =
    let o = own_visited quanta i q (head_of q σ.inside) σ.round m g (rw h.long r) h.own in
    let zero_more : g + 0 ≡ g = omega arith in
    rw zero_more o

-- ---- along the steps
pub along : (server : Server) (end : ℚ) (quanta : List ℕ) (l : ℕ → ℕ) (i j : ℕ) (σ : ServerState) (R : List ServerStep) (m n G g : ℕ)
    → server.discipline ≡ Drr quanta → j ≢ i → i < length quanta → AllAllowed server end σ R
    → ((front back : List ServerStep) → R ≡ front ++ back → IsHere i (after server.discipline σ front))
    → ((front back : List ServerStep) → R ≡ front ++ back → (q : ℕ) → AllSmall (of_queue q) (l q) (after server.discipline σ front).inside)
    → IsAlong quanta l i j σ m n G g
    → IsAlong quanta l i j (after server.discipline σ R) (m + visits_of i R) (n + visits_of j R) (G + starts_of j server.discipline σ R) (g + starts_of i server.discipline σ R)
along server end quanta l i j σ [] m n G g e d r a here small h = rw (add_zero m, add_zero n, add_zero G, add_zero g) h
  where
    add_zero : (a : ℕ) → a + 0 ≡ a
    add_zero a = omega arith
along server end quanta l i j σ (x ∷ R) m n G g e d r a here small h =
    let D = server.discipline in
    let σ2 = next D σ x in
    let here_now = here [] (x ∷ R) refl in
    let here_next = here (x ∷ []) R refl in
    let round_now : IsRound (λ q. get_or quanta q 0) l σ2.inside σ2.under σ2.round = subst (λ (y : Discipline). IsRound (λ q. get_or quanta q 0) l (next_inside σ.inside x) (next_under σ.under x) (next_round y σ x)) (sym e)
    (round_next server end quanta l σ x e a.0 h.sound (small (x ∷ []) R refl) (small [] (x ∷ R) refl) h.round) in
    let turn_now : HasHadTurns (λ q. get_or quanta q 0) l i j σ2.inside σ2.round (m + visit_of i x) (n + visit_of j x) (G + start_of j σ.under x) =
    subst (λ (y : Discipline). HasHadTurns (λ q. get_or quanta q 0) l i j (next_inside σ.inside x) (next_round y σ x) (m + visit_of i x) (n + visit_of j x) (G + start_of j σ.under x)) (sym e)
    (turn_next server end quanta l i j σ x m n G g e d a.0 here_now h) in
    let own_now : (m + visit_of i x) * get_or quanta i 0 ≤ g + start_of i σ.under x + get_or σ2.round.deficits i 0 =
    subst (λ (y : Discipline). (m + visit_of i x) * get_or quanta i 0 ≤ g + start_of i σ.under x + get_or (next_round y σ x).deficits i 0) (sym e)
    (own_next server end quanta l i j σ x m n G g e r a.0 here_next h) in
    let long_now : length σ2.round.deficits ≡ length quanta =
    subst (λ (y : Discipline). length (next_round y σ x).deficits ≡ length quanta) (sym e) (long_next quanta σ x ∙ h.long) in
    let rest = along server end quanta l i j σ2 R (m + visit_of i x) (n + visit_of j x) (G + start_of j σ.under x) (g + start_of i σ.under x) e d r a.1
    (λ front back k. here (x ∷ front) back (ap (λ (xs : List ServerStep). x ∷ xs) k)) (λ front back k. small (x ∷ front) back (ap (λ (xs : List ServerStep). x ∷ xs) k))
    record { sound = sound_next server end σ x a.0 h.sound; round = round_now; turn = turn_now; own = own_now; long = long_now } in
    rw (← add_assoc m (visit_of i x) (visits_of i R), ← add_assoc n (visit_of j x) (visits_of j R), ← add_assoc G (start_of j σ.under x) (starts_of j D σ2 R), ← add_assoc g (start_of i σ.under x) (starts_of i D σ2 R)) rest
  where
    add_assoc : (a b c : ℕ) → a + b + c ≡ a + (b + c)
    add_assoc a b c = omega arith

-- ---- the bits that left and are under way are those that were under way and were started
whole_if : (b : Bool) (n : ℕ) → whole (if b then n else 0) ≡ when b (whole n)
unfolding when
whole_if true n = refl
whole_if false n = refl

started_bits : (under : Option Under) (d : Discipline) (cards : List Card) (r : Round) (j : ℕ) (c : Card)
    → next_card under d cards r ≡ Some c → when (c.queue == j) (size c) ≡ under_bits (of_queue j) under +ℚ whole (started_of j under c)
started_bits None d cards r j c h =
    let k = whole_if (c.queue == j) c.bits in
    with2 (when (c.queue == j) (size c)) (whole (if c.queue == j then c.bits else 0)) (λ c. omega (arith, c.le, c.lt, c.same))
started_bits (Some u) d cards r j c h =
    let same : u.card ≡ c = same_some u.card c h in
    subst (λ (x : Card). when (x.queue == j) (size x) ≡ when (u.card.queue == j) (size u.card) +ℚ int (pos 0)) same (with1 (when (u.card.queue == j) (size u.card)) (λ c. omega (arith, c.le, c.lt, c.same)))

left_bits : (under : Option Under) (j : ℕ) (c : Card) (t : ℚ) → MayLeave under c t
    → when (c.queue == j) (size c) ≡ under_bits (of_queue j) under
left_bits None j c t m = absurd m
left_bits (Some u) j c t m = subst (λ (x : Card). when (x.queue == j) (size x) ≡ when (u.card.queue == j) (size u.card)) m.is_card refl

moved_next : (server : Server) (end : ℚ) (σ : ServerState) (x : ServerStep) (j : ℕ) (p : ℚ → Bool) → Allows server end σ x
    → p (time_of x) ≡ true
    → under_bits (of_queue j) (next_under σ.under x) +ℚ leaves (of_queue j) p x ≡ under_bits (of_queue j) σ.under +ℚ whole (start_of j σ.under x)
moved_next server end σ (Arrives c t) j p a e = refl
moved_next server end σ (Works c b f w) j p a e =
    let k = started_bits σ.under server.discipline σ.inside σ.round j c a.1.is_next in
    with3 (when (c.queue == j) (size c)) (under_bits (of_queue j) σ.under) (whole (started_of j σ.under c)) (λ c. omega (arith, c.le, c.lt, c.same))
moved_next server end σ (Leaves c t) j p a e =
    let k = left_bits σ.under j c t a.1 in
    rw (if_true (c.queue == j) (p t) (size c) e) (with2 (when (c.queue == j) (size c)) (under_bits (of_queue j) σ.under) (λ c. omega (arith, c.le, c.lt, c.same)))
moved_next server end σ (Visits q t) j p a e = refl

pub moved : (server : Server) (end : ℚ) (σ : ServerState) (R : List ServerStep) (j : ℕ) (p : ℚ → Bool) → AllAllowed server end σ R
    → Each (IsBefore p) R
    → under_bits (of_queue j) (after server.discipline σ R).under +ℚ total (leaves (of_queue j) p) R ≡ under_bits (of_queue j) σ.under +ℚ whole (starts_of j server.discipline σ R)
moved server end σ [] j p a e = refl
moved server end σ (x ∷ R) j p a e =
    let D = server.discipline in
    let one = moved_next server end σ x j p a.0 e.0 in
    let rest = moved server end (next D σ x) R j p a.1 e.1 in
    let sum = whole_sum (start_of j σ.under x) (starts_of j D (next D σ x) R) in
    with8 (under_bits (of_queue j) (after D (next D σ x) R).under) (total (leaves (of_queue j) p) R) (leaves (of_queue j) p x) (under_bits (of_queue j) (next_under σ.under x)) (under_bits (of_queue j) σ.under) (whole (start_of j σ.under x)) (whole (starts_of j D (next D σ x) R)) (whole (start_of j σ.under x + starts_of j D (next D σ x) R)) (λ c. omega (arith, c.le, c.lt, c.same))
