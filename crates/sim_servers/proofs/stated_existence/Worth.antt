-- Each step of a stated run takes away from a number: how often the servers can still work, and what comes of that.
use Rattle.std.proofs.Common.{◌≡◌, ℕ, zero, suc, ◌<◌, ◌≤◌, ◌+◌, ◌*◌, ◌-◌, ◌^◌, List, [], ◌∷◌, length, get_or, set, refl, sym, ap, ◌∙◌, subst, arith, inl, inr, Some, None}
use Rattle.std.specs.Prelude.{Option, pos, nat_le, ◌<ℤ◌, ◌≤ℤ◌}
use Rattle.std.proofs.lemmas.Bool.{cases_Bool, leb-true, leb-false}
use Rattle.std.proofs.lemmas.Int.{ints}
use Rattle.std.proofs.lemmas.List.{length_push}
use Rattle.rational.specs.Rational.{ℚ, int, ◌+ℚ◌, ◌-ℚ◌, ◌*ℚ◌, ◌≤ℚ◌, ◌<ℚ◌}
use Rattle.rational.specs.Grid.{Whole}
use Rattle.rational.specs.Whole.{whole_part}
use Rattle.rational.proofs.Grid.{whole_sub}
use Rattle.rational.proofs.Whole.{whole_le, whole_gt}
use Rattle.rational.proofs.Integers.{int_le, int_lt_out, nat_lt, nat_lt_out, nat_next, nat_nonneg}
use Rattle.rational.proofs.Linear.{with2, with4}
use Rattle.rational.proofs.Laws.{le_refl, le_trans, le_lt_trans, add_le_add, add_mul, mul_nonneg, mul_pos, mul_le_mul_right}
use Rattle.run_laws.specs.Cards.{Card, Visits, whole}
use Rattle.run_laws.specs.Servers.{Discipline, Fifo, Priority, Drr, queue_count, Under, Round, ServerState, head_of}
use Rattle.run_laws.specs.Next.{next, fits, visit_on}
use Rattle.run_laws.specs.Allows.{MayVisit}
use Rattle.run_laws.specs.Rounds.{presence}
use Rattle.run_laws.specs.Routes.{server_at}
use Rattle.run_laws.specs.Lawful.{Due, same_due, without, sent}
use Rattle.run_laws.proofs.Rounds.{first_counts}
use Rattle.net_model.specs.stated_runs.Setups.{Setup}
use Rattle.net_model.proofs.stated_runs.Lists.{In}
use Rattle.net_model.proofs.stated_runs.Turning.{KeepsTurns, AreHeads, head_cases}
use Rattle.sim_servers.proofs.sim_states.Places.{later_due}

-- ---- how many times 1 / d there are from the end of the last work to E
abbrev pub ticks : ℕ → ℚ → ℚ → ℕ
ticks d E busy = whole_part ((E -ℚ busy) *ℚ whole d)

one_less : (x y : ℚ) → int (pos 0) ≤ℚ x → x +ℚ int (pos 1) ≤ℚ y → suc (whole_part x) ≤ whole_part y
one_less x y some less =
    let c : int (pos (suc (whole_part x))) ≤ℚ x +ℚ int (pos 1) =
    subst (λ z. z ≤ℚ x +ℚ int (pos 1)) (sym (nat_next (whole_part x))) (add_le_add (whole_le x some) (le_refl (int (pos 1)))) in
    let l = nat_lt_out (suc (whole_part x)) (suc (whole_part y)) (le_lt_trans (le_trans c less) (whole_gt y)) in
    omega (arith, l)

one_tick : (d : ℕ) (a b : ℚ) → 0 < d → Whole d a → Whole d b → a <ℚ b → int (pos 1) ≤ℚ (b -ℚ a) *ℚ whole d
one_tick d a b some wa wb l =
    let w = whole_sub d b a wb wa in
    let long : int (pos 0) <ℚ b -ℚ a = with2 a b (λ c. omega (arith, c.le, c.lt, c.same)) in
    let more : int (pos 0) <ℚ (b -ℚ a) *ℚ whole d = mul_pos long (nat_lt 0 d some) in
    let k : pos 0 <ℤ w.steps = int_lt_out (pos 0) w.steps (subst (λ z. int (pos 0) <ℚ z) w.is more) in
    let m : pos 1 ≤ℤ w.steps = omega (arith, ints, k) in
    subst (λ z. int (pos 1) ≤ℚ z) (sym w.is) (int_le (pos 1) w.steps m)

pub fewer_ticks : (d : ℕ) (E busy a b : ℚ) → 0 < d → Whole d a → Whole d b → busy ≤ℚ a → a <ℚ b → b ≤ℚ E → suc (ticks d E b) ≤ ticks d E busy
fewer_ticks d E busy a b some wa wb from l by =
    let x : ℚ = (E -ℚ b) *ℚ whole d in
    let left : int (pos 0) ≤ℚ E -ℚ b = with2 E b (λ c. omega (arith, c.le, c.lt, c.same)) in
    let apart : (E -ℚ b) +ℚ (b -ℚ a) ≤ℚ E -ℚ busy = with4 E b a busy (λ c. omega (arith, c.le, c.lt, c.same)) in
    let wide = mul_le_mul_right (whole d) (nat_nonneg d) apart in
    let split : ((E -ℚ b) +ℚ (b -ℚ a)) *ℚ whole d ≡ x +ℚ (b -ℚ a) *ℚ whole d = add_mul (E -ℚ b) (b -ℚ a) (whole d) in
    let more : x +ℚ int (pos 1) ≤ℚ x +ℚ (b -ℚ a) *ℚ whole d = add_le_add (le_refl x) (one_tick d a b some wa wb l) in
    one_less x ((E -ℚ busy) *ℚ whole d) (mul_nonneg left (nat_nonneg d)) (le_trans more (subst (λ z. z ≤ℚ (E -ℚ busy) *ℚ whole d) split wide))

-- ---- what the deficits of queues lack to their first packets
abbrev pub gap : Option Card → ℕ → ℕ
gap None f = 0
gap (Some c) f = c.bits - f

abbrev pub gaps : ℕ → List Card → List ℕ → ℕ
gaps k cards [] = 0
gaps k cards (f ∷ fs) = gap (head_of k cards) f + gaps (suc k) cards fs

gap_most : (o : Option Card) (f : ℕ) → ((c : Card) → o ≡ Some c → c.bits ≤ 2 ^ 32) → gap o f ≤ 2 ^ 32
gap_most None f h = omega arith
gap_most (Some c) f h = let k = h c refl in omega (arith, k)

gaps_most : (k : ℕ) (cards : List Card) (fs : List ℕ) → ((q : ℕ) (c : Card) → head_of q cards ≡ Some c → c.bits ≤ 2 ^ 32)
    → gaps k cards fs ≤ length fs * 2 ^ 32
gaps_most k cards [] h = omega arith
gaps_most k cards (f ∷ fs) h =
    let a = gap_most (head_of k cards) f (h k) in
    let b = gaps_most (suc k) cards fs h in
    omega (arith, a, b)

gaps_set : (k j : ℕ) (cards : List Card) (fs : List ℕ) (v : ℕ) → j < length fs
    → gaps k cards (set fs j v) + gap (head_of (k + j) cards) (get_or fs j 0) ≡ gaps k cards fs + gap (head_of (k + j) cards) v
gaps_set k j cards [] v h = absurd (omega (arith, h))
gaps_set k zero cards (f ∷ fs) v h =
    let e : k + zero ≡ k = omega arith in
    let a : gap (head_of (k + zero) cards) f ≡ gap (head_of k cards) f = ap (λ i. gap (head_of i cards) f) e in
    let b : gap (head_of (k + zero) cards) v ≡ gap (head_of k cards) v = ap (λ i. gap (head_of i cards) v) e in
    omega (arith, a, b)
gaps_set k (suc j) cards (f ∷ fs) v h =
    let e : k + suc j ≡ suc k + j = omega arith in
    let a : gap (head_of (k + suc j) cards) (get_or fs j 0) ≡ gap (head_of (suc k + j) cards) (get_or fs j 0) =
    ap (λ i. gap (head_of i cards) (get_or fs j 0)) e in
    let b : gap (head_of (k + suc j) cards) v ≡ gap (head_of (suc k + j) cards) v = ap (λ i. gap (head_of i cards) v) e in
    let c = gaps_set (suc k) j cards fs v (omega (arith, h)) in
    omega (arith, a, b, c)

abbrev pub shut : Option ℕ → ℕ
shut None = 1
shut (Some q) = 0

-- how much there is to visit: at most this often in a row
abbrev pub to_visit : Discipline → ServerState → ℕ
to_visit Fifo σ = 0
to_visit (Priority n) σ = 0
to_visit (Drr quanta) σ = gaps 0 σ.inside σ.round.deficits + shut σ.round.visited

shut_most : (o : Option ℕ) → shut o ≤ 1
shut_most None = omega arith
shut_most (Some q) = omega arith

pub to_visit_most : (d : Discipline) (σ : ServerState) → KeepsTurns d σ → AreHeads d σ.inside → queue_count d ≤ 8 → to_visit d σ ≤ 2 ^ 36
to_visit_most Fifo σ k h few = omega arith
to_visit_most (Priority n) σ k h few = omega arith
to_visit_most (Drr quanta) σ k h few =
    let a = gaps_most 0 σ.inside σ.round.deficits h.small in
    let b = shut_most σ.round.visited in
    let c = k.turn.long in
    omega (arith, a, b, c, few)

-- a visit takes away from it
pub visit_less : (quanta : List ℕ) (σ : ServerState) (q : ℕ) (t : ℚ) → MayVisit (Drr quanta) σ q → KeepsTurns (Drr quanta) σ
    → AreHeads (Drr quanta) σ.inside → (q < length quanta → 1 ≤ get_or quanta q 0)
    → suc (to_visit (Drr quanta) (next (Drr quanta) σ (Visits q t))) ≤ to_visit (Drr quanta) σ
visit_less quanta σ q t m k h some = elim (head_cases (head_of q σ.inside)) [
  | inl none ↦ absurd (
      let one = first_counts q σ.round.active m.is_first in
      let lists = k.turn.round.lists q in
      let z : presence (head_of q σ.inside) ≡ 0 = ap presence none in
      omega (arith, one, lists, z))
  | inr s ↦ with_head s.0 s.1
]
  where
    with_head : (c : Card) → head_of q σ.inside ≡ Some c → suc (to_visit (Drr quanta) (next (Drr quanta) σ (Visits q t))) ≤ to_visit (Drr quanta) σ
    with_head c head =
        let f = get_or σ.round.deficits q 0 in
        let v = f + get_or quanta q 0 in
        let r : Round = record { active = σ.round.active; deficits = set σ.round.deficits q v; visited = None } in
        let g : Option Card → ℕ = λ o. gaps 0 σ.inside (visit_on o q r).deficits + shut (visit_on o q r).visited in
        let after : to_visit (Drr quanta) (next (Drr quanta) σ (Visits q t)) ≡ g (fits (Some c) v) = ap (λ z. g (fits z v)) head in
        let e : 0 + q ≡ q = omega arith in
        let here : head_of (0 + q) σ.inside ≡ Some c = ap (λ i. head_of i σ.inside) e ∙ head in
        let known : q < length quanta = h.known q c head in
        let more = some known in
        let long = k.turn.long in
        let was : gap (head_of (0 + q) σ.inside) f ≡ c.bits - f = ap (λ o. gap o f) here in
        let is : gap (head_of (0 + q) σ.inside) v ≡ c.bits - v = ap (λ o. gap o v) here in
        let change = gaps_set 0 q σ.inside σ.round.deficits v (omega (arith, known, long)) in
        let was_shut : shut σ.round.visited ≡ 1 = ap shut m.no_visit in
        elim (cases_Bool (nat_le c.bits v)) [
          | inl y ↦
              let fit : fits (Some c) v ≡ Some c = rw y refl in
              let w : to_visit (Drr quanta) (next (Drr quanta) σ (Visits q t)) ≡ gaps 0 σ.inside (set σ.round.deficits q v) + 0 = after ∙ ap g fit in
              let l : c.bits ≤ v = leb-true c.bits v y in
              omega (arith, w, l, was, is, change, was_shut)
          | inr y ↦
              let fit : fits (Some c) v ≡ None = rw y refl in
              let w : to_visit (Drr quanta) (next (Drr quanta) σ (Visits q t)) ≡ gaps 0 σ.inside (set σ.round.deficits q v) + 1 = after ∙ ap g fit in
              let l : v < c.bits = leb-false c.bits v y in
              omega (arith, w, l, was, is, change, was_shut, more)
        ]

-- ---- one server, and all of them
abbrev pub under_worth : Option Under → ℕ
under_worth None = 0
under_worth (Some u) = 2 ^ 38

abbrev pub worth_at : ℕ → ℚ → Discipline → ServerState → ℕ
worth_at d E D σ = 2 ^ 39 * ticks d E σ.busy + (under_worth σ.under + to_visit D σ)

abbrev pub worths : Setup → ℕ → ℚ → ℕ → List ServerState → ℕ
worths S d E k [] = 0
worths S d E k (σ ∷ σs) = worth_at d E (server_at S.net k).discipline σ + worths S d E (suc k) σs

pub worths_set : (S : Setup) (d : ℕ) (E : ℚ) (k j : ℕ) (xs : List ServerState) (y z : ServerState) → j < length xs
    → worths S d E k (set xs j y) + worth_at d E (server_at S.net (k + j)).discipline (get_or xs j z)
    ≡ worths S d E k xs + worth_at d E (server_at S.net (k + j)).discipline y
worths_set S d E k j [] y z h = absurd (omega (arith, h))
worths_set S d E k zero (x ∷ xs) y z h =
    let e : k + zero ≡ k = omega arith in
    let a : worth_at d E (server_at S.net (k + zero)).discipline x ≡ worth_at d E (server_at S.net k).discipline x =
    ap (λ i. worth_at d E (server_at S.net i).discipline x) e in
    let b : worth_at d E (server_at S.net (k + zero)).discipline y ≡ worth_at d E (server_at S.net k).discipline y =
    ap (λ i. worth_at d E (server_at S.net i).discipline y) e in
    omega (arith, a, b)
worths_set S d E k (suc j) (x ∷ xs) y z h =
    let e : k + suc j ≡ suc k + j = omega arith in
    let a : worth_at d E (server_at S.net (k + suc j)).discipline (get_or xs j z) ≡ worth_at d E (server_at S.net (suc k + j)).discipline (get_or xs j z) =
    ap (λ i. worth_at d E (server_at S.net i).discipline (get_or xs j z)) e in
    let b : worth_at d E (server_at S.net (k + suc j)).discipline y ≡ worth_at d E (server_at S.net (suc k + j)).discipline y =
    ap (λ i. worth_at d E (server_at S.net i).discipline y) e in
    let c = worths_set S d E (suc k) j xs y z (omega (arith, h)) in
    omega (arith, a, b, c)

-- ---- what is on links
pub without_less : (d : Due) (ds : List Due) → In ds d → suc (length (without d ds)) ≤ length ds
without_less d [] h = absurd h
without_less d (e ∷ es) h = elim (cases_Bool (same_due d e)) [
  | inl t ↦
      let a : without d (e ∷ es) ≡ es = rw t refl in
      let m : length (without d (e ∷ es)) ≡ length es = ap length a in
      omega (arith, m)
  | inr f ↦
      let a : without d (e ∷ es) ≡ e ∷ without d es = rw f refl in
      let n = without_less d es (later_due d e es f h) in
      let m : length (without d (e ∷ es)) ≡ suc (length (without d es)) = ap length a in
      omega (arith, n, m)
]

pub sent_more : (o : Option ℕ) (p : ℕ) (t : ℚ) (ds : List Due) → length (sent o p t ds) ≤ length ds + 1
sent_more None p t ds = omega arith
sent_more (Some s) p t ds = let h = length_push ds record { packet = p; server = s; time = t } in omega (arith, h)
