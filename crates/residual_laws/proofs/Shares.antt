-- Deficit round robin: what each queue gets in a stretch of one queue.
use Rattle.std.specs.Prelude.{Option, Some, None, ◌≡◌, ◌≢◌, ◌≤◌, ◌<◌, ◌+◌, ◌-◌, ◌*◌, ℕ, zero, suc, pos, ◌==◌, List, [], ◌∷◌, ◌++◌, length, get_or, map}
use Rattle.std.proofs.Common.{arith, sym, ap, ◌∙◌, refl, inl, inr, subst, append_assoc, append-nil}
use Rattle.std.proofs.lemmas.Bool.{cases_Bool, cases_eq, eqb-true, ne_eqb}
use Rattle.std.proofs.lemmas.List.{length-map}
use native.Mathlib.Nat.{mul-le-mul_right}
use Rattle.rational.specs.Rational.{ℚ, int, ◌+ℚ◌, ◌-ℚ◌, ◌≤ℚ◌, ◌<ℚ◌}
use Rattle.rational.proofs.Laws.{le_refl, le_trans, le_of_lt}
use Rattle.rational.proofs.Linear.{with2, with3, with6, with7, with8}
use Rattle.run_laws.specs.Cards.{Card, Class, size, whole, ServerStep, Arrives, Works, Leaves, Visits, time_of, of_queue}
use Rattle.run_laws.specs.Servers.{Discipline, Drr, Server, Round, Under, ServerState, start, head_of}
use Rattle.run_laws.specs.Next.{next, next_round, next_inside, next_under, after}
use Rattle.run_laws.specs.Allows.{AllAllowed, IsLawfulView}
use Rattle.run_laws.specs.Counts.{total, arrives, leaves, works, before, upto, arrived, worked, departed}
use Rattle.run_laws.specs.Premises.{KeepsSizes}
use Rattle.rational.proofs.Over.{le_q_in, lt_q_in}
use Rattle.rational.proofs.MinMax.{lt_q_not}
use Rattle.run_laws.proofs.Sums.{when_true, when_false, when_most, Each, each_map, each-append, total-append}
use Rattle.run_laws.proofs.Sizes.{size_nonneg, whole_nonneg, whole_sum, whole_le}
use Rattle.run_laws.proofs.Counts.{upto_before, worked_rises}
use Rattle.run_laws.proofs.Heads.{same_some, sum_of}
use Rattle.run_laws.proofs.States.{IsSound, sound_next, balance_after, work_after, done_by, done_nonneg}
use Rattle.run_laws.proofs.Cuts.{before_edge, IsBefore, IsAfter, at_time, all_works, all_after, not_upto}
use Rattle.run_laws.proofs.Orders.{at_upto, AllSmall, small_after}
use Rattle.run_laws.proofs.Gone.{after-append}
use Rattle.run_laws.proofs.Waiting.{allowed-append, all_upto}
use Rattle.run_laws.proofs.Places.{somebody, inside_some, under_bits, done_under}
use Rattle.run_laws.specs.Rounds.{UnderIsVisited, IsRound, same_queue, under_size}
use Rattle.run_laws.proofs.Rounds.{round_next, own_count, other_count}
use Rattle.residual_laws.proofs.Turns.{HasHadTurns}
use Rattle.residual_laws.proofs.Along.{long_next, IsAlong, IsHere, along, visits_of, starts_of, moved}

-- ---- the steps from s to t, without those at s and t
pub record Window (server : Server) (end : ℚ) (V : List ServerStep) (s t : ℚ) : Type 0 where
  pub P : List ServerStep
  pub R : List ServerStep
  pub T : List ServerStep
  pub joined : V ≡ P ++ (R ++ T)
  pub allowed : AllAllowed server end (after server.discipline (start server.discipline) P) R
  pub sound : IsSound (after server.discipline (start server.discipline) P)
  pub before_t : Each (IsBefore (before t)) R
  pub after_s : Each (IsAfter (upto s)) R
  pub gain : (C : Class) → worked C V t +ℚ done_by C s (after server.discipline (start server.discipline) P).under ≡ worked C V s +ℚ (done_by C t (after server.discipline (after server.discipline (start server.discipline) P) R).under +ℚ total (leaves C (before t)) R)
  pub left_there : (C : Class)
      → sum_of C (after server.discipline (after server.discipline (start server.discipline) P) R).inside +ℚ departed C V t ≡ arrived C V t

window : (server : Server) (end : ℚ) (V : List ServerStep) (s t : ℚ) → IsLawfulView server end V → s <ℚ t → Window server end V s t
window server end V s t lawful l =
    let d = server.discipline in
    let a = at_upto server end V s lawful in
    let P = a.at.front in
    let S = a.at.back in
    let σ = after d (start d) P in
    let b = at_time server end σ S (before t) t (before_edge t) a.at.back_allowed a.sound in
    let R = b.at.front in
    let T = b.at.back in
    let early : Each (λ x. time_of x ≤ℚ t) P = each_map (IsBefore (upto s)) (λ x. time_of x ≤ℚ t) (λ x e. le_trans (le_q_in (time_of x) s e) (le_of_lt l)) P a.at.front_before in
    let before_P : Each (IsBefore (before t)) P = each_map (IsBefore (upto s)) (IsBefore (before t)) (λ x e. upto_before s t l (time_of x) e) P a.at.front_before in
    let later_R : Each (IsAfter (upto s)) (R ++ T) = subst (Each (IsAfter (upto s))) b.at.joined a.at.back_after in
    record {
      P = P;
      R = R;
      T = T;
      joined = a.at.joined ∙ ap (λ (xs : List ServerStep). P ++ xs) b.at.joined;
      allowed = b.at.front_allowed;
      sound = a.sound;
      before_t = b.at.front_before;
      after_s = (each-append (IsAfter (upto s)) R T later_R).0;
      gain = λ C. gained (worked C V t) (worked C V s) (total (works C t) P) (total (works C t) S) (done_by C t σ.under) (done_by C s σ.under) (done_by C t (after d σ R).under) (total (leaves C (upto s)) P) (total (leaves C (upto s)) V) (total (leaves C (before t)) R) (total (leaves C (before t)) S)
          (ap (total (works C t)) a.at.joined ∙ total-append (works C t) P S) (work_after server end (start d) P C (upto s) t a.at.front_allowed tt a.at.front_before early) (a.work C) (a.left C) (b.work C) (b.left C);
      left_there = λ C. rest (sum_of C (after d σ R).inside) (sum_of C σ.inside) (departed C V t) (arrived C V t) (total (leaves C (before t)) P) (total (leaves C (before t)) S) (total (arrives C (before t)) P) (total (arrives C (before t)) S)
          (balance_after server end (start d) P C (before t) a.at.front_allowed tt before_P) (b.queue C)
          (ap (total (leaves C (before t))) a.at.joined ∙ total-append (leaves C (before t)) P S) (ap (total (arrives C (before t))) a.at.joined ∙ total-append (arrives C (before t)) P S);
    }
  where
    gained : (Wt Ws WP WS Dt Ds DR LP LV LR LS : ℚ) → Wt ≡ WP +ℚ WS → Dt +ℚ LP ≡ int (pos 0) +ℚ WP → Ds +ℚ LV ≡ int (pos 0) +ℚ Ws → LV ≡ LP
        → DR +ℚ LS ≡ Dt +ℚ WS → LS ≡ LR → Wt +ℚ Ds ≡ Ws +ℚ (DR +ℚ LR)
    gained Wt Ws WP WS Dt Ds DR LP LV LR LS e1 e2 e3 e4 e5 e6 =
        let one : Wt ≡ LP +ℚ DR +ℚ LR = with8 Wt WP WS Dt DR LP LR LS (λ c. omega (arith, c.le, c.lt, c.same)) in
        with7 Wt Ws Ds DR LP LV LR (λ c. omega (arith, c.le, c.lt, c.same))

    rest : (SR S L A LP LS AP AS : ℚ) → S +ℚ LP ≡ int (pos 0) +ℚ AP → SR +ℚ LS ≡ S +ℚ AS → L ≡ LP +ℚ LS → A ≡ AP +ℚ AS → SR +ℚ L ≡ A
    rest SR S L A LP LS AP AS e1 e2 e3 e4 = with8 SR S L A LP LS AP AS (λ c. omega (arith, c.le, c.lt, c.same))

-- ---- the queue has a packet at each place of its stretch
here_from : (i : ℕ) (σ : ServerState) → int (pos 0) <ℚ sum_of (of_queue i) σ.inside → IsHere i σ
here_from i σ h =
    let s = somebody (of_queue i) σ.inside h in
    record { first = s.e; is = subst (λ (q : ℕ). head_of q σ.inside ≡ Some s.e) (eqb-true s.d.queue i s.counted) s.there }

here_before : (server : Server) (end : ℚ) (V P front back : List ServerStep) (x : ServerStep) (i : ℕ) → IsLawfulView server end V
    → V ≡ P ++ (front ++ x ∷ back) → worked (of_queue i) V (time_of x) <ℚ arrived (of_queue i) V (time_of x)
    → IsHere i (after server.discipline (after server.discipline (start server.discipline) P) front)
here_before server end V P front back x i lawful joined busy =
    let d = server.discipline in
    let a = time_of x in
    let D = P ++ front in
    let place : V ≡ D ++ x ∷ back = joined ∙ sym (append_assoc P front (x ∷ back)) in
    let whole_list : AllAllowed server end (start d) (D ++ x ∷ back) = subst (AllAllowed server end (start d)) place lawful.allowed in
    let all = allowed-append server end (start d) D (x ∷ back) whole_list in
    let sooner = all_upto server end (start d) D back x whole_list in
    let at_a = lt_q_not _ _ (le_refl a) in
    let later = all_after server end (next d (after d (start d) D) x) back (before a) a (before_edge a) all.1.1 at_a in
    let some = inside_some server end V D (x ∷ back) (of_queue i) a lawful place all.0 sooner (at_a, later) busy in
    here_from i (after d (after d (start d) P) front) (subst (λ (σ : ServerState). int (pos 0) <ℚ sum_of (of_queue i) σ.inside) (after-append server (start d) P front) some)

here_all : (server : Server) (end : ℚ) (V : List ServerStep) (s t : ℚ) (i : ℕ) → IsLawfulView server end V → (w : Window server end V s t)
    → departed (of_queue i) V t <ℚ arrived (of_queue i) V t
    → ((x : ℚ) → s <ℚ x → x <ℚ t → worked (of_queue i) V x <ℚ arrived (of_queue i) V x) → (front back : List ServerStep)
    → w.R ≡ front ++ back → IsHere i (after server.discipline (after server.discipline (start server.discipline) w.P) front)
here_all server end V s t i lawful w less busy front [] e =
    let same : w.R ≡ front = e ∙ append-nil front in
    let σ = after server.discipline (start server.discipline) w.P in
    let k = w.left_there (of_queue i) in
    let some : int (pos 0) <ℚ sum_of (of_queue i) (after server.discipline σ w.R).inside = with3 (sum_of (of_queue i) (after server.discipline σ w.R).inside) (departed (of_queue i) V t) (arrived (of_queue i) V t) (λ c. omega (arith, c.le, c.lt, c.same)) in
    subst (λ (xs : List ServerStep). IsHere i (after server.discipline σ xs)) same (here_from i (after server.discipline σ w.R) some)
here_all server end V s t i lawful w less busy front (x ∷ back) e =
    let joined : V ≡ w.P ++ (front ++ x ∷ (back ++ w.T)) = w.joined ∙ ap (λ (xs : List ServerStep). w.P ++ (xs ++ w.T)) e ∙ ap (λ (xs : List ServerStep). w.P ++ xs) (append_assoc front (x ∷ back) w.T) in
    let past = (each-append (IsAfter (upto s)) front (x ∷ back) (subst (Each (IsAfter (upto s))) e w.after_s)).1.0 in
    let soon = (each-append (IsBefore (before t)) front (x ∷ back) (subst (Each (IsBefore (before t))) e w.before_t)).1.0 in
    here_before server end V w.P front (back ++ w.T) x i lawful joined (busy (time_of x) (not_upto s (time_of x) past) (lt_q_in (time_of x) t soon))

-- ---- the round is sound from the start
zeros : (quanta : List ℕ) (j : ℕ) → get_or (map (λ (_ : ℕ). zero) quanta) j zero ≡ zero
zeros [] j = refl
zeros (q ∷ quanta) zero = refl
zeros (q ∷ quanta) (suc j) = zeros quanta j

round_start : (quanta : List ℕ) (l : ℕ → ℕ) → IsRound (λ q. get_or quanta q 0) l [] None (start (Drr quanta)).round
round_start quanta l = record {
  lists = λ j. refl;
  is_first = tt;
  of_visit = tt;
  empty = λ j _. zeros quanta j;
  closed = λ j _. let z = zeros quanta j in omega arith;
  opened = λ j k. absurd (cc);
}

record RoundAt (quanta : List ℕ) (l : ℕ → ℕ) (σ : ServerState) : Type 0 where
  round : IsRound (λ q. get_or quanta q 0) l σ.inside σ.under σ.round
  long : length σ.round.deficits ≡ length quanta

round_after : (server : Server) (end : ℚ) (quanta : List ℕ) (l : ℕ → ℕ) (σ : ServerState) (P W : List ServerStep)
    → server.discipline ≡ Drr quanta → AllAllowed server end σ P → IsSound σ → ((q : ℕ) → KeepsSizes (of_queue q) (l q) (P ++ W))
    → ((q : ℕ) → AllSmall (of_queue q) (l q) σ.inside)
    → RoundAt quanta l σ → RoundAt quanta l (after server.discipline σ P)
round_after server end quanta l σ [] W e a s sizes small h = h
round_after server end quanta l σ (x ∷ P) W e a s sizes small h =
    let D = server.discipline in
    let σ2 = next D σ x in
    let small2 : (q : ℕ) → AllSmall (of_queue q) (l q) σ2.inside = λ q. small_after server end σ (x ∷ []) (P ++ W) (of_queue q) (l q) (a.0, tt) (sizes q) (small q) in
    let round2 : IsRound (λ q. get_or quanta q 0) l σ2.inside σ2.under σ2.round = subst (λ (y : Discipline). IsRound (λ q. get_or quanta q 0) l (next_inside σ.inside x) (next_under σ.under x) (next_round y σ x)) (sym e)
    (round_next server end quanta l σ x e a.0 s small2 small h.round) in
    let long2 : length σ2.round.deficits ≡ length quanta = subst (λ (y : Discipline). length (next_round y σ x).deficits ≡ length quanta) (sym e) (long_next quanta σ x ∙ h.long) in
    round_after server end quanta l σ2 P W e a.1 (sound_next server end σ x a.0 s) (λ q. sizes_rest x (P ++ W) (of_queue q) (l q) (sizes q)) small2 record { round = round2; long = long2 }
  where
    sizes_rest : (x : ServerStep) (W : List ServerStep) (C : Class) (bits : ℕ) → KeepsSizes C bits (x ∷ W) → KeepsSizes C bits W
    sizes_rest (Arrives c t) W C bits h = h.1
    sizes_rest (Works c b f w) W C bits h = h
    sizes_rest (Leaves c t) W C bits h = h
    sizes_rest (Visits q t) W C bits h = h

-- ---- at its beginning: no turn of i, and one of j if its visit is open
record Begin (Q l : ℕ → ℕ) (i j : ℕ) (σ : ServerState) : Type 0 where
  n : ℕ
  G : ℕ
  turn : HasHadTurns Q l i j σ.inside σ.round 0 n G
  bits : whole G ≡ under_bits (of_queue j) σ.under

beginning : (Q l : ℕ → ℕ) (i j : ℕ) (cards : List Card) (under : Option Under) (r : Round) (busy : ℚ) (now : ℚ) → j ≢ i
    → IsRound Q l cards under r → Begin Q l i j record { now = now; busy = busy; inside = cards; under = under; round = r }
beginning Q l i j cards under r busy now d h = by_visit r.visited refl
  where
    part : (under : Option Under) → (G : ℕ) × (whole G ≡ under_bits (of_queue j) under) × (G ≤ under_size under)
    part None = (0, refl, omega arith)
    part (Some u) = elim (cases_Bool (u.card.queue == j)) [
      | inl e ↦ (u.card.bits, sym (when_true (u.card.queue == j) (size u.card) e), omega arith)
      | inr e ↦ (0, sym (when_false (u.card.queue == j) (size u.card) e), omega arith)
    ]

    idle : (under : Option Under) (v : Option ℕ) → v ≢ Some j → UnderIsVisited under v → under_bits (of_queue j) under ≡ int (pos 0)
    idle None v n k = refl
    idle (Some u) v n k = when_false (u.card.queue == j) (size u.card) (ne_eqb u.card.queue j (λ e. n (k ∙ ap (λ (q : ℕ). Some q) e)))

    closed_turn : r.visited ≢ Some j → Begin Q l i j record { now = now; busy = busy; inside = cards; under = under; round = r }
    closed_turn n = record {
      n = 0;
      G = 0;
      turn = record { most = omega arith; in_own = λ _. omega arith; late = λ k. absurd (omega arith); bits = let c = h.closed j n in omega arith };
      bits = sym (idle under r.visited n h.of_visit);
    }

    by_visit : (v : Option ℕ) → r.visited ≡ v → Begin Q l i j record { now = now; busy = busy; inside = cards; under = under; round = r }
    by_visit None e = closed_turn (λ k. let m : None ≡ Some j = sym e ∙ k in absurd (cc))
    by_visit (Some k) e = elim (cases_eq k j) [
      | inr f ↦ closed_turn (λ m. f (same_some k j (sym e ∙ m)))
      | inl f ↦
          let v : r.visited ≡ Some j = e ∙ ap (λ (q : ℕ). Some q) f in
          let o = h.opened j v in
          let p = part under in
          let few = p.2 in
          record {
            n = 1;
            G = p.0;
            turn = record {
              most = omega arith;
              in_own = λ m. absurd (d (same_some j i (sym v ∙ m)));
              late = λ _. inl v;
              bits = omega arith;
            };
            bits = p.1;
          }
    ]

-- ---- the shares of a stretch
pub record IsShared (V : List ServerStep) (Q l : ℕ → ℕ) (i : ℕ) (s t : ℚ) (p : ℕ) : Type 0 where
  pub own : whole (p * Q i) ≤ℚ (worked (of_queue i) V t -ℚ worked (of_queue i) V s) +ℚ whole (l i)
  pub others : (j : ℕ) → j ≢ i → worked (of_queue j) V t ≤ℚ worked (of_queue j) V s +ℚ whole (l j + (p + 1) * Q j)

-- the turns of i that are over
abbrev over_of : ℕ → Option ℕ → ℕ → ℕ
over_of i None m = m
over_of i (Some k) m = m - same_queue k i

under_whole : (under : Option Under) (i : ℕ) → under_bits (of_queue i) under ≤ℚ whole (under_size under)
under_whole None i = le_refl (int (pos 0))
under_whole (Some u) i = when_most (u.card.queue == i) (size u.card) (size_nonneg u.card)

idle_of : (under : Option Under) (v : Option ℕ) (i : ℕ) → v ≢ Some i → UnderIsVisited under v → under_bits (of_queue i) under ≡ int (pos 0)
idle_of None v i n k = refl
idle_of (Some u) v i n k = when_false (u.card.queue == i) (size u.card) (ne_eqb u.card.queue i (λ e. n (k ∙ ap (λ (q : ℕ). Some q) e)))

own_share : (Q l : ℕ → ℕ) (i : ℕ) (cards : List Card) (under : Option Under) (r : Round) (m g : ℕ) (v : Option ℕ) (gained : ℚ)
    → r.visited ≡ v → IsRound Q l cards under r → m * Q i ≤ g + get_or r.deficits i 0 → whole g ≤ℚ gained +ℚ under_bits (of_queue i) under
    → int (pos 0) ≤ℚ gained
    → whole (over_of i v m * Q i) ≤ℚ gained +ℚ whole (l i)
own_share Q l i cards under r m g None gained e h own some on =
    let d = h.closed i (λ k. let w : None ≡ Some i = sym e ∙ k in absurd (cc)) in
    let none = idle_of under r.visited i (λ k. let w : None ≡ Some i = sym e ∙ k in absurd (cc)) h.of_visit in
    let a = whole_le (m * Q i) (g + l i) (omega arith) in
    let b = whole_sum g (l i) in
    with6 (whole (m * Q i)) (whole (g + l i)) (whole g) (whole (l i)) gained (under_bits (of_queue i) under) (λ c. omega (arith, c.le, c.lt, c.same))
own_share Q l i cards under r m g (Some k) gained e h own some on = elim (cases_eq k i) [
  | inr f ↦
      let d = h.closed i (λ w. f (same_some k i (sym e ∙ w))) in
      let none = idle_of under r.visited i (λ w. f (same_some k i (sym e ∙ w))) h.of_visit in
      let z : m - same_queue k i ≡ m = let o = other_count k i f in omega arith in
      let a = whole_le (m * Q i) (g + l i) (omega arith) in
      let b = whole_sum g (l i) in
      rw z (with6 (whole (m * Q i)) (whole (g + l i)) (whole g) (whole (l i)) gained (under_bits (of_queue i) under) (λ c. omega (arith, c.le, c.lt, c.same)))
  | inl f ↦
      let d = h.opened i (e ∙ ap (λ (q : ℕ). Some q) f) in
      let one : same_queue k i ≡ 1 = rw f (own_count i) in
      let u = under_whole under i in
      rw one (less_one m own d u)
]
  where
    less_one : (m : ℕ) → m * Q i ≤ g + get_or r.deficits i 0 → get_or r.deficits i 0 + under_size under ≤ l i + Q i
        → under_bits (of_queue i) under ≤ℚ whole (under_size under) → whole ((m - 1) * Q i) ≤ℚ gained +ℚ whole (l i)
    less_one zero own d u =
        let z : (zero - 1) * Q i ≡ 0 = omega arith in
        let l_on = whole_nonneg (l i) in
        rw z (with2 gained (whole (l i)) (λ c. omega (arith, c.le, c.lt, c.same)))
    less_one (suc m) own d u =
        let z : suc m - 1 ≡ m = omega arith in
        let a = whole_le (m * Q i + under_size under) (g + l i) (omega arith) in
        let b = whole_sum g (l i) in
        let c = whole_sum (m * Q i) (under_size under) in
        rw z (with8 (whole (m * Q i)) (whole (under_size under)) (whole (m * Q i + under_size under)) (whole (g + l i)) (whole g) (whole (l i)) gained (under_bits (of_queue i) under) (λ c. omega (arith, c.le, c.lt, c.same)))

few_turns : (Q l : ℕ → ℕ) (i j : ℕ) (cards : List Card) (r : Round) (m n G : ℕ) (v : Option ℕ) → r.visited ≡ v
    → HasHadTurns Q l i j cards r m n G → n ≤ over_of i v m + 1
few_turns Q l i j cards r m n G None e t = t.most
few_turns Q l i j cards r m n G (Some k) e t = elim (cases_eq k i) [
  | inr f ↦ let o = other_count k i f in let most = t.most in omega arith
  | inl f ↦
      let o : same_queue k i ≡ 1 = rw f (own_count i) in
      let most = t.in_own (e ∙ ap (λ (q : ℕ). Some q) f) in
      omega arith
]

pub shared : (server : Server) (end : ℚ) (V : List ServerStep) (quanta : List ℕ) (l : ℕ → ℕ) (i : ℕ) (s t : ℚ) → IsLawfulView server end V
    → server.discipline ≡ Drr quanta → i < length quanta → ((q : ℕ) → KeepsSizes (of_queue q) (l q) V) → s <ℚ t
    → departed (of_queue i) V t <ℚ arrived (of_queue i) V t
    → ((x : ℚ) → s <ℚ x → x <ℚ t → worked (of_queue i) V x <ℚ arrived (of_queue i) V x)
    → (p : ℕ) × IsShared V (λ q. get_or quanta q 0) l i s t p
shared server end V quanta l i s t lawful e r sizes later less busy =
    let D = server.discipline in
    let w = window server end V s t lawful later in
    let P = w.P in
    let R = w.R in
    let σ = after D (start D) P in
    let τ = after D σ R in
    let sizes_P : (q : ℕ) → KeepsSizes (of_queue q) (l q) (P ++ (R ++ w.T)) = λ q. subst (KeepsSizes (of_queue q) (l q)) w.joined (sizes q) in
    let P_allowed = (allowed-append server end (start D) P (R ++ w.T) (subst (AllAllowed server end (start D)) w.joined lawful.allowed)).0 in
    let begin_round : RoundAt quanta l (start D) = subst (λ (y : Discipline). RoundAt quanta l (start y)) (sym e) record { round = round_start quanta l; long = length-map quanta (λ _. 0) } in
    let at_P = round_after server end quanta l (start D) P (R ++ w.T) e P_allowed tt sizes_P (λ q. tt) begin_round in
    let here = here_all server end V s t i lawful w less busy in
    let small : (front back : List ServerStep) → R ≡ front ++ back → (q : ℕ) → AllSmall (of_queue q) (l q) (after D σ front).inside =
    λ front back k q.
    let place : V ≡ (P ++ front) ++ (back ++ w.T) = w.joined ∙ ap (λ (xs : List ServerStep). P ++ (xs ++ w.T)) k ∙ ap (λ (xs : List ServerStep). P ++ xs) (append_assoc front back w.T) ∙ sym (append_assoc P front (back ++ w.T)) in
    let allowed_D = (allowed-append server end (start D) (P ++ front) (back ++ w.T) (subst (AllAllowed server end (start D)) place lawful.allowed)).0 in
    subst (λ (ρ : ServerState). AllSmall (of_queue q) (l q) ρ.inside) (after-append server (start D) P front)
    (small_after server end (start D) (P ++ front) (back ++ w.T) (of_queue q) (l q) allowed_D (subst (KeepsSizes (of_queue q) (l q)) place (sizes q)) tt) in
    let run : (j : ℕ) → j ≢ i → (b : Begin (λ q. get_or quanta q 0) l i j σ)
    → IsAlong quanta l i j τ (0 + visits_of i R) (b.n + visits_of j R) (b.G + starts_of j D σ R) (0 + starts_of i D σ R) =
    λ j d b. along server end quanta l i j σ R 0 b.n b.G 0 e d r w.allowed here small record { sound = w.sound; round = at_P.round; turn = b.turn; own = omega arith; long = at_P.long } in
    let begin : (j : ℕ) → j ≢ i
    → Begin (λ q. get_or quanta q 0) l i j σ = λ j d. beginning (λ q. get_or quanta q 0) l i j σ.inside σ.under σ.round σ.busy σ.now d at_P.round in
    let m = 0 + visits_of i R in
    let p = over_of i τ.round.visited m in
    let one = run (suc i) (λ k. absurd (omega arith)) (begin (suc i) (λ k. absurd (omega arith))) in
    let works = all_works server end (start D) V lawful.allowed in
    let rise = worked_rises (of_queue i) V s t works (le_of_lt later) in (
      p,
      record {
        own =
            let g = w.gain (of_queue i) in
            let k = moved server end σ R i (before t) w.allowed w.before_t in
            let some = own_gain (worked (of_queue i) V t) (worked (of_queue i) V s) (done_by (of_queue i) s σ.under) (done_by (of_queue i) t τ.under) (total (leaves (of_queue i) (before t)) R) (under_bits (of_queue i) σ.under) (under_bits (of_queue i) τ.under) (whole (starts_of i D σ R))
            g k (done_under σ.inside σ.busy σ.under (of_queue i) s w.sound) (done_nonneg τ.inside τ.busy τ.under (of_queue i) t one.sound) in
            own_share (λ q. get_or quanta q 0) l i τ.inside τ.under τ.round m (0 + starts_of i D σ R) τ.round.visited (worked (of_queue i) V t -ℚ worked (of_queue i) V s) refl one.round one.own
            (zero_on (starts_of i D σ R) (worked (of_queue i) V t -ℚ worked (of_queue i) V s) (under_bits (of_queue i) τ.under) some) (on_gain (worked (of_queue i) V t) (worked (of_queue i) V s) rise);
        others = λ j d.
            let b = begin j d in
            let a = run j d b in
            let g = w.gain (of_queue j) in
            let k = moved server end σ R j (before t) w.allowed w.before_t in
            let n = few_turns (λ q. get_or quanta q 0) l i j τ.inside τ.round m (b.n + visits_of j R) (b.G + starts_of j D σ R) τ.round.visited refl a.turn in
            let bits = turn_bits (b.G + starts_of j D σ R) (get_or τ.round.deficits j 0) (l j) (b.n + visits_of j R) (get_or quanta j 0) (p + 1) a.turn.bits n in
            other_gain (worked (of_queue j) V t) (worked (of_queue j) V s) (done_by (of_queue j) s σ.under) (done_by (of_queue j) t τ.under) (total (leaves (of_queue j) (before t)) R) (under_bits (of_queue j) σ.under) (under_bits (of_queue j) τ.under) (whole (starts_of j D σ R)) (whole b.G) (whole (b.G + starts_of j D σ R)) (whole (l j + (p + 1) * get_or quanta j 0))
            g k (done_nonneg σ.inside σ.busy σ.under (of_queue j) s w.sound) (done_under τ.inside τ.busy τ.under (of_queue j) t a.sound) b.bits (whole_sum b.G (starts_of j D σ R)) (whole_le (b.G + starts_of j D σ R) (l j + (p + 1) * get_or quanta j 0) bits);
      },
    )
  where
    own_gain : (Wt Ws Ds Dt L U U2 S : ℚ) → Wt +ℚ Ds ≡ Ws +ℚ (Dt +ℚ L) → U2 +ℚ L ≡ U +ℚ S → Ds ≤ℚ U → int (pos 0) ≤ℚ Dt
        → S ≤ℚ (Wt -ℚ Ws) +ℚ U2
    own_gain Wt Ws Ds Dt L U U2 S e f h k = with8 Wt Ws Ds Dt L U U2 S (λ c. omega (arith, c.le, c.lt, c.same))

    zero_on : (n : ℕ) (x y : ℚ) → whole n ≤ℚ x +ℚ y → whole (0 + n) ≤ℚ x +ℚ y
    zero_on n x y h = let z : 0 + n ≡ n = omega arith in rw z h

    on_gain : (x y : ℚ) → y ≤ℚ x → int (pos 0) ≤ℚ x -ℚ y
    on_gain x y h = with2 x y (λ c. omega (arith, c.le, c.lt, c.same))

    turn_bits : (G d L n K p : ℕ) → G + d ≤ L + n * K → n ≤ p → G ≤ L + p * K
    turn_bits G d L n K p h k = let m = mul-le-mul_right K k in omega arith

    other_gain : (Wt Ws Ds Dt L U U2 S G GS B : ℚ) → Wt +ℚ Ds ≡ Ws +ℚ (Dt +ℚ L) → U2 +ℚ L ≡ U +ℚ S → int (pos 0) ≤ℚ Ds → Dt ≤ℚ U2 → G ≡ U
        → GS ≡ G +ℚ S → GS ≤ℚ B → Wt ≤ℚ Ws +ℚ B
    other_gain Wt Ws Ds Dt L U U2 S G GS B e f h k g1 g2 b =
        let one : Wt ≤ℚ Ws +ℚ (U +ℚ S) = with8 Wt Ws Ds Dt L U U2 S (λ c. omega (arith, c.le, c.lt, c.same)) in
        with7 Wt Ws U S G GS B (λ c. omega (arith, c.le, c.lt, c.same))
