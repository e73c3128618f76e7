-- A queue of a priority server is served by what the queues before it leave, less one packet of those after it.
use Rattle.std.specs.Prelude.{Option, Some, None, ◌≡◌, ◌≤◌, ◌<◌, ℕ, zero, suc, pos, ◌==◌, ltb, leb, true, false, ◌&&◌, ◌||◌, List, ◌∷◌, ◌++◌}
use Rattle.std.proofs.Common.{arith, sym, ap, ◌∙◌, refl, inl, inr, subst, append_assoc}
use Rattle.std.proofs.lemmas.Bool.{cases_Bool, cases_eq, eqb-true, leb-true, le-ltb, ltb-true, lt-ltb, le-leb, lt-leb, leb-false, eqb-false, ltb-false}
use Rattle.rational.specs.Rational.{ℚ, int, ◌+ℚ◌, ◌≤ℚ◌, ◌<ℚ◌}
use Rattle.rational.proofs.Over.{le_q_in, lt_q_in}
use Rattle.rational.proofs.MinMax.{lt_q_not}
use Rattle.rational.proofs.Laws.{le_refl, le_trans, le_of_lt}
use Rattle.rational.proofs.Linear.{with4, with7}
use Rattle.run_laws.specs.Cards.{Card, Class, all, of_queue, before_queue, after_queue, ServerStep, Works, time_of}
use Rattle.run_laws.proofs.Always.{AreAlwaysParts}
use Rattle.run_laws.specs.Servers.{Discipline, Priority, Server, Round, ServerState, head_of, start}
use Rattle.run_laws.specs.Next.{next, after}
use Rattle.run_laws.specs.Allows.{AllAllowed, IsLawfulView, first_head, pick}
use Rattle.run_laws.specs.Counts.{total, leaves, works, before, upto, arrived, worked}
use Rattle.run_laws.specs.Premises.{KeepsSizes}
use Rattle.run_laws.proofs.Sums.{Each, each_map, each-append, total-append}
use Rattle.run_laws.proofs.Heads.{head_queue, sum_of}
use Rattle.run_laws.proofs.States.{work_after, done_by, done_nonneg}
use Rattle.run_laws.proofs.Cuts.{before_edge, IsBefore, IsAfter, at_time, all_after, not_upto}
use Rattle.run_laws.proofs.Orders.{small_after, at_upto}
use Rattle.run_laws.proofs.Gone.{after-append}
use Rattle.run_laws.proofs.Waiting.{allowed-append, all_upto}
use Rattle.run_laws.proofs.Places.{somebody, inside_some, under_bits, only_under, under_small}
use Rattle.residual_laws.specs.PriorityLaws.{PriorityServes}
use Rattle.residual_laws.proofs.InTurn.{turn_serves}

-- the packets of the queues up to queue q
abbrev upto_queue : ℕ → Class
upto_queue q c = leb c.queue q

-- ---- the first non-empty queue
first_lowest : (n q : ℕ) (cs : List Card) (c d e : Card) → first_head n q cs ≡ Some c → head_of d.queue cs ≡ Some e → q ≤ d.queue
    → c.queue ≤ d.queue
first_lowest zero q cs c d e h k l = absurd (cc)
first_lowest (suc n) q cs c d e h k l = by_head (λ m o. first_lowest n (suc q) cs c d e m k o) (head_of q cs) refl
  where
    by_head : (first_head n (suc q) cs ≡ Some c → suc q ≤ d.queue → c.queue ≤ d.queue) → (x : Option Card) → head_of q cs ≡ x
        → c.queue ≤ d.queue
    by_head later (Some x) m =
        let same : Some x ≡ Some c = rw m at h in
        let own : c.queue ≡ q = head_queue q c cs (m ∙ same) in
        omega arith
    by_head later None m =
        let rest : first_head n (suc q) cs ≡ Some c = rw m at h in
        elim (cases_eq q d.queue) [
          | inl f ↦
              let none : head_of d.queue cs ≡ None = subst (λ (i : ℕ). head_of i cs ≡ None) f m in
              absurd (cc)
          | inr f ↦ later rest (omega arith)
        ]

-- ---- a packet of the queues after i is not started where something of the others is there
not_started : (n : ℕ) (cs : List Card) (r : Round) (c : Card) (i : ℕ) → pick (Priority n) cs r ≡ Some c
    → int (pos 0) <ℚ sum_of (upto_queue i) cs → after_queue i c ≡ false
not_started n cs r c i h k =
    let s = somebody (upto_queue i) cs k in
    let low = leb-true s.d.queue i s.counted in
    let first = first_lowest n 0 cs c s.d s.e h s.there (omega arith) in
    le-ltb i c.queue (omega arith)

starts_none : (server : Server) (end : ℚ) (V P R T front back : List ServerStep) (n i : ℕ) (c : Card) (a b w s z : ℚ)
    → IsLawfulView server end V → server.discipline ≡ Priority n → V ≡ P ++ (R ++ T) → R ≡ front ++ Works c a b w ∷ back
    → s <ℚ a → a <ℚ z → ((x : ℚ) → s <ℚ x → x <ℚ z → worked (upto_queue i) V x <ℚ arrived (upto_queue i) V x)
    → pick server.discipline (after server.discipline (after server.discipline (start server.discipline) P) front).inside (after server.discipline (after server.discipline (start server.discipline) P) front).round ≡ Some c → after_queue i c ≡ false
starts_none server end V P R T front back n i c a b w s z lawful priority joined inner past early busy picked =
    let d = server.discipline in
    let D = P ++ front in
    let place : V ≡ D ++ Works c a b w ∷ (back ++ T) =
    joined ∙ ap (λ (xs : List ServerStep). P ++ (xs ++ T)) inner ∙ ap (λ (xs : List ServerStep). P ++ xs) (append_assoc front (Works c a b w ∷ back) T) ∙ sym (append_assoc P front (Works c a b w ∷ (back ++ T))) in
    let whole : AllAllowed server end (start d) (D ++ Works c a b w ∷ (back ++ T)) = subst (AllAllowed server end (start d)) place lawful.allowed in
    let all = allowed-append server end (start d) D (Works c a b w ∷ (back ++ T)) whole in
    let sooner = all_upto server end (start d) D (back ++ T) (Works c a b w) whole in
    let at_a = lt_q_not _ _ (le_refl a) in
    let later = all_after server end (next d (after d (start d) D) (Works c a b w)) (back ++ T) (before a) a (before_edge a) all.1.1 at_a in
    let some = inside_some server end V D (Works c a b w ∷ (back ++ T)) (upto_queue i) a lawful place all.0 sooner (at_a, later) (busy a past early) in
    let there : int (pos 0) <ℚ sum_of (upto_queue i) (after d (after d (start d) P) front).inside =
    subst (λ (σ : ServerState). int (pos 0) <ℚ sum_of (upto_queue i) σ.inside) (after-append server (start d) P front) some in
    let σ = after d (after d (start d) P) front in
    let by_priority : pick (Priority n) σ.inside σ.round ≡ Some c = subst (λ (k : Discipline). pick k σ.inside σ.round ≡ Some c) priority picked in
    not_started n σ.inside σ.round c i by_priority there

low_work : (server : Server) (end : ℚ) (V : List ServerStep) (n i bits : ℕ) (s z : ℚ) → IsLawfulView server end V
    → server.discipline ≡ Priority n → KeepsSizes (after_queue i) bits V → s <ℚ z
    → ((x : ℚ) → s <ℚ x → x <ℚ z → worked (upto_queue i) V x <ℚ arrived (upto_queue i) V x)
    → worked (after_queue i) V z ≤ℚ worked (after_queue i) V s +ℚ int (pos bits)
low_work server end V n i bits s z lawful priority sizes l busy =
    let d = server.discipline in
    let C = after_queue i in
    let a = at_upto server end V s lawful in
    let P = a.at.front in
    let S = a.at.back in
    let σ = after d (start d) P in
    let b = at_time server end σ S (before z) z (before_edge z) a.at.back_allowed a.sound in
    let R = b.at.front in
    let T = b.at.back in
    let early_P = each_map (IsBefore (upto s)) (λ x. time_of x ≤ℚ z) (λ x e. le_trans (le_q_in (time_of x) s e) (le_of_lt l)) P a.at.front_before in
    let work_P = work_after server end (start d) P C (upto s) z a.at.front_allowed tt a.at.front_before early_P in
    let later_R : Each (IsAfter (upto s)) (R ++ T) = subst (Each (IsAfter (upto s))) b.at.joined a.at.back_after in
    let under = only_under server end σ R C (before z) z b.at.front_allowed a.sound b.at.front_before
    (λ front back c u v w inner picked.
    let past = (each-append (IsAfter (upto s)) front (Works c u v w ∷ back) (subst (Each (IsAfter (upto s))) inner (each-append (IsAfter (upto s)) R T later_R).0)).1.0 in
    let soon = (each-append (IsBefore (before z)) front (Works c u v w ∷ back) (subst (Each (IsBefore (before z))) inner b.at.front_before)).1.0 in
    starts_none server end V P R T front back n i c u v w s z lawful priority (a.at.joined ∙ ap (λ (xs : List ServerStep). P ++ xs) b.at.joined) inner (not_upto s u past) (lt_q_in u z soon) busy picked) in
    let small = under_small σ.inside σ.busy σ.under C bits a.sound (small_after server end (start d) P S C bits a.at.front_allowed (subst (KeepsSizes C bits) a.at.joined sizes) tt) in
    let whole : worked C V z ≡ total (works C z) P +ℚ total (works C z) S = ap (total (works C z)) a.at.joined ∙ total-append (works C z) P S in
    let done_on = done_nonneg σ.inside σ.busy σ.under C s a.sound in
    summed (worked C V z) (worked C V s) (total (works C z) P) (total (works C z) S) (done_by C z σ.under) (done_by C s σ.under) (done_by C z (after d σ R).under) (total (leaves C (upto s)) P) (total (leaves C (upto s)) V) (total (leaves C (before z)) R) (total (leaves C (before z)) S) (under_bits C σ.under) (int (pos bits))
    whole work_P (a.work C) (a.left C) (b.work C) (b.left C) under small done_on
  where
    summed : (Wz Ws WP WS Dz Ds DR LP LV LR LS U l : ℚ) → Wz ≡ WP +ℚ WS → Dz +ℚ LP ≡ int (pos 0) +ℚ WP → Ds +ℚ LV ≡ int (pos 0) +ℚ Ws
        → LV ≡ LP → DR +ℚ LS ≡ Dz +ℚ WS → LS ≡ LR → DR +ℚ LR ≤ℚ U → U ≤ℚ l → int (pos 0) ≤ℚ Ds → Wz ≤ℚ Ws +ℚ l
    summed Wz Ws WP WS Dz Ds DR LP LV LR LS U l e1 e2 e3 e4 e5 e6 h1 h2 h3 =
        let one : Dz +ℚ WS ≤ℚ l = with7 DR LS Dz WS LR U l (λ c. omega (arith, c.le, c.lt, c.same)) in
        let two : LP ≤ℚ Ws = with4 Ds LV Ws LP (λ c. omega (arith, c.le, c.lt, c.same)) in
        with7 Wz Ws WP WS Dz LP l (λ c. omega (arith, c.le, c.lt, c.same))

-- ---- the queues as parts
all_parts : (i : ℕ) → AreAlwaysParts all (upto_queue i) (after_queue i)
all_parts i = record { of_one = λ c. one c.queue; apart = λ c. two c.queue }
  where
    one : (q : ℕ) → true ≡ (leb q i || ltb i q)
    one q = elim (cases_Bool (leb q i)) [
      | inl e ↦ rw e refl
      | inr e ↦ rw (e, lt-ltb i q (leb-false q i e)) refl
    ]

    two : (q : ℕ) → (leb q i && ltb i q) ≡ false
    two q = elim (cases_Bool (leb q i)) [
      | inl e ↦ rw (e, le-ltb i q (leb-true q i e)) refl
      | inr e ↦ rw e refl
    ]

upto_parts : (i : ℕ) → AreAlwaysParts (upto_queue i) (of_queue i) (before_queue i)
upto_parts i = record { of_one = λ c. one c.queue; apart = λ c. two c.queue }
  where
    one : (q : ℕ) → leb q i ≡ ((q == i) || ltb q i)
    one q = elim (cases_Bool (q == i)) [
      | inl e ↦ let f = eqb-true q i e in rw (e, le-leb q i (omega arith)) refl
      | inr e ↦ elim (cases_Bool (ltb q i)) [
        | inl k ↦ let f = ltb-true q i k in rw (e, k, le-leb q i (omega arith)) refl
        | inr k ↦
            let f = ltb-false q i k in
            let g = eqb-false q i e in
            let less : i < q = strict q f g in
            rw (e, k, lt-leb q i less) refl
      ]
    ]
      where
        strict : (q : ℕ) → i ≤ q → (q ≡ i → ⊥) → i < q
        strict q f g = elim (cases_eq q i) [
          | inl h ↦ absurd (g h)
          | inr h ↦ omega arith
        ]

    two : (q : ℕ) → ((q == i) && ltb q i) ≡ false
    two q = elim (cases_Bool (q == i)) [
      | inl e ↦ let f = eqb-true q i e in rw (e, le-ltb q i (omega arith)) refl
      | inr e ↦ rw e refl
    ]

-- ---- the law
pub priority_serves : PriorityServes
priority_serves server end V n i bits β higher R lawful priority service flat keeps sizes running =
    turn_serves server end V (of_queue i) (before_queue i) (after_queue i) (upto_queue i) bits β higher R
    record {
      lawful = lawful;
      all_parts = all_parts i;
      upto_parts = upto_parts i;
      last_work = λ s z l busy. low_work server end V n i bits s z lawful priority sizes l busy;
    } service flat keeps running
