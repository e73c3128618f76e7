-- A place of the list all through which something of a class is to be worked: something of it is there. And what is worked from a
-- place on, where nothing of a class is started, is of the packet that is under way there.
use Rattle.std.specs.Prelude.{Option, Some, None, ◌≡◌, ℕ, pos, ◌==◌, Bool, true, false, List, [], ◌∷◌, ◌++◌}
use Rattle.std.proofs.Common.{arith, ap, ◌∙◌, refl, inl, inr, subst}
use Rattle.std.proofs.lemmas.Bool.{cases_Bool, eq-eqb}
use Rattle.rational.specs.Rational.{ℚ, int, ◌+ℚ◌, ◌≤ℚ◌, ◌<ℚ◌}
use Rattle.rational.proofs.Laws.{le_refl}
use Rattle.rational.proofs.Linear.{with1, with2, with5, with6}
use Rattle.run_laws.specs.Cards.{Card, size, Class, ServerStep, Arrives, Works, Leaves, Visits, time_of}
use Rattle.run_laws.specs.Servers.{Discipline, Server, Round, Under, ServerState, head_of, start}
use Rattle.run_laws.specs.Next.{next, next_under, after}
use Rattle.run_laws.specs.Allows.{Allows, AllAllowed, IsLawfulView, MayLeave, pick, next_card}
use Rattle.run_laws.specs.Counts.{when, total, arrives, leaves, before, upto, arrived, worked}
use Rattle.run_laws.proofs.Sizes.{size_most, whole_nonneg}
use Rattle.run_laws.proofs.Sums.{when_true, when_false, when_le, Each, each_map, total-append, total_none}
use Rattle.run_laws.proofs.Counts.{arrived_le, before_upto}
use Rattle.run_laws.proofs.Heads.{same_some, sum_of}
use Rattle.run_laws.proofs.States.{IsSound, IsSoundFor, sound_next, balance_after, done_by, done_at_most, if_true}
use Rattle.run_laws.proofs.Cuts.{IsBefore, IsAfter, no_arrives}
use Rattle.run_laws.proofs.Orders.{AllSmall, small_head, left_upto_worked}
use Rattle.run_laws.proofs.Gone.{left_nonneg}

-- ---- what is there
pub record Somebody (C : Class) (cs : List Card) : Type 0 where
  pub d : Card
  pub e : Card
  pub counted : C d ≡ true
  pub there : head_of d.queue cs ≡ Some e

pub somebody : (C : Class) (cs : List Card) → int (pos 0) <ℚ sum_of C cs → Somebody C cs
somebody C [] h = absurd (with1 (int (pos 0)) (λ c. omega (arith, c.le, c.lt, c.same)))
somebody C (c ∷ cs) h = elim (cases_Bool (C c)) [
  | inl e ↦ record { d = c; e = c; counted = e; there = rw (eq-eqb c.queue c.queue refl) }
  | inr e ↦
      let none = when_false (C c) (size c) e in
      let r = somebody C cs (with2 (when (C c) (size c)) (sum_of C cs) (λ c. omega (arith, c.le, c.lt, c.same))) in
      further C c cs r
]
  where
    further : (C : Class) (c : Card) (cs : List Card) → Somebody C cs → Somebody C (c ∷ cs)
    further C c cs r = elim (cases_Bool (c.queue == r.d.queue)) [
      | inl k ↦ record { d = r.d; e = c; counted = r.counted; there = rw k }
      | inr k ↦ record { d = r.d; e = r.e; counted = r.counted; there = rw (k, r.there) }
    ]

-- ---- at a place of the list all through which something of the class is to be worked, something of it is there
pub inside_some : (server : Server) (end : ℚ) (V done todo : List ServerStep) (C : Class) (v : ℚ) → IsLawfulView server end V
    → V ≡ done ++ todo → AllAllowed server end (start server.discipline) done → Each (IsBefore (upto v)) done
    → Each (IsAfter (before v)) todo
    → worked C V v <ℚ arrived C V v → int (pos 0) <ℚ sum_of C (after server.discipline (start server.discipline) done).inside
inside_some server end V done todo C v lawful joined allowed early late less =
    let balance = balance_after server end (start server.discipline) done C (upto v) allowed tt early in
    let none = total_none (arrives C (before v)) todo (each_map (IsAfter (before v)) (λ x. arrives C (before v) x ≡ int (pos 0)) (no_arrives C (before v)) todo late) in
    let came : arrived C V v ≡ total (arrives C (before v)) done +ℚ total (arrives C (before v)) todo = ap (total (arrives C (before v))) joined ∙ total-append (arrives C (before v)) done todo in
    let sooner = arrived_le C done (before v) (upto v) (before_upto v) in
    let left : total (leaves C (upto v)) V ≡ total (leaves C (upto v)) done +ℚ total (leaves C (upto v)) todo = ap (total (leaves C (upto v))) joined ∙ total-append (leaves C (upto v)) done todo in
    let rest = left_nonneg C (upto v) todo in
    let most = left_upto_worked server end V C v lawful in
    summed (sum_of C (after server.discipline (start server.discipline) done).inside) (total (leaves C (upto v)) done) (total (arrives C (upto v)) done) (total (arrives C (before v)) done) (total (arrives C (before v)) todo) (arrived C V v) (total (leaves C (upto v)) V) (total (leaves C (upto v)) todo) (worked C V v)
    balance none came sooner left rest most less
  where
    summed : (S L A B N T M R W : ℚ) → S +ℚ L ≡ int (pos 0) +ℚ A → N ≡ int (pos 0) → T ≡ B +ℚ N → B ≤ℚ A → M ≡ L +ℚ R → int (pos 0) ≤ℚ R
        → M ≤ℚ W → W <ℚ T → int (pos 0) <ℚ S
    summed S L A B N T M R W e1 e2 e3 h1 e4 h2 h3 h4 =
        let one : T ≤ℚ S +ℚ L = with6 S L A B N T (λ c. omega (arith, c.le, c.lt, c.same)) in
        with6 S L T M R W (λ c. omega (arith, c.le, c.lt, c.same))

-- ---- the packet under way
-- the bits of the packet under way, if it is of the class
abbrev pub under_bits : Class → Option Under → ℚ
under_bits C None = int (pos 0)
under_bits C (Some u) = when (C u.card) (size u.card)

pub done_under : (cards : List Card) (busy : ℚ) (under : Option Under) (C : Class) (t : ℚ) → IsSoundFor cards busy under
    → done_by C t under ≤ℚ under_bits C under
done_under cards busy None C t h = le_refl (int (pos 0))
done_under cards busy (Some u) C t h = when_le (C u.card) _ (size u.card) (done_at_most cards busy u t h)

-- a step of work starts nothing of the class
work_under : (under : Option Under) (d : Discipline) (cards : List Card) (r : Round) (C : Class) (c : Card)
    → next_card under d cards r ≡ Some c → (pick d cards r ≡ Some c → C c ≡ false) → when (C c) (size c) ≤ℚ under_bits C under
work_under None d cards r C c h f = rw (when_false (C c) (size c) (f h)) (le_refl (int (pos 0)))
work_under (Some u) d cards r C c h f =
    let same : u.card ≡ c = same_some u.card c h in
    subst (λ (x : Card). when (C x) (size x) ≤ℚ when (C u.card) (size u.card)) same (le_refl (when (C u.card) (size u.card)))

leave_under : (under : Option Under) (C : Class) (c : Card) (t : ℚ) → MayLeave under c t → when (C c) (size c) ≤ℚ under_bits C under
leave_under None C c t m = absurd m
leave_under (Some u) C c t m = subst (λ (x : Card). when (C x) (size x) ≤ℚ when (C u.card) (size u.card)) m.is_card (le_refl (when (C u.card) (size u.card)))

-- among steps of a stretch, what is left and done of the class is of the packet under way at their beginning
pub only_under : (server : Server) (end : ℚ) (σ : ServerState) (R : List ServerStep) (C : Class) (p : ℚ → Bool) (t : ℚ)
    → AllAllowed server end σ R → IsSound σ → Each (IsBefore p) R
    → ((front back : List ServerStep) (c : Card) (a b w : ℚ) → R ≡ front ++ Works c a b w ∷ back → pick server.discipline (after server.discipline σ front).inside (after server.discipline σ front).round ≡ Some c → C c ≡ false)
    → done_by C t (after server.discipline σ R).under +ℚ total (leaves C p) R ≤ℚ under_bits C σ.under
only_under server end σ [] C p t a h e f =
    let k = done_under σ.inside σ.busy σ.under C t h in
    with2 (done_by C t σ.under) (under_bits C σ.under) (λ c. omega (arith, c.le, c.lt, c.same))
only_under server end σ (x ∷ R) C p t a h e f =
    let d = server.discipline in
    let k = only_under server end (next d σ x) R C p t a.1 (sound_next server end σ x a.0 h) e.1 (λ front back c u v w j. f (x ∷ front) back c u v w (ap (λ (xs : List ServerStep). x ∷ xs) j)) in
    let one = step_under server end σ x C p a.0 h e.0 (λ c u v w j. f [] R c u v w (ap (λ (y : ServerStep). y ∷ R) j)) in
    with5 (done_by C t (after d (next d σ x) R).under) (total (leaves C p) R) (leaves C p x) (under_bits C (next_under σ.under x)) (under_bits C σ.under) (λ c. omega (arith, c.le, c.lt, c.same))
  where
    step_under : (server : Server) (end : ℚ) (σ : ServerState) (x : ServerStep) (C : Class) (p : ℚ → Bool) → Allows server end σ x
        → IsSound σ → p (time_of x) ≡ true
        → ((c : Card) (a b w : ℚ) → x ≡ Works c a b w → pick server.discipline σ.inside σ.round ≡ Some c → C c ≡ false)
        → under_bits C (next_under σ.under x) +ℚ leaves C p x ≤ℚ under_bits C σ.under
    step_under server end σ (Arrives c u) C p a h e f = with1 (under_bits C σ.under) (λ c. omega (arith, c.le, c.lt, c.same))
    step_under server end σ (Works c u v w) C p a h e f =
        let k = work_under σ.under server.discipline σ.inside σ.round C c a.1.is_next (f c u v w refl) in
        with2 (when (C c) (size c)) (under_bits C σ.under) (λ c. omega (arith, c.le, c.lt, c.same))
    step_under server end σ (Leaves c u) C p a h e f =
        let k = leave_under σ.under C c u a.1 in
        rw (if_true (C c) (p u) (size c) e) (with2 (when (C c) (size c)) (under_bits C σ.under) (λ c. omega (arith, c.le, c.lt, c.same)))
    step_under server end σ (Visits q u) C p a h e f = with1 (under_bits C σ.under) (λ c. omega (arith, c.le, c.lt, c.same))

pub under_small : (cards : List Card) (busy : ℚ) (under : Option Under) (C : Class) (bits : ℕ) → IsSoundFor cards busy under
    → AllSmall C bits cards → under_bits C under ≤ℚ int (pos bits)
under_small cards busy None C bits h k = whole_nonneg bits
under_small cards busy (Some u) C bits h k = elim (cases_Bool (C u.card)) [
  | inl e ↦ rw (when_true (C u.card) (size u.card) e) (size_most u.card bits (small_head C bits u.card.queue u.card cards k h.is_head e))
  | inr e ↦ rw (when_false (C u.card) (size u.card) e) (whole_nonneg bits)
]
