-- The oldest packet of a queue at a time: all that arrived before it has left, and the work is of those and of it.
use Rattle.std.specs.Prelude.{Option, Some, None, ◌≡◌, ◌⊎◌, ◌≤◌, ℕ, pos, Bool, true, false, List, [], ◌∷◌, ◌++◌, if◌then◌else◌}
use Rattle.std.proofs.Common.{arith, sym, ap, ◌∙◌, refl, inl, inr, subst, append_assoc, append-nil}
use Rattle.std.proofs.lemmas.Bool.{cases_Bool, both_ways}
use Rattle.rational.specs.Rational.{ℚ, int, ◌+ℚ◌, ◌≤ℚ◌, ◌<ℚ◌}
use Rattle.rational.proofs.Laws.{le_refl}
use Rattle.rational.proofs.Linear.{with3, with4, with5}
use Rattle.run_laws.specs.Cards.{Card, size, Class, ServerStep, Arrives, Works, Leaves, Visits}
use Rattle.run_laws.proofs.Always.{IsAlwaysOfQueue, IsAlwaysPart}
use Rattle.run_laws.specs.Servers.{Server, Under, ServerState, start, without_head}
use Rattle.run_laws.specs.Next.{next, after}
use Rattle.run_laws.specs.Allows.{AllAllowed, IsLawfulView}
use Rattle.run_laws.specs.Counts.{when, total, arrives, leaves, before, upto, arrived, arrived_upto, worked, departed}
use Rattle.rational.proofs.Over.{le_q_out, lt_q_in}
use Rattle.rational.proofs.MinMax.{lt_q_not}
use Rattle.run_laws.proofs.Sums.{when_true, when_false, when_nonneg, when_le, Each, each_map, each_all, each-append, total-append, total_nonneg, total_none, add_nothing}
use Rattle.run_laws.proofs.Counts.{arrived_le, before_upto, arrives_nonneg}
use Rattle.run_laws.proofs.Heads.{sum_of}
use Rattle.run_laws.proofs.States.{IsSound, IsSoundFor, sound_next, leaving, if_true, done_by, done_at_most, done_at}
use Rattle.run_laws.proofs.Cuts.{before_edge, all_after, IsBefore, IsAfter, no_arrives, AtTime}
use Rattle.run_laws.proofs.Orders.{at_before}
use Rattle.run_laws.proofs.Waiting.{of_class, bits_of, class-append, class_head, class_other, allowed-append, all_upto}
use Rattle.run_laws.proofs.Sizes.{size_nonneg}

-- ---- the packets of a class that arrive, and that leave, in order
abbrev pub arrivals_of : Class → List ServerStep → List Card
arrivals_of C [] = []
arrivals_of C (Arrives c t ∷ V) = if C c then c ∷ arrivals_of C V else arrivals_of C V
arrivals_of C (Works c a b w ∷ V) = arrivals_of C V
arrivals_of C (Leaves c t ∷ V) = arrivals_of C V
arrivals_of C (Visits q t ∷ V) = arrivals_of C V

abbrev pub departures_of : Class → List ServerStep → List Card
departures_of C [] = []
departures_of C (Arrives c t ∷ V) = departures_of C V
departures_of C (Works c a b w ∷ V) = departures_of C V
departures_of C (Leaves c t ∷ V) = if C c then c ∷ departures_of C V else departures_of C V
departures_of C (Visits q t ∷ V) = departures_of C V

-- ---- a class of one queue is first in, first out
pub queue_order : (server : Server) (end : ℚ) (σ : ServerState) (V : List ServerStep) (Q : Class) (q : ℕ) → IsAlwaysOfQueue Q q
    → AllAllowed server end σ V → IsSound σ
    → departures_of Q V ++ of_class Q (after server.discipline σ V).inside ≡ of_class Q σ.inside ++ arrivals_of Q V
queue_order server end σ [] Q q g a h = sym (append-nil (of_class Q σ.inside))
queue_order server end σ (Arrives c t ∷ V) Q q g a h =
    let k = queue_order server end (next server.discipline σ (Arrives c t)) V Q q g a.1 (sound_next server end σ (Arrives c t) a.0 h) in
    let e : of_class Q (σ.inside ++ c ∷ []) ≡ of_class Q σ.inside ++ of_class Q (c ∷ []) = class-append Q σ.inside (c ∷ []) in
    let m = k ∙ ap (λ (xs : List Card). xs ++ arrivals_of Q V) e ∙ append_assoc (of_class Q σ.inside) (of_class Q (c ∷ [])) (arrivals_of Q V) in
    elim (cases_Bool (Q c)) [
      | inl f ↦ rw f (rw f at m)
      | inr f ↦ rw f (rw f at m)
    ]
queue_order server end σ (Works c b f w ∷ V) Q q g a h = queue_order server end (next server.discipline σ (Works c b f w)) V Q q g a.1 (sound_next server end σ (Works c b f w) a.0 h)
queue_order server end σ (Leaves c t ∷ V) Q q g a h =
    let k = queue_order server end (next server.discipline σ (Leaves c t)) V Q q g a.1 (sound_next server end σ (Leaves c t) a.0 h) in
    let head = leaving σ.inside σ.busy σ.under c t h a.0.1 in
    elim (cases_Bool (Q c)) [
      | inl f ↦
          let own = subst (λ (r : ℕ). IsAlwaysOfQueue Q r) (sym (g c f)) g in
          rw (f, class_head Q c.queue c σ.inside own head f) (ap (λ (xs : List Card). c ∷ xs) k)
      | inr f ↦ rw f (k ∙ ap (λ (xs : List Card). xs ++ arrivals_of Q V) (class_other Q c.queue c σ.inside head f))
    ]
queue_order server end σ (Visits r t ∷ V) Q q g a h = queue_order server end (next server.discipline σ (Visits r t)) V Q q g a.1 (sound_next server end σ (Visits r t) a.0 h)

-- ---- the sums of a part of the class, by these lists
part_no : (f Q : Class) (c : Card) → IsAlwaysPart f Q → Q c ≡ false → f c ≡ false
part_no f Q c s e = elim (cases_Bool (f c)) [
  | inl k ↦ absurd (both_ways (Q c) e (s c k))
  | inr k ↦ k
]

part_bits : (f Q : Class) (c : Card) (cs : List Card) (x : ℚ) → IsAlwaysPart f Q → x ≡ bits_of (of_class f cs)
    → when (f c) (size c) +ℚ x ≡ bits_of (of_class f (if Q c then c ∷ cs else cs))
part_bits f Q c cs x s h = elim (cases_Bool (f c)) [
  | inl k ↦ rw (s c k, k, when_true true (size c) refl) (ap (λ (y : ℚ). size c +ℚ y) h)
  | inr k ↦ elim (cases_Bool (Q c)) [
    | inl e ↦ rw (e, k, when_false false (size c) refl) (add_nothing x ∙ h)
    | inr e ↦ rw (e, k, when_false false (size c) refl) (add_nothing x ∙ h)
  ]
]

pub left_part : (f Q : Class) (p : ℚ → Bool) (V : List ServerStep) → IsAlwaysPart f Q → Each (IsBefore p) V
    → total (leaves f p) V ≡ bits_of (of_class f (departures_of Q V))
left_part f Q p [] s h = refl
left_part f Q p (Arrives c t ∷ V) s h = add_nothing (total (leaves f p) V) ∙ left_part f Q p V s h.1
left_part f Q p (Works c a b w ∷ V) s h = add_nothing (total (leaves f p) V) ∙ left_part f Q p V s h.1
left_part f Q p (Leaves c t ∷ V) s h = rw (if_true (f c) (p t) (size c) h.0) (part_bits f Q c (departures_of Q V) (total (leaves f p) V) s (left_part f Q p V s h.1))
left_part f Q p (Visits q t ∷ V) s h = add_nothing (total (leaves f p) V) ∙ left_part f Q p V s h.1

came_part : (f Q : Class) (p : ℚ → Bool) (V : List ServerStep) → IsAlwaysPart f Q → Each (IsBefore p) V
    → total (arrives f p) V ≡ bits_of (of_class f (arrivals_of Q V))
came_part f Q p [] s h = refl
came_part f Q p (Arrives c t ∷ V) s h = rw (if_true (f c) (p t) (size c) h.0) (part_bits f Q c (arrivals_of Q V) (total (arrives f p) V) s (came_part f Q p V s h.1))
came_part f Q p (Works c a b w ∷ V) s h = add_nothing (total (arrives f p) V) ∙ came_part f Q p V s h.1
came_part f Q p (Leaves c t ∷ V) s h = add_nothing (total (arrives f p) V) ∙ came_part f Q p V s h.1
came_part f Q p (Visits q t ∷ V) s h = add_nothing (total (arrives f p) V) ∙ came_part f Q p V s h.1

-- ---- where a packet of the list of arrivals arrived
record Found (Q : Class) (V : List ServerStep) (D : List Card) (p : Card) : Type 0 where
  u : ℚ
  front : List ServerStep
  back : List ServerStep
  joined : V ≡ front ++ Arrives p u ∷ back
  counted : Q p ≡ true
  same : arrivals_of Q front ≡ D

further : (Q : Class) (V : List ServerStep) (x : ServerStep) (D E : List Card) (p : Card) → (found : Found Q V D p)
    → ((W : List ServerStep) → arrivals_of Q W ≡ D → arrivals_of Q (x ∷ W) ≡ E) → Found Q (x ∷ V) E p
further Q V x D E p w f = record {
  u = w.u;
  front = x ∷ w.front;
  back = w.back;
  joined = ap (λ (xs : List ServerStep). x ∷ xs) w.joined;
  counted = w.counted;
  same = f w.front w.same;
}

no_nil : (D : List Card) (p : Card) (rest : List Card) → [] ≡ D ++ p ∷ rest → ⊥
no_nil [] p rest h = cc
no_nil (d ∷ D) p rest h = cc

find : (Q : Class) (V : List ServerStep) (D : List Card) (p : Card) (rest : List Card) → arrivals_of Q V ≡ D ++ p ∷ rest → Found Q V D p
find Q [] D p rest h = absurd (no_nil D p rest h)
find Q (Arrives c t ∷ V) [] p rest h = elim (cases_Bool (Q c)) [
  | inl e ↦
      let k : c ∷ arrivals_of Q V ≡ p ∷ rest = rw e at h in
      let same : c ≡ p = cc in
      record { u = t; front = []; back = V; joined = ap (λ (x : Card). Arrives x t ∷ V) same; counted = subst (λ (x : Card). Q x ≡ true) same e; same = refl }
  | inr e ↦ further Q V (Arrives c t) [] [] p (find Q V [] p rest (rw e at h)) (λ W k. rw e k)
]
find Q (Arrives c t ∷ V) (d ∷ D) p rest h = elim (cases_Bool (Q c)) [
  | inl e ↦
      let k : c ∷ arrivals_of Q V ≡ d ∷ (D ++ p ∷ rest) = rw e at h in
      let same : c ≡ d = cc in
      let tail : arrivals_of Q V ≡ D ++ p ∷ rest = cc in
      further Q V (Arrives c t) D (d ∷ D) p (find Q V D p rest tail) (λ W m. rw e (ap (λ (xs : List Card). c ∷ xs) m ∙ ap (λ (x : Card). x ∷ D) same))
  | inr e ↦ further Q V (Arrives c t) (d ∷ D) (d ∷ D) p (find Q V (d ∷ D) p rest (rw e at h)) (λ W k. rw e k)
]
find Q (Works c a b w ∷ V) D p rest h = further Q V (Works c a b w) D D p (find Q V D p rest h) (λ W k. k)
find Q (Leaves c t ∷ V) D p rest h = further Q V (Leaves c t) D D p (find Q V D p rest h) (λ W k. k)
find Q (Visits q t ∷ V) D p rest h = further Q V (Visits q t) D D p (find Q V D p rest h) (λ W k. k)

-- ---- the oldest
pub record IsOldest (V : List ServerStep) (Q : Class) (t : ℚ) (p : Card) (u : ℚ) (front back : List ServerStep) : Type 0 where
  pub joined : V ≡ front ++ Arrives p u ∷ back
  pub counted : Q p ≡ true
  pub earlier : u <ℚ t
  pub some_bits : 1 ≤ p.bits
  -- what left is what came before it, of each part of the queue
  pub left : (f : Class) → IsAlwaysPart f Q → departed f V t ≡ total (arrives f (upto u)) front
  pub came : (f : Class) → IsAlwaysPart f Q → arrived f V u ≤ℚ departed f V t
  pub came_upto : (f : Class) → departed f V t ≡ total (arrives f (upto u)) front
      → departed f V t +ℚ when (f p) (size p) ≤ℚ arrived_upto f V u
  pub work : (f : Class) → IsAlwaysPart f Q → worked f V t ≤ℚ departed f V t +ℚ when (f p) (size p)

pub record Oldest (V : List ServerStep) (Q : Class) (t : ℚ) : Type 0 where
  pub p : Card
  pub u : ℚ
  pub front : List ServerStep
  pub back : List ServerStep
  pub is : IsOldest V Q t p u front back

-- nothing of the queue is there
pub record IsEmpty (V : List ServerStep) (Q : Class) (t : ℚ) : Type 0 where
  pub all_left : (f : Class) → IsAlwaysPart f Q → departed f V t ≡ arrived f V t

part_empty : (f Q : Class) (cs : List Card) → IsAlwaysPart f Q → of_class Q cs ≡ [] → sum_of f cs ≡ int (pos 0)
part_empty f Q [] s h = refl
part_empty f Q (c ∷ cs) s h = elim (cases_Bool (Q c)) [
  | inl e ↦ let k : c ∷ of_class Q cs ≡ [] = rw e at h in absurd (cc)
  | inr e ↦ rw (when_false (f c) (size c) (part_no f Q c s e)) (add_nothing (sum_of f cs) ∙ part_empty f Q cs s (rw e at h))
]

first_done : (cards : List Card) (busy : ℚ) (under : Option Under) (f Q : Class) (q : ℕ) (t : ℚ) (p : Card) (rest : List Card)
    → IsSoundFor cards busy under → IsAlwaysPart f Q → IsAlwaysOfQueue Q q → of_class Q cards ≡ p ∷ rest
    → done_by f t under ≤ℚ when (f p) (size p)
first_done cards busy None f Q q t p rest h s g e = when_nonneg (f p) (size p) (size_nonneg p)
first_done cards busy (Some w) f Q q t p rest h s g e = elim (cases_Bool (f w.card)) [
  | inr k ↦ rw (when_false (f w.card) (done_at t w) k) (when_nonneg (f p) (size p) (size_nonneg p))
  | inl k ↦
      let m = s w.card k in
      let own = subst (λ (r : ℕ). IsAlwaysOfQueue Q r) (sym (g w.card m)) g in
      let l : w.card ∷ of_class Q (without_head w.card.queue cards) ≡ p ∷ rest = sym (class_head Q w.card.queue w.card cards own h.is_head m) ∙ e in
      let same : w.card ≡ p = cc in
      subst (λ (x : Card). done_by f t (Some w) ≤ℚ when (f x) (size x)) same (when_le (f w.card) (done_at t w) (size w.card) (done_at_most cards busy w t h))
]

-- what came before u, of a list in which something arrives at u
came_before : (server : Server) (end : ℚ) (V front back : List ServerStep) (p : Card) (u : ℚ) (f : Class) → IsLawfulView server end V
    → V ≡ front ++ Arrives p u ∷ back → arrived f V u ≤ℚ total (arrives f (upto u)) front
came_before server end V front back p u f lawful joined =
    let d = server.discipline in
    let all = allowed-append server end (start d) front (Arrives p u ∷ back) (subst (AllAllowed server end (start d)) joined lawful.allowed) in
    let at_u = lt_q_not _ _ (le_refl u) in
    let later = all_after server end (next d (after d (start d) front) (Arrives p u)) back (before u) u (before_edge u) all.1.1 at_u in
    let none : total (arrives f (before u)) (Arrives p u ∷ back) ≡ int (pos 0) =
    total_none (arrives f (before u)) (Arrives p u ∷ back) (each_map (IsAfter (before u)) (λ x. arrives f (before u) x ≡ int (pos 0)) (no_arrives f (before u)) (Arrives p u ∷ back) (at_u, later)) in
    let both : arrived f V u ≡ total (arrives f (before u)) front +ℚ total (arrives f (before u)) (Arrives p u ∷ back) = ap (total (arrives f (before u))) joined ∙ total-append (arrives f (before u)) front (Arrives p u ∷ back) in
    let sooner = arrived_le f front (before u) (upto u) (before_upto u) in
    with4 (arrived f V u) (total (arrives f (before u)) front) (total (arrives f (before u)) (Arrives p u ∷ back)) (total (arrives f (upto u)) front) (λ c. omega (arith, c.le, c.lt, c.same))

came_with : (V front back : List ServerStep) (p : Card) (u : ℚ) (f : Class) → V ≡ front ++ Arrives p u ∷ back
    → total (arrives f (upto u)) front +ℚ when (f p) (size p) ≤ℚ arrived_upto f V u
came_with V front back p u f joined =
    let both : arrived_upto f V u ≡ total (arrives f (upto u)) front +ℚ (arrives f (upto u) (Arrives p u) +ℚ total (arrives f (upto u)) back) =
    ap (total (arrives f (upto u))) joined ∙ total-append (arrives f (upto u)) front (Arrives p u ∷ back) in
    let one : arrives f (upto u) (Arrives p u) ≡ when (f p) (size p) = if_true (f p) (upto u u) (size p) (le_q_out _ _ (le_refl u)) in
    let rest = total_nonneg (arrives f (upto u)) back (each_all (λ x. int (pos 0) ≤ℚ arrives f (upto u) x) (arrives_nonneg f (upto u)) back) in
    with5 (arrived_upto f V u) (total (arrives f (upto u)) front) (arrives f (upto u) (Arrives p u)) (when (f p) (size p)) (total (arrives f (upto u)) back) (λ c. omega (arith, c.le, c.lt, c.same))

with_oldest : (server : Server) (end : ℚ) (V : List ServerStep) (Q : Class) (q : ℕ) (t : ℚ) → IsLawfulView server end V → IsAlwaysOfQueue Q q
    → (a : AtTime server end (start server.discipline) V (before t) t)
    → (inside : List Card) → of_class Q (after server.discipline (start server.discipline) a.at.front).inside ≡ inside
    → IsEmpty V Q t ⊎ Oldest V Q t
with_oldest server end V Q q t lawful g a [] e = inl record {
  all_left = λ f s.
      let none = part_empty f Q (after server.discipline (start server.discipline) a.at.front).inside s e in
      let k = a.queue f in
      with3 (sum_of f (after server.discipline (start server.discipline) a.at.front).inside) (departed f V t) (arrived f V t) (λ c. omega (arith, c.le, c.lt, c.same));
}
with_oldest server end V Q q t lawful g a (p ∷ rest) e =
    let d = server.discipline in
    let P = a.at.front in
    let σ = after d (start d) P in
    let order : departures_of Q P ++ p ∷ rest ≡ arrivals_of Q P = ap (λ (xs : List Card). departures_of Q P ++ xs) (sym e) ∙ queue_order server end (start d) P Q q g a.at.front_allowed tt in
    let found = find Q P (departures_of Q P) p rest (sym order) in
    let u = found.u in
    let inside_P = found.joined in
    let joined : V ≡ found.front ++ Arrives p u ∷ (found.back ++ a.at.back) =
    a.at.joined ∙ ap (λ (xs : List ServerStep). xs ++ a.at.back) found.joined ∙ append_assoc found.front (Arrives p u ∷ found.back) a.at.back in
    let earlier : Each (IsBefore (before t)) (found.front ++ Arrives p u ∷ found.back) = subst (Each (IsBefore (before t))) found.joined a.at.front_before in
    let is_before : before t u ≡ true = (each-append (IsBefore (before t)) found.front (Arrives p u ∷ found.back) earlier).1.0 in
    let upto_u = all_upto server end (start d) found.front (found.back ++ a.at.back) (Arrives p u) (subst (AllAllowed server end (start d)) joined lawful.allowed) in
    let left : (f : Class) → IsAlwaysPart f Q → departed f V t ≡ total (arrives f (upto u)) found.front =
    λ f s. a.left f ∙ left_part f Q (before t) P s a.at.front_before ∙ ap (λ (xs : List Card). bits_of (of_class f xs)) (sym found.same) ∙ sym (came_part f Q (upto u) found.front s upto_u) in
    inr record {
      p = p;
      u = u;
      front = found.front;
      back = found.back ++ a.at.back;
      is = record {
        joined = joined;
        counted = found.counted;
        earlier = lt_q_in u t is_before;
        some_bits = (allowed-append server end (start d) found.front (Arrives p u ∷ (found.back ++ a.at.back)) (subst (AllAllowed server end (start d)) joined lawful.allowed)).1.0.1.some_bits;
        left = left;
        came = λ f s. rw (left f s) (came_before server end V found.front (found.back ++ a.at.back) p u f lawful joined);
        came_upto = λ f k. rw k (came_with V found.front (found.back ++ a.at.back) p u f joined);
        work = λ f s.
            let most = first_done σ.inside σ.busy σ.under f Q q t p rest a.sound s g e in
            let k = a.work f in
            with4 (worked f V t) (departed f V t) (done_by f t σ.under) (when (f p) (size p)) (λ c. omega (arith, c.le, c.lt, c.same));
      };
    }

pub oldest : (server : Server) (end : ℚ) (V : List ServerStep) (Q : Class) (q : ℕ) (t : ℚ) → IsLawfulView server end V → IsAlwaysOfQueue Q q
    → IsEmpty V Q t ⊎ Oldest V Q t
oldest server end V Q q t lawful g =
    let a = at_before server end V t lawful in
    with_oldest server end V Q q t lawful g a _ refl
