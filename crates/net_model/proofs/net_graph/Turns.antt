-- Turn by turn: the order so far, and what each server still waits for.
use Rattle.std.proofs.Common.{◌≡◌, ℕ, zero, suc, ◌<◌, List, [], ◌∷◌, ◌++◌, length, get_or, set, take, replicate, refl, sym, ◌∙◌, ap, subst, arith, ◌⊎◌, inl, inr, Bool, true, false, not}
use Rattle.std.specs.Prelude.{Contains, Option, None, Some, MatchOption}
use Rattle.std.proofs.lemmas.Bool.{cases_eq, cases_lt}
use Rattle.std.proofs.lemmas.Cmp.{nat_eq_equiv}
use Rattle.std.proofs.lemmas.List.{length-append, length-set, length-replicate, get_or-replicate, get_or_at, get_or_default, get_or_past, get_or_append_left, get_or-set_same, get_or-set_other, take-append-le, take_at}
use Rattle.std.proofs.lemmas.Map.Steps.{le-length_from_below}
use Rattle.std.proofs.lemmas.Map.Views.{list_any-from_Contains}
use Rattle.upp_limits.specs.Windows.{IsLeast}
use Rattle.net_model.specs.Networks.{Net}
use Rattle.net_model.specs.Accepted.{IsAccepted}
use Rattle.net_model.specs.Walks.{IsNext, IsBehind, IsEndless, IsFirstBefore, IsRingBefore, IsCycle}
use Rattle.net_model.specs.Orders.{IsReady, IsOrder}
use Rattle.net_model.specs.net_graph.Waits.{list_at, AreBefore, AllLosePlaced, AreBusy, IsPlaced, IsFree, EndsFree, IsFirstIdle}
use Rattle.net_model.specs.net_graph.Loops.{IsAwaited, IsFirstAwaited, AreFirsts, IsFirst, IsTrap, FirstIsInside}
use Rattle.net_model.proofs.net_graph.Members.{kept_left, kept_last, pushed, last_member, place_of, of_front}
use Rattle.net_model.proofs.net_graph.Returns.{next_in_range}
use Rattle.net_model.proofs.net_graph.Behind.{behind_weaker}
use Rattle.net_model.proofs.net_graph.Rings.{ring_weaker}
use Rattle.net_model.proofs.net_graph.Losses.{not_both}

pub record Turned (net : Net) (lists : List (List ℕ)) (placed : List Bool) (order : List ℕ) : Type 0 where
  pub count : length lists ≡ length net.servers
  pub marks : length placed ≡ length net.servers
  pub only : (a b : ℕ) → Contains (list_at lists b) a → IsNext net a b
  pub waits : (a b : ℕ) → IsNext net a b → Contains (list_at lists b) a ⊎ Contains order a
  pub marked : (s : ℕ) → IsPlaced placed s → Contains order s
  pub has_mark : (s : ℕ) → Contains order s → IsPlaced placed s
  pub each : (place : ℕ) → place < length order → IsLeast (IsReady net (take place order)) (get_or order place 0)

-- ---- marks
pub free_below : (placed : List Bool) (s : ℕ) → IsFree placed s → s < length placed
free_below placed s f =
    elim (cases_lt s (length placed)) [
      | inl h ↦ h
      | inr h ↦ let e : true ≡ false = sym (get_or_past placed s true h) ∙ f in absurd cc
    ]

pub free_unless : (placed : List Bool) (s : ℕ) → s < length placed → ¬ (IsPlaced placed s) → IsFree placed s
free_unless placed s h taken = by_value (get_or placed s true) refl
  where
    by_value : (b : Bool) → get_or placed s true ≡ b → IsFree placed s
    by_value false e = e
    by_value true e = absurd (taken (get_or_default placed s false true h ∙ e))

pub placed_unless : (placed : List Bool) (s : ℕ) → s < length placed → ¬ (IsFree placed s) → IsPlaced placed s
placed_unless placed s h taken = by_value (get_or placed s false) refl
  where
    by_value : (b : Bool) → get_or placed s false ≡ b → IsPlaced placed s
    by_value true e = e
    by_value false e = absurd (taken (get_or_default placed s true false h ∙ e))

-- ---- turns
pub no_turn_yet : (net : Net) (lists : List (List ℕ)) → AreBefore net.flows (length net.servers) lists
    → Turned net lists (replicate (length net.servers) false) []
no_turn_yet net lists b = record {
  count = b.count;
  marks = length-replicate (length net.servers) false;
  only = b.only;
  waits = λ a s step. inl (b.all a s step);
  marked = λ s p. none s p;
  has_mark = λ s c. absurd (omega (arith, c.1));
  each = λ place h. absurd (omega (arith, h));
}
  where
    none : (s : ℕ) → IsPlaced (replicate (length net.servers) false) s → Contains [] s
    none s p =
        elim (cases_lt s (length net.servers)) [
          | inl h ↦ let e : false ≡ true = sym (get_or-replicate (length net.servers) s false false h) ∙ p in absurd cc
          | inr h ↦
              let count = length-replicate (length net.servers) false in
              let e : false ≡ true = sym (get_or_past (replicate (length net.servers) false) s false (omega (arith, h, count))) ∙ p in absurd cc
        ]

pub after_losses : (net : Net) (old new : List (List ℕ)) (placed : List Bool) (order : List ℕ) → AllLosePlaced placed old new
    → Turned net old placed order → Turned net new placed order
after_losses net old new placed order l t = record {
  count = l.count ∙ t.count;
  marks = t.marks;
  only = λ a b c. t.only a b ((l.each b).only a c);
  waits = λ a b step. elim (t.waits a b step) [ inl m ↦ left a b m | inr c ↦ inr c ];
  marked = t.marked;
  has_mark = t.has_mark;
  each = t.each;
}
  where
    left : (a b : ℕ) → Contains (list_at old b) a → Contains (list_at new b) a ⊎ Contains order a
    left a b m = elim ((l.each b).lost a m) [ inl n ↦ inl n | inr p ↦ inr (t.marked a p) ]

pub idle_is_least : (net : Net) (lists : List (List ℕ)) (placed : List Bool) (order : List ℕ) (s : ℕ) → Turned net lists placed order
    → IsFirstIdle placed lists s → IsLeast (IsReady net order) s
idle_is_least net lists placed order s t f = record {
  meets = record {
    in_range = omega (arith, f.within, t.count);
    free = λ c. not_both placed s (t.has_mark s c) f.free;
    waits_for_none = λ a step. elim (t.waits a s step) [ inl m ↦ absurd (none a m) | inr c ↦ c ];
  };
  least = λ i h ready. busy i ready (f.first i h (free_unless placed i (omega (arith, ready.in_range, t.marks)) (λ p. ready.free (t.marked i p))));
}
  where
    none : (a : ℕ) → ¬ (Contains (list_at lists s) a)
    none a m = let P : List ℕ → Type 0 = λ xs. Contains xs a in let c = subst P f.idle m in omega (arith, c.1)

    busy : (i : ℕ) → IsReady net order i → EndsFree placed (list_at lists i) → ⊥
    busy i ready e =
        not_both placed e.last (t.has_mark e.last (ready.waits_for_none e.last (t.only e.last i (last_member (list_at lists i) e.last e.is)))) e.free

pub one_place_more : (net : Net) (order : List ℕ) (s : ℕ)
    → ((place : ℕ) → place < length order → IsLeast (IsReady net (take place order)) (get_or order place 0)) → IsLeast (IsReady net order) s
    → (place : ℕ) → place < length (order ++ s ∷ []) → IsLeast (IsReady net (take place (order ++ s ∷ []))) (get_or (order ++ s ∷ []) place 0)
one_place_more net order s each least place h =
    let P : List ℕ → Type 0 = λ xs. IsLeast (IsReady net xs) (get_or (order ++ s ∷ []) place 0) in
    let count = length-append order (s ∷ []) in
    elim (cases_lt place (length order)) [
      | inl l ↦
          let Q : ℕ → Type 0 = λ q. IsLeast (IsReady net (take place order)) q in
          subst P (sym (take-append-le place order (s ∷ []) (omega (arith, l)))) (subst Q (sym (get_or_append_left order (s ∷ []) 0 place l)) (each place l))
      | inr l ↦
          let last : length order ≡ place = omega (arith, l, h, count) in
          let Q : ℕ → Type 0 = λ q. IsLeast (IsReady net order) q in
          subst P (sym (take_at order (s ∷ []) place last)) (subst Q (sym (get_or_at order s [] 0 place last)) least)
    ]

pub after_turn : (net : Net) (lists : List (List ℕ)) (placed : List Bool) (order : List ℕ) (s : ℕ) → Turned net lists placed order
    → IsFirstIdle placed lists s → Turned net lists (set placed s true) (order ++ s ∷ [])
after_turn net lists placed order s t f = record {
  count = t.count;
  marks = length-set placed s true ∙ t.marks;
  only = t.only;
  waits = λ a b step. elim (t.waits a b step) [ inl m ↦ inl m | inr c ↦ inr (kept_left order (s ∷ []) a c) ];
  marked = marked;
  has_mark = λ q c. elim (pushed order s q c) [ inl m ↦ still q (t.has_mark q m) | inr e ↦ newest q e ];
  each = one_place_more net order s t.each (idle_is_least net lists placed order s t f);
}
  where
    within : s < length placed
    within = omega (arith, f.within, t.count, t.marks)

    marked : (q : ℕ) → IsPlaced (set placed s true) q → Contains (order ++ s ∷ []) q
    marked q p =
        elim (cases_eq q s) [
          | inl e ↦ let P : ℕ → Type 0 = λ k. Contains (order ++ s ∷ []) k in subst P (sym e) (kept_last order s)
          | inr e ↦ kept_left order (s ∷ []) q (t.marked q (sym (get_or-set_other placed s q true false e) ∙ p))
        ]

    newest : (q : ℕ) → q ≡ s → IsPlaced (set placed s true) q
    newest q e = let P : ℕ → Type 0 = λ k. IsPlaced (set placed s true) k in subst P (sym e) (get_or-set_same placed s true false within)

    still : (q : ℕ) → IsPlaced placed q → IsPlaced (set placed s true) q
    still q p = elim (cases_eq q s) [ inl e ↦ newest q e | inr e ↦ get_or-set_other placed s q true false e ∙ p ]

pub all_turns : (net : Net) (lists : List (List ℕ)) (placed : List Bool) (order : List ℕ) → Turned net lists placed order
    → length order ≡ length net.servers → IsOrder net order
all_turns net lists placed order t all = record { all = all; each = t.each }

-- ---- no turn is left
pub some_is_free : (net : Net) (lists : List (List ℕ)) (placed : List Bool) (order : List ℕ) → Turned net lists placed order
    → length order < length net.servers → ¬ ((s : ℕ) → s < length placed → IsPlaced placed s)
some_is_free net lists placed order t few all =
    let full = le-length_from_below order (length net.servers)
    (λ q h. list_any-from_Contains nat_eq_equiv q order (t.marked q (all q (omega (arith, h, t.marks))))) in
    omega (arith, full, few)

-- at a server without a place walks of any number of steps end
free_is_endless : (net : Net) (lists : List (List ℕ)) (placed : List Bool) (order : List ℕ) → Turned net lists placed order
    → AreBusy placed lists (length placed) → (n s : ℕ) → IsFree placed s → (a : ℕ) × IsBehind (IsNext net) n a s
free_is_endless net lists placed order t busy zero s free = (s, refl)
free_is_endless net lists placed order t busy (suc n) s free =
    let e = busy s (free_below placed s free) free in
    let before = free_is_endless net lists placed order t busy n e.last e.free in
    (before.0, (e.last, t.only e.last s (last_member (list_at lists s) e.last e.is), before.1))

-- at one with a place no walk ends that has more steps than places are before it
short_walks : (net : Net) (lists : List (List ℕ)) (placed : List Bool) (order : List ℕ) → Turned net lists placed order
    → (n k a s : ℕ) → k < n → k < length order → get_or order k 0 ≡ s → IsBehind (IsNext net) n a s → ⊥
short_walks net lists placed order t zero k a s few h is w = absurd (omega (arith, few))
short_walks net lists placed order t (suc n) k a s few h is w =
    let P : ℕ → Type 0 = λ q. IsReady net (take k order) q in
    let ready = subst P is (t.each k h).meets in
    let early = of_front order k w.0 (omega (arith, h)) (ready.waits_for_none w.0 w.1) in
    short_walks net lists placed order t n early.0 a w.0 (omega (arith, few, early.1)) (omega (arith, h, early.1)) early.2 w.2

endless_is_not_placed : (net : Net) (lists : List (List ℕ)) (placed : List Bool) (order : List ℕ) → Turned net lists placed order
    → (s : ℕ) → IsEndless net s → ¬ (Contains order s)
endless_is_not_placed net lists placed order t s e c =
    let at = place_of order s c in
    let w = e (suc at.place) in
    short_walks net lists placed order t (suc at.place) at.place w.0 s (omega arith) at.within at.is w.1

endless_is_free : (net : Net) (lists : List (List ℕ)) (placed : List Bool) (order : List ℕ) → IsAccepted net → Turned net lists placed order
    → (s : ℕ) → IsEndless net s → IsFree placed s
endless_is_free net lists placed order kept t s e =
    let step = (e 1).1 in
    let within = next_in_range net step.0 s kept step.1 in
    free_unless placed s (omega (arith, within, t.marks)) (λ p. endless_is_not_placed net lists placed order t s e (t.marked s p))

least_of_both : (P Q : ℕ → Type 0) (k : ℕ) → ((i : ℕ) → P i → Q i) → ((i : ℕ) → Q i → P i) → IsLeast P k → IsLeast Q k
least_of_both P Q k to from h = record { meets = to k h.meets; least = λ i l q. h.least i l (from i q) }

first_before : (net : Net) (lists : List (List ℕ)) (placed : List Bool) (order : List ℕ) → IsAccepted net → Turned net lists placed order
    → AreBusy placed lists (length placed) → (a b : ℕ) → IsFirstAwaited placed lists a b → IsFirstBefore net a b
first_before net lists placed order kept t busy a b =
    least_of_both (IsAwaited placed lists b) (λ s. IsNext net s b × IsEndless net s) a
    (λ s h. (t.only s b h.listed, λ n. free_is_endless net lists placed order t busy n s h.free))
    (λ s h. record {
      listed = elim (t.waits s b h.0) [ inl m ↦ m | inr c ↦ absurd (endless_is_not_placed net lists placed order t s h.1 c) ];
      free = endless_is_free net lists placed order kept t s h.1;
    })

pub cycle_of_ring : (net : Net) (lists : List (List ℕ)) (placed : List Bool) (order walk : List ℕ) → IsAccepted net → Turned net lists placed order
    → AreBusy placed lists (length placed) → IsRingBefore (IsFree placed) (IsFirstAwaited placed lists) walk → IsCycle net walk
cycle_of_ring net lists placed order walk kept t busy r =
    let to = first_before net lists placed order kept t busy in
    record {
      ring = ring_weaker (IsFirstAwaited placed lists) (IsFirstBefore net) to walk r.ring;
      from = r.from;
      is_least = least_of_both (IsFree placed) (IsEndless net) r.from
          (λ s free n. free_is_endless net lists placed order t busy n s free) (endless_is_free net lists placed order kept t) r.is_least;
      steps = r.steps;
      comes = behind_weaker (IsFirstAwaited placed lists) (IsFirstBefore net) to r.steps r.ring.start r.from r.comes;
    }

-- the first of a list of firsts
is_first_awaited : (placed : List Bool) (lists : List (List ℕ)) (firsts : List (Option ℕ)) → AreFirsts placed lists firsts → (a b : ℕ)
    → IsFirst firsts a b → IsFirstAwaited placed lists a b
is_first_awaited placed lists firsts are a b is =
    elim (cases_lt b (length firsts)) [
      | inl l ↦
          let P : Option ℕ → Type 0 = λ o. MatchOption o ((x : ℕ) → ¬ (IsAwaited placed lists b x)) (λ x. IsFirstAwaited placed lists x b) in
          subst P is (are b l)
      | inr l ↦ let e : None ≡ Some a = sym (get_or_past firsts b None l) ∙ is in absurd cc
    ]

pub ring_of_firsts : (placed : List Bool) (lists : List (List ℕ)) (firsts : List (Option ℕ)) (start : ℕ) (walk : List ℕ) → AreFirsts placed lists firsts
    → IsLeast (IsFree placed) start → IsRingBefore (λ s. s ≡ start) (IsFirst firsts) walk → IsRingBefore (IsFree placed) (IsFirstAwaited placed lists) walk
ring_of_firsts placed lists firsts start walk are least r =
    let to = is_first_awaited placed lists firsts are in
    let P : ℕ → Type 0 = λ s. IsLeast (IsFree placed) s in
    record {
      ring = ring_weaker (IsFirst firsts) (IsFirstAwaited placed lists) to walk r.ring;
      from = r.from;
      is_least = subst P (sym r.is_least.meets) least;
      steps = r.steps;
      comes = behind_weaker (IsFirst firsts) (IsFirstAwaited placed lists) to r.steps r.ring.start r.from r.comes;
    }

pub trap_of : (lists : List (List ℕ)) (placed : List Bool) (firsts : List (Option ℕ)) (start : ℕ) → length firsts ≡ length placed
    → AreFirsts placed lists firsts → AreBusy placed lists (length placed) → IsFree placed start → IsTrap firsts start
trap_of lists placed firsts start same are busy free = record {
  inside = λ s. not (get_or placed s true);
  begins = ap not free;
  waits = λ s i. of_busy s (free_from (get_or placed s true) i);
}
  where
    free_from : (b : Bool) → not b ≡ true → b ≡ false
    free_from false e = refl
    free_from true e = let absurd_e : false ≡ true = e in absurd cc

    by_first : (s : ℕ) (o : Option ℕ) → s < length firsts → EndsFree placed (list_at lists s) → get_or firsts s None ≡ o
        → MatchOption o ((a : ℕ) → ¬ (IsAwaited placed lists s a)) (λ a. IsFirstAwaited placed lists a s)
        → FirstIsInside (λ q. not (get_or placed q true)) firsts s
    by_first s None h e is none = absurd (none e.last record { listed = last_member (list_at lists s) e.last e.is; free = e.free })
    by_first s (Some a) h e is least = record { listed = h; first = a; is = is; within = ap not least.meets.free }

    of_busy : (s : ℕ) → IsFree placed s → FirstIsInside (λ q. not (get_or placed q true)) firsts s
    of_busy s f =
        let below = free_below placed s f in
        let h : s < length firsts = omega (arith, below, same) in
        by_first s (get_or firsts s None) h (busy s below f) refl (are s h)
