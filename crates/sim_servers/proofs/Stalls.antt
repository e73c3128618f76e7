-- Stalls in the order of their starts, taken one after another.
use Rattle.std.specs.Prelude.{Option, ◌≡◌, ℕ, zero, suc, ◌+◌, ◌<◌, ◌≤◌, List, [], ◌∷◌, length, map, get_or, All, AllPairs}
use Rattle.std.proofs.Common.{arith, sym, subst, inl, inr}
use Rattle.std.proofs.lemmas.Bool.{cases_eq, cases_lt}
use Rattle.rational.specs.Rational.{ℚ, ◌≤ℚ◌, ◌<ℚ◌}
use Rattle.rational.proofs.Laws.{le_refl, le_trans, le_of_lt, lt_le_trans, lt_irrefl, le_or_lt}
use Rattle.net_model.specs.stated_runs.Setups.{GateTimes, IsGateOpen, IsStalled, IsOpenAt, IsFirstGateOpen, IsFirstOpenAt, StaysTo}
use Rattle.net_model.specs.stated_runs.TimeGrids.{IsTime, AreStallTimes}
use Rattle.sim_servers.specs.declared.opening.Span.{Span}
use Rattle.sim_servers.specs.Openings.{stall_times}

-- ---- stalled by one of them
pub stalled_at : (items : List Span) (k : ℕ) (d : Span) (x : ℚ) → k < length items → (get_or items k d).start ≤ℚ x → x <ℚ (get_or items k d).end
    → IsStalled (map stall_times items) x
stalled_at [] k d x h a b = absurd (omega (arith, h))
stalled_at (y ∷ ys) zero d x h a b = inl (a, b)
stalled_at (y ∷ ys) (suc k) d x h a b = inr (stalled_at ys k d x (omega (arith, h)) a b)

pub record IsStalledBy (items : List Span) (x : ℚ) : Type 0 where
  pub number : ℕ
  pub known : number < length items
  pub begun : (d : Span) → (get_or items number d).start ≤ℚ x
  pub goes_on : (d : Span) → x <ℚ (get_or items number d).end

pub stalled_by : (items : List Span) (x : ℚ) → IsStalled (map stall_times items) x → IsStalledBy items x
stalled_by [] x h = absurd h
stalled_by (y ∷ ys) x (inl h) = record { number = 0; known = omega arith; begun = λ d. h.0; goes_on = λ d. h.1 }
stalled_by (y ∷ ys) x (inr h) =
    let r = stalled_by ys x h in
    let l = r.known in
    record { number = suc r.number; known = omega (arith, l); begun = r.begun; goes_on = r.goes_on }

-- ---- the first open time
pub record IsOpened (gate : Option GateTimes) (items : List Span) (from : ℚ) (index : ℕ) (t : ℚ) : Type 0 where
  pub not_before : from ≤ℚ t
  pub gate_open : IsGateOpen gate t
  pub closed_before : (x : ℚ) → from ≤ℚ x → x <ℚ t → ¬ (IsOpenAt record { gate = gate; stalls = map stall_times items } x)
  pub over : (k : ℕ) (d : Span) → k < index → (get_or items k d).end ≤ℚ t

pub opened_first : (gate : Option GateTimes) (items : List Span) (from : ℚ) (index : ℕ) (t : ℚ) → IsFirstGateOpen gate from t
    → ((k : ℕ) (d : Span) → k < index → (get_or items k d).end ≤ℚ from) → IsOpened gate items from index t
opened_first gate items from index t g over = record {
  not_before = g.not_before;
  gate_open = g.open_then;
  closed_before = λ x a b o. g.closed_before x a b o.0;
  over = λ k d h. le_trans (over k d h) g.not_before;
}

more_over : (items : List Span) (index : ℕ) (t u : ℚ) → t ≤ℚ u → ((k : ℕ) (d : Span) → k < index → (get_or items k d).end ≤ℚ t)
    → ((d : Span) → (get_or items index d).end ≤ℚ u) → (k : ℕ) (d : Span) → k < index + 1 → (get_or items k d).end ≤ℚ u
more_over items index t u l over here k d h = elim (cases_lt k index) [
  | inl before ↦ le_trans (over k d before) l
  | inr after ↦ let e : index ≡ k = omega (arith, h, after) in subst (λ j. (get_or items j d).end ≤ℚ u) e (here d)
]

-- a stall that is over by then
pub opened_over : (gate : Option GateTimes) (items : List Span) (from : ℚ) (index : ℕ) (t : ℚ) → IsOpened gate items from index t
    → ((d : Span) → (get_or items index d).end ≤ℚ t) → IsOpened gate items from (index + 1) t
opened_over gate items from index t h here = record {
  not_before = h.not_before;
  gate_open = h.gate_open;
  closed_before = h.closed_before;
  over = more_over items index t t (le_refl t) h.over here;
}

-- one that covers it: the gate opens after its end
pub opened_after : (gate : Option GateTimes) (items : List Span) (from : ℚ) (index : ℕ) (t end u : ℚ) → IsOpened gate items from index t
    → index < length items → ((d : Span) → (get_or items index d).start ≤ℚ t) → ((d : Span) → (get_or items index d).end ≡ end) → t <ℚ end
    → IsFirstGateOpen gate end u → IsOpened gate items from (index + 1) u
opened_after gate items from index t end u h known start is l g =
    let later : t ≤ℚ u = le_trans (le_of_lt l) g.not_before in
    record {
      not_before = le_trans h.not_before later;
      gate_open = g.open_then;
      closed_before = λ x a b o. elim (le_or_lt t x) [
        | inl c ↦ elim (le_or_lt end x) [
          | inl e ↦ g.closed_before x e b o.0
          | inr e ↦
              let d : Span = record { start = x; end = x } in
              o.1 (stalled_at items index d x known (le_trans (start d) c) (subst (λ y. x <ℚ y) (sym (is d)) e))
        ]
        | inr c ↦ h.closed_before x a c o
      ];
      over = more_over items index t u later h.over (λ d. subst (λ y. y ≤ℚ u) (sym (is d)) g.not_before);
    }

abbrev Sorted : List Span → Type 0
Sorted items = AllPairs (λ (a b : Span). a.start ≤ℚ b.start) items

-- those from this one on start after t
pub ahead_of : (items : List Span) (index : ℕ) (t : ℚ) → Sorted items → ((d : Span) → t <ℚ (get_or items index d).start)
    → (k : ℕ) (d : Span) → index ≤ k → k < length items → t <ℚ (get_or items k d).start
ahead_of items index t sorted first k d h l = elim (cases_eq index k) [
  | inl e ↦ subst (λ j. t <ℚ (get_or items j d).start) e (first d)
  | inr n ↦ lt_le_trans (first d) (sorted index k d (omega (arith, h, n)) l)
]

not_stalled : (items : List Span) (index : ℕ) (t x : ℚ) → t ≤ℚ x → ((k : ℕ) (d : Span) → k < index → (get_or items k d).end ≤ℚ t)
    → ((k : ℕ) (d : Span) → index ≤ k → k < length items → x <ℚ (get_or items k d).start) → ¬ (IsStalled (map stall_times items) x)
not_stalled items index t x l over ahead s =
    let b = stalled_by items x s in
    let d : Span = record { start = x; end = x } in
    elim (cases_lt b.number index) [
      | inl before ↦ lt_irrefl x (lt_le_trans (b.goes_on d) (le_trans (over b.number d before) l))
      | inr after ↦ lt_irrefl x (lt_le_trans (ahead b.number d after b.known) (b.begun d))
    ]

-- none of those that are left has begun
pub opened_here : (gate : Option GateTimes) (items : List Span) (from : ℚ) (index : ℕ) (t : ℚ) → IsOpened gate items from index t
    → ((k : ℕ) (d : Span) → index ≤ k → k < length items → t <ℚ (get_or items k d).start)
    → IsFirstOpenAt record { gate = gate; stalls = map stall_times items } from t
opened_here gate items from index t h ahead = record {
  not_before = h.not_before;
  open_then = (h.gate_open, not_stalled items index t t (le_refl t) h.over ahead);
  closed_before = h.closed_before;
}

-- ---- how long it stays open
pub record IsAtStalls (items : List Span) (index : ℕ) (t : ℚ) : Type 0 where
  pub over : (k : ℕ) (d : Span) → k < index → (get_or items k d).end ≤ℚ t
  pub ahead : (k : ℕ) (d : Span) → index ≤ k → k < length items → t <ℚ (get_or items k d).start

-- no stall starts before the gate closes
pub stays_to_gate : (gate : Option GateTimes) (items : List Span) (index : ℕ) (a until e : ℚ) → IsAtStalls items index a
    → StaysTo (IsGateOpen gate) a until e → ((k : ℕ) (d : Span) → index ≤ k → k < length items → e ≤ℚ (get_or items k d).start)
    → StaysTo (IsOpenAt record { gate = gate; stalls = map stall_times items }) a until e
stays_to_gate gate items index a until e at g later = record {
  forward = g.forward;
  within = g.within;
  holds = λ x b c. (g.holds x b c, not_stalled items index a x b at.over (λ k d h l. lt_le_trans c (later k d h l)));
  ends = elim g.ends [ inl q ↦ inl q | inr q ↦ inr (λ o. q o.0) ];
}

-- the first that is left does
pub stays_to_stall : (gate : Option GateTimes) (items : List Span) (index : ℕ) (a until e s : ℚ) → IsAtStalls items index a → Sorted items
    → All (λ (x : Span). x.start <ℚ x.end) items → StaysTo (IsGateOpen gate) a until e → index < length items
    → ((d : Span) → (get_or items index d).start ≡ s) → s <ℚ e
    → StaysTo (IsOpenAt record { gate = gate; stalls = map stall_times items }) a until s
stays_to_stall gate items index a until e s at sorted forward g known is l =
    let d : Span = record { start = a; end = a } in
    let first : (d : Span) → s ≤ℚ (get_or items index d).start = λ d. subst (λ y. s ≤ℚ y) (sym (is d)) (le_refl s) in
    record {
      forward = subst (λ y. a <ℚ y) (is d) (at.ahead index d (omega arith) known);
      within = le_trans (le_of_lt l) g.within;
      holds = λ x b c. (
        g.holds x b (Rattle.rational.proofs.Laws.lt_trans c l),
        not_stalled items index a x b at.over (ahead_of items index x sorted (λ d. lt_le_trans c (first d))),
      );
      ends = inr (λ o. o.1 (stalled_at items index d s known (subst (λ y. y ≤ℚ s) (sym (is d)) (le_refl s))
          (subst (λ y. y <ℚ (get_or items index d).end) (is d) (forward index d known))));
    }

-- ---- their times are on the grid
pub stall_end_is_time : (D : ℕ) (E : ℚ) (items : List Span) (k : ℕ) (d : Span) → AreStallTimes D E (map stall_times items) → k < length items
    → IsTime D E (get_or items k d).end
stall_end_is_time D E [] k d h l = absurd (omega (arith, l))
stall_end_is_time D E (x ∷ xs) zero d h l = h.0.1
stall_end_is_time D E (x ∷ xs) (suc k) d h l = stall_end_is_time D E xs k d h.1 (omega (arith, l))

-- ---- tests

-- those from one on that does not start before t
pub ahead_from : (items : List Span) (index : ℕ) (t s : ℚ) → AllPairs (λ (a b : Span). a.start ≤ℚ b.start) items
    → ((d : Span) → (get_or items index d).start ≡ s) → t ≤ℚ s
    → (k : ℕ) (d : Span) → index ≤ k → k < length items → t ≤ℚ (get_or items k d).start
ahead_from items index t s sorted is l k d h m = elim (cases_eq index k) [
  | inl e ↦ le_trans l (subst (λ j. s ≤ℚ (get_or items j d).start) e (subst (λ y. s ≤ℚ y) (sym (is d)) (le_refl s)))
  | inr n ↦ le_trans l (subst (λ y. y ≤ℚ (get_or items k d).start) (is d) (sorted index k d (omega (arith, h, n)) m))
]
