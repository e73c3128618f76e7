-- Before all times of a view nothing is there.
use Rattle.std.proofs.Common.{◌≡◌, List, [], ◌∷◌, inl, inr, refl, arith}
use Rattle.std.specs.Prelude.{pos, Bool, true, false, ◌&&◌}
use Rattle.rational.specs.Rational.{ℚ, int, le_q, lt_q, ◌+ℚ◌, ◌-ℚ◌, ◌≤ℚ◌, ◌<ℚ◌}
use Rattle.rational.proofs.Laws.{le_refl, le_trans, le_or_lt, le_lt_trans, le_of_lt}
use Rattle.rational.proofs.Linear.{with1, with2}
use Rattle.rational.proofs.MinMax.{le_q_not, lt_q_not}
use Rattle.run_laws.specs.Cards.{Class, size, ServerStep, Arrives, Works, Leaves, Visits}
use Rattle.run_laws.specs.Counts.{when, arrived_upto, departed}
use Rattle.run_laws.specs.Delays.{backlog}

-- no packet arrives or leaves at this time or before it
abbrev IsBefore : ℚ → List ServerStep → Type 0
IsBefore t [] = Unit {0}
IsBefore t (Arrives c u ∷ V) = (t <ℚ u) × IsBefore t V
IsBefore t (Works c a b w ∷ V) = IsBefore t V
IsBefore t (Leaves c u ∷ V) = (t <ℚ u) × IsBefore t V
IsBefore t (Visits q u ∷ V) = IsBefore t V

earlier : (s t : ℚ) (V : List ServerStep) → s ≤ℚ t → IsBefore t V → IsBefore s V
earlier s t [] h b = tt
earlier s t (Arrives c u ∷ V) h b = (le_lt_trans h b.0, earlier s t V h b.1)
earlier s t (Works c a d w ∷ V) h b = earlier s t V h b
earlier s t (Leaves c u ∷ V) h b = (le_lt_trans h b.0, earlier s t V h b.1)
earlier s t (Visits q u ∷ V) h b = earlier s t V h b

-- ---- there is such a time
record Start (V : List ServerStep) (end : ℚ) : Type 0 where
  time : ℚ
  by : time ≤ℚ end
  first : IsBefore time V

record Below (x y : ℚ) : Type 0 where
  at : ℚ
  left : at ≤ℚ x
  right : at <ℚ y

less : (y : ℚ) → (y -ℚ int (pos 1)) <ℚ y
less y = with1 y (λ c. omega (arith, c.le, c.lt, c.same))

below : (x y : ℚ) → Below x y
below x y = elim (le_or_lt x (y -ℚ int (pos 1))) [
  | inl h ↦ record { at = x; left = le_refl x; right = le_lt_trans h (less y) }
  | inr h ↦ record { at = y -ℚ int (pos 1); left = le_of_lt h; right = less y }
]

start : (V : List ServerStep) (end : ℚ) → Start V end
start [] end = record { time = end; by = le_refl end; first = tt }
start (Arrives c u ∷ V) end =
    let rest = start V end in
    let b = below rest.time u in
    record { time = b.at; by = le_trans b.left rest.by; first = (b.right, earlier b.at rest.time V b.left rest.first) }
start (Works c a b w ∷ V) end =
    let rest = start V end in
    record { time = rest.time; by = rest.by; first = rest.first }
start (Leaves c u ∷ V) end =
    let rest = start V end in
    let b = below rest.time u in
    record { time = b.at; by = le_trans b.left rest.by; first = (b.right, earlier b.at rest.time V b.left rest.first) }
start (Visits q u ∷ V) end =
    let rest = start V end in
    record { time = rest.time; by = rest.by; first = rest.first }

-- ---- nothing is counted by then
fails : (b test : Bool) (x : ℚ) → test ≡ false → when (b && test) x ≡ int (pos 0)
unfolding when
fails true test x e = rw e refl
fails false test x e = refl

none_more : (x y : ℚ) → x ≡ int (pos 0) → y ≡ int (pos 0) → x +ℚ y ≡ int (pos 0)
none_more x y p q = with2 x y (λ c. omega (arith, c.le, c.lt, c.same))

none_arrived : (C : Class) (V : List ServerStep) (t : ℚ) → IsBefore t V → arrived_upto C V t ≡ int (pos 0)
none_arrived C [] t b = refl
none_arrived C (Arrives c u ∷ V) t b =
    none_more (when (C c && le_q u t) (size c)) (arrived_upto C V t)
    (fails (C c) (le_q u t) (size c) (le_q_not u t b.0))
    (none_arrived C V t b.1)
none_arrived C (Works c a d w ∷ V) t b =
    none_more (int (pos 0)) (arrived_upto C V t) refl (none_arrived C V t b)
none_arrived C (Leaves c u ∷ V) t b =
    none_more (int (pos 0)) (arrived_upto C V t) refl (none_arrived C V t b.1)
none_arrived C (Visits q u ∷ V) t b =
    none_more (int (pos 0)) (arrived_upto C V t) refl (none_arrived C V t b)

none_left : (C : Class) (V : List ServerStep) (t : ℚ) → IsBefore t V → departed C V t ≡ int (pos 0)
none_left C [] t b = refl
none_left C (Arrives c u ∷ V) t b = none_more (int (pos 0)) (departed C V t) refl (none_left C V t b.1)
none_left C (Works c a d w ∷ V) t b = none_more (int (pos 0)) (departed C V t) refl (none_left C V t b)
none_left C (Leaves c u ∷ V) t b =
    none_more (when (C c && lt_q u t) (size c)) (departed C V t)
    (fails (C c) (lt_q u t) (size c) (lt_q_not u t (le_of_lt b.0)))
    (none_left C V t b.1)
none_left C (Visits q u ∷ V) t b = none_more (int (pos 0)) (departed C V t) refl (none_left C V t b)

-- a time by which nothing has come
pub record IsEmptyBy (C : Class) (V : List ServerStep) (end : ℚ) : Type 0 where
  pub time : ℚ
  pub by : time ≤ℚ end
  pub none : backlog C V time ≡ int (pos 0)

zero_less : (x y : ℚ) → x ≡ int (pos 0) → y ≡ int (pos 0) → x -ℚ y ≡ int (pos 0)
zero_less x y p q = with2 x y (λ c. omega (arith, c.le, c.lt, c.same))

pub empty_by : (C : Class) (V : List ServerStep) (end : ℚ) → IsEmptyBy C V end
empty_by C V end =
    let s = start V end in
    record {
      time = s.time;
      by = s.by;
      none = zero_less (arrived_upto C V s.time) (departed C V s.time) (none_arrived C V s.time s.first)
          (none_left C V s.time s.first);
    }
