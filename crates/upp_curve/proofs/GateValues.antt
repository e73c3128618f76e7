-- The gate's curve has the gate's values.
use Rattle.std.specs.Prelude.{◌≡◌, ℕ, suc, pos, cond, List, [], ◌∷◌}
use Rattle.std.proofs.Common.{arith, sym, ap, ap₂, ◌∙◌, subst, inl, inr}
use Rattle.rational.specs.Rational.{ℚ, ◌+ℚ◌, ◌-ℚ◌, ◌*ℚ◌, ◌/ℚ◌, ◌≤ℚ◌, ◌<ℚ◌, int, le_q, neg_ℚ}
use Rattle.rational.specs.MinMax.{max_q}
use Rattle.rational.specs.Whole.{whole_part, periods}
use Rattle.rational.specs.Extended.{◌+ₑ◌}
use Rattle.rational.specs.declared.Extended.TheVariants.{Fin}
use Rattle.rational.proofs.Linear.{with1, with2, with3, with4, with5, with6, with7}
use Rattle.rational.proofs.Laws.{antisym, le_refl, le_or_lt, lt_le_trans, mul_comm, mul_assoc, mul_add, mul_sub, add_mul, mul_one, div_mul, not_zero, le_of_mul, lt_of_mul, mul_zero}
use Rattle.rational.proofs.Integers.{nat_next}
use Rattle.rational.proofs.MinMax.{le_q_not, max_q_right, max_q_ge_left, max_q_le}
use Rattle.rational.proofs.Over.{le_q_out}
use Rattle.rational.proofs.Whole.{periods_low, periods_high}
use Rattle.upp_curve.specs.declared.affine_segment.line.Piece.{Piece}
use Rattle.upp_curve.specs.affine_segment.Reading.{read, piece_in}
use Rattle.upp_curve.specs.Curve.{value_at, repeated}
use Rattle.min_plus.specs.Functions.{zero_q}
use Rattle.min_plus.specs.WholeUp.{whole_up}
use Rattle.upp_curve.specs.Kinds.{flat, piece, bucket, gated, gate}
use Rattle.min_plus.specs.Formulas.{gate_value}
use Rattle.upp_curve.proofs.KindValues.{on_line, bucket_is}
use Rattle.upp_curve.proofs.StairValues.{whole_ratio, ratio_low}

-- ---- the pieces of a cycle: nothing while the gate is closed, and then the rate
abbrev pub gate_pieces : (R c s : ℚ) → List Piece
gate_pieces R c s = flat zero_q zero_q ∷ piece (c -ℚ s) zero_q (neg_ℚ (R *ℚ (c -ℚ s))) R ∷ []

pub closed_value : (R c s u : ℚ) → zero_q ≤ℚ u → u <ℚ c -ℚ s → read (gate_pieces R c s) u ≡ Fin zero_q
unfolding read piece_in
closed_value R c s u h l =
    rw (le_q_not (c -ℚ s) u l)
    (on_line zero_q zero_q zero_q zero_q u (with1 zero_q (λ c. omega (arith, c.le, c.lt, c.same))) h ∙ ap Fin (with1 u (λ c. omega (arith, c.le, c.lt, c.same))))

pub open_value : (R c s u : ℚ) → c -ℚ s ≤ℚ u → read (gate_pieces R c s) u ≡ Fin (neg_ℚ (R *ℚ (c -ℚ s)) +ℚ R *ℚ u)
unfolding read piece_in
open_value R c s u h =
    rw (le_q_out (c -ℚ s) u h) (on_line (c -ℚ s) zero_q (neg_ℚ (R *ℚ (c -ℚ s))) R u (with1 (R *ℚ (c -ℚ s)) (λ c. omega (arith, c.le, c.lt, c.same))) h)

-- ---- whole cycles, rounded up
up_at : (c t : ℚ) (n : ℕ) → zero_q <ℚ c → whole_part (t /ℚ c) ≡ n → t ≤ℚ int (pos n) *ℚ c → whole_up (t /ℚ c) ≡ n
up_at c t n some e h =
    let k : t /ℚ c ≤ℚ int (pos n) = le_of_mul c (t /ℚ c) (int (pos n)) some (subst (λ z. z ≤ℚ int (pos n) *ℚ c) (sym (div_mul t c (not_zero c some))) h) in
    ap (λ m. cond (le_q (t /ℚ c) (int (pos m))) m (suc m)) e ∙ ap (λ b. cond b n (suc n)) (le_q_out (t /ℚ c) (int (pos n)) k)

up_past : (c t : ℚ) (n : ℕ) → zero_q <ℚ c → whole_part (t /ℚ c) ≡ n → int (pos n) *ℚ c <ℚ t → whole_up (t /ℚ c) ≡ suc n
up_past c t n some e h =
    let k : int (pos n) <ℚ t /ℚ c = lt_of_mul c (int (pos n)) (t /ℚ c) some (subst (λ z. int (pos n) *ℚ c <ℚ z) (sym (div_mul t c (not_zero c some))) h) in
    ap (λ m. cond (le_q (t /ℚ c) (int (pos m))) m (suc m)) e ∙ ap (λ b. cond b n (suc n)) (le_q_not (t /ℚ c) (int (pos n)) k)

-- ---- n whole cycles before t
record InCycle (c s t : ℚ) (n : ℕ) : Type 0 where
  pub some : zero_q <ℚ c
  pub shorter : s <ℚ c
  pub low : int (pos n) *ℚ c ≤ℚ t
  pub high : t <ℚ int (pos n) *ℚ c +ℚ c

value_by : (R c s t : ℚ) (n k : ℕ) → whole_part (t /ℚ c) ≡ n → whole_up (t /ℚ c) ≡ k → (m : ℚ) → max_q (int (pos n) *ℚ s) (t -ℚ int (pos k) *ℚ (c -ℚ s)) ≡ m
    → Fin (R *ℚ m) ≡ gate_value R c s t
value_by R c s t n k p q m e = sym (ap₂ (λ (i j : ℕ). Fin (R *ℚ max_q (int (pos i) *ℚ s) (t -ℚ int (pos j) *ℚ (c -ℚ s)))) p q ∙ ap (λ x. Fin (R *ℚ x)) e)

times_swap : (R s : ℚ) (n : ℕ) → int (pos n) *ℚ (R *ℚ s) ≡ R *ℚ (int (pos n) *ℚ s)
times_swap R s n = sym (mul_assoc (int (pos n)) R s) ∙ ap (λ z. z *ℚ s) (mul_comm (int (pos n)) R) ∙ mul_assoc R (int (pos n)) s

-- at the beginning of a cycle
at_start : (R c s t : ℚ) (n : ℕ) → InCycle c s t n → whole_part (t /ℚ c) ≡ n → t ≤ℚ int (pos n) *ℚ c
    → read (gate_pieces R c s) (t -ℚ int (pos n) *ℚ c) +ₑ Fin (int (pos n) *ℚ (R *ℚ s)) ≡ gate_value R c s t
at_start R c s t n h e l =
    let nc = int (pos n) *ℚ c in
    let ns = int (pos n) *ℚ s in
    let x0 = h.low in
    let x1 = h.shorter in
    let d = mul_sub (int (pos n)) c s in
    let m : max_q ns (t -ℚ int (pos n) *ℚ (c -ℚ s)) ≡ ns =
    antisym (max_q_le ns (t -ℚ int (pos n) *ℚ (c -ℚ s)) ns (le_refl ns) (with4 t nc ns (int (pos n) *ℚ (c -ℚ s)) (λ c. omega (arith, c.le, c.lt, c.same))), max_q_ge_left ns (t -ℚ int (pos n) *ℚ (c -ℚ s))) in
    ap (λ v. v +ₑ Fin (int (pos n) *ℚ (R *ℚ s)))
    (closed_value R c s (t -ℚ nc) (with2 t nc (λ c. omega (arith, c.le, c.lt, c.same))) (with4 t nc c s (λ c. omega (arith, c.le, c.lt, c.same))))
    ∙ ap Fin (with1 (int (pos n) *ℚ (R *ℚ s)) (λ c. omega (arith, c.le, c.lt, c.same)) ∙ times_swap R s n)
    ∙ value_by R c s t n n e (up_at c t n h.some e l) ns m

-- t less n + 1 closed parts of a cycle
less_closed : (c s t : ℚ) (n : ℕ) → t -ℚ int (pos (suc n)) *ℚ (c -ℚ s) ≡ int (pos n) *ℚ s +ℚ ((t -ℚ int (pos n) *ℚ c) -ℚ (c -ℚ s))
less_closed c s t n =
    let d = mul_sub (int (pos n)) c s in
    let o = ap (λ k. k *ℚ (c -ℚ s)) (nat_next n) ∙ add_mul (int (pos n)) (int (pos 1)) (c -ℚ s) in
    let u = mul_comm (int (pos 1)) (c -ℚ s) ∙ mul_one (c -ℚ s) in
    let next : int (pos (suc n)) *ℚ (c -ℚ s) ≡ int (pos n) *ℚ (c -ℚ s) +ℚ (c -ℚ s) = o ∙ ap (λ z. int (pos n) *ℚ (c -ℚ s) +ℚ z) u in
    with7 c s t (int (pos n) *ℚ c) (int (pos n) *ℚ s) (int (pos n) *ℚ (c -ℚ s)) (int (pos (suc n)) *ℚ (c -ℚ s)) (λ c. omega (arith, c.le, c.lt, c.same, d, next))

in_closed : (R c s t : ℚ) (n : ℕ) → InCycle c s t n → whole_part (t /ℚ c) ≡ n → int (pos n) *ℚ c <ℚ t → t -ℚ int (pos n) *ℚ c <ℚ c -ℚ s
    → read (gate_pieces R c s) (t -ℚ int (pos n) *ℚ c) +ₑ Fin (int (pos n) *ℚ (R *ℚ s)) ≡ gate_value R c s t
in_closed R c s t n h e l k =
    let nc = int (pos n) *ℚ c in
    let ns = int (pos n) *ℚ s in
    let x = t -ℚ int (pos (suc n)) *ℚ (c -ℚ s) in
    let a = less_closed c s t n in
    let m : max_q ns x ≡ ns = antisym (max_q_le ns x ns (le_refl ns) (with6 t nc ns c s x (λ c. omega (arith, c.le, c.lt, c.same, a))), max_q_ge_left ns x) in
    ap (λ v. v +ₑ Fin (int (pos n) *ℚ (R *ℚ s))) (closed_value R c s (t -ℚ nc) (with2 t nc (λ c. omega (arith, c.le, c.lt, c.same))) k)
    ∙ ap Fin (with1 (int (pos n) *ℚ (R *ℚ s)) (λ c. omega (arith, c.le, c.lt, c.same)) ∙ times_swap R s n)
    ∙ value_by R c s t n (suc n) e (up_past c t n h.some e l) ns m

in_open : (R c s t : ℚ) (n : ℕ) → InCycle c s t n → whole_part (t /ℚ c) ≡ n → int (pos n) *ℚ c <ℚ t → c -ℚ s ≤ℚ t -ℚ int (pos n) *ℚ c
    → read (gate_pieces R c s) (t -ℚ int (pos n) *ℚ c) +ₑ Fin (int (pos n) *ℚ (R *ℚ s)) ≡ gate_value R c s t
in_open R c s t n h e l k =
    let nc = int (pos n) *ℚ c in
    let ns = int (pos n) *ℚ s in
    let u = t -ℚ nc in
    let x = t -ℚ int (pos (suc n)) *ℚ (c -ℚ s) in
    let a = less_closed c s t n in
    let m : max_q ns x ≡ x = max_q_right ns x (with6 t nc ns c s x (λ c. omega (arith, c.le, c.lt, c.same, a))) in
    let split : R *ℚ x ≡ R *ℚ ns +ℚ (R *ℚ u -ℚ R *ℚ (c -ℚ s)) = ap (λ z. R *ℚ z) a ∙ mul_add R ns (u -ℚ (c -ℚ s)) ∙ ap (λ z. R *ℚ ns +ℚ z) (mul_sub R u (c -ℚ s)) in
    let w = times_swap R s n in
    ap (λ v. v +ₑ Fin (int (pos n) *ℚ (R *ℚ s))) (open_value R c s u k)
    ∙ ap Fin (with5 (R *ℚ (c -ℚ s)) (R *ℚ u) (int (pos n) *ℚ (R *ℚ s)) (R *ℚ ns) (R *ℚ x) (λ c. omega (arith, c.le, c.lt, c.same, split, w)))
    ∙ value_by R c s t n (suc n) e (up_past c t n h.some e l) x m

cycle_value : (R c s t : ℚ) (n : ℕ) → InCycle c s t n
    → read (gate_pieces R c s) (t -ℚ int (pos n) *ℚ c) +ₑ Fin (int (pos n) *ℚ (R *ℚ s)) ≡ gate_value R c s t
cycle_value R c s t n h =
    let e = whole_ratio c t n h.some h.low h.high in
    elim (le_or_lt t (int (pos n) *ℚ c)) [
      | inl l ↦ at_start R c s t n h e l
      | inr l ↦ elim (le_or_lt (c -ℚ s) (t -ℚ int (pos n) *ℚ c)) [ inl k ↦ in_open R c s t n h e l k | inr k ↦ in_closed R c s t n h e l k ]
    ]

-- ---- the curve
gated_is : (R c s t : ℚ) → zero_q <ℚ c → s <ℚ c → zero_q ≤ℚ t → value_at (gated R c s) t ≡ gate_value R c s t
unfolding value_at repeated
gated_is R c s t some shorter start = cycle_value R c s t (periods zero_q c t) record {
  some = some;
  shorter = shorter;
  low = let h = periods_low zero_q c t some start in let m = int (pos (periods zero_q c t)) *ℚ c in with2 m t (λ c. omega (arith, c.le, c.lt, c.same));
  high = let h = periods_high zero_q c t some in let m = int (pos (periods zero_q c t)) *ℚ c in with3 m t c (λ c. omega (arith, c.le, c.lt, c.same));
}

-- without a rate
no_rate : (c s t : ℚ) → zero_q ≤ℚ t → value_at (bucket zero_q zero_q) t ≡ gate_value zero_q c s t
no_rate c s t start =
    let m = max_q (int (pos (whole_part (t /ℚ c))) *ℚ s) (t -ℚ int (pos (whole_up (t /ℚ c))) *ℚ (c -ℚ s)) in
    (bucket_is zero_q zero_q).is t start ∙ ap Fin (with2 t m (λ c. omega (arith, c.le, c.lt, c.same)))

-- always open
always_open : (R c t : ℚ) → zero_q <ℚ c → zero_q ≤ℚ t → value_at (bucket zero_q R) t ≡ gate_value R c c t
always_open R c t some start =
    let n = int (pos (whole_part (t /ℚ c))) in
    let k = int (pos (whole_up (t /ℚ c))) in
    let low = ratio_low c t some start in
    let z : c -ℚ c ≡ zero_q = with1 c (λ c. omega (arith, c.le, c.lt, c.same)) in
    let w : k *ℚ (c -ℚ c) ≡ zero_q = ap (λ x. k *ℚ x) z ∙ mul_zero k in
    let same : t -ℚ k *ℚ (c -ℚ c) ≡ t = with2 t (k *ℚ (c -ℚ c)) (λ c. omega (arith, c.le, c.lt, c.same, w)) in
    let m : max_q (n *ℚ c) (t -ℚ k *ℚ (c -ℚ c)) ≡ t = ap (max_q (n *ℚ c)) same ∙ max_q_right (n *ℚ c) t low in
    (bucket_is zero_q R).is t start ∙ ap Fin (with1 (R *ℚ t) (λ c. omega (arith, c.le, c.lt, c.same)) ∙ ap (λ x. R *ℚ x) (sym m))

pub gate_is : (R c s t : ℚ) → zero_q ≤ℚ R → zero_q <ℚ s → s ≤ℚ c → zero_q ≤ℚ t → value_at (gate R c s) t ≡ gate_value R c s t
gate_is R c s t rate slot fits start = elim (le_or_lt R zero_q) [
  | inl k ↦
      let none : R ≡ zero_q = antisym (k, rate) in
      rw (le_q_out R zero_q k) (subst (λ r. value_at (bucket zero_q r) t ≡ gate_value r c s t) (sym none) (no_rate c s t start))
  | inr k ↦ elim (le_or_lt c s) [
    | inl l ↦
        let same : c ≡ s = antisym (l, fits) in
        rw (le_q_not R zero_q k, le_q_out c s l) (subst (λ x. value_at (bucket zero_q R) t ≡ gate_value R c x t) same (always_open R c t (lt_le_trans slot fits) start))
    | inr l ↦ rw (le_q_not R zero_q k, le_q_not c s l) (gated_is R c s t (lt_le_trans slot fits) l start)
  ]
]
