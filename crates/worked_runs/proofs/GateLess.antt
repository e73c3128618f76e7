-- The gate of the example less one packet, as a curve.
use Rattle.std.specs.Prelude.{◌≡◌, ℕ, suc, ◌≤◌, pos, List, [], ◌∷◌, Option, Some, None}
use Rattle.std.proofs.Common.{arith, sym, ap, ◌∙◌, refl, subst, inl, inr}
use Rattle.rational.specs.Rational.{ℚ, int, ◌+ℚ◌, ◌-ℚ◌, ◌*ℚ◌, ◌/ℚ◌, ◌≤ℚ◌, ◌<ℚ◌, neg_ℚ}
use Rattle.rational.specs.Extended.{Ext, ◌+ₑ◌}
use Rattle.rational.specs.declared.Extended.TheVariants.{Fin}
use Rattle.rational.proofs.ExtendedOrder.{fin_same}
use Rattle.rational.proofs.Integers.{nat_next, nat_nonneg, nat_le, nat_lt}
use Rattle.rational.proofs.Laws.{mul_comm, le_or_lt, le_of_lt, le_refl, le_trans, lt_irrefl, lt_trans, mul_le_mul, div_mul, not_zero}
use Rattle.rational.proofs.Linear.{with1, with2, with3, with4, with5}
use Rattle.rational.proofs.MinMax.{max_q_right, max_q_is_left, le_q_not}
use Rattle.rational.proofs.Over.{le_q_out}
use Rattle.rational.proofs.Quotients.{part_pos}
use Rattle.rational.proofs.Whole.{periods_unique}
use Rattle.upp_curve.specs.declared.affine_segment.line.Line.{Line}
use Rattle.upp_curve.specs.declared.affine_segment.line.Piece.{Piece}
use Rattle.upp_curve.specs.affine_segment.Reading.{read, piece_in}
use Rattle.upp_curve.specs.affine_segment.Values.{line_value}
use Rattle.min_plus.specs.Functions.{zero_q}
use Rattle.min_plus.specs.Pointwise.{excess}
use Rattle.upp_limits.specs.declared.op_kind.OpKind.TheVariants.{PosMinus}
use Rattle.upp_curve.specs.declared.curve.Tail.TheVariants.{Periodic}
use Rattle.upp_curve.specs.Curve.{SpecCurve, value_at, repeated}
use Rattle.upp_curve.specs.Kinds.{flat, piece, gate}
use Rattle.upp_curve.specs.Normal.{IsNormal}
use Rattle.upp_curve.specs.Readable.{IsReadable, SumFitsAt}
use Rattle.upp_curve.specs.Steady.{Repeats}
use Rattle.upp_curve.proofs.Repeats.{repeated_first}
use Rattle.upp_curve.proofs.KindValues.{on_line}
use Rattle.upp_curve.proofs.Worked.{computing}
use Rattle.curve_call.specs.Answers.{IsMadeBy}
use Rattle.run_laws.specs.Cards.{whole}
use Rattle.run_laws.proofs.Small.{le_t, lt_t}
use Rattle.worked_runs.proofs.Curves.{line_by, sum_by, small_by}
use Rattle.worked_runs.proofs.Gates.{while_closed, while_open, cycle_from}

-- ---- the curve
abbrev rest : List Piece
rest =
    piece (whole 990) zero_q (neg_ℚ (whole 99000)) (whole 100) ∷ flat (whole 1000) (whole 1000)
    ∷ piece (whole 1750) (whole 1000) (neg_ℚ (whole 174000)) (whole 100) ∷ []

abbrev pieces : List Piece
pieces = flat zero_q zero_q ∷ rest

abbrev pub gate_less_packet : SpecCurve
gate_less_packet = record { pieces = pieces; tail = Periodic (whole 990) (whole 1000) (whole 25000) }

-- ---- what its pieces read
read_first : (u : ℚ) → zero_q ≤ℚ u → u <ℚ whole 990 → read pieces u ≡ Fin zero_q
unfolding read piece_in
read_first u on h =
    rw (le_q_not (whole 990) u h)
    (on_line zero_q zero_q zero_q zero_q u (with1 zero_q (λ c. omega (arith, c.le, c.lt, c.same))) on
    ∙ ap Fin (with1 u (λ c. omega (arith, c.le, c.lt, c.same))))

read_second : (u : ℚ) → whole 990 ≤ℚ u → u <ℚ whole 1000 → read pieces u ≡ Fin (neg_ℚ (whole 99000) +ℚ whole 100 *ℚ u)
unfolding read piece_in
read_second u low high =
    rw (le_q_out (whole 990) u low, le_q_not (whole 1000) u high)
    (on_line (whole 990) zero_q (neg_ℚ (whole 99000)) (whole 100) u (with1 zero_q (λ c. omega (arith, c.le, c.lt, c.same))) low)

read_third : (u : ℚ) → whole 1000 ≤ℚ u → u <ℚ whole 1750 → read pieces u ≡ Fin (whole 1000)
unfolding read piece_in
read_third u low high =
    rw (le_q_out (whole 990) u (le_trans (le_t 990 1000 refl) low), le_q_out (whole 1000) u low, le_q_not (whole 1750) u high)
    (on_line (whole 1000) (whole 1000) (whole 1000) zero_q u (with1 zero_q (λ c. omega (arith, c.le, c.lt, c.same))) low
    ∙ ap Fin (with1 u (λ c. omega (arith, c.le, c.lt, c.same))))

read_fourth : (u : ℚ) → whole 1750 ≤ℚ u → read pieces u ≡ Fin (neg_ℚ (whole 174000) +ℚ whole 100 *ℚ u)
unfolding read piece_in
read_fourth u low =
    rw (
      le_q_out (whole 990) u (le_trans (le_t 990 1750 refl) low),
      le_q_out (whole 1000) u (le_trans (le_t 1000 1750 refl) low),
      le_q_out (whole 1750) u low,
    )
    (on_line (whole 1750) (whole 1000) (neg_ℚ (whole 174000)) (whole 100) u
    (with1 zero_q (λ c. omega (arith, c.le, c.lt, c.same))) low)

-- ---- its values
-- before the end of its first period
first_value : (t : ℚ) → t <ℚ whole 990 +ℚ whole 1000 → value_at gate_less_packet t ≡ read pieces t
unfolding value_at
first_value t h = repeated_first (read pieces) (whole 990) (whole 1000) (whole 25000) t (lt_t 0 1000 refl) h

-- after n periods
later_value : (n : ℕ) (t : ℚ) → whole 990 +ℚ whole 1000 *ℚ whole n ≤ℚ t → t <ℚ whole 990 +ℚ whole 1000 *ℚ whole n +ℚ whole 1000
    → value_at gate_less_packet t ≡ read pieces (t -ℚ int (pos n) *ℚ whole 1000) +ₑ Fin (int (pos n) *ℚ whole 25000)
unfolding value_at repeated
later_value n t low high =
    ap (λ m. read pieces (t -ℚ int (pos m) *ℚ whole 1000) +ₑ Fin (int (pos m) *ℚ whole 25000))
    (periods_unique (whole 990) (whole 1000) t n (lt_t 0 1000 refl)
    (first (int (pos n) *ℚ whole 1000) (whole 1000 *ℚ whole n) (mul_comm (int (pos n)) (whole 1000)) low)
    (last (int (pos n) *ℚ whole 1000) (whole 1000 *ℚ whole n) (mul_comm (int (pos n)) (whole 1000)) high))
  where
    first : (x y : ℚ) → x ≡ y → whole 990 +ℚ y ≤ℚ t → whole 990 +ℚ x ≤ℚ t
    first x y e h = with3 x y t (λ c. omega (arith, c.le, c.lt, c.same))

    last : (x y : ℚ) → x ≡ y → t <ℚ whole 990 +ℚ y +ℚ whole 1000 → t <ℚ whole 990 +ℚ x +ℚ whole 1000
    last x y e h = with3 x y t (λ c. omega (arith, c.le, c.lt, c.same))

-- ---- they are those of the gate less a packet
as_excess : (v w : ℚ) → w ≡ v -ℚ whole 24000 → zero_q ≤ℚ w → Fin w ≡ excess (Fin v) (Fin (whole 24000))
as_excess v w e on =
    let k : zero_q ≤ℚ v -ℚ whole 24000 = with2 v w (λ c. omega (arith, c.le, c.lt, c.same)) in
    ap Fin (e ∙ sym (max_q_right zero_q (v -ℚ whole 24000) k))

no_excess : (v : ℚ) → v -ℚ whole 24000 ≤ℚ zero_q → Fin zero_q ≡ excess (Fin v) (Fin (whole 24000))
no_excess v h = ap Fin (sym (max_q_is_left zero_q (v -ℚ whole 24000) h))

abbrev Less : ℚ → Type 0
Less t = value_at gate_less_packet t ≡ excess (value_at (gate (whole 100) (whole 1000) (whole 250)) t) (Fin (whole 24000))

less_early : (t : ℚ) → zero_q ≤ℚ t → t <ℚ whole 990 → Less t
less_early t on h = elim (le_or_lt (whole 750) t) [
  | inl l ↦
      rw (while_open 0 t (with1 t (λ c. omega (arith, c.le, c.lt, c.same))) (with1 t (λ c. omega (arith, c.le, c.lt, c.same))))
      (first_value t (with1 t (λ c. omega (arith, c.le, c.lt, c.same))) ∙ read_first t on h
      ∙ no_excess (whole 100 *ℚ t -ℚ whole 75000 *ℚ whole 0 -ℚ whole 75000) (with1 t (λ c. omega (arith, c.le, c.lt, c.same))))
  | inr l ↦
      rw (while_closed 0 t (with1 t (λ c. omega (arith, c.le, c.lt, c.same))) (with1 t (λ c. omega (arith, c.le, c.lt, c.same))))
      (first_value t (with1 t (λ c. omega (arith, c.le, c.lt, c.same))) ∙ read_first t on h
      ∙ no_excess (whole 25000 *ℚ whole 0) (with1 t (λ c. omega (arith, c.le, c.lt, c.same))))
]

-- of a number n, as whole n: its times with 1000 and with 25000
record AreTimes (n x y next : ℚ) : Type 0 where
  nonneg : zero_q ≤ℚ n
  thousands : x ≡ whole 1000 *ℚ n
  rises : y ≡ whole 25000 *ℚ n
  more : next ≡ n +ℚ whole 1

times_of : (n : ℕ) → AreTimes (whole n) (int (pos n) *ℚ whole 1000) (int (pos n) *ℚ whole 25000) (whole (suc n))
times_of n = record {
  nonneg = nat_nonneg n;
  thousands = mul_comm (int (pos n)) (whole 1000);
  rises = mul_comm (int (pos n)) (whole 25000);
  more = nat_next n;
}

-- from the rank on, in the open part of a cycle, in the closed part of the next, and in the open part of that
module _ (n : ℕ) (t : ℚ) (low : whole 990 +ℚ whole 1000 *ℚ whole n ≤ℚ t)
    (high : t <ℚ whole 990 +ℚ whole 1000 *ℚ whole n +ℚ whole 1000) where
  less_open : t <ℚ whole 1000 *ℚ whole n +ℚ whole 1000 → Less t
  less_open h =
      let a = times_of n in
      rw (while_open n t (early (whole n) low) h)
      (later_value n t low high
      ∙ ap (λ v. v +ₑ Fin (int (pos n) *ℚ whole 25000))
      (read_second (t -ℚ int (pos n) *ℚ whole 1000) (on (whole n) _ _ _ a low) (before (whole n) _ _ _ a h))
      ∙ as_excess (whole 100 *ℚ t -ℚ whole 75000 *ℚ whole n -ℚ whole 75000) _ (same (whole n) _ _ _ a) (some (whole n) _ _ _ a low))
    where
      early : (m : ℚ) → whole 990 +ℚ whole 1000 *ℚ m ≤ℚ t → whole 1000 *ℚ m +ℚ whole 750 ≤ℚ t
      early m h = with2 m t (λ c. omega (arith, c.le, c.lt, c.same))

      on : (m x y z : ℚ) → AreTimes m x y z → whole 990 +ℚ whole 1000 *ℚ m ≤ℚ t → whole 990 ≤ℚ t -ℚ x
      on m x y z a h = let e = a.thousands in with3 m x t (λ c. omega (arith, c.le, c.lt, c.same))

      before : (m x y z : ℚ) → AreTimes m x y z → t <ℚ whole 1000 *ℚ m +ℚ whole 1000 → t -ℚ x <ℚ whole 1000
      before m x y z a h = let e = a.thousands in with3 m x t (λ c. omega (arith, c.le, c.lt, c.same))

      same : (m x y z : ℚ) → AreTimes m x y z → neg_ℚ (whole 99000) +ℚ whole 100 *ℚ (t -ℚ x) +ℚ y
          ≡ whole 100 *ℚ t -ℚ whole 75000 *ℚ m -ℚ whole 75000 -ℚ whole 24000
      same m x y z a = let e = a.thousands in let f = a.rises in with4 m x y t (λ c. omega (arith, c.le, c.lt, c.same))

      some : (m x y z : ℚ) → AreTimes m x y z → whole 990 +ℚ whole 1000 *ℚ m ≤ℚ t
          → zero_q ≤ℚ neg_ℚ (whole 99000) +ℚ whole 100 *ℚ (t -ℚ x) +ℚ y
      some m x y z a h =
          let e = a.thousands in let f = a.rises in let g = a.nonneg in with4 m x y t (λ c. omega (arith, c.le, c.lt, c.same))

  less_closed : whole 1000 *ℚ whole n +ℚ whole 1000 ≤ℚ t → t <ℚ whole 1000 *ℚ whole n +ℚ whole 1750 → Less t
  less_closed h k =
      let a = times_of n in
      rw (while_closed (suc n) t (next (whole n) _ _ _ a h) (before_next (whole n) _ _ _ a k))
      (later_value n t low high
      ∙ ap (λ v. v +ₑ Fin (int (pos n) *ℚ whole 25000))
      (read_third (t -ℚ int (pos n) *ℚ whole 1000) (on (whole n) _ _ _ a h) (before (whole n) _ _ _ a k))
      ∙ as_excess (whole 25000 *ℚ whole (suc n)) _ (same (whole n) _ _ _ a) (some (whole n) _ _ _ a))
    where
      next : (m x y z : ℚ) → AreTimes m x y z → whole 1000 *ℚ m +ℚ whole 1000 ≤ℚ t → whole 1000 *ℚ z ≤ℚ t
      next m x y z a h = let e = a.more in with3 m z t (λ c. omega (arith, c.le, c.lt, c.same))

      before_next : (m x y z : ℚ) → AreTimes m x y z → t <ℚ whole 1000 *ℚ m +ℚ whole 1750 → t <ℚ whole 1000 *ℚ z +ℚ whole 750
      before_next m x y z a h = let e = a.more in with3 m z t (λ c. omega (arith, c.le, c.lt, c.same))

      on : (m x y z : ℚ) → AreTimes m x y z → whole 1000 *ℚ m +ℚ whole 1000 ≤ℚ t → whole 1000 ≤ℚ t -ℚ x
      on m x y z a h = let e = a.thousands in with3 m x t (λ c. omega (arith, c.le, c.lt, c.same))

      before : (m x y z : ℚ) → AreTimes m x y z → t <ℚ whole 1000 *ℚ m +ℚ whole 1750 → t -ℚ x <ℚ whole 1750
      before m x y z a h = let e = a.thousands in with3 m x t (λ c. omega (arith, c.le, c.lt, c.same))

      same : (m x y z : ℚ) → AreTimes m x y z → whole 1000 +ℚ y ≡ whole 25000 *ℚ z -ℚ whole 24000
      same m x y z a = let e = a.more in let f = a.rises in with3 m y z (λ c. omega (arith, c.le, c.lt, c.same))

      some : (m x y z : ℚ) → AreTimes m x y z → zero_q ≤ℚ whole 1000 +ℚ y
      some m x y z a = let f = a.rises in let g = a.nonneg in with2 m y (λ c. omega (arith, c.le, c.lt, c.same))

  less_open_again : whole 1000 *ℚ whole n +ℚ whole 1750 ≤ℚ t → Less t
  less_open_again h =
      let a = times_of n in
      rw (while_open (suc n) t (next (whole n) _ _ _ a h) (before_next (whole n) _ _ _ a high))
      (later_value n t low high
      ∙ ap (λ v. v +ₑ Fin (int (pos n) *ℚ whole 25000)) (read_fourth (t -ℚ int (pos n) *ℚ whole 1000) (on (whole n) _ _ _ a h))
      ∙ as_excess (whole 100 *ℚ t -ℚ whole 75000 *ℚ whole (suc n) -ℚ whole 75000) _ (same (whole n) _ _ _ a) (some (whole n) _ _ _ a h))
    where
      next : (m x y z : ℚ) → AreTimes m x y z → whole 1000 *ℚ m +ℚ whole 1750 ≤ℚ t → whole 1000 *ℚ z +ℚ whole 750 ≤ℚ t
      next m x y z a h = let e = a.more in with3 m z t (λ c. omega (arith, c.le, c.lt, c.same))

      before_next : (m x y z : ℚ) → AreTimes m x y z → t <ℚ whole 990 +ℚ whole 1000 *ℚ m +ℚ whole 1000 → t <ℚ whole 1000 *ℚ z +ℚ whole 1000
      before_next m x y z a h = let e = a.more in with3 m z t (λ c. omega (arith, c.le, c.lt, c.same))

      on : (m x y z : ℚ) → AreTimes m x y z → whole 1000 *ℚ m +ℚ whole 1750 ≤ℚ t → whole 1750 ≤ℚ t -ℚ x
      on m x y z a h = let e = a.thousands in with3 m x t (λ c. omega (arith, c.le, c.lt, c.same))

      same : (m x y z : ℚ) → AreTimes m x y z → neg_ℚ (whole 174000) +ℚ whole 100 *ℚ (t -ℚ x) +ℚ y
          ≡ whole 100 *ℚ t -ℚ whole 75000 *ℚ z -ℚ whole 75000 -ℚ whole 24000
      same m x y z a = let e = a.thousands in let f = a.rises in let g = a.more in with5 m x y z t (λ c. omega (arith, c.le, c.lt, c.same))

      some : (m x y z : ℚ) → AreTimes m x y z → whole 1000 *ℚ m +ℚ whole 1750 ≤ℚ t
          → zero_q ≤ℚ neg_ℚ (whole 174000) +ℚ whole 100 *ℚ (t -ℚ x) +ℚ y
      some m x y z a h =
          let e = a.thousands in let f = a.rises in let g = a.nonneg in with4 m x y t (λ c. omega (arith, c.le, c.lt, c.same))

  less_late : Less t
  less_late = elim (le_or_lt (whole 1000 *ℚ whole n +ℚ whole 1000) t) [
    | inr h ↦ less_open h
    | inl h ↦ elim (le_or_lt (whole 1000 *ℚ whole n +ℚ whole 1750) t) [
      | inr k ↦ less_closed h k
      | inl k ↦ less_open_again k
    ]
  ]

pub less_is : (t : ℚ) → zero_q ≤ℚ t → Less t
less_is t on = elim (le_or_lt (whole 990) t) [
  | inr h ↦ less_early t on h
  | inl h ↦ let c = cycle_from (whole 990) t h in less_late c.cycles t c.low c.high
]

-- ---- it is a curve
flat_from_1000 : (t : ℚ) → whole 1000 ≤ℚ t → t <ℚ whole 1750 → value_at gate_less_packet t ≡ Fin (whole 1000)
flat_from_1000 t low high = first_value t (with1 t (λ c. omega (arith, c.le, c.lt, c.same))) ∙ read_third t low high

abbrev slope_or : Option Line → ℚ
slope_or None = zero_q
slope_or (Some l) = l.slope

-- its rate is not 0
apart : whole 100 ≡ zero_q → ⊥
apart e = with1 (whole 0) (λ c. omega (arith, c.le, c.lt, c.same, e))

no_shorter : (n : ℕ) → 2 ≤ n → ¬ (Repeats (value_at gate_less_packet) (whole 990) (whole 1000 /ℚ int (pos n)) (whole 25000 /ℚ int (pos n)))
no_shorter n two h =
    let period = whole 1000 /ℚ int (pos n) in
    let rise = whole 25000 /ℚ int (pos n) in
    let long = part_pos (whole 1000) n (lt_t 0 1000 refl) two in
    let up = part_pos (whole 25000) n (lt_t 0 25000 refl) two in
    let some : int (pos 0) <ℚ int (pos n) = nat_lt 0 n (omega (arith, two)) in
    let all : period *ℚ int (pos n) ≡ whole 1000 = div_mul (whole 1000) (int (pos n)) (not_zero (int (pos n)) some) in
    let twice : period *ℚ int (pos 2) ≤ℚ period *ℚ int (pos n) = mul_le_mul period (le_of_lt long) (nat_le 2 n two) in
    let here = flat_from_1000 (whole 1000) (le_refl (whole 1000)) (lt_t 1000 1750 refl) in
    let there = flat_from_1000 (whole 1000 +ℚ period) (on period long)
    (before period (period *ℚ int (pos n)) (period *ℚ int (pos 2)) all twice (mul_comm period (int (pos 2)))) in
    none rise up (fin_same (sym there ∙ h.rule (whole 1000) (le_t 990 1000 refl) ∙ ap (λ v. v +ₑ Fin rise) here))
  where
    on : (p : ℚ) → zero_q <ℚ p → whole 1000 ≤ℚ whole 1000 +ℚ p
    on p h = with1 p (λ c. omega (arith, c.le, c.lt, c.same))

    before : (p x y : ℚ) → x ≡ whole 1000 → y ≤ℚ x → y ≡ whole 2 *ℚ p → whole 1000 +ℚ p <ℚ whole 1750
    before p x y e h f = with3 p x y (λ c. omega (arith, c.le, c.lt, c.same))

    none : (r : ℚ) → zero_q <ℚ r → whole 1000 ≡ whole 1000 +ℚ r → ⊥
    none r h e = with1 r (λ c. omega (arith, c.le, c.lt, c.same))

not_from_start : ¬ (Repeats (value_at gate_less_packet) zero_q (whole 1000) (whole 25000))
not_from_start h =
    let here = first_value (whole 750) (with1 (whole 0) (λ c. omega (arith, c.le, c.lt, c.same))) ∙ read_first (whole 750) (le_t 0 750 refl) (lt_t 750 990 refl) in
    let there = first_value (whole 750 +ℚ whole 1000) (with1 (whole 0) (λ c. omega (arith, c.le, c.lt, c.same)))
    ∙ read_fourth (whole 750 +ℚ whole 1000) (with1 (whole 0) (λ c. omega (arith, c.le, c.lt, c.same))) in
    let e = fin_same (sym there ∙ h.rule (whole 750) (le_t 0 750 refl) ∙ ap (λ v. v +ₑ Fin (whole 25000)) here) in
    with1 (whole 0) (λ c. omega (arith, c.le, c.lt, c.same, e))

not_one_line : (l : Option Line) → ¬ ((t : ℚ) → whole 990 ≤ℚ t → value_at gate_less_packet t ≡ line_value l t)
not_one_line None h =
    let e = sym (flat_from_1000 (whole 1000) (le_refl (whole 1000)) (lt_t 1000 1750 refl)) ∙ h (whole 1000) (le_t 990 1000 refl) in
    absurd (cc)
not_one_line (Some l) h =
    let first = fin_same (sym (flat_from_1000 (whole 1000) (le_refl (whole 1000)) (lt_t 1000 1750 refl)) ∙ h (whole 1000) (le_t 990 1000 refl)) in
    let second = fin_same (sym (flat_from_1000 (whole 1100) (le_t 1000 1100 refl) (lt_t 1100 1750 refl)) ∙ h (whole 1100) (le_t 990 1100 refl)) in
    let third = fin_same
    (sym (first_value (whole 1800) (with1 (whole 0) (λ c. omega (arith, c.le, c.lt, c.same)))
    ∙ read_fourth (whole 1800) (le_t 1750 1800 refl)) ∙ h (whole 1800) (le_t 990 1800 refl)) in
    bent l.icept l.slope (l.slope *ℚ whole 1000) (l.slope *ℚ whole 1100) (l.slope *ℚ whole 1800)
    (mul_comm l.slope (whole 1000)) (mul_comm l.slope (whole 1100)) (mul_comm l.slope (whole 1800)) first second third
  where
    bent : (k r x y z : ℚ) → x ≡ whole 1000 *ℚ r → y ≡ whole 1100 *ℚ r → z ≡ whole 1800 *ℚ r → whole 1000 ≡ k +ℚ x
        → whole 1000 ≡ k +ℚ y → neg_ℚ (whole 174000) +ℚ whole 100 *ℚ whole 1800 ≡ k +ℚ z → ⊥
    bent k r x y z e f g a b d = with5 k r x y z (λ c. omega (arith, c.le, c.lt, c.same))

less_normal : IsNormal gate_less_packet
less_normal = record {
  raw = record {
    starts = (refl, (lt_t 0 990 refl, (lt_t 990 1000 refl, (lt_t 1000 1750 refl, tt))));
    tail = record {
      nonneg = le_t 0 990 refl;
      some = lt_t 0 1000 refl;
      starts = (
        with1 (whole 0) (λ c. omega (arith, c.le, c.lt, c.same)),
        (
          with1 (whole 0) (λ c. omega (arith, c.le, c.lt, c.same)),
          (with1 (whole 0) (λ c. omega (arith, c.le, c.lt, c.same)), (with1 (whole 0) (λ c. omega (arith, c.le, c.lt, c.same)), tt)),
        ),
      );
    };
  };
  rank_is_start = inr (inl refl);
  no_merge = (λ h. apart (ap slope_or h.1), (λ h. apart (sym (ap slope_or h.1)), (λ h. apart (ap slope_or h.1), tt)));
  tail = record {
    least_period = no_shorter;
    least_rank = (
      λ l. not_from_start,
      (
        λ l. absurd (lt_irrefl (whole 990) l),
        (
          λ l. absurd (lt_irrefl (whole 990) (lt_trans (lt_t 990 1000 refl) l)),
          (λ l. absurd (lt_irrefl (whole 990) (lt_trans (lt_t 990 1750 refl) l)), tt),
        ),
      ),
    );
    not_one_line = not_one_line;
  };
}

less_readable : IsReadable gate_less_packet
unfolding computing
less_readable = record {
  end = sum_by (whole 990) (whole 1000) refl;
  rate = small_by (whole 25000 /ℚ whole 1000) refl;
  next = subst (λ (v : Ext). SumFitsAt v (whole 25000)) (sym (read_second (whole 990) (le_t 990 990 refl) (lt_t 990 1000 refl)))
      (sum_by (neg_ℚ (whole 99000) +ℚ whole 100 *ℚ whole 990) (whole 25000) refl);
  lines = (
    line_by zero_q zero_q zero_q refl,
    line_by (whole 990) zero_q zero_q refl,
    (
      line_by (whole 990) (neg_ℚ (whole 99000)) (whole 100) refl,
      line_by (whole 1000) (neg_ℚ (whole 99000)) (whole 100) refl,
      (
        line_by (whole 1000) (whole 1000) zero_q refl,
        line_by (whole 1750) (whole 1000) zero_q refl,
        (
          line_by (whole 1750) (neg_ℚ (whole 174000)) (whole 100) refl,
          line_by (whole 990 +ℚ whole 1000) (neg_ℚ (whole 174000)) (whole 100) refl,
          tt,
        ),
      ),
    ),
  );
}

pub less_made : IsMadeBy (PosMinus (whole 24000)) (gate (whole 100) (whole 1000) (whole 250)) (gate (whole 100) (whole 1000) (whole 250))
    gate_less_packet
less_made = record { curve = record { normal = less_normal; readable = less_readable }; answers = less_is }

-- its value from the end of the first slot to the beginning of the next
pub after_first_slot : value_at gate_less_packet (whole 1500) ≡ Fin (whole 1000)
after_first_slot = flat_from_1000 (whole 1500) (le_t 1000 1500 refl) (lt_t 1500 1750 refl)
