-- A bound of how many pieces of a curve start before a time, by one division.
use Rattle.std.specs.Prelude.{◌≡◌, ℕ, zero, suc, ◌+◌, ◌*◌, ◌<◌, ◌≤◌, ◌^◌, pos, cond, Bool, true, false, None, List, [], ◌∷◌, length, sum_by}
use Rattle.std.proofs.Common.{arith, inl, inr}
use Rattle.std.proofs.lemmas.List.Sums.{sum_by-cons}
use Rattle.rational.specs.Rational.{ℚ, ◌-ℚ◌, ◌*ℚ◌, ◌/ℚ◌, ◌≤ℚ◌, ◌<ℚ◌, int, lt_q}
use Rattle.rational.specs.Gauge.{cap}
use Rattle.rational.specs.declared.Extended.TheVariants.{Inf}
use Rattle.rational.proofs.Laws.{le_or_lt}
use Rattle.rational.proofs.Linear.{with4}
use Rattle.upp_curve.specs.declared.affine_segment.line.Piece.{Piece}
use Rattle.upp_curve.specs.declared.curve.Tail.TheVariants.{Periodic}
use Rattle.upp_curve.specs.Curve.{SpecCurve}
use Rattle.upp_curve.specs.Curves.{IsCurve}
use Rattle.upp_curve.specs.Unrolled.{count, copies_below}
use Rattle.min_plus.specs.WholeUp.{whole_up}
use Rattle.upp_limits.specs.Spans.{once, number_below}
use Rattle.upp_limits.specs.Covered.{MostCopies}
use Rattle.upp_limits.proofs.Copies.{copies_in, copies_out}
use Rattle.upp_limits.proofs.PieceCounts.{below_is, not_below_is, count_is_sum}

-- 1 or 0
pub once_few : (end : ℚ) (p : Piece) → once end p ≤ 1
once_few end p = at_most (lt_q p.x end)
  where
    at_most : (b : Bool) → cond b 1 0 ≤ 1
    at_most true = omega arith
    at_most false = omega arith

-- a piece that starts later has no more copies
fewer_copies : (d end : ℚ) (p q : Piece) → int (pos 0) <ℚ d → p.x ≤ℚ q.x → copies_below d end q ≤ copies_below d end p
fewer_copies d end p q some h = up_to (copies_below d end q) (copies_below d end p) (λ n k.
    let l = copies_in d end q n some k in
    let x = p.x in
    let y = q.x in
    copies_out d end p n some (with4 x y (int (pos n) *ℚ d) end (λ c. omega (arith, c.le, c.lt, c.same))))
  where
    up_to : (m n : ℕ) → ((i : ℕ) → i < m → i < n) → m ≤ n
    up_to zero n f = omega arith
    up_to (suc m) n f = let l = f m (omega arith) in omega (arith, l)

pub copies_few : (rank period rise end : ℚ) (copies : ℕ) → int (pos 0) <ℚ period → copies ≡ cap (whole_up ((end -ℚ rank) /ℚ period)) → copies < 2 ^ 20
    → MostCopies (Periodic rank period rise) end (copies + 1)
unfolding cap
copies_few rank period rise end copies some c few = λ p.
    let first : Piece = record { x = rank; at = Inf; line = None } in
    elim (le_or_lt rank p.x) [
      | inl l ↦
          let e = not_below_is p rank (once end p) (copies_below period end p) l in
          let k = fewer_copies period end first p some l in
          omega (arith, e, k, c, few)
      | inr l ↦
          let e = below_is p rank (once end p) (copies_below period end p) l in
          let k = once_few end p in
          omega (arith, e, k)
    ]

sum_few : (f : Piece → ℕ) (m : ℕ) (ps : List Piece) → ((p : Piece) → f p ≤ m) → sum_by f ps ≤ length ps * m
sum_few f m [] h = omega arith
sum_few f m (p ∷ ps) h =
    let l = h p in
    let k = sum_few f m ps h in
    let e = sum_by-cons f p ps in
    omega (arith, l, k, e)

pub count_few : (c : SpecCurve) (end : ℚ) (m n : ℕ) → IsCurve c → MostCopies c.tail end m → n ≡ length c.pieces * m → count c end ≤ n
count_few c end m n is h e =
    let k = count_is_sum c end is.normal.raw.starts in
    let l = sum_few (number_below c.tail end) m c.pieces h in
    omega (arith, k, l, e)
