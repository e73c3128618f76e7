-- The longest lag of one curve behind another up to a time, one stretch of the two after the other.
use Rattle.std.specs.Prelude.{ℕ, zero, suc, ◌<◌, ◌≤◌, pos}
use Rattle.std.proofs.Common.{arith, refl, inl, inr}
use Rattle.rational.specs.Rational.{ℚ, ◌<ℚ◌, int}
use Rattle.rational.specs.MinMax.{max_q}
use Rattle.rational.proofs.Laws.{le_or_lt, le_lt_trans, lt_le_trans, lt_irrefl}
use Rattle.upp_curve.specs.affine_segment.Values.{line_at}
use Rattle.upp_curve.specs.Curve.{SpecCurve, value_at}
use Rattle.upp_limits.specs.Limits.{Sizes}
use Rattle.curve_deviation.specs.Lags.{IsLongestLag}
use Rattle.curve_deviation.specs.Stages.{AreFinite}
use Rattle.curve_deviation.proofs.HorizontalCall.{IsReady}
use Rattle.curve_deviation.proofs.RisingParts.{time_to, cell_rises}
use Rattle.curve_deviation.proofs.Walk.{IsWalked, steps_left, walk_start, walk_time, one_pass, walk_end}
use Rattle.existence.proofs.curves.HorizontalCells.{cell_at, lag_of}

-- ---- one stretch on
-- where a walk stands is of a type that has no name here
one_on : (z : Sizes) (f g : SpecCurve) (until end : ℚ) (w : _) → AreFinite f g → IsReady z f g until end → IsWalked z (value_at f) (value_at g) until end w → w.time <ℚ until
    → (v : _) × IsWalked z (value_at f) (value_at g) until end v × (steps_left z until end v < steps_left z until end w)
one_on z f g until end w both R W before =
    let here = walk_time z (value_at f) (value_at g) until end w W R.time before in
    let C = cell_at z f g w.time w.reached until end R.first R.second both.first_rises both.second_rises here W.reached (time_to z end until R.time) before in
    let c = C.cell in
    let (q, L) = lag_of c (cell_rises (value_at f) (value_at g) w.time w.reached until end c C.is) in
    elim (le_or_lt (line_at c.first c.end) (line_at c.second c.until)) [
      | inl low ↦
          let (V, m) = one_pass z (value_at f) (value_at g) until end R.at w record { time = c.end; reached = c.from; lag = max_q w.lag q } c both.first_rises both.second_rises R.low R.before R.reached W C.is C.sizes (q, L, refl)
          (λ h. (refl, refl)) (λ h. absurd (lt_irrefl (line_at c.second c.until) (lt_le_trans h low))) in
          (record { time = c.end; reached = c.from; lag = max_q w.lag q }, V, m)
      | inr high ↦
          let (V, m) = one_pass z (value_at f) (value_at g) until end R.at w record { time = c.start; reached = c.until; lag = max_q w.lag q } c both.first_rises both.second_rises R.low R.before R.reached W C.is C.sizes (q, L, refl)
          (λ h. absurd (lt_irrefl (line_at c.second c.until) (lt_le_trans high h))) (λ h. (refl, refl)) in
          (record { time = c.start; reached = c.until; lag = max_q w.lag q }, V, m)
    ]

-- ---- all of them
on : (n : ℕ) (z : Sizes) (f g : SpecCurve) (until end : ℚ) (w : _) → AreFinite f g → IsReady z f g until end → IsWalked z (value_at f) (value_at g) until end w → steps_left z until end w ≤ n
    → (q : ℚ) × IsLongestLag (λ s. s <ℚ until) (value_at f) (value_at g) q
on zero z f g until end w both R W l = elim (le_or_lt until w.time) [
  | inl late ↦ (w.lag, walk_end z (value_at f) (value_at g) until end w W late)
  | inr before ↦ let (v, V, m) = one_on z f g until end w both R W before in absurd (omega (arith, l, m))
]
on (suc n) z f g until end w both R W l = elim (le_or_lt until w.time) [
  | inl late ↦ (w.lag, walk_end z (value_at f) (value_at g) until end w W late)
  | inr before ↦ let (v, V, m) = one_on z f g until end w both R W before in on n z f g until end v both R V (omega (arith, l, m))
]

pub longest_lag : (z : Sizes) (f g : SpecCurve) (until end : ℚ) → AreFinite f g → IsReady z f g until end → (q : ℚ) × IsLongestLag (λ s. s <ℚ until) (value_at f) (value_at g) q
longest_lag z f g until end both R =
    on (steps_left z until end record { time = int (pos 0); reached = int (pos 0); lag = int (pos 0) }) z f g until end record { time = int (pos 0); reached = int (pos 0); lag = int (pos 0) } both R
    (walk_start z (value_at f) (value_at g) until end record { time = int (pos 0); reached = int (pos 0); lag = int (pos 0) } refl refl refl R.time.nonneg (le_lt_trans R.time.nonneg R.time.before))
    (omega arith)
