-- The sizes of a call give room to its answer: to starts on the grid of times and to crossings of two lines, to values and lines of up to eight times the
-- largest value, and to each piece of an operand; and what is read of operands' lines fits.
use Rattle.std.specs.Prelude.{◌≡◌, ◌≢◌, ℕ, ◌+◌, ◌*◌, ◌<◌, ◌≤◌, ◌^◌, ℤ, pos, nat_abs, Option, Some, None}
use Rattle.std.proofs.Common.{arith, sym, ap, ◌∙◌, refl, subst, inl, inr}
use Prim.Native.Nat.{◌∣◌}
use native.Mathlib.Nat.{dvd-mul_left, dvd-mul_right, dvd_refl, mul-pos, mul-dvd-mul_right, mul-le-mul_right, mul-le-mul_left, mul_comm as mul_comm_n}
use Rattle.rational.specs.Gcd.{gcd, gcd_steps}
use Rattle.rational.specs.Rational.{ℚ, neg_ℚ, ◌+ℚ◌, ◌-ℚ◌, ◌*ℚ◌, ◌/ℚ◌, ◌≤ℚ◌, int, inv_ℚ, frac}
use Rattle.rational.specs.Ratio.{IsSmall, SumFits}
use Rattle.rational.specs.Grid.{Whole, Within}
use Rattle.rational.proofs.Grid.{whole_weaken, whole_int, whole_add, whole_sub, whole_mul, whole_neg, within_weaken, within_add, within_sub, within_neg, within_mul, within_nonneg, whole_div, steps_bound, num_bound}
use Rattle.rational.proofs.Sizes.{sum_on_grid, quotient_on_grid}
use Rattle.rational.proofs.Integers.{nat_le, nat_le_out, nat_nonneg, int_add, int_mul}
use Rattle.rational.proofs.Quotients.{div_unique}
use Rattle.std.proofs.lemmas.Int.{ints}
use Rattle.fraction128.specs.declared.fault.Wide.{Wide}
use Rattle.upp_curve.specs.affine_segment.Steps.{IsWideCross}
use Rattle.rational.proofs.Laws.{le_refl, le_trans, mul_le_mul, mul_le_mul_right, mul_assoc, mul_comm, mul_one, mul_zero, add_mul, sub_mul, num_some}
use Rattle.rational.proofs.Linear.{with1, with2, with3, with4}
use Rattle.rational.specs.Extended.{Ext}
use Rattle.rational.specs.declared.Extended.TheVariants.{Fin, Inf}
use Rattle.upp_curve.specs.declared.affine_segment.line.Line.{Line}
use Rattle.upp_curve.specs.affine_segment.Values.{line_at, line_value}
use Rattle.upp_limits.specs.Limits.{Sizes, gauge_of}
use Rattle.upp_curve.specs.affine_segment.Fits.{LineFitsAt}
use Rattle.upp_limits.specs.Sized.{IsSlope, grid_of, times_largest, ValueStands}
pub use Rattle.upp_normal.specs.Crossings.{IsCrossing}
use Rattle.upp_normal.specs.Operand.{AreLimited, OperandLine, OperandLineAt, answer_room}
use Rattle.upp_normal.specs.Room.{top, IsRoom, TimeHasRoom, many, ValueInRoom, ValueHasRoom, LineInRoom, LineHasRoom}
use Rattle.upp_limits.proofs.OwnGauge.{end_within}
use Rattle.upp_normal.proofs.NormaliseRoom.{line_fits}
use Rattle.upp_normal.proofs.NormaliseGrids.{q_same_or}
use Rattle.upp_limits.proofs.NarrowSizes.{IsNarrow, narrow_limit, narrow_gauge, grid_pos, value_whole, value_within, run_whole, small_number, small_sum, half_bound}
use Rattle.upp_normal.specs.Ahead.{GridValue, IsGridValue, AnswerValue}

-- ---- the products that a gauge below 2 ^ 120 bounds
-- the largest value over the finest grid of values, that of the crossing of two lines, and the steepness over the grid of sums
pub record IsTight (z : Sizes) : Type 0 where
  pub crossing : z.largest * (z.dv * z.dt * (z.steepness * z.ds) * z.ds) < 2 ^ 114
  pub sums : z.largest * grid_of z < 2 ^ 114
  pub steep : z.steepness * grid_of z < 2 ^ 114

limited_narrow : (z : Sizes) (end : ℚ) → AreLimited z end → IsNarrow z (2 ^ 114)
limited_narrow z end A = narrow_limit z end A.sizes A.gauge

pub wide_narrow : (z : Sizes) (end : ℚ) → AreLimited z end → IsNarrow z (2 ^ 122)
wide_narrow z end A = narrow_gauge z end A.sizes (let g = A.gauge in omega (arith, g))

pub tight : (z : Sizes) (end : ℚ) → AreLimited z end → IsTight z
unfolding gauge_of
tight z end A =
    let g = A.gauge in
    let S = A.sizes in
    let n = z.steepness * z.ds in
    let most : 1 ≤ n = least_product z.steepness z.ds S.steepness S.ds in
    let some : z.largest * grid_of z * 1 ≤ z.largest * grid_of z * n = mul-le-mul_left (z.largest * grid_of z) most in
    let k = z.largest * z.ds in
    let others : 1 ≤ k = least_product z.largest z.ds S.largest S.ds in
    let steeps : z.steepness * grid_of z * 1 ≤ z.steepness * grid_of z * k = mul-le-mul_left (z.steepness * grid_of z) others in
    record {
      crossing = omega (arith, g);
      sums = omega (arith, g, some);
      steep = omega (arith, g, steeps);
    }
  where
    least_product : (a b : ℕ) → 1 ≤ a → 0 < b → 1 ≤ a * b
    least_product a b h k = let p : 0 < a * b = mul-pos (omega (arith, h)) k in omega (arith, p)

-- ---- the room
end_top : (z : Sizes) (end : ℚ) (k : ℕ) → AreLimited z end → z.largest * k < 2 ^ 114 → (int (pos 3) *ℚ end) *ℚ int (pos k) ≤ℚ int (pos top)
end_top z end k A h =
    let V = z.largest in
    let early : end ≤ℚ int (pos V) = end_within z end A.sizes A.some in
    let three : int (pos 3) *ℚ end ≤ℚ int (pos (3 * V)) = subst (λ y. int (pos 3) *ℚ end ≤ℚ y) (int_mul (pos 3) (pos V)) (mul_le_mul (int (pos 3)) (nat_nonneg 3) early) in
    let all : 3 * V * k ≤ top = omega (arith, h) in
    le_trans (mul_le_mul_right (int (pos k)) (nat_nonneg k) three) (subst (λ y. y ≤ℚ int (pos top)) (sym (int_mul (pos (3 * V)) (pos k))) (nat_le (3 * V * k) top all))

pub answer_is_room : (z : Sizes) (end : ℚ) → AreLimited z end → IsRoom (answer_room z end)
answer_is_room z end A =
    let some = A.some in
    let largest = A.sizes.largest in
    record {
      some_times = A.sizes.dt;
      some_base = mul-pos A.sizes.dv A.sizes.dt;
      some_slopes = A.sizes.ds;
      some_largest = omega (arith, largest);
      nested = dvd-mul_left z.dt z.dv;
      some_end = with1 end (λ c. omega (arith, c.le, c.lt, c.same));
      rate = end_top z end (grid_of z) A (tight z end A).sums;
    }

-- a time on a grid that is fine enough and not too fine
time_has_room : (z : Sizes) (end : ℚ) (grid : ℕ) (x : ℚ) → AreLimited z end → 0 < grid → z.dv * z.dt ∣ grid → z.largest * (grid * z.ds) < 2 ^ 114
    → Whole grid x → int (pos 0) ≤ℚ x → TimeHasRoom (answer_room z end) x
time_has_room z end grid x A some base small on low =
    let coarse : z.largest * grid * 1 ≤ z.largest * grid * z.ds = mul-le-mul_left (z.largest * grid) (let d = A.sizes.ds in omega (arith, d)) in
    record {
      grid = grid;
      some = some;
      base = base;
      whole = on;
      low = low;
      time_size = end_top z end grid A (omega (arith, small, coarse));
      value_size = omega (arith, small);
    }

-- a start of an operand
pub room_at_start : (z : Sizes) (end x : ℚ) → AreLimited z end → Whole z.dt x → int (pos 0) ≤ℚ x → TimeHasRoom (answer_room z end) x
room_at_start z end x A on low =
    let s = (tight z end A).sums in
    time_has_room z end (z.dv * z.dt) x A (mul-pos A.sizes.dv A.sizes.dt) (dvd_refl (z.dv * z.dt)) s (whole_weaken z.dt (z.dv * z.dt) x (dvd-mul_left z.dt z.dv) on) low

pub start_grid : (z : Sizes) (end x : ℚ) (A : AreLimited z end) (on : Whole z.dt x) (low : int (pos 0) ≤ℚ x) → (room_at_start z end x A on low).grid ≡ z.dv * z.dt
unfolding room_at_start time_has_room
start_grid z end x A on low = refl

-- a crossing of two lines, whose slopes are q steps of the grid of slopes apart
pub room_at_crossing : (z : Sizes) (end : ℚ) (q : ℕ) (x : ℚ) → AreLimited z end → 1 ≤ q → q ≤ z.steepness * z.ds → Whole (z.dv * z.dt * q) x → int (pos 0) ≤ℚ x
    → TimeHasRoom (answer_room z end) x
room_at_crossing z end q x A some few on low =
    let t = (tight z end A).crossing in
    let b = z.dv * z.dt in
    let fewer : b * z.ds * z.largest * q ≤ b * z.ds * z.largest * (z.steepness * z.ds) = mul-le-mul_left (b * z.ds * z.largest) few in
    time_has_room z end (b * q) x A (mul-pos (mul-pos A.sizes.dv A.sizes.dt) (omega (arith, some))) (dvd-mul_right b q) (omega (arith, t, fewer)) on low

pub crossing_grid : (z : Sizes) (end : ℚ) (q : ℕ) (x : ℚ) (A : AreLimited z end) (some : 1 ≤ q) (few : q ≤ z.steepness * z.ds) (on : Whole (z.dv * z.dt * q) x) (low : int (pos 0) ≤ℚ x)
    → (room_at_crossing z end q x A some few on low).grid ≡ z.dv * z.dt * q
unfolding room_at_crossing time_has_room
crossing_grid z end q x A some few on low = refl

-- ---- values and lines
pub largest_room : (z : Sizes) (end : ℚ) (k : ℕ) → k ≤ 8 → times_largest k z ≤ℚ many (answer_room z end) 1
largest_room z end k h =
    let l : k * z.largest ≤ 8 * z.largest = mul-le-mul_right z.largest h in
    subst (λ y. y ≤ℚ many (answer_room z end) 1) (sym (int_mul (pos k) (pos z.largest))) (nat_le (k * z.largest) (1 * (8 * z.largest)) (omega (arith, l)))

pub value_in_room : (z : Sizes) (end : ℚ) (k grid : ℕ) (v : ℚ) → k ≤ 8 → Whole (grid * z.ds) v → Within (times_largest k z) v → ValueInRoom (answer_room z end) 1 grid v
value_in_room z end k grid v h w i = record { whole = w; within = within_weaken (times_largest k z) (many (answer_room z end) 1) v (largest_room z end k h) i }

-- a line of an answer: its value at 0 on the grid of sums within k times the largest value, its slope within the steepness
pub record AnswerLine (z : Sizes) (k : ℕ) (l : Line) : Type 0 where
  pub icept : Whole (grid_of z) l.icept
  pub within : Within (times_largest k z) l.icept
  pub slope : Whole z.ds l.slope
  pub steep : Within (int (pos z.steepness)) l.slope

-- what rises by at most the steepness rises by at most the largest value up to the window's end
pub steep_run : (z : Sizes) (end s x : ℚ) → AreLimited z end → Within (int (pos z.steepness)) s → int (pos 0) ≤ℚ x → x ≤ℚ end → Within (times_largest 1 z) (s *ℚ x)
steep_run z end s x A h some l =
    let S = int (pos z.steepness) in
    let V = int (pos z.largest) in
    let one : int (pos 1) *ℚ V ≡ V = mul_comm (int (pos 1)) V ∙ mul_one V in
    let b : S *ℚ x ≤ℚ V = le_trans (mul_le_mul S (nat_nonneg z.steepness) l) A.sizes.reach in
    subst (λ m. Within m (s *ℚ x)) (sym one) (within_weaken (S *ℚ x) V (s *ℚ x) b (within_mul S x s x h (within_nonneg x x some (le_refl x))))

pub thrice : (v y : ℚ) → Within v y → Within (int (pos 3) *ℚ v) (int (pos 3) *ℚ y)
thrice v y h =
    let l = h.low in
    let u = h.high in
    record { low = with2 v y (λ c. omega (arith, c.le, c.lt, c.same)); high = with2 v y (λ c. omega (arith, c.le, c.lt, c.same)) }

pub line_in_room : (z : Sizes) (end : ℚ) (k : ℕ) (l : Line) → AreLimited z end → k ≤ 8 → AnswerLine z k l → LineInRoom (answer_room z end) 1 l
line_in_room z end k l A h L =
    let m = many (answer_room z end) 1 in
    let run = thrice (times_largest 1 z) (l.slope *ℚ end) (steep_run z end l.slope end A L.steep A.some (le_refl end)) in
    let more : int (pos 3) *ℚ times_largest 1 z ≤ℚ m =
    subst (λ y. y ≤ℚ m) (ap (λ y. y *ℚ int (pos z.largest)) (sym (int_mul (pos 3) (pos 1))) ∙ mul_assoc (int (pos 3)) (int (pos 1)) (int (pos z.largest))) (largest_room z end 3 (omega arith)) in
    record {
      icept = L.icept;
      within = within_weaken (times_largest k z) m l.icept (largest_room z end k h) L.within;
      slope = L.slope;
      rise = within_weaken (int (pos 3) *ℚ times_largest 1 z) m (l.slope *ℚ (int (pos 3) *ℚ end)) more (subst (λ y. Within (int (pos 3) *ℚ times_largest 1 z) y) (swapped l.slope (int (pos 3)) end) run);
    }
  where
    swapped : (s n w : ℚ) → n *ℚ (s *ℚ w) ≡ s *ℚ (n *ℚ w)
    swapped s n w = sym (mul_assoc n s w) ∙ ap (λ y. y *ℚ w) (mul_comm n s) ∙ mul_assoc s n w

pub many_more : (z : Sizes) (k j : ℕ) → times_largest k z +ℚ times_largest j z ≡ times_largest (k + j) z
many_more z k j = sym (add_mul (int (pos k)) (int (pos j)) (int (pos z.largest))) ∙ ap (λ x. x *ℚ int (pos z.largest)) (int_add (pos k) (pos j))

-- its value at a time of any grid
pub line_value_in : (z : Sizes) (end : ℚ) (k grid : ℕ) (l : Line) (x : ℚ) → AreLimited z end → k ≤ 7 → AnswerLine z k l → z.dv * z.dt ∣ grid → Whole grid x → int (pos 0) ≤ℚ x → x ≤ℚ end
    → ValueInRoom (answer_room z end) 1 grid (line_at l x)
line_value_in z end k grid l x A h L base on low early =
    let fine : Whole (grid * z.ds) l.icept = whole_weaken (grid_of z) (grid * z.ds) l.icept (mul-dvd-mul_right (z.dv * z.dt) base z.ds) L.icept in
    let run : Whole (grid * z.ds) (l.slope *ℚ x) = subst (λ n. Whole n (l.slope *ℚ x)) (mul_comm_n z.ds grid) (whole_mul z.ds grid l.slope x L.slope on) in
    value_in_room z end (k + 1) grid (line_at l x) (omega (arith, h)) (whole_add (grid * z.ds) l.icept (l.slope *ℚ x) fine run)
    (subst (λ m. Within m (line_at l x)) (many_more z k 1)
    (within_add (times_largest k z) (times_largest 1 z) l.icept (l.slope *ℚ x) L.within (steep_run z end l.slope x A L.steep low early)))

-- ---- an operand's numbers

pub operand_line : (z : Sizes) (l : Line) → OperandLine z l → AnswerLine z 2 l
operand_line z l L = record {
  icept = L.icept;
  within = L.within;
  slope = L.slope.whole;
  steep = half_bound (int (pos z.steepness)) l.slope (nat_nonneg z.steepness) L.slope.within;
}

pub operand_line_room : (z : Sizes) (end : ℚ) (l : Option Line) → AreLimited z end → OperandLineAt z l → LineHasRoom (answer_room z end) 1 l
operand_line_room z end None A L = tt
operand_line_room z end (Some l) A L = line_in_room z end 2 l A (omega arith) (operand_line z l L)

-- ---- what is read of lines fits
pub far : (end x : ℚ) → int (pos 0) ≤ℚ end → x ≤ℚ end → x ≤ℚ int (pos 3) *ℚ end
far end x some h = with2 end x (λ c. omega (arith, c.le, c.lt, c.same))

-- the value of a line with room, at a time with room
pub line_fits_in : (z : Sizes) (end x : ℚ) (l : Option Line) → AreLimited z end → LineHasRoom (answer_room z end) 1 l → TimeHasRoom (answer_room z end) x → x ≤ℚ end → LineFitsAt x l
line_fits_in z end x l A L T early = line_fits (answer_room z end) 1 x l (answer_is_room z end A) (omega arith) L T (far end x A.some early)

-- that of an operand's line, at a time on the grid of times
pub operand_line_fits : (z : Sizes) (end x : ℚ) (l : Option Line) → AreLimited z end → OperandLineAt z l → Whole z.dt x → int (pos 0) ≤ℚ x → x ≤ℚ end → LineFitsAt x l
operand_line_fits z end x l A L on low early = line_fits_in z end x l A (operand_line_room z end l A L) (room_at_start z end x A on low) early

pub more_largest : (z : Sizes) (k j : ℕ) → k ≤ j → times_largest k z ≤ℚ times_largest j z
more_largest z k j h = mul_le_mul_right (int (pos z.largest)) (nat_nonneg z.largest) (nat_le k j h)

pub stands_operand_value : (z : Sizes) (v : Ext) → ValueStands z v → GridValue z v
stands_operand_value z Inf h = tt
stands_operand_value z (Fin v) h = record { whole = value_whole z v h; within = within_weaken (times_largest 1 z) (times_largest 3 z) v (more_largest z 1 3 (omega arith)) (value_within z v h) }

pub operand_line_value : (z : Sizes) (end x : ℚ) (l : Option Line) → AreLimited z end → OperandLineAt z l → Whole z.dt x → int (pos 0) ≤ℚ x → x ≤ℚ end → GridValue z (line_value l x)
operand_line_value z end x None A L on low early = tt
operand_line_value z end x (Some l) A L on low early = record {
  whole = whole_add (grid_of z) l.icept (l.slope *ℚ x) L.icept (run_whole z l.slope x L.slope on);
  within =
      subst (λ m. Within m (line_at l x)) (many_more z 2 1)
      (within_add (times_largest 2 z) (times_largest 1 z) l.icept (l.slope *ℚ x) L.within (steep_run z end l.slope x A (operand_line z l L).steep low early));
}

-- two values of operands
pub values_fit : (z : Sizes) (end v w : ℚ) → AreLimited z end → IsGridValue z v → IsGridValue z w → SumFits v w × SumFits v (neg_ℚ w)
values_fit z end v w A V W =
    let N = wide_narrow z end A in (
      small_sum z end 3 3 v w A.sizes N (omega arith) V.whole W.whole V.within W.within,
      small_sum z end 3 3 v (neg_ℚ w) A.sizes N (omega arith) V.whole (whole_neg (grid_of z) w W.whole) V.within (within_neg (times_largest 3 z) w W.within),
    )

pub value_sum_stands : (z : Sizes) (v w : ℚ) → IsGridValue z v → IsGridValue z w → AnswerValue z 6 (v +ℚ w)
value_sum_stands z v w V W = record {
  whole = whole_add (grid_of z) v w V.whole W.whole;
  within = subst (λ m. Within m (v +ℚ w)) (many_more z 3 3) (within_add (times_largest 3 z) (times_largest 3 z) v w V.within W.within);
}

pub value_difference_stands : (z : Sizes) (v w : ℚ) → IsGridValue z v → IsGridValue z w → AnswerValue z 6 (v -ℚ w)
value_difference_stands z v w V W = record {
  whole = whole_sub (grid_of z) v w V.whole W.whole;
  within = subst (λ m. Within m (v -ℚ w)) (many_more z 3 3) (within_sub (times_largest 3 z) (times_largest 3 z) v w V.within W.within);
}

pub answer_value_room : (z : Sizes) (end : ℚ) (k grid : ℕ) (v : ℚ) → k ≤ 8 → z.dv * z.dt ∣ grid → AnswerValue z k v → ValueInRoom (answer_room z end) 1 grid v
answer_value_room z end k grid v h base V = value_in_room z end k grid v h (whole_weaken (grid_of z) (grid * z.ds) v (mul-dvd-mul_right (z.dv * z.dt) base z.ds) V.whole) V.within

-- they are on the grid of any time
pub operand_value_room : (z : Sizes) (end : ℚ) (grid : ℕ) (v : Ext) → z.dv * z.dt ∣ grid → GridValue z v → ValueHasRoom (answer_room z end) 1 grid v
operand_value_room z end grid Inf base h = tt
operand_value_room z end grid (Fin v) base h = value_in_room z end 3 grid v (omega arith) (whole_weaken (grid_of z) (grid * z.ds) v (mul-dvd-mul_right (z.dv * z.dt) base z.ds) h.whole) h.within

-- ---- two lines of operands
slopes_fit : (z : Sizes) (end s r : ℚ) → AreLimited z end → Whole z.ds s → Whole z.ds r → Within (int (pos z.steepness)) s → Within (int (pos z.steepness)) r → SumFits s r
slopes_fit z end s r A ws wr is ir =
    let S = z.steepness in
    let n = (limited_narrow z end A).slopes in
    let some = A.sizes.steepness in
    let one : 1 * z.ds ≤ S * z.ds = mul-le-mul_right z.ds some in
    let e : (int (pos S) +ℚ int (pos S)) *ℚ int (pos z.ds) ≡ int (pos ((S + S) * z.ds)) = ap (λ y. y *ℚ int (pos z.ds)) (int_add (pos S) (pos S)) ∙ int_mul (pos (S + S)) (pos z.ds) in
    sum_on_grid z.ds (int (pos S)) (int (pos S)) s r A.sizes.ds (omega (arith, n, one)) (subst (λ y. y ≤ℚ int (pos top)) (sym e) (nat_le ((S + S) * z.ds) top (omega (arith, n)))) ws wr is ir

icepts_fit : (z : Sizes) (end p q : ℚ) → AreLimited z end → Whole (grid_of z) p → Whole (grid_of z) q → Within (times_largest 2 z) p → Within (times_largest 2 z) q → SumFits p q
icepts_fit z end p q A wp wq ip iq = small_sum z end 2 2 p q A.sizes (wide_narrow z end A) (omega arith) wp wq ip iq

pub record LinesFit (l m : Line) : Type 0 where
  pub icepts : SumFits l.icept m.icept
  pub slopes : SumFits l.slope m.slope
  pub apart : SumFits l.icept (neg_ℚ m.icept)
  pub closing : SumFits l.slope (neg_ℚ m.slope)

pub operand_lines_fit : (z : Sizes) (end : ℚ) (l m : Line) → AreLimited z end → OperandLine z l → OperandLine z m → LinesFit l m
operand_lines_fit z end l m A L M =
    let S = int (pos z.steepness) in
    let P = operand_line z l L in
    let Q = operand_line z m M in
    record {
      icepts = icepts_fit z end l.icept m.icept A L.icept M.icept L.within M.within;
      slopes = slopes_fit z end l.slope m.slope A P.slope Q.slope P.steep Q.steep;
      apart = icepts_fit z end l.icept (neg_ℚ m.icept) A L.icept (whole_neg (grid_of z) m.icept M.icept) L.within (within_neg (times_largest 2 z) m.icept M.within);
      closing = slopes_fit z end l.slope (neg_ℚ m.slope) A P.slope (whole_neg z.ds m.slope Q.slope) P.steep (within_neg S m.slope Q.steep);
    }

-- twice each slope is within the steepness: so are their sum and their difference
halves_sum : (v s r : ℚ) → Within v (int (pos 2) *ℚ s) → Within v (int (pos 2) *ℚ r) → Within v (s +ℚ r)
halves_sum v s r h k =
    let a = h.low in
    let b = h.high in
    let p = k.low in
    let q = k.high in
    record { low = with3 v s r (λ c. omega (arith, c.le, c.lt, c.same)); high = with3 v s r (λ c. omega (arith, c.le, c.lt, c.same)) }

pub halves_apart : (v s r : ℚ) → Within v (int (pos 2) *ℚ s) → Within v (int (pos 2) *ℚ r) → Within v (s -ℚ r)
halves_apart v s r h k =
    let a = h.low in
    let b = h.high in
    let p = k.low in
    let q = k.high in
    record { low = with3 v s r (λ c. omega (arith, c.le, c.lt, c.same)); high = with3 v s r (λ c. omega (arith, c.le, c.lt, c.same)) }

pub sum_of_lines : (z : Sizes) (l m : Line) → OperandLine z l → OperandLine z m → AnswerLine z 4 record { icept = l.icept +ℚ m.icept; slope = l.slope +ℚ m.slope }
sum_of_lines z l m L M = record {
  icept = whole_add (grid_of z) l.icept m.icept L.icept M.icept;
  within = subst (λ v. Within v (l.icept +ℚ m.icept)) (many_more z 2 2) (within_add (times_largest 2 z) (times_largest 2 z) l.icept m.icept L.within M.within);
  slope = whole_add z.ds l.slope m.slope L.slope.whole M.slope.whole;
  steep = halves_sum (int (pos z.steepness)) l.slope m.slope L.slope.within M.slope.within;
}

pub difference_of_lines : (z : Sizes) (l m : Line) → OperandLine z l → OperandLine z m → AnswerLine z 4 record { icept = l.icept -ℚ m.icept; slope = l.slope -ℚ m.slope }
difference_of_lines z l m L M = record {
  icept = whole_sub (grid_of z) l.icept m.icept L.icept M.icept;
  within = subst (λ v. Within v (l.icept -ℚ m.icept)) (many_more z 2 2) (within_sub (times_largest 2 z) (times_largest 2 z) l.icept m.icept L.within M.within);
  slope = whole_sub z.ds l.slope m.slope L.slope.whole M.slope.whole;
  steep = halves_apart (int (pos z.steepness)) l.slope m.slope L.slope.within M.slope.within;
}

-- ---- where two lines meet
whole_times_out : (n q : ℕ) (x : ℚ) → Whole q (x *ℚ int (pos n)) → Whole (n * q) x
whole_times_out n q x w = record { steps = w.steps; is = ap (λ y. x *ℚ y) (sym (int_mul (pos n) (pos q))) ∙ sym (mul_assoc x (int (pos n)) (int (pos q))) ∙ w.is }

whole_times_in : (n q : ℕ) (x : ℚ) → Whole (n * q) x → Whole q (x *ℚ int (pos n))
whole_times_in n q x w = record { steps = w.steps; is = mul_assoc x (int (pos n)) (int (pos q)) ∙ ap (λ y. x *ℚ y) (int_mul (pos n) (pos q)) ∙ w.is }

quotient_times : (up down t n : ℚ) → down ≢ int (pos 0) → t *ℚ down ≡ up → (up *ℚ n) /ℚ down ≡ t *ℚ n
quotient_times up down t n some e = div_unique (up *ℚ n) down (t *ℚ n) some (mul_assoc t n down ∙ ap (λ y. t *ℚ y) (mul_comm n down) ∙ sym (mul_assoc t down n) ∙ ap (λ y. y *ℚ n) e)

-- from the times at which the steps of the slopes' difference are 0
steps_not_none : (d : ℕ) (x : ℚ) (w : Whole d x) → 0 < d → x ≢ int (pos 0) → 1 ≤ nat_abs w.steps
steps_not_none d x w some h = let b = num_bound d x some w in let n = num_not_none x h in omega (arith, b, n)
  where
    num_not_none : (x : ℚ) → x ≢ int (pos 0) → 1 ≤ nat_abs x.num
    num_not_none x h = let n = num_some x h in size x.num n
      where
        size : (a : ℤ) → a ≢ pos 0 → 1 ≤ nat_abs a
        size a h = omega (arith, ints)

pub crossing_from : (z : Sizes) (end up down t : ℚ) → AreLimited z end → Whole (grid_of z) up → Whole z.ds down → Within (int (pos z.steepness)) down → down ≢ int (pos 0) → t *ℚ down ≡ up → IsCrossing z t
crossing_from z end up down t A wu wd id some e =
    let n = z.dv * z.dt in
    let Q = whole_div z.ds (up *ℚ int (pos n)) down (whole_times_in n z.ds up wu) wd some in
    let bound = steps_bound z.ds (int (pos z.steepness)) down wd id in
    record {
      apart = nat_abs wd.steps;
      some = steps_not_none z.ds down wd A.sizes.ds some;
      few = nat_le_out (nat_abs wd.steps) (z.steepness * z.ds) (subst (λ y. int (pos (nat_abs wd.steps)) ≤ℚ y) (int_mul (pos z.steepness) (pos z.ds)) bound);
      whole = whole_times_out n (nat_abs wd.steps) t (subst (Whole (nat_abs wd.steps)) (quotient_times up down t (int (pos n)) some e) Q.whole);
    }

slopes_apart : (s r : ℚ) → s ≢ r → s -ℚ r ≢ int (pos 0)
slopes_apart s r h e = h (with2 s r (λ c. omega (arith, c.le, c.lt, c.same)))

pub meet_times : (l m : Line) (t : ℚ) → line_at l t ≡ line_at m t → t *ℚ (l.slope -ℚ m.slope) ≡ m.icept -ℚ l.icept
meet_times l m t e =
    let p = l.slope *ℚ t in
    let q = m.slope *ℚ t in
    let i = l.icept in
    let j = m.icept in
    mul_comm t (l.slope -ℚ m.slope) ∙ sub_mul l.slope m.slope t ∙ with4 p q i j (λ c. omega (arith, c.le, c.lt, c.same))

pub crossing_of_lines : (z : Sizes) (end : ℚ) (l m : Line) (t : ℚ) → AreLimited z end → OperandLine z l → OperandLine z m → l.slope ≢ m.slope → line_at l t ≡ line_at m t → IsCrossing z t
crossing_of_lines z end l m t A L M h e =
    crossing_from z end (m.icept -ℚ l.icept) (l.slope -ℚ m.slope) t A (whole_sub (grid_of z) m.icept l.icept M.icept L.icept)
    (whole_sub z.ds l.slope m.slope L.slope.whole M.slope.whole) (halves_apart (int (pos z.steepness)) l.slope m.slope L.slope.within M.slope.within)
    (slopes_apart l.slope m.slope h) (meet_times l m t e)

pub crossing_room : (z : Sizes) (end x : ℚ) → AreLimited z end → IsCrossing z x → int (pos 0) ≤ℚ x → TimeHasRoom (answer_room z end) x
crossing_room z end x A C low = room_at_crossing z end C.apart x A C.some C.few C.whole low

-- no step on the way there is too wide
pub nothing_over : (up down : ℚ) → down ≡ int (pos 0) → up /ℚ down ≡ int (pos 0)
unfolding ◌/ℚ◌ inv_ℚ frac gcd gcd_steps
nothing_over up down e = ap (λ d. up /ℚ d) e ∙ mul_zero up

some_largest : (z : Sizes) → int (pos 0) ≤ℚ times_largest 1 z
some_largest z = subst (λ y. int (pos 0) ≤ℚ y) (sym (int_mul (pos 1) (pos z.largest))) (nat_nonneg (1 * z.largest))

-- a gap on the grid, within k times the largest value, over that of two slopes
pub crossing_fits : (z : Sizes) (end : ℚ) (k : ℕ) (up r s : ℚ) → AreLimited z end → k * z.largest * grid_of z ≤ top → Whole (grid_of z) up → Within (times_largest k z) up → IsSlope z r → IsSlope z s → IsSmall (up /ℚ (r -ℚ s))
crossing_fits z end k up r s A room on within R S = elim (q_same_or (r -ℚ s) (int (pos 0))) [
  | inl e ↦
      subst IsSmall (sym (nothing_over up (r -ℚ s) e))
      (small_number z end 1 (int (pos 0)) A.sizes (wide_narrow z end A) (omega arith) (whole_int (grid_of z) (pos 0)) (within_nonneg (times_largest 1 z) (int (pos 0)) (le_refl (int (pos 0))) (some_largest z)))
  | inr h ↦
      let p = (tight z end A).steep in
      let d = grid_of z in
      let wide : times_largest k z *ℚ int (pos d) ≤ℚ int (pos top) = subst (λ y. y ≤ℚ int (pos top)) (sym (ap (λ y. y *ℚ int (pos d)) (int_mul (pos k) (pos z.largest)) ∙ int_mul (pos (k * z.largest)) (pos d))) (nat_le (k * z.largest * d) top room) in
      let steep : int (pos z.steepness) *ℚ int (pos d) ≤ℚ int (pos top) = subst (λ y. y ≤ℚ int (pos top)) (sym (int_mul (pos z.steepness) (pos d))) (nat_le (z.steepness * d) top (omega (arith, p))) in
      let apart : Whole d (r -ℚ s) = whole_weaken z.ds d (r -ℚ s) (dvd-mul_left z.ds (z.dv * z.dt)) (whole_sub z.ds r s R.whole S.whole) in
      quotient_on_grid d (times_largest k z) (int (pos z.steepness)) up (r -ℚ s) (grid_pos z end A.sizes) h wide steep on apart within (halves_apart (int (pos z.steepness)) r s R.within S.within)
]

pub crossing_small : (z : Sizes) (end : ℚ) (l m : Line) → AreLimited z end → OperandLine z l → OperandLine z m → IsSmall ((m.icept -ℚ l.icept) /ℚ (l.slope -ℚ m.slope))
crossing_small z end l m A L M =
    let n = (tight z end A).sums in
    let within = subst (λ v. Within v (m.icept -ℚ l.icept)) (many_more z 2 2) (within_sub (times_largest 2 z) (times_largest 2 z) m.icept l.icept M.within L.within) in
    crossing_fits z end 4 (m.icept -ℚ l.icept) l.slope m.slope A (omega (arith, n)) (whole_sub (grid_of z) m.icept l.icept M.icept L.icept) within L.slope M.slope

pub crossing_not_wide : (z : Sizes) (end : ℚ) (l m : Line) (w : Wide) → AreLimited z end → OperandLine z l → OperandLine z m → ¬ (IsWideCross l m w)
crossing_not_wide z end l m w A L M (inl a) = a.1 (operand_lines_fit z end m l A M L).apart
crossing_not_wide z end l m w A L M (inr (inl b)) = b.1 (operand_lines_fit z end l m A L M).closing
crossing_not_wide z end l m w A L M (inr (inr c)) = c.1 (crossing_small z end l m A L M)
