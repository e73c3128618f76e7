-- The sizes of a call whose numbers are all short: both grids are 1, and the gauge is below the limit.
use Rattle.std.specs.Prelude.{◌≡◌, ℕ, ◌+◌, ◌*◌, ◌<◌, ◌≤◌, ◌^◌, pos, Bool, true, false, cond, List, [], ◌∷◌, ◌++◌, Option, Some, None}
use Rattle.std.specs.List.{AllByRecursion}
use Rattle.std.proofs.Common.{arith, sym, subst}
use Rattle.std.proofs.Math.Nat.{max-le}
use native.Mathlib.Nat.{le_of_dvd, mul-le-mul_right}
use Rattle.rational.specs.Rational.{ℚ, ◌+ℚ◌, ◌*ℚ◌, ◌≤ℚ◌, ◌<ℚ◌, int, lt_q}
use Rattle.rational.specs.Fractions.{frac_self}
use Rattle.rational.specs.Grid.{Whole, Within}
use Rattle.rational.specs.Gauge.{common_den, bound_of}
use Rattle.rational.specs.Extended.{Ext}
use Rattle.rational.specs.declared.Extended.TheVariants.{Fin, Inf}
use Rattle.rational.proofs.Linear.{with6}
use Rattle.rational.proofs.Laws.{le_refl, le_trans, mul_le_mul, mul_one}
use Rattle.rational.proofs.Integers.{int_add, int_mul, nat_le, nat_nonneg}
use Rattle.rational.proofs.Grid.{whole_den, whole_add, whole_mul, within_add, within_mul, within_nonneg, within_weaken}
use Rattle.upp_curve.specs.declared.affine_segment.line.Line.{Line}
use Rattle.upp_curve.specs.declared.affine_segment.line.Piece.{Piece}
use Rattle.upp_curve.specs.affine_segment.Values.{line_value}
use Rattle.upp_curve.specs.affine_segment.Pieces.{Each, start_after}
use Rattle.upp_curve.specs.declared.curve.Tail.{Tail}
use Rattle.upp_curve.specs.declared.curve.Tail.TheVariants.{Periodic, Affine, Infinite}
use Rattle.upp_curve.specs.Curve.{SpecCurve}
use Rattle.min_plus.specs.WholeUp.{whole_up}
use Rattle.upp_limits.specs.declared.op_kind.OpKind.{OpKind}
use Rattle.upp_limits.specs.declared.op_kind.OpKind.TheVariants.{Sum, Min, Max, PosDiff, PosMinus, Scale, Shift, RunSup}
use Rattle.upp_limits.specs.declared.op_kind.OpKind.TheVariants.{RunInf, FifoLeft, Convolve, Deconvolve, Horizontal}
use Rattle.upp_limits.specs.declared.op_kind.OpKind.TheVariants.{Vertical, Itself}
use Rattle.upp_limits.specs.declared.op_kind.Operands.{Operands}
use Rattle.upp_limits.specs.declared.op_kind.Operands.TheVariants.{First, Both, FirstScaled}
use Rattle.upp_limits.specs.Periods.{HasPeriod}
use Rattle.upp_limits.specs.Spans.{line_read, end_of, spans}
use Rattle.upp_limits.specs.Limits.{Numbers, finite, limit_before, line_slope, twice, curve_numbers, sizes_of, gauge_of}
use Rattle.upp_limits.specs.Sized.{grid_of}
use Rattle.upp_limits.specs.ClosedForm.{closed_spans, tail_numbers, first_numbers}
use Rattle.upp_limits.specs.Gauges.{time_number, kind_numbers, operands_of, operand_numbers, numbers_over, gauge_over}
use Rattle.upp_limits.specs.Covered.{IsMostRise, AreNarrowGrids}
use Rattle.upp_limits.specs.Short.{IsShort, IsShortValue, IsShortLine, IsShortPiece, IsShortTail, IsShortCurve, AreShort, IsShortKind, IsShortCall}
use Rattle.upp_limits.proofs.Every.{every_append, every_weaken, every_map}
use Rattle.upp_limits.proofs.CommonDen.{common_den_pos, common_den_least, within_parts, bound_least}
use Rattle.upp_limits.proofs.Rounding.{whole_up_most}
use Rattle.upp_limits.proofs.ClosedForms.{IsFilled, whole_grid, whole_filled, within_filled, Holds, SpanHolds, holds_joined, span_out, all_closed}
use Rattle.upp_limits.proofs.Carried.{Carries, whole_carried, within_carried, once_back, first_to_all}
use Rattle.upp_limits.proofs.KnownNumbers.{one_step}
use Rattle.upp_limits.proofs.Operands.{curve_period}

-- ---- whole numbers within m
record WholeWithin (m : ℕ) (x : ℚ) : Type 0 where
  pub whole : Whole 1 x
  pub within : Within (int (pos m)) x

short_within : (x : ℚ) → IsShort x → WholeWithin (2 ^ 36) x
short_within x h =
    let one = h.whole in
    let size = h.size in
    record {
      whole = subst (λ d. Whole d x) h.whole (whole_den x);
      within = subst (Within (int (pos (2 ^ 36)))) (sym (frac_self x)) (within_parts (2 ^ 36) x.num x.pre (omega (arith, one, size)));
    }

wider : (m n : ℕ) (x : ℚ) → m ≤ n → WholeWithin m x → WholeWithin n x
wider m n x l h = record { whole = h.whole; within = within_weaken (int (pos m)) (int (pos n)) x (nat_le m n l) h.within }

sum_within : (m n : ℕ) (x y : ℚ) → WholeWithin m x → WholeWithin n y → WholeWithin (m + n) (x +ℚ y)
sum_within m n x y h k = record {
  whole = whole_add 1 x y h.whole k.whole;
  within = subst (λ b. Within b (x +ℚ y)) (int_add (pos m) (pos n)) (within_add (int (pos m)) (int (pos n)) x y h.within k.within);
}

product_within : (m n : ℕ) (x y : ℚ) → WholeWithin m x → WholeWithin n y → WholeWithin (m * n) (x *ℚ y)
product_within m n x y h k = record {
  whole = whole_mul 1 1 x y h.whole k.whole;
  within = subst (λ b. Within b (x *ℚ y)) (int_mul (pos m) (pos n)) (within_mul (int (pos m)) (int (pos n)) x y h.within k.within);
}

-- ---- the values of the pieces
value_within : (v : Ext) → IsShortValue v → AllByRecursion (WholeWithin (2 ^ 74)) (finite v)
value_within Inf h = tt
value_within (Fin v) h = (wider (2 ^ 36) (2 ^ 74) v (omega arith) (short_within v h), tt)

line_within : (l : Option Line) (t : ℚ) → IsShortLine l → WholeWithin (2 ^ 37) t → AllByRecursion (WholeWithin (2 ^ 74)) (finite (line_value l t))
line_within None t h k = tt
line_within (Some l) t h k =
    let run = product_within (2 ^ 36) (2 ^ 37) l.slope t (short_within l.slope h.1) k in
    let all = sum_within (2 ^ 36) (2 ^ 36 * 2 ^ 37) l.icept (l.slope *ℚ t) (short_within l.icept h.0) run in
    (wider (2 ^ 36 + 2 ^ 36 * 2 ^ 37) (2 ^ 74) (l.icept +ℚ l.slope *ℚ t) (omega arith) all, tt)

abbrev IsNear : Option ℚ → Type 0
IsNear None = Unit {0}
IsNear (Some t) = WholeWithin (2 ^ 37) t

before_within : (l : Option Line) (next : Option ℚ) → IsShortLine l → IsNear next → AllByRecursion (WholeWithin (2 ^ 74)) (finite (limit_before l next))
before_within l None h k = tt
before_within l (Some e) h k = line_within l e h k

slopes_within : (l : Option Line) → IsShortLine l → AllByRecursion IsShort (line_slope l)
slopes_within None h = tt
slopes_within (Some l) h = (h.1, tt)

end_near : (tail : Tail) → IsShortTail tail → IsNear (end_of tail)
end_near (Periodic rank period rise) h =
    wider (2 ^ 36 + 2 ^ 36) (2 ^ 37) (rank +ℚ period) (omega arith) (sum_within (2 ^ 36) (2 ^ 36) rank period (short_within rank h.0) (short_within period h.1))
end_near (Affine rank) h = tt
end_near (Infinite rank) h = wider (2 ^ 36) (2 ^ 37) rank (omega arith) (short_within rank h)

next_near : (ps : List Piece) (end : Option ℚ) → Each IsShortPiece ps → IsNear end → IsNear (start_after ps end)
next_near [] end h k = k
next_near (p ∷ ps) end h k = wider (2 ^ 36) (2 ^ 37) p.x (omega arith) (short_within p.x h.0.start)

some_read : (b : Bool) (l : Option Line) → IsShortLine l → IsShortLine (cond b l None)
some_read true l h = h
some_read false l h = tt

read_short : (tail : Tail) (p : Piece) → IsShortLine p.line → IsShortLine (line_read tail p)
read_short (Periodic rank period rise) p h = h
read_short (Affine rank) p h = h
read_short (Infinite rank) p h = some_read (lt_q p.x rank) p.line h

span_within : (x : ℚ) (at : Ext) (l : Option Line) (next : Option ℚ) → IsShort x → IsShortValue at → IsShortLine l → IsNear next
    → SpanHolds (Whole 1) (WholeWithin (2 ^ 74)) IsShort record { piece = record { x = x; at = at; line = l }; next = next }
span_within x at l next hx ha hl k =
    let start = short_within x hx in
    let V = WholeWithin (2 ^ 74) in
    record {
      start = start.whole;
      values = every_append V (finite at ++ finite (line_value l x)) (finite (limit_before l next))
          (every_append V (finite at) (finite (line_value l x)) (value_within at ha) (line_within l x hl (wider (2 ^ 36) (2 ^ 37) x (omega arith) start))) (before_within l next hl k);
      slopes = slopes_within l hl;
    }

spans_within : (tail : Tail) (ps : List Piece) → IsShortTail tail → Each IsShortPiece ps → AllByRecursion (SpanHolds (Whole 1) (WholeWithin (2 ^ 74)) IsShort) (spans tail ps)
unfolding spans
spans_within tail [] h k = tt
spans_within tail (p ∷ ps) h k = (
  span_within p.x p.at (line_read tail p) (start_after ps (end_of tail)) k.0.start k.0.at (read_short tail p k.0.line) (next_near ps (end_of tail) k.1 (end_near tail h)),
  spans_within tail ps h k.1,
)

tail_within : (tail : Tail) → IsShortTail tail → Holds (Whole 1) (WholeWithin (2 ^ 74)) IsShort (tail_numbers tail)
tail_within (Periodic rank period rise) h = record {
  times = ((short_within rank h.0).whole, ((short_within period h.1).whole, tt));
  values = (wider (2 ^ 36) (2 ^ 74) rise (omega arith) (short_within rise h.2), tt);
  slopes = tt;
}
tail_within (Affine rank) h = record { times = ((short_within rank h).whole, tt); values = tt; slopes = tt }
tail_within (Infinite rank) h = record { times = ((short_within rank h).whole, tt); values = tt; slopes = tt }

first_within : (end : ℚ) (c : SpecCurve) → IsShortCurve c → Holds (Whole 1) (WholeWithin (2 ^ 74)) IsShort (first_numbers end c)
first_within end c h =
    let T = Whole 1 in
    let V = WholeWithin (2 ^ 74) in
    let zeroth = Affine (int (pos 0)) in
    let ss = spans c.tail c.pieces in
    holds_joined T V IsShort (tail_numbers c.tail) (closed_spans zeroth end ss) (tail_within c.tail h.tail)
    (all_closed T V IsShort zeroth end ss (every_weaken (λ s k. once_back T V IsShort end s (λ l. span_out T V IsShort s k)) ss (spans_within c.tail c.pieces h.tail h.pieces)))

-- ---- all copies
within_filled_whole : (m : ℕ) → IsFilled (WholeWithin m)
within_filled_whole m = record {
  between = λ x c n k h i j w. record {
    whole = (whole_filled 1).between x c n k h i.whole j.whole w.whole;
    within = (within_filled (int (pos m))).between x c n k h i.within j.within w.within;
  };
}

carried : (m w M : ℕ) → m + M ≤ w → Carries (WholeWithin m) (WholeWithin w) M
carried m w M h =
    let near = within_carried (int (pos m)) (int (pos w)) M (nat_le m w (omega (arith, h)))
    (subst (λ b. b ≤ℚ int (pos w)) (sym (int_add (pos m) (pos M))) (nat_le (m + M) w h)) in
    record {
      keep = λ x i. record { whole = i.whole; within = near.keep x i.within };
      later = λ x c n i j k. record { whole = (whole_carried 1 M).later x c n i.whole j k.whole; within = near.later x c n i.within j k.within };
    }

-- a period is at least 1, so that fewer than 2 ^ 37 of them pass before the end
few_short : (rank period end x : ℚ) (n : ℕ) → IsShort rank → IsShort period → IsShort end → int (pos 0) <ℚ period → rank ≤ℚ x → x +ℚ int (pos n) *ℚ period <ℚ end
    → int (pos n) ≤ℚ int (pos (2 ^ 36 + 2 ^ 36))
few_short rank period end x n r p e some h k =
    let A = int (pos (2 ^ 36)) in
    let N = int (pos n) in
    let low = (short_within rank r).within.low in
    let high = (short_within end e).within.high in
    let one : int (pos 1) ≤ℚ period = subst (λ y. int (pos 1) ≤ℚ y) (mul_one period) (one_step 1 period some (omega arith) (short_within period p).whole) in
    let run : N ≤ℚ N *ℚ period = subst (λ y. y ≤ℚ N *ℚ period) (mul_one N) (mul_le_mul N (nat_nonneg n) one) in
    let far : N ≤ℚ A +ℚ A = with6 rank end x (N *ℚ period) N A (λ c. omega (arith, c.le, c.lt, c.same)) in
    subst (λ y. N ≤ℚ y) (int_add (pos (2 ^ 36)) (pos (2 ^ 36))) far

rise_short : (tail : Tail) (end : ℚ) → IsShortTail tail → HasPeriod tail → IsShort end → IsMostRise tail end (2 ^ 73)
rise_short (Periodic rank period rise) end h some e = λ x n l k.
    let m = 2 ^ 36 + 2 ^ 36 in
    let count = within_nonneg (int (pos m)) (int (pos n)) (nat_nonneg n) (few_short rank period end x n h.0 h.1 e some l k) in
    let all = within_mul (int (pos m)) (int (pos (2 ^ 36))) (int (pos n)) rise count (short_within rise h.2).within in
    within_weaken (int (pos (m * 2 ^ 36))) (int (pos (2 ^ 73))) (int (pos n) *ℚ rise) (nat_le (m * 2 ^ 36) (2 ^ 73) (omega arith))
    (subst (λ b. Within b (int (pos n) *ℚ rise)) (int_mul (pos m) (pos (2 ^ 36))) all)
rise_short (Affine rank) end h some e = tt
rise_short (Infinite rank) end h some e = tt

-- times are whole, values within 2 ^ 75, and slopes short
abbrev AllShort : Numbers → Type 0
AllShort n = Holds (Whole 1) (WholeWithin (2 ^ 75)) IsShort n

curve_within : (end : ℚ) (c : SpecCurve) → IsShort end → IsShortCurve c → AllShort (curve_numbers end c)
curve_within end c e h =
    let some = curve_period c h.is in
    first_to_all (Whole 1) (WholeWithin (2 ^ 74)) (WholeWithin (2 ^ 75)) IsShort (2 ^ 73) end c (whole_grid 1) (within_filled_whole (2 ^ 75)) (carried (2 ^ 74) (2 ^ 75) (2 ^ 73) (omega arith)) some
    (rise_short c.tail end h.tail some e) (first_within end c h)

operands_within : (k : Operands) (end : ℚ) (f g : SpecCurve) → IsShort end → AreShort k f g → AllShort (operand_numbers k end f g)
operands_within First end f g e h = curve_within end f e h
operands_within Both end f g e h =
    holds_joined (Whole 1) (WholeWithin (2 ^ 75)) IsShort (curve_numbers end f) (curve_numbers end g) (curve_within end f e h.0) (curve_within end g e h.1)
operands_within (FirstScaled q) end f g e h = absurd h

-- ---- the kind's own numbers
nothing_within : AllShort record { times = []; values = []; slopes = [] }
nothing_within = record { times = tt; values = tt; slopes = tt }

time_within : (x : Ext) → IsShortValue x → AllByRecursion (Whole 1) (time_number x)
time_within Inf h = tt
time_within (Fin x) h = ((short_within x h).whole, tt)

kind_within : (op : OpKind) → IsShortKind op → AllShort (kind_numbers op)
kind_within Sum h = nothing_within
kind_within Min h = nothing_within
kind_within Max h = nothing_within
kind_within PosDiff h = nothing_within
kind_within (PosMinus l) h = record { times = tt; values = (wider (2 ^ 36) (2 ^ 75) l (omega arith) (short_within l h), tt); slopes = tt }
kind_within (Scale q) h = nothing_within
kind_within (Shift x) h = record { times = time_within x h; values = tt; slopes = tt }
kind_within RunSup h = nothing_within
kind_within RunInf h = nothing_within
kind_within (FifoLeft theta) h = record { times = time_within theta h; values = tt; slopes = tt }
kind_within Convolve h = nothing_within
kind_within Deconvolve h = nothing_within
kind_within Horizontal h = nothing_within
kind_within Vertical h = nothing_within
kind_within Itself h = nothing_within

-- ---- the sizes
one_den : (xs : List ℚ) → AllByRecursion (Whole 1) xs → common_den xs ≡ 1
one_den xs h =
    let most : common_den xs ≤ 1 = le_of_dvd (omega arith) (common_den_least 1 xs h) in
    let some = common_den_pos xs in
    omega (arith, most, some)

-- twice a short number
double_within : (s : ℚ) → IsShort s → Within (int (pos (2 ^ 37))) (int (pos 2) *ℚ s)
double_within s h =
    let two = within_nonneg (int (pos 2)) (int (pos 2)) (nat_nonneg 2) (le_refl (int (pos 2))) in
    let both = within_mul (int (pos 2)) (int (pos (2 ^ 36))) (int (pos 2)) s two (short_within s h).within in
    within_weaken (int (pos (2 * 2 ^ 36))) (int (pos (2 ^ 37))) (int (pos 2) *ℚ s) (nat_le (2 * 2 ^ 36) (2 ^ 37) (omega arith))
    (subst (λ b. Within b (int (pos 2) *ℚ s)) (int_mul (pos 2) (pos (2 ^ 36))) both)

steep_within : (ss : List ℚ) → AllByRecursion IsShort ss → bound_of (twice ss) ≤ 2 ^ 37
steep_within ss h =
    bound_least (2 ^ 37) (twice ss) (omega arith) (every_map (Within (int (pos (2 ^ 37)))) (λ s. int (pos 2) *ℚ s) ss (every_weaken double_within ss h))

reach_within : (s : ℕ) (end : ℚ) → s ≤ 2 ^ 37 → IsShort end → whole_up (int (pos s) *ℚ end) ≤ 2 ^ 75
reach_within s end l e =
    let count = within_nonneg (int (pos (2 ^ 37))) (int (pos s)) (nat_nonneg s) (nat_le s (2 ^ 37) l) in
    let all = within_mul (int (pos (2 ^ 37))) (int (pos (2 ^ 36))) (int (pos s)) end count (short_within end e).within in
    let far : int (pos s) *ℚ end ≤ℚ int (pos (2 ^ 37 * 2 ^ 36)) = subst (λ b. int (pos s) *ℚ end ≤ℚ b) (int_mul (pos (2 ^ 37)) (pos (2 ^ 36))) all.high in
    whole_up_most (int (pos s) *ℚ end) (2 ^ 75) (le_trans far (nat_le (2 ^ 37 * 2 ^ 36) (2 ^ 75) (omega arith)))

small_gauge : (v s dv dt ds : ℕ) → dv ≡ 1 → dt ≡ 1 → ds ≡ 1 → v ≤ 2 ^ 75 → s ≤ 2 ^ 37 → 64 * (v * s * dv * dt * ds * ds) < 2 ^ 120
small_gauge v s dv dt ds x y z h k =
    let l : v * s ≤ 2 ^ 75 * s = mul-le-mul_right s h in
    rw (x, y, z) (omega (arith, l, k))

sizes_short : (end : ℚ) (n : Numbers) → IsShort end → AllShort n
    → (gauge_of (sizes_of end n) < 2 ^ 120) × (1 ≡ (sizes_of end n).dt) × (1 ≡ grid_of (sizes_of end n))
unfolding gauge_of
sizes_short end n e h =
    let z = sizes_of end n in
    let dv : z.dv ≡ 1 = one_den n.values (every_weaken (λ v k. k.whole) n.values h.values) in
    let dt : z.dt ≡ 1 = one_den (end ∷ n.times) ((short_within end e).whole, h.times) in
    let ds : z.ds ≡ 1 = one_den n.slopes (every_weaken (λ s k. (short_within s k).whole) n.slopes h.slopes) in
    let steep : z.steepness ≤ 2 ^ 37 = steep_within n.slopes h.slopes in
    let large : bound_of n.values ≤ 2 ^ 75 = bound_least (2 ^ 75) n.values (omega arith) (every_weaken (λ v k. k.within) n.values h.values) in
    let most : z.largest ≤ 2 ^ 75 = max-le large (reach_within z.steepness end steep e) in
    (small_gauge z.largest z.steepness z.dv z.dt z.ds dv dt ds most steep, sym dt, one_grid z.dv z.dt z.ds dv dt ds)
  where
    one_grid : (dv dt ds : ℕ) → dv ≡ 1 → dt ≡ 1 → ds ≡ 1 → 1 ≡ dv * dt * ds
    one_grid dv dt ds x y z = rw (x, y, z) (omega arith)

pub narrow_short : (op : OpKind) (f g : SpecCurve) (end : ℚ) → IsShortCall op f g end → AreNarrowGrids op f g end record { times = 1; values = 1 }
unfolding gauge_over
narrow_short op f g end h =
    let own = kind_numbers op in
    let all = holds_joined (Whole 1) (WholeWithin (2 ^ 75)) IsShort own (operand_numbers (operands_of op) end f g) (kind_within op h.kind) (operands_within (operands_of op) end f g h.until h.operands) in
    let (gauge, times, values) = sizes_short end (numbers_over op f g end) h.until all in
    record { gauge = gauge; times = times; values = values }
