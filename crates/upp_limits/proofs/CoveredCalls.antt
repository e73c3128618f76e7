-- A call's numbers by the first copies of its operands' pieces.
use Rattle.std.specs.Prelude.{◌≡◌, ℕ, suc, ◌+◌, ◌*◌, ◌<◌, ◌≤◌, ◌^◌, ◌-◌, pos, nat_abs, max, ◌≢◌, None}
use Rattle.std.proofs.Common.{arith, sym, refl, ◌∙◌, subst}
use Rattle.std.proofs.Math.Nat.{le-max_left, le-max_right, max-le}
use native.Mathlib.Nat.{mul-pos, zero-lt-suc}
use Rattle.rational.specs.Rational.{ℚ, ◌+ℚ◌, ◌-ℚ◌, ◌*ℚ◌, ◌/ℚ◌, ◌≤ℚ◌, ◌<ℚ◌, int}
use Rattle.rational.specs.Fractions.{frac_self}
use Rattle.rational.specs.Grid.{Within}
use Rattle.rational.specs.Gauge.{Kept, cap, bound_of, size_up}
use Rattle.rational.specs.declared.Extended.TheVariants.{Inf}
use Rattle.rational.proofs.Linear.{with4}
use Rattle.rational.proofs.Grid.{within_weaken, within_mul, within_nonneg}
use Rattle.rational.proofs.Integers.{int_mul, nat_le, nat_nonneg}
use Rattle.rational.proofs.Laws.{mul_le_mul}
use Rattle.rational.proofs.Gauges.{le_times}
use Rattle.upp_curve.specs.declared.affine_segment.line.Piece.{Piece}
use Rattle.upp_curve.specs.declared.curve.Tail.{Tail}
use Rattle.upp_curve.specs.declared.curve.Tail.TheVariants.{Periodic, Affine, Infinite}
use Rattle.upp_curve.specs.Curve.{SpecCurve}
use Rattle.upp_curve.specs.Curves.{IsCurve}
use Rattle.min_plus.specs.WholeUp.{whole_up}
use Rattle.upp_limits.specs.declared.op_kind.OpKind.{OpKind}
use Rattle.upp_limits.specs.declared.op_kind.Operands.{Operands}
use Rattle.upp_limits.specs.declared.op_kind.Operands.TheVariants.{First, Both, FirstScaled}
use Rattle.upp_limits.specs.declared.gathered.Gathered.{Gathered}
use Rattle.upp_limits.specs.declared.call_sizes.CallGrids.{CallGrids}
use Rattle.upp_limits.specs.Gathered.{Gathers}
use Rattle.upp_limits.specs.Limits.{Numbers, joined, time_alone, value_alone, sizes_of, gauge_of}
use Rattle.upp_limits.specs.Gauges.{kind_numbers, operands_of, operand_numbers, numbers_over, gauge_over}
use Rattle.upp_limits.specs.ClosedForm.{first_numbers}
use Rattle.upp_limits.specs.Covered.{IsMostRise, AreMostRises, first_operands, AreGridsOf, AreNarrowGrids}
use Rattle.upp_limits.proofs.CommonDen.{size_up_within, within_parts}
use Rattle.upp_limits.proofs.Rounding.{whole_up_most}
use Rattle.upp_limits.proofs.Copies.{copies_out}
use Rattle.upp_limits.proofs.JoinedNumbers.{joined_assoc}
use Rattle.upp_limits.proofs.SpanNumbers.{cap_exact}
use Rattle.upp_limits.proofs.Operands.{curve_period}
use Rattle.upp_limits.proofs.CoveredSizes.{more_gauge, Covers, covers_self, covers_joined, covers_curve, covered_sizes}

-- ---- the rises of a tail
pub rise_is_most : (rank period rise end : ℚ) (copies size most : ℕ) → int (pos 0) <ℚ period → copies ≡ cap (whole_up ((end -ℚ rank) /ℚ period)) → copies ≢ 2 ^ 128 - 1 → size ≡ size_up rise
    → most ≡ copies * size → IsMostRise (Periodic rank period rise) end most
rise_is_most rank period rise end copies size most some c exact z e = λ x n h k.
    let first : Piece = record { x = rank; at = Inf; line = None } in
    let same = cap_exact copies (whole_up ((end -ℚ rank) /ℚ period)) c exact in
    let early : rank +ℚ int (pos n) *ℚ period <ℚ end = with4 rank x (int (pos n) *ℚ period) end (λ c. omega (arith, c.le, c.lt, c.same)) in
    let few : n < copies = subst (λ m. n < m) (sym same) (copies_out period end first n some early) in
    let count : Within (int (pos copies)) (int (pos n)) = within_nonneg (int (pos copies)) (int (pos n)) (nat_nonneg n) (nat_le n copies (omega (arith, few))) in
    let high : Within (int (pos size)) rise = subst (λ m. Within (int (pos m)) rise) (sym z) (size_up_within rise) in
    let all : Within (int (pos (copies * size))) (int (pos n) *ℚ rise) =
    subst (λ y. Within y (int (pos n) *ℚ rise)) (int_mul (pos copies) (pos size)) (within_mul (int (pos copies)) (int (pos size)) (int (pos n)) rise count high) in
    subst (λ m. Within (int (pos m)) (int (pos n) *ℚ rise)) (sym e) all

pub more_rise : (tail : Tail) (end : ℚ) (a m : ℕ) → a ≤ m → IsMostRise tail end a → IsMostRise tail end m
more_rise (Periodic rank period rise) end a m l h = λ x n i k. within_weaken (int (pos a)) (int (pos m)) (int (pos n) *ℚ rise) (nat_le a m l) (h x n i k)
more_rise (Affine rank) end a m l h = tt
more_rise (Infinite rank) end a m l h = tt

-- ---- what was gathered, and a whole value more
pub gathers_above : (found r : Gathered) (n : Numbers) (end bound : ℚ) (m : ℕ) → bound ≡ int (pos m) → Gathers found (joined (time_alone end) n)
    → ((k : Numbers) → Gathers found k → Gathers r (joined k (value_alone bound))) → Gathers r (joined (time_alone end) (joined n (value_alone (int (pos m)))))
gathers_above found r n end bound m e h f =
    subst (λ b. Gathers r (joined (time_alone end) (joined n (value_alone b)))) e
    (subst (Gathers r) (joined_assoc (time_alone end) n (value_alone bound)) (f (joined (time_alone end) n) h))

pub largest_above : (found : Gathered) (n : Numbers) (end : ℚ) (rise most : ℕ) → Gathers found (joined (time_alone end) n) → found.largest ≢ 2 ^ 128 - 1 → most ≡ found.largest + rise
    → bound_of n.values + rise ≤ most
unfolding cap
largest_above found n end rise most h exact e = let k = h.largest.is in omega (arith, k, exact, e)

-- ---- a call
operands_covered : (k : Operands) (end : ℚ) (f g : SpecCurve) (m : ℕ) → IsCurve f → IsCurve g → AreMostRises k end f g m → Covers m (first_operands k end f g) (operand_numbers k end f g)
operands_covered First end f g m F G h = covers_curve m end f (curve_period f F) h
operands_covered Both end f g m F G h =
    covers_joined m (first_numbers end f) _ (first_numbers end g) _ (covers_curve m end f (curve_period f F) h.0) (covers_curve m end g (curve_period g G) h.1)
operands_covered (FirstScaled q) end f g m F G h = absurd h

pub first_gathered : (op : OpKind) (f g : SpecCurve) (end : ℚ) (k : Operands) (found : Gathered) → k ≡ operands_of op
    → Gathers found (joined (joined (time_alone end) (kind_numbers op)) (first_operands k end f g))
    → Gathers found (joined (time_alone end) (joined (kind_numbers op) (first_operands (operands_of op) end f g)))
first_gathered op f g end k found e h =
    let own = kind_numbers op in
    let P : Operands → Type 0 = λ k. Gathers found (joined (joined (time_alone end) own) (first_operands k end f g)) in
    subst (Gathers found) (joined_assoc (time_alone end) own (first_operands (operands_of op) end f g)) (subst P e h)

pub call_covered : (op : OpKind) (f g : SpecCurve) (end : ℚ) (k : Operands) (rise m : ℕ) (r : CallGrids) → k ≡ operands_of op → IsCurve f → IsCurve g → AreMostRises k end f g rise
    → (let n = joined (kind_numbers op) (first_operands (operands_of op) end f g) in
    (bound_of n.values + rise ≤ m) × AreGridsOf (sizes_of end (joined n (value_alone (int (pos m))))) r)
    → AreNarrowGrids op f g end r
unfolding gauge_over
call_covered op f g end k rise m r e F G most h =
    let own = kind_numbers op in
    let firsts = first_operands (operands_of op) end f g in
    let n = joined own firsts in
    let C = covers_joined rise own own firsts (operand_numbers (operands_of op) end f g) (covers_self rise own) (operands_covered (operands_of op) end f g rise F G (subst (λ j. AreMostRises j end f g rise) e most)) in
    let S = covered_sizes rise m end n (numbers_over op f g end) C h.0 in
    let A = h.1 in
    let below = A.gauge in
    let less = S.gauge in
    record { gauge = omega (arith, less, below); times = A.times ∙ S.dt; values = A.values ∙ S.grid }

-- ---- the gauge by the lengths of the sizes
-- a number that is kept is exact below the cap
kept_below : (b n : ℕ) → Kept b n → b < 2 ^ 120 → b ≡ n
unfolding cap
kept_below b n k l = let is = k.is in omega (arith, is, l)

-- the end is at most its numerator's size
end_below : (end : ℚ) (top : ℕ) → top ≡ nat_abs end.num → end ≤ℚ int (pos top)
end_below end top e =
    let l : nat_abs end.num ≤ top * suc end.pre = let h = le_times top (suc end.pre) (zero-lt-suc end.pre) in omega (arith, e, h) in
    subst (λ x. x ≤ℚ int (pos top)) (sym (frac_self end)) (within_parts top end.num end.pre l).high

reach_below : (s top : ℕ) (end : ℚ) → top ≡ nat_abs end.num → whole_up (int (pos s) *ℚ end) ≤ s * top
reach_below s top end e =
    whole_up_most (int (pos s) *ℚ end) (s * top) (subst (λ x. int (pos s) *ℚ end ≤ℚ x) (int_mul (pos s) (pos top)) (mul_le_mul (int (pos s)) (nat_nonneg s) (end_below end top e)))

part_below : (large s q : ℕ) → 0 < s → 0 < q → 64 * (large * s * q) < 2 ^ 120 → large < 2 ^ 120
part_below large s q h k l =
    let a = le_times large s h in
    let b = le_times (large * s) q k in
    omega (arith, a, b, l)

regrouped : (v s dv dt ds : ℕ) → v * s * dv * dt * ds * ds ≡ v * s * (dv * dt * ds * ds)
regrouped v s dv dt ds = omega arith

pub grids_told : (g : Gathered) (n : Numbers) (end : ℚ) (top large : ℕ) → Gathers g (joined (time_alone end) n) → g.dv < 2 ^ 20 → g.dt < 2 ^ 20 → g.ds < 2 ^ 20 → g.steepness < 2 ^ 60
    → top ≡ nat_abs end.num → large ≡ max g.largest (g.steepness * top) → 64 * (large * g.steepness * (g.dv * g.dt * g.ds * g.ds)) < 2 ^ 120
    → AreGridsOf (sizes_of end n) record { times = g.dt; values = g.dv * g.dt * g.ds }
unfolding gauge_of
grids_told g n end top large h v t d s e l few =
    let z = sizes_of end n in
    let dv : g.dv ≡ z.dv = kept_below g.dv z.dv h.dv (omega (arith, v)) in
    let dt : g.dt ≡ z.dt = kept_below g.dt z.dt h.dt (omega (arith, t)) in
    let ds : g.ds ≡ z.ds = kept_below g.ds z.ds h.ds (omega (arith, d)) in
    let steep : g.steepness ≡ z.steepness = kept_below g.steepness z.steepness h.steepness (omega (arith, s)) in
    let some : 0 < z.steepness = h.steepness.some in
    let grid : 0 < z.dv * z.dt * z.ds * z.ds = mul-pos (mul-pos (mul-pos h.dv.some h.dt.some) h.ds.some) h.ds.some in
    let told : 64 * (large * z.steepness * (z.dv * z.dt * z.ds * z.ds)) < 2 ^ 120 = rw (← dv, ← dt, ← ds, ← steep) few in
    let below = part_below large z.steepness (z.dv * z.dt * z.ds * z.ds) some grid told in
    let first = le-max_left g.largest (g.steepness * top) in
    let second = le-max_right g.largest (g.steepness * top) in
    let largest : g.largest ≡ bound_of n.values = kept_below g.largest (bound_of n.values) h.largest (omega (arith, first, l, below)) in
    let far : whole_up (int (pos z.steepness) *ℚ end) ≤ large = subst (λ m. whole_up (int (pos m) *ℚ end) ≤ large) steep (let r = reach_below g.steepness top end e in omega (arith, r, second, l)) in
    let most : z.largest ≤ large = max-le (omega (arith, first, l, largest)) far in
    let more = more_gauge z.largest large z.steepness z.dv z.dt z.ds most in
    let same = regrouped large z.steepness z.dv z.dt z.ds in
    record { gauge = omega (arith, more, same, told); times = dt; values = rw (dv, dt, ds) refl }
