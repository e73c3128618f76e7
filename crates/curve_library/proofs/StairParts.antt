-- A stair: what its gauge says of its numbers, and that it has few pieces.
use Rattle.std.specs.Prelude.{◌≡◌, ℕ, zero, suc, ◌*◌, ◌/◌, ◌<◌, ◌≤◌, ◌^◌, pos, nat_abs, [], ◌∷◌}
use Rattle.std.proofs.Common.{arith, sym, ap, ◌∙◌, refl, subst, inl, inr}
use native.Mathlib.Nat.{le_of_dvd, mul-le-mul_left, mul-le-mul_right}
use Rattle.rational.specs.Rational.{ℚ, den, int, ◌+ℚ◌, ◌-ℚ◌, ◌*ℚ◌, ◌/ℚ◌, ◌≤ℚ◌, ◌<ℚ◌}
use Rattle.rational.specs.Gauge.{lcm}
use Rattle.rational.specs.Grid.{Whole}
use Rattle.rational.specs.Whole.{whole_part}
use Rattle.rational.proofs.Grid.{whole_add, whole_sub, whole_int, whole_times, whole_divides}
use Rattle.rational.proofs.Linear.{with1, with2}
use Rattle.rational.proofs.Laws.{antisym, le_of_lt, le_or_lt, le_refl, le_trans, mul_le_mul, mul_le_mul_right}
use Rattle.rational.proofs.Integers.{int_mul, nat_le, nat_le_out, nat_lt, nat_nonneg}
use Rattle.rational.proofs.MinMax.{le_q_not}
use Rattle.rational.proofs.Over.{le_q_out}
use Rattle.rational.proofs.Multiples.{lcm_right, lcm_least}
use Rattle.rational.proofs.Gauges.{den_pos}
use Rattle.upp_curve.specs.declared.curve.Tail.TheVariants.{Periodic}
use Rattle.upp_curve.specs.Curve.{SpecCurve}
use Rattle.min_plus.specs.Functions.{zero_q}
use Rattle.upp_curve.specs.Normal.{IsNormal, IsRaw}
use Rattle.upp_curve.specs.Kinds.{flat, bucket, steps, stair}
use Rattle.upp_limits.specs.Spans.{spans}
use Rattle.upp_limits.specs.Limits.{own_gauge, own_sizes, own_tally, own_end}
use Rattle.upp_limits.specs.Sized.{IsValue}
use Rattle.upp_limits.proofs.NarrowSizes.{grids_narrow, small_sum, value_whole, value_within}
use Rattle.upp_limits.proofs.OwnGauge.{end_within}
use Rattle.upp_curve.proofs.StairValues.{ratio_low}
use Rattle.upp_curve.proofs.KindForms.{stair_normal}
use Rattle.curve_library.specs.Parts.{SecondFits}
use Rattle.curve_library.specs.Shares.{SharesFit}
use Rattle.curve_library.proofs.LateParts.{line_few}
use Rattle.curve_library.proofs.OwnParts.{Held, held, too_wide, gap_fits}
use Rattle.curve_library.proofs.SharesAre.{steps_on}
use Rattle.upp_curve.proofs.affine_segment.Convolved.{back as taken_back}
use Rattle.upp_limits.proofs.FewCopies.{end_is, periodic_few}

put_together : (x y : ℚ) → y +ℚ (x -ℚ y) ≡ x
put_together x y = with2 x y (λ c. omega (arith, c.le, c.lt, c.same))

-- ---- the two shapes
abbrev one : ℚ → ℚ → ℚ → SpecCurve
one l P y = record { pieces = flat zero_q y ∷ []; tail = Periodic zero_q P l }

abbrev two : ℚ → ℚ → ℚ → ℚ → SpecCurve
two l P y late = record { pieces = flat zero_q y ∷ flat (P -ℚ late) (y +ℚ l) ∷ []; tail = Periodic zero_q P l }

pub is_one : (l P y late : ℚ) → late ≤ℚ zero_q → one l P y ≡ steps l P y late
is_one l P y late h = rw (le_q_out late zero_q h) refl

pub is_two : (l P y late : ℚ) → zero_q <ℚ late → two l P y late ≡ steps l P y late
is_two l P y late h = rw (le_q_not late zero_q h) refl

-- ---- its numbers
record StepsStand (c : SpecCurve) (l P y late : ℚ) : Type 0 where
  held : Held c
  period : Whole (own_sizes c).dt P
  begun : Whole (own_sizes c).dt late
  first : IsValue (own_sizes c) y
  rise : IsValue (own_sizes c) l
  some : zero_q <ℚ P
  early : P ≤ℚ own_end c
  less : late ≤ℚ P

zero_whole : (d : ℕ) (x : ℚ) → x ≤ℚ zero_q → zero_q ≤ℚ x → Whole d x
zero_whole d x h k = subst (λ y. Whole d y) (antisym (k, h)) (whole_int d (pos 0))

one_stands : (l P y late : ℚ) → IsRaw (one l P y) → late ≤ℚ zero_q → zero_q ≤ℚ late → own_gauge (one l P y) < 2 ^ 120 → StepsStand (one l P y) l P y late
unfolding spans
one_stands l P y late raw none low small =
    let c = one l P y in
    let H = held c raw small in
    let some = raw.tail.some in
    record {
      held = H;
      period = H.stands.tail.whole;
      begun = zero_whole (own_sizes c).dt late none low;
      first = H.stands.spans.0.at;
      rise = H.stands.tail.value;
      some = raw.tail.some;
      early = subst (λ x. P ≤ℚ x) (sym (end_is c.pieces zero_q P l)) (with1 P (λ c. omega (arith, c.le, c.lt, c.same)));
      less = with2 P late (λ c. omega (arith, c.le, c.lt, c.same));
    }

two_stands : (l P y late : ℚ) → IsRaw (two l P y late) → own_gauge (two l P y late) < 2 ^ 120 → StepsStand (two l P y late) l P y late
unfolding spans
two_stands l P y late raw small =
    let c = two l P y late in
    let H = held c raw small in
    let back = taken_back P late in
    let up : zero_q <ℚ P -ℚ late = raw.starts.1.0 in
    record {
      held = H;
      period = H.stands.tail.whole;
      begun = subst (λ x. Whole (own_sizes c).dt x) back (whole_sub (own_sizes c).dt P (P -ℚ late) H.stands.tail.whole H.stands.spans.1.0.start);
      first = H.stands.spans.0.at;
      rise = H.stands.tail.value;
      some = raw.tail.some;
      early = subst (λ x. P ≤ℚ x) (sym (end_is c.pieces zero_q P l)) (with1 P (λ c. omega (arith, c.le, c.lt, c.same)));
      less = with2 P late (λ c. omega (arith, c.le, c.lt, c.same));
    }

steps_stand : (l P y late : ℚ) → IsNormal (steps l P y late) → zero_q ≤ℚ late → own_gauge (steps l P y late) < 2 ^ 120 → StepsStand (steps l P y late) l P y late
steps_stand l P y late normal low small = elim (le_or_lt late zero_q) [
  | inl h ↦
      let e = is_one l P y late h in
      subst (λ c. StepsStand c l P y late) e (one_stands l P y late (subst IsNormal (sym e) normal).raw h low (subst (λ c. own_gauge c < 2 ^ 120) (sym e) small))
  | inr h ↦
      let e = is_two l P y late h in
      subst (λ c. StepsStand c l P y late) e (two_stands l P y late (subst IsNormal (sym e) normal).raw (subst (λ c. own_gauge c < 2 ^ 120) (sym e) small))
]

-- ---- the second step
second_fits : (l P y late : ℚ) → IsNormal (steps l P y late) → zero_q ≤ℚ late → own_gauge (steps l P y late) < 2 ^ 120 → SecondFits P late y l
second_fits l P y late normal low small =
    let c = steps l P y late in
    let S = steps_stand l P y late normal low small in
    let H = S.held in
    let z = own_sizes c in
    record {
      start = gap_fits c P late H S.period S.begun (le_of_lt S.some) low S.early (le_trans S.less S.early);
      level = small_sum z (own_end c) 1 1 y l H.sizes H.narrow (omega arith) (value_whole z y S.first) (value_whole z l S.rise) (value_within z y S.first) (value_within z l S.rise);
    }

pub second_wide : (l P y late : ℚ) → IsNormal (steps l P y late) → zero_q ≤ℚ late → (SecondFits P late y l → ⊥) → 2 ^ 120 ≤ own_gauge (steps l P y late)
second_wide l P y late normal low no_fit = too_wide (steps l P y late) (SecondFits P late y l) (second_fits l P y late normal low) no_fit

-- ---- the first step, and the jitter as whole periods and a rest
abbrev pub late_of : ℚ → ℚ → ℚ
late_of P J = J -ℚ int (pos (whole_part (J /ℚ P))) *ℚ P

abbrev pub first_of : ℕ → ℚ → ℚ → ℚ
first_of l P J = int (pos l) *ℚ int (pos (suc (whole_part (J /ℚ P))))

pub is_steps : (l : ℕ) (P J : ℚ) → 0 < l → steps (int (pos l)) P (first_of l P J) (late_of P J) ≡ stair (int (pos l)) P J
is_steps l P J h = rw (le_q_not (int (pos l)) zero_q (nat_lt 0 l h)) refl

pub late_low : (P J : ℚ) → zero_q <ℚ P → zero_q ≤ℚ J → zero_q ≤ℚ late_of P J
late_low P J some h = let l = ratio_low P J some h in let m = int (pos (whole_part (J /ℚ P))) *ℚ P in with2 J m (λ c. omega (arith, c.le, c.lt, c.same))

pub steps_normal : (l : ℕ) (P J : ℚ) → 0 < l → zero_q <ℚ P → zero_q ≤ℚ J → IsNormal (steps (int (pos l)) P (first_of l P J) (late_of P J))
steps_normal l P J h some low = subst IsNormal (sym (is_steps l P J h)) (stair_normal (int (pos l)) P J (nat_nonneg l) some low)

pub record StairFits (l : ℕ) (P J : ℚ) : Type 0 where
  pub shares : SharesFit J P
  pub first : l * suc (whole_part (J /ℚ P)) < 2 ^ 127

-- a value that is a whole number is at most the largest
whole_most : (c : SpecCurve) (n : ℕ) → Held c → IsValue (own_sizes c) (int (pos n)) → n < 2 ^ 127
whole_most c n H v =
    let z = own_sizes c in
    let l = nat_le_out n z.largest v.within.high in
    let t = H.narrow.times in
    let one : z.largest * 1 ≤ z.largest * z.dt = mul-le-mul_left z.largest H.sizes.dt in
    omega (arith, l, t, one)

stair_fits : (l : ℕ) (P J : ℚ) → 0 < l → zero_q <ℚ P → zero_q ≤ℚ J → own_gauge (steps (int (pos l)) P (first_of l P J) (late_of P J)) < 2 ^ 120 → StairFits l P J
stair_fits l P J h some low small =
    let c = steps (int (pos l)) P (first_of l P J) (late_of P J) in
    let n = whole_part (J /ℚ P) in
    let S = steps_stand (int (pos l)) P (first_of l P J) (late_of P J) (steps_normal l P J h some low) (late_low P J some low) small in
    let H = S.held in
    let z = own_sizes c in
    let V = int (pos z.largest) in
    let m = int (pos n) *ℚ P in
    let parts = put_together J m in
    let on : Whole z.dt J = subst (λ x. Whole z.dt x) parts (whole_add z.dt m (late_of P J) (whole_times z.dt (pos n) P S.period) S.begun) in
    let g = lcm (den J) (den P) in
    let g_le : g ≤ z.dt = le_of_dvd H.sizes.dt (lcm_least (den J) (den P) z.dt (den_pos J) (den_pos P) (whole_divides z.dt J on) (whole_divides z.dt P S.period)) in
    let t = H.narrow.times in
    let d = (grids_narrow z (own_end c) (2 ^ 122) H.sizes H.narrow).0 in
    let most : P ≤ℚ V = le_trans S.early (end_within z (own_end c) H.sizes (le_trans (le_of_lt some) S.early)) in
    let B = nat_abs P.num * (g / den P) in
    let wider : P *ℚ int (pos g) ≤ℚ V *ℚ int (pos z.dt) = le_trans (mul_le_mul P (le_of_lt some) (nat_le g z.dt g_le)) (mul_le_mul_right (int (pos z.dt)) (nat_nonneg z.dt) most) in
    let b : B ≤ z.largest * z.dt =
    nat_le_out B (z.largest * z.dt)
    (subst (λ x. x ≤ℚ int (pos (z.largest * z.dt))) (steps_on P g (le_of_lt some) (lcm_right (den J) (den P)))
    (subst (λ x. P *ℚ int (pos g) ≤ℚ x) (int_mul (pos z.largest) (pos z.dt)) wider)) in
    let first : l * suc n < 2 ^ 127 = whole_most c (l * suc n) H (subst (λ x. IsValue z x) (int_mul (pos l) (pos (suc n))) S.first) in
    let each : 1 * suc n ≤ l * suc n = mul-le-mul_right (suc n) h in
    record { shares = record { grid = omega (arith, g_le, d); step = omega (arith, b, t); count = omega (arith, each, first) }; first = first }

pub stair_wide : (l : ℕ) (P J : ℚ) → 0 < l → zero_q <ℚ P → zero_q ≤ℚ J → (StairFits l P J → ⊥) → 2 ^ 120 ≤ own_gauge (stair (int (pos l)) P J)
stair_wide l P J h some low no_fit =
    subst (λ c. 2 ^ 120 ≤ own_gauge c) (is_steps l P J h)
    (too_wide (steps (int (pos l)) P (first_of l P J) (late_of P J)) (StairFits l P J) (stair_fits l P J h some low) no_fit)

-- ---- few pieces
steps_few : (l P y late : ℚ) → IsNormal (steps l P y late) → own_tally (steps l P y late) ≤ 2 ^ 20
steps_few l P y late normal = elim (le_or_lt late zero_q) [
  | inl h ↦
      let e = is_one l P y late h in
      let raw = (subst IsNormal (sym e) normal).raw in
      let k = periodic_few (flat zero_q y ∷ []) zero_q P l raw.tail.some raw.starts in
      subst (λ c. own_tally c ≤ 2 ^ 20) e (omega (arith, k))
  | inr h ↦
      let e = is_two l P y late h in
      let raw = (subst IsNormal (sym e) normal).raw in
      let k = periodic_few (flat zero_q y ∷ flat (P -ℚ late) (y +ℚ l) ∷ []) zero_q P l raw.tail.some raw.starts in
      subst (λ c. own_tally c ≤ 2 ^ 20) e (omega (arith, k))
]

pub no_packet : (P J : ℚ) → bucket zero_q zero_q ≡ stair (int (pos 0)) P J
no_packet P J = rw (le_q_out (int (pos 0)) zero_q (le_refl zero_q)) refl

pub stair_few : (l : ℕ) (P J : ℚ) → zero_q <ℚ P → zero_q ≤ℚ J → own_tally (stair (int (pos l)) P J) ≤ 2 ^ 20
stair_few zero P J some low = subst (λ c. own_tally c ≤ 2 ^ 20) (no_packet P J) (line_few zero_q zero_q)
stair_few (suc l) P J some low =
    let h : 0 < suc l = omega arith in
    subst (λ c. own_tally c ≤ 2 ^ 20) (is_steps (suc l) P J h) (steps_few (int (pos (suc l))) P (first_of (suc l) P J) (late_of P J) (steps_normal (suc l) P J h some low))

pub steps_same : (l m P y v late rest : ℚ) → l ≡ m → y ≡ v → late ≡ rest → steps l P y late ≡ steps m P v rest
steps_same l m P y v late rest e f g = ap (λ x. steps x P y late) e ∙ ap (λ x. steps m P x late) f ∙ ap (λ x. steps m P v x) g
