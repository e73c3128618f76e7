-- No step of the convolution of two elements of operands is too wide, and what they make stands on the call's grids.
use Rattle.std.specs.Prelude.{◌≡◌, ℕ, ◌+◌, ◌*◌, ◌≤◌, pos, [], ◌∷◌, Some}
use Rattle.std.proofs.Common.{arith, mul-le-mul_right, sym, ap, ◌∙◌, subst, inl, inr}
use Rattle.rational.specs.Rational.{ℚ, ◌+ℚ◌, ◌-ℚ◌, ◌*ℚ◌, neg_ℚ, ◌≤ℚ◌, int}
use Rattle.rational.specs.Ratio.{SumFits}
use Rattle.rational.specs.Extended.{Ext, ◌+ₑ◌}
use Rattle.rational.specs.declared.Extended.TheVariants.{Fin, Inf}
use Rattle.rational.specs.Grid.{Whole, Within}
use Rattle.rational.proofs.Grid.{whole_add, whole_sub, whole_neg, within_add, within_sub, within_neg, within_weaken, within_nonneg, within_mul}
use Rattle.rational.proofs.Sizes.{sum_on_grid}
use Rattle.rational.proofs.Integers.{nat_nonneg, nat_le, int_mul, int_add}
use Rattle.rational.proofs.Laws.{le_refl, le_trans, mul_le_mul, add_comm, mul_add, mul_assoc, mul_one, mul_comm}
use Rattle.rational.proofs.Linear.{with1, with2, with3, with_atoms}
use Rattle.fraction128.specs.declared.fault.Wide.{Wide}
use Rattle.upp_curve.specs.declared.affine_segment.line.Line.{Line}
use Rattle.upp_curve.specs.declared.affine_segment.element.Element.{Element}
use Rattle.upp_curve.specs.declared.affine_segment.element.Element.TheVariants.{Point, Open}
use Rattle.upp_curve.specs.declared.affine_segment.element.Joined.{Joined}
use Rattle.upp_curve.specs.affine_segment.Values.{line_at}
use Rattle.upp_curve.specs.affine_segment.Segments.{Segment, IsThrough}
use Rattle.upp_curve.specs.affine_segment.Steps.{IsWideSum, IsWideValue}
use Rattle.upp_curve.specs.affine_segment.MadeParts.{alone_part, IsFrom, MovedPart, OnePart, TwoParts, BentParts, AreParts}
use Rattle.upp_curve.specs.affine_segment.WideConvolution.{IsWideThrough, IsWideEnd, IsWideEnds, IsWideCorner, IsWideMoved, IsWideStraight, IsWideSecond, IsWideBent, IsWideConvolution}
use Rattle.upp_limits.specs.Limits.{Sizes}
use Rattle.upp_limits.specs.Sized.{IsSlope, grid_of, times_largest}
use Rattle.upp_normal.specs.Ahead.{IsGridValue}
use Rattle.upp_normal.specs.Operand.{AreLimited, OperandLine}
use Rattle.upp_normal.proofs.AnswerRoom.{operand_line_value, values_fit, value_sum_stands, more_largest, many_more, wide_narrow}
use Rattle.upp_limits.proofs.NarrowSizes.{small_number, small_sum, run_whole, run_within}
use Rattle.element_envelope.specs.ElementRoom.{WindowTime, WindowEnd, OperandPoint, OperandSegment, OperandElement, SumTime, SumEnd, SumValue, SumLine, SumElement, SumJoined}
use Rattle.upp_normal.proofs.StretchSizes.{end_at_most}

-- ---- the sizes

-- sums on the grid of sums
pub sum_within : (z : Sizes) (k j : ℕ) (p q : ℚ) → Within (times_largest k z) p → Within (times_largest j z) q → Within (times_largest (k + j) z) (p +ℚ q)
sum_within z k j p q h g = subst (λ m. Within m (p +ℚ q)) (many_more z k j) (within_add (times_largest k z) (times_largest j z) p q h g)

pub gap_within : (z : Sizes) (k j : ℕ) (p q : ℚ) → Within (times_largest k z) p → Within (times_largest j z) q → Within (times_largest (k + j) z) (p -ℚ q)
gap_within z k j p q h g = subst (λ m. Within m (p -ℚ q)) (many_more z k j) (within_sub (times_largest k z) (times_largest j z) p q h g)

one_largest : (z : Sizes) → int (pos z.largest) ≡ times_largest 1 z
one_largest z = sym (mul_comm (int (pos 1)) (int (pos z.largest)) ∙ mul_one (int (pos z.largest)))

-- the rise of a slope up to a time of the window
pub rise_whole : (z : Sizes) (end s x : ℚ) → IsSlope z s → WindowTime z end x → Whole (grid_of z) (s *ℚ x)
rise_whole z end s x h t = run_whole z s x h t.whole

pub rise_within : (z : Sizes) (end s x : ℚ) → AreLimited z end → IsSlope z s → WindowTime z end x → Within (times_largest 1 z) (s *ℚ x)
rise_within z end s x A h t = subst (λ m. Within m (s *ℚ x)) (one_largest z) (run_within z end s x A.sizes h t.nonneg t.early)

-- ---- values of operands' lines
line_value_stands : (z : Sizes) (end : ℚ) (l : Line) (x : ℚ) → AreLimited z end → OperandLine z l → WindowTime z end x → IsGridValue z (line_at l x)
line_value_stands z end l x A L t = operand_line_value z end x (Some l) A L t.whole t.nonneg t.early

point_value : (z : Sizes) (v : ℚ) → IsGridValue z v → IsGridValue z v
point_value z v h = record { whole = h.whole; within = h.within }

value_not_wide : (z : Sizes) (end : ℚ) (l : Line) (x : ℚ) (w : Wide) → AreLimited z end → OperandLine z l → WindowTime z end x → ¬ (IsWideValue l x w)
value_not_wide z end l x w A L t (inl h) =
    h.1 (small_number z end 1 (l.slope *ℚ x) A.sizes (wide_narrow z end A) (omega arith) (rise_whole z end l.slope x L.slope t) (rise_within z end l.slope x A L.slope t))
value_not_wide z end l x w A L t (inr h) =
    h.1 (small_sum z end 2 1 l.icept (l.slope *ℚ x) A.sizes (wide_narrow z end A) (omega arith) L.icept (rise_whole z end l.slope x L.slope t) L.within (rise_within z end l.slope x A L.slope t))

sum_not_wide : (z : Sizes) (end v u : ℚ) (w : Wide) → AreLimited z end → IsGridValue z v → IsGridValue z u → ¬ (IsWideSum v u w)
sum_not_wide z end v u w A V U h = h.1 (values_fit z end v u A V U).0

pub sum_stands : (z : Sizes) (v u : ℚ) → IsGridValue z v → IsGridValue z u → SumValue z (v +ℚ u)
sum_stands z v u V U = let s = value_sum_stands z v u V U in record { whole = s.whole; within = s.within }

-- ---- times
-- the window's end is at most the largest value

-- the sum of two times of the window, and their difference
time_ends : (z : Sizes) (end : ℚ) → AreLimited z end → ((z.dt ≤ 170141183460469231731687303715884105727)
    × ((int (pos z.largest) +ℚ int (pos z.largest)) *ℚ int (pos z.dt) ≤ℚ int (pos 170141183460469231731687303715884105727)))
time_ends z end A =
    let V = int (pos z.largest) in
    let n = (wide_narrow z end A).times in
    let v = A.sizes.largest in
    let one : 1 * z.dt ≤ z.largest * z.dt = mul-le-mul_right z.dt v in
    let e : (V +ℚ V) *ℚ int (pos z.dt) ≡ int (pos ((z.largest + z.largest) * z.dt)) =
    ap (λ q. q *ℚ int (pos z.dt)) (int_add (pos z.largest) (pos z.largest)) ∙ int_mul (pos (z.largest + z.largest)) (pos z.dt) in (
      omega (arith, n, one),
      subst (λ q. q ≤ℚ int (pos 170141183460469231731687303715884105727)) (sym e) (nat_le ((z.largest + z.largest) * z.dt) 170141183460469231731687303715884105727 (omega (arith, n))),
    )

in_window : (z : Sizes) (end t : ℚ) → AreLimited z end → WindowTime z end t → Within (int (pos z.largest)) t
in_window z end t A T = within_nonneg (int (pos z.largest)) t T.nonneg (le_trans T.early (end_at_most z end A))

time_sum_fits : (z : Sizes) (end x y : ℚ) → AreLimited z end → WindowTime z end x → WindowTime z end y → SumFits x y
time_sum_fits z end x y A X Y =
    let V = int (pos z.largest) in
    let e = time_ends z end A in
    sum_on_grid z.dt V V x y A.sizes.dt e.0 e.1 X.whole Y.whole (in_window z end x A X) (in_window z end y A Y)

pub time_gap_fits : (z : Sizes) (end x y : ℚ) → AreLimited z end → WindowTime z end x → WindowTime z end y → SumFits x (neg_ℚ y)
time_gap_fits z end x y A X Y =
    let V = int (pos z.largest) in
    let e = time_ends z end A in
    sum_on_grid z.dt V V x (neg_ℚ y) A.sizes.dt e.0 e.1 X.whole (whole_neg z.dt y Y.whole) (in_window z end x A X) (within_neg V y (in_window z end y A Y))

time_not_wide : (z : Sizes) (end x y : ℚ) (w : Wide) → AreLimited z end → WindowTime z end x → WindowTime z end y → ¬ (IsWideSum x y w)
time_not_wide z end x y w A X Y h = h.1 (time_sum_fits z end x y A X Y)

end_not_wide : (z : Sizes) (end x : ℚ) (to : Ext) (w : Wide) → AreLimited z end → WindowTime z end x → WindowEnd z end to → ¬ (IsWideEnd x to w)
end_not_wide z end x Inf w A X T h = h
end_not_wide z end x (Fin y) w A X T h = time_not_wide z end x y w A X T h

ends_not_wide : (z : Sizes) (end : ℚ) (a b : Ext) (w : Wide) → AreLimited z end → WindowEnd z end a → WindowEnd z end b → ¬ (IsWideEnds a b w)
ends_not_wide z end Inf b w A X T h = h
ends_not_wide z end (Fin x) b w A X T h = end_not_wide z end x b w A X T h

pub time_sum : (z : Sizes) (end x y : ℚ) → WindowTime z end x → WindowTime z end y → SumTime z end (x +ℚ y)
time_sum z end x y X Y =
    let p = X.nonneg in
    let q = Y.nonneg in
    let r = X.early in
    let s = Y.early in
    record {
      whole = whole_add z.dt x y X.whole Y.whole;
      nonneg = with2 x y (λ c. omega (arith, c.le, c.lt, c.same));
      early = with3 x y end (λ c. omega (arith, c.le, c.lt, c.same));
    }

end_sum : (z : Sizes) (end : ℚ) (a b : Ext) → WindowEnd z end a → WindowEnd z end b → SumEnd z end (a +ₑ b)
end_sum z end Inf b X Y = tt
end_sum z end (Fin x) Inf X Y = tt
end_sum z end (Fin x) (Fin y) X Y = time_sum z end x y X Y

-- ---- lines from a sum of times
-- the slope's rise up to the sum of two times
long_rise : (z : Sizes) (end s x y : ℚ) → AreLimited z end → IsSlope z s → WindowTime z end x → WindowTime z end y
    → Whole (grid_of z) (s *ℚ (x +ℚ y)) × Within (times_largest 2 z) (s *ℚ (x +ℚ y))
long_rise z end s x y A h X Y =
    subst (λ q. Whole (grid_of z) q × Within (times_largest 2 z) q) (sym (mul_add s x y)) (
      whole_add (grid_of z) (s *ℚ x) (s *ℚ y) (rise_whole z end s x h X) (rise_whole z end s y h Y),
      sum_within z 1 1 (s *ℚ x) (s *ℚ y) (rise_within z end s x A h X) (rise_within z end s y A h Y),
    )

through_not_wide : (z : Sizes) (end s x y v : ℚ) (w : Wide) → AreLimited z end → IsSlope z s → WindowTime z end x → WindowTime z end y → SumValue z v
    → ¬ (IsWideThrough s (x +ℚ y) v w)
through_not_wide z end s x y v w A h X Y V (inl k) =
    let r = long_rise z end s x y A h X Y in
    k.1 (small_number z end 2 (s *ℚ (x +ℚ y)) A.sizes (wide_narrow z end A) (omega arith) r.0 r.1)
through_not_wide z end s x y v w A h X Y V (inr k) =
    let r = long_rise z end s x y A h X Y in
    k.1 (small_sum z end 6 2 v (neg_ℚ (s *ℚ (x +ℚ y))) A.sizes (wide_narrow z end A) (omega arith) V.whole (whole_neg (grid_of z) (s *ℚ (x +ℚ y)) r.0) V.within (within_neg (times_largest 2 z) (s *ℚ (x +ℚ y)) r.1))

-- where one line is at x and another at y
corner_not_wide : (z : Sizes) (end : ℚ) (a : Line) (x : ℚ) (b : Line) (y s : ℚ) (w : Wide) → AreLimited z end → OperandLine z a → OperandLine z b → IsSlope z s
    → WindowTime z end x → WindowTime z end y → ¬ (IsWideCorner a x b y s w)
corner_not_wide z end a x b y s w A L M h X Y (inl k) = time_not_wide z end x y w A X Y k
corner_not_wide z end a x b y s w A L M h X Y (inr (inl k)) = value_not_wide z end a x w A L X k
corner_not_wide z end a x b y s w A L M h X Y (inr (inr (inl k))) = value_not_wide z end b y w A M Y k
corner_not_wide z end a x b y s w A L M h X Y (inr (inr (inr (inl k)))) =
    sum_not_wide z end (line_at a x) (line_at b y) w A (line_value_stands z end a x A L X) (line_value_stands z end b y A M Y) k
corner_not_wide z end a x b y s w A L M h X Y (inr (inr (inr (inr k)))) =
    through_not_wide z end s x y (line_at a x +ℚ line_at b y) w A h X Y (sum_stands z (line_at a x) (line_at b y) (line_value_stands z end a x A L X) (line_value_stands z end b y A M Y)) k

-- ---- no step is too wide
moved_not_wide : (z : Sizes) (end x v from : ℚ) (to : Ext) (l : Line) (w : Wide) → AreLimited z end → OperandPoint z end x v → OperandSegment z end from to l
    → ¬ (IsWideMoved x v from to l w)
moved_not_wide z end x v from to l w A P S (inl k) = time_not_wide z end x from w A P.time S.start k
moved_not_wide z end x v from to l w A P S (inr (inl k)) = end_not_wide z end x to w A P.time S.until k
moved_not_wide z end x v from to l w A P S (inr (inr (inl k))) = value_not_wide z end l from w A S.line S.start k
moved_not_wide z end x v from to l w A P S (inr (inr (inr (inl k)))) =
    sum_not_wide z end v (line_at l from) w A (point_value z v P.value) (line_value_stands z end l from A S.line S.start) k
moved_not_wide z end x v from to l w A P S (inr (inr (inr (inr k)))) =
    through_not_wide z end l.slope x from (v +ℚ line_at l from) w A S.line.slope P.time S.start
    (sum_stands z v (line_at l from) (point_value z v P.value) (line_value_stands z end l from A S.line S.start)) k

abbrev Stands : Sizes → ℚ → Segment → Type 0
Stands z end s = OperandSegment z end s.from s.to s.line

straight_not_wide : (z : Sizes) (end : ℚ) (a b : Segment) (w : Wide) → AreLimited z end → Stands z end a → Stands z end b → ¬ (IsWideStraight a b w)
straight_not_wide z end a b w A S T (inl k) = corner_not_wide z end a.line a.from b.line b.from a.line.slope w A S.line T.line S.line.slope S.start T.start k
straight_not_wide z end a b w A S T (inr k) = ends_not_wide z end a.to b.to w A S.until T.until k

second_not_wide : (z : Sizes) (end : ℚ) (a : Segment) (to : Ext) (b : Segment) (w : Wide) → AreLimited z end → Stands z end a → WindowEnd z end to → Stands z end b
    → ¬ (IsWideSecond a to b w)
second_not_wide z end a Inf b w A S E T k = k
second_not_wide z end a (Fin e) b w A S E T (inl k) = corner_not_wide z end a.line e b.line b.from b.line.slope w A S.line T.line T.line.slope E T.start k
second_not_wide z end a (Fin e) b w A S E T (inr k) = end_not_wide z end e b.to w A E T.until k

bent_not_wide : (z : Sizes) (end : ℚ) (a b : Segment) (w : Wide) → AreLimited z end → Stands z end a → Stands z end b → ¬ (IsWideBent a b w)
bent_not_wide z end a b w A S T (inl k) = corner_not_wide z end a.line a.from b.line b.from a.line.slope w A S.line T.line S.line.slope S.start T.start k
bent_not_wide z end a b w A S T (inr k) = second_not_wide z end a a.to b w A S S.until T k

pub not_wide : (z : Sizes) (end : ℚ) (a b : Element) (w : Wide) → AreLimited z end → OperandElement z end a → OperandElement z end b → ¬ (IsWideConvolution a b w)
not_wide z end (Point x v) (Point y u) w A P Q (inl k) = time_not_wide z end x y w A P.time Q.time k
not_wide z end (Point x v) (Point y u) w A P Q (inr k) = sum_not_wide z end v u w A (point_value z v P.value) (point_value z u Q.value) k
not_wide z end (Point x v) (Open from to l) w A P S k = moved_not_wide z end x v from to l w A P S k
not_wide z end (Open from to l) (Point x v) w A S P k = moved_not_wide z end x v from to l w A P S k
not_wide z end (Open from to l) (Open g until m) w A S T (inl k) =
    bent_not_wide z end record { from = from; to = to; line = l } record { from = g; to = until; line = m } w A S T k.1
not_wide z end (Open from to l) (Open g until m) w A S T (inr (inl k)) =
    bent_not_wide z end record { from = g; to = until; line = m } record { from = from; to = to; line = l } w A T S k.1
not_wide z end (Open from to l) (Open g until m) w A S T (inr (inr k)) =
    straight_not_wide z end record { from = from; to = to; line = l } record { from = g; to = until; line = m } w A S T k.1

-- ---- what they make
-- slopes apart, up to a time of the window
apart_rise : (z : Sizes) (end s r x : ℚ) → AreLimited z end → IsSlope z s → IsSlope z r → WindowTime z end x
    → Whole (grid_of z) (s *ℚ x -ℚ r *ℚ x) × Within (times_largest 1 z) (s *ℚ x -ℚ r *ℚ x)
apart_rise z end s r x A h k X = (
  whole_sub (grid_of z) (s *ℚ x) (r *ℚ x) (rise_whole z end s x h X) (rise_whole z end r x k X),
  halves z (s *ℚ x) (r *ℚ x) (half_rise z end s x A h X) (half_rise z end r x A k X),
)
  where
    halves : (z : Sizes) (p q : ℚ) → Within (times_largest 1 z) (p +ℚ p) → Within (times_largest 1 z) (q +ℚ q) → Within (times_largest 1 z) (p -ℚ q)
    halves z p q a b = plain (times_largest 1 z) p q a b
      where
        plain : (m p q : ℚ) → Within m (p +ℚ p) → Within m (q +ℚ q) → Within m (p -ℚ q)
        plain m p q a b =
            let i = a.low in
            let j = a.high in
            let k = b.low in
            let n = b.high in
            record { low = with3 m p q (λ c. omega (arith, c.le, c.lt, c.same)); high = with3 m p q (λ c. omega (arith, c.le, c.lt, c.same)) }

    twice : (s x : ℚ) → (int (pos 2) *ℚ s) *ℚ x ≡ s *ℚ x +ℚ s *ℚ x
    twice s x = mul_assoc (int (pos 2)) s x ∙ (let q = s *ℚ x in with1 q (λ c. omega (arith, c.le, c.lt, c.same)))

    -- twice the rise is within the largest value
    half_rise : (z : Sizes) (end s x : ℚ) → AreLimited z end → IsSlope z s → WindowTime z end x → Within (times_largest 1 z) (s *ℚ x +ℚ s *ℚ x)
    half_rise z end s x A h X =
        let S = int (pos z.steepness) in
        let most = le_trans (mul_le_mul S (nat_nonneg z.steepness) X.early) A.sizes.reach in
        subst (λ q. Within (times_largest 1 z) q) (twice s x)
        (subst (λ m. Within m ((int (pos 2) *ℚ s) *ℚ x)) (one_largest z)
        (within_weaken (S *ℚ x) (int (pos z.largest)) ((int (pos 2) *ℚ s) *ℚ x) most (within_mul S x (int (pos 2) *ℚ s) x h.within (within_nonneg x x X.nonneg (le_refl x)))))

-- the line from where one line is at x and another at y, of the slope of the first or of the second
from_first : (z : Sizes) (end : ℚ) (a : Line) (x : ℚ) (b : Line) (y : ℚ) (n : Line) → AreLimited z end → OperandLine z a → OperandLine z b → WindowTime z end x → WindowTime z end y
    → IsFrom a x b y a.slope n → SumLine z n
from_first z end a x b y n A L M X Y h =
    let r = apart_rise z end b.slope a.slope y A M.slope L.slope Y in
    let e = icept_is a x b y n h in
    record {
      slope = subst (IsSlope z) (sym h.slope) L.slope;
      icept = subst (Whole (grid_of z)) (sym e) (whole_add (grid_of z) (a.icept +ℚ b.icept) (b.slope *ℚ y -ℚ a.slope *ℚ y) (whole_add (grid_of z) a.icept b.icept L.icept M.icept) r.0);
      within = subst (Within (times_largest 6 z)) (sym e)
          (within_weaken (times_largest 5 z) (times_largest 6 z) ((a.icept +ℚ b.icept) +ℚ (b.slope *ℚ y -ℚ a.slope *ℚ y)) (more_largest z 5 6 (omega arith))
          (sum_within z 4 1 (a.icept +ℚ b.icept) (b.slope *ℚ y -ℚ a.slope *ℚ y) (sum_within z 2 2 a.icept b.icept L.within M.within) r.1));
    }
  where
    plain : (i nxy j ax ay k by : ℚ) → nxy ≡ ax +ℚ ay → i +ℚ nxy ≡ (j +ℚ ax) +ℚ (k +ℚ by) → i ≡ (j +ℚ k) +ℚ (by -ℚ ay)
    plain i nxy j ax ay k by g v = with_atoms (i ∷ nxy ∷ j ∷ ax ∷ ay ∷ k ∷ by ∷ []) (λ o. omega (arith, o.le, o.lt, o.same))

    icept_is : (a : Line) (x : ℚ) (b : Line) (y : ℚ) (n : Line) → IsFrom a x b y a.slope n → n.icept ≡ (a.icept +ℚ b.icept) +ℚ (b.slope *ℚ y -ℚ a.slope *ℚ y)
    icept_is a x b y n h =
        let g : n.slope *ℚ (x +ℚ y) ≡ a.slope *ℚ x +ℚ a.slope *ℚ y = ap (λ r. r *ℚ (x +ℚ y)) h.slope ∙ mul_add a.slope x y in
        plain n.icept (n.slope *ℚ (x +ℚ y)) a.icept (a.slope *ℚ x) (a.slope *ℚ y) b.icept (b.slope *ℚ y) g h.value

from_second : (z : Sizes) (end : ℚ) (a : Line) (x : ℚ) (b : Line) (y : ℚ) (n : Line) → AreLimited z end → OperandLine z a → OperandLine z b → WindowTime z end x → WindowTime z end y
    → IsFrom a x b y b.slope n → SumLine z n
from_second z end a x b y n A L M X Y h =
    from_first z end b y a x n A M L Y X record { slope = h.slope; value = ap (line_at n) (add_comm y x) ∙ h.value ∙ add_comm (line_at a x) (line_at b y) }

-- a line moved by a point
from_point : (z : Sizes) (end x v from : ℚ) (l n : Line) → AreLimited z end → OperandPoint z end x v → OperandLine z l → WindowTime z end from
    → IsThrough l.slope (x +ℚ from) (v +ℚ line_at l from) n → SumLine z n
from_point z end x v from l n A P L F h =
    let e = icept_is h in
    record {
      slope = subst (IsSlope z) (sym h.slope) L.slope;
      icept = subst (Whole (grid_of z)) (sym e) (whole_sub (grid_of z) (v +ℚ l.icept) (l.slope *ℚ x) (whole_add (grid_of z) v l.icept P.value.whole L.icept) (rise_whole z end l.slope x L.slope P.time));
      within = subst (Within (times_largest 6 z)) (sym e) (gap_within z 5 1 (v +ℚ l.icept) (l.slope *ℚ x) (sum_within z 3 2 v l.icept P.value.within L.within) (rise_within z end l.slope x A L.slope P.time));
    }
  where
    plain : (i nxf j lx lf : ℚ) → nxf ≡ lx +ℚ lf → i +ℚ nxf ≡ v +ℚ (j +ℚ lf) → i ≡ (v +ℚ j) -ℚ lx
    plain i nxf j lx lf g e = with_atoms (i ∷ nxf ∷ j ∷ lx ∷ lf ∷ v ∷ []) (λ o. omega (arith, o.le, o.lt, o.same))

    icept_is : IsThrough l.slope (x +ℚ from) (v +ℚ line_at l from) n → n.icept ≡ (v +ℚ l.icept) -ℚ l.slope *ℚ x
    icept_is h =
        let g : n.slope *ℚ (x +ℚ from) ≡ l.slope *ℚ x +ℚ l.slope *ℚ from = ap (λ r. r *ℚ (x +ℚ from)) h.slope ∙ mul_add l.slope x from in
        plain n.icept (n.slope *ℚ (x +ℚ from)) l.icept (l.slope *ℚ x) (l.slope *ℚ from) g h.value

-- ---- parts
alone_stands : (z : Sizes) (end : ℚ) (e : Element) (j : Joined) → j ≡ alone_part e → SumElement z end e → SumJoined z end j
alone_stands z end e j is h = subst (SumJoined z end) (sym is) record { first = h; join = tt; second = tt }

moved_stands : (z : Sizes) (end x v from : ℚ) (to : Ext) (l : Line) (j : Joined) → AreLimited z end → OperandPoint z end x v → OperandSegment z end from to l
    → MovedPart x v from to l j → SumJoined z end j
moved_stands z end x v from to l j A P S m =
    alone_stands z end (Open (x +ℚ from) (Fin x +ₑ to) m.moved) j m.parts record {
      start = time_sum z end x from P.time S.start;
      until = end_sum z end (Fin x) to P.time S.until;
      line = from_point z end x v from l m.moved A P S.line S.start m.through;
    }

one_stands : (z : Sizes) (end : ℚ) (a b : Segment) (until : Ext) (j : Joined) → AreLimited z end → Stands z end a → Stands z end b → SumEnd z end until
    → OnePart a b until j → SumJoined z end j
one_stands z end a b until j A S T U m =
    alone_stands z end (Open (a.from +ℚ b.from) until m.line) j m.parts record {
      start = time_sum z end a.from b.from S.start T.start;
      until = U;
      line = from_first z end a.line a.from b.line b.from m.line A S.line T.line S.start T.start m.through;
    }

two_stand : (z : Sizes) (end : ℚ) (a : Segment) (e : ℚ) (b : Segment) (j : Joined) → AreLimited z end → Stands z end a → WindowTime z end e → Stands z end b
    → TwoParts a e b j → SumJoined z end j
two_stand z end a e b j A S E T m = subst (SumJoined z end) (sym m.parts) record {
  first = record {
    start = time_sum z end a.from b.from S.start T.start;
    until = time_sum z end e b.from E T.start;
    line = from_first z end a.line a.from b.line b.from m.line A S.line T.line S.start T.start m.through;
  };
  join = record {
    time = time_sum z end e b.from E T.start;
    value = sum_stands z (line_at a.line e) (line_at b.line b.from) (line_value_stands z end a.line e A S.line E) (line_value_stands z end b.line b.from A T.line T.start);
  };
  second = record {
    start = time_sum z end e b.from E T.start;
    until = end_sum z end (Fin e) b.to E T.until;
    line = from_second z end a.line e b.line b.from m.next A S.line T.line E T.start m.turned;
  };
}

bent_stand : (z : Sizes) (end : ℚ) (a : Segment) (to : Ext) (b : Segment) (j : Joined) → AreLimited z end → Stands z end a → WindowEnd z end to → Stands z end b
    → BentParts a to b j → SumJoined z end j
bent_stand z end a Inf b j A S E T m = one_stands z end a b Inf j A S T tt m
bent_stand z end a (Fin e) b j A S E T m = two_stand z end a e b j A S E T m

pub parts_stand : (z : Sizes) (end : ℚ) (a b : Element) (j : Joined) → AreLimited z end → OperandElement z end a → OperandElement z end b → AreParts a b j → SumJoined z end j
parts_stand z end (Point x v) (Point y u) j A P Q m =
    alone_stands z end (Point (x +ℚ y) (v +ℚ u)) j m record { time = time_sum z end x y P.time Q.time; value = sum_stands z v u (point_value z v P.value) (point_value z u Q.value) }
parts_stand z end (Point x v) (Open from to l) j A P S m = moved_stands z end x v from to l j A P S m
parts_stand z end (Open from to l) (Point x v) j A S P m = moved_stands z end x v from to l j A P S m
parts_stand z end (Open from to l) (Open g until n) j A S T (inl m) =
    bent_stand z end record { from = from; to = to; line = l } to record { from = g; to = until; line = n } j A S S.until T m.1
parts_stand z end (Open from to l) (Open g until n) j A S T (inr (inl m)) =
    bent_stand z end record { from = g; to = until; line = n } until record { from = from; to = to; line = l } j A T T.until S m.1
parts_stand z end (Open from to l) (Open g until n) j A S T (inr (inr m)) =
    one_stands z end record { from = from; to = to; line = l } record { from = g; to = until; line = n } (to +ₑ until) j A S T (end_sum z end to until S.until T.until) m.1
