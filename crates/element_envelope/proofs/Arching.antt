-- What two elements make bends only downwards between the times of a grid on which they start and end, and so does the lesser of two such functions.
use Rattle.std.specs.Prelude.{◌≡◌, ℕ, pos, Option, Some, None}
use Rattle.std.proofs.Common.{arith, sym, ap, ap₂, ◌∙◌, subst, inl, inr}
use Rattle.rational.specs.Rational.{ℚ, ◌+ℚ◌, ◌-ℚ◌, ◌*ℚ◌, ◌≤ℚ◌, ◌<ℚ◌, int}
use Rattle.rational.specs.Grid.{Whole}
use Rattle.rational.specs.Extended.{Ext, ◌≤ₑ◌, ◌<ₑ◌, ◌+ₑ◌, min_ext}
use Rattle.rational.specs.declared.Extended.TheVariants.{Fin, Inf}
use Rattle.rational.proofs.Linear.{with3, with5}
use Rattle.rational.proofs.Laws.{le_or_lt, le_trans, le_of_lt, lt_le_trans, le_lt_trans, mul_add, mul_sub}
use Rattle.rational.proofs.ExtendedOrder.{same_le_ext, le_ext_trans, le_inf, add_le_ext, min_left, min_right, min_one}
use Rattle.upp_curve.specs.declared.affine_segment.line.Line.{Line}
use Rattle.upp_curve.specs.declared.affine_segment.element.Element.{Element}
use Rattle.upp_curve.specs.declared.affine_segment.element.Element.TheVariants.{Point, Open}
use Rattle.upp_curve.specs.declared.affine_segment.element.Joined.{Joined}
use Rattle.upp_curve.specs.affine_segment.Values.{line_at}
use Rattle.upp_curve.specs.affine_segment.Elements.{Covers, element_value, part_value, joined_value}
use Rattle.upp_curve.proofs.affine_segment.ElementValues.{value_in, value_cases}
use Rattle.upp_limits.specs.Limits.{Sizes}
use Rattle.element_envelope.specs.ElementRoom.{SumEnd, SumElement, SumPart, SumJoined}
use Rattle.element_envelope.specs.Arches.{IsBare, IsAround, Arches}

-- ---- functions
pub around_low : (T : ℕ) (end low high y h : ℚ) → IsAround T end low high y h → (low <ℚ y) × (y <ℚ high)
around_low T end low high y h A =
    let a = A.before in
    let b = A.after in
    let c = A.some in
    (with3 low y h (λ c. omega (arith, c.le, c.lt, c.same)), with3 high y h (λ c. omega (arith, c.le, c.lt, c.same)))

-- of functions that agree from 0 on and before the end
pub same_arches : (T : ℕ) (end : ℚ) (f g : ℚ → Ext) → ((t : ℚ) → int (pos 0) ≤ℚ t → t <ℚ end → g t ≡ f t) → Arches T end f → Arches T end g
same_arches T end f g same F low high y h A =
    let a = A.before in
    let b = A.after in
    let some = A.some in
    let n = A.nonneg in
    let m = A.most in
    let at = λ (t : ℚ) (p : low <ℚ t) (q : t <ℚ high). same t (le_trans A.nonneg (le_of_lt p)) (lt_le_trans q A.most) in
    let here = around_low T end low high y h A in
    let left = at (y -ℚ h) A.before (with3 high y h (λ c. omega (arith, c.le, c.lt, c.same))) in
    let right = at (y +ℚ h) (with3 low y h (λ c. omega (arith, c.le, c.lt, c.same))) A.after in
    let mid = at y here.0 here.1 in
    subst (λ v. v ≤ₑ g y +ₑ g y) (ap₂ (λ (p q : Ext). p +ₑ q) (sym left) (sym right))
    (subst (λ v. f (y -ℚ h) +ₑ f (y +ℚ h) ≤ₑ v) (ap₂ (λ (p q : Ext). p +ₑ q) (sym mid) (sym mid)) (F low high y h A))

-- the lesser of two
pub lesser_arches : (T : ℕ) (end : ℚ) (f g : ℚ → Ext) → Arches T end f → Arches T end g → Arches T end (λ t. min_ext (f t) (g t))
lesser_arches T end f g F G low high y h A = elim (min_one (f y) (g y)) [
  | inl e ↦
      le_ext_trans _ (f (y -ℚ h) +ₑ f (y +ℚ h)) _
      (add_le_ext _ (f (y -ℚ h)) _ (f (y +ℚ h)) (min_left (f (y -ℚ h)) (g (y -ℚ h))) (min_left (f (y +ℚ h)) (g (y +ℚ h))))
      (subst (λ v. f (y -ℚ h) +ₑ f (y +ℚ h) ≤ₑ v +ₑ v) (sym e) (F low high y h A))
  | inr e ↦
      le_ext_trans _ (g (y -ℚ h) +ₑ g (y +ℚ h)) _
      (add_le_ext _ (g (y -ℚ h)) _ (g (y +ℚ h)) (min_right (f (y -ℚ h)) (g (y -ℚ h))) (min_right (f (y +ℚ h)) (g (y +ℚ h))))
      (subst (λ v. g (y -ℚ h) +ₑ g (y +ℚ h) ≤ₑ v +ₑ v) (sym e) (G low high y h A))
]

pub nothing_arches : (T : ℕ) (end : ℚ) → Arches T end (λ t. Inf)
nothing_arches T end low high y h A = tt

-- ---- elements
pub infinite_middle : (x v : Ext) → v ≡ Inf → x ≤ₑ v +ₑ v
infinite_middle x v e = subst (λ w. x ≤ₑ w +ₑ w) (sym e) (le_inf x)

pub line_middle : (l : Line) (y h : ℚ) → line_at l (y -ℚ h) +ℚ line_at l (y +ℚ h) ≡ line_at l y +ℚ line_at l y
line_middle l y h =
    let i = l.icept in
    let p = l.slope *ℚ y in
    let q = l.slope *ℚ h in
    let a = l.slope *ℚ (y -ℚ h) in
    let b = l.slope *ℚ (y +ℚ h) in
    let e : a ≡ p -ℚ q = mul_sub l.slope y h in
    let f : b ≡ p +ℚ q = mul_add l.slope y h in
    with5 i p q a b (λ c. omega (arith, c.le, c.lt, c.same))

-- a bare stretch with a time of the segment lies in it
inside_low : (T : ℕ) (low high y from : ℚ) → IsBare T low high → y <ℚ high → Whole T from → from <ℚ y → from ≤ℚ low
inside_low T low high y from bare b w h = elim (le_or_lt from low) [ inl k ↦ k | inr k ↦ absurd (bare from k (lt_trans_q h b) w) ]
  where
    lt_trans_q : {x y z : ℚ} → x <ℚ y → y <ℚ z → x <ℚ z
    lt_trans_q p q = lt_le_trans p (le_of_lt q)

inside_high : (T : ℕ) (low high y to : ℚ) → IsBare T low high → low <ℚ y → Whole T to → y <ℚ to → high ≤ℚ to
inside_high T low high y to bare b w h = elim (le_or_lt high to) [ inl k ↦ k | inr k ↦ absurd (bare to (lt_le_trans b (le_of_lt h)) k w) ]

before_end : (z : Sizes) (end low high y t : ℚ) (to : Ext) → IsBare z.dt low high → low <ℚ y → t <ℚ high → SumEnd z end to → Fin y <ₑ to → Fin t <ₑ to
before_end z end low high y t Inf bare b l E h = tt
before_end z end low high y t (Fin e) bare b l E h = lt_le_trans l (inside_high z.dt low high y e bare b E.whole h)

pub element_arches : (z : Sizes) (end last : ℚ) (e : Element) → SumElement z end e → Arches z.dt last (element_value e)
element_arches z end last (Point x v) E low high y h A = elim (value_cases (Point x v) y) [
  | inl k ↦ infinite_middle _ (element_value (Point x v) y) k
  | inr k ↦ let b = around_low z.dt last low high y h A in absurd (A.bare y b.0 b.1 (subst (Whole z.dt) (sym k) E.time.whole))
]
element_arches z end last (Open from to l) E low high y h A = elim (value_cases (Open from to l) y) [
  | inl k ↦ infinite_middle _ (element_value (Open from to l) y) k
  | inr k ↦
      let b = around_low z.dt last low high y h A in
      let first = inside_low z.dt low high y from A.bare b.1 E.start.whole k.past in
      let some = A.some in
      let before = A.before in
      let after = A.after in
      let left : Covers (Open from to l) (y -ℚ h) = record {
        past = le_lt_trans first A.before;
        before = before_end z end low high y (y -ℚ h) to A.bare b.0 (with3 high y h (λ c. omega (arith, c.le, c.lt, c.same))) E.until k.before;
      } in
      let right : Covers (Open from to l) (y +ℚ h) = record {
        past = le_lt_trans first (with3 low y h (λ c. omega (arith, c.le, c.lt, c.same)));
        before = before_end z end low high y (y +ℚ h) to A.bare b.0 A.after E.until k.before;
      } in
      same_le_ext
      (ap₂ (λ (p q : Ext). p +ₑ q) (value_in (Open from to l) (y -ℚ h) left) (value_in (Open from to l) (y +ℚ h) right)
      ∙ ap Fin (line_middle l y h)
      ∙ sym (ap₂ (λ (p q : Ext). p +ₑ q) (value_in (Open from to l) y k) (value_in (Open from to l) y k)))
]

part_arches : (z : Sizes) (end last : ℚ) (o : Option Element) → SumPart z end o → Arches z.dt last (part_value o)
part_arches z end last None E = nothing_arches z.dt last
part_arches z end last (Some e) E = element_arches z end last e E

pub joined_arches : (z : Sizes) (end last : ℚ) (j : Joined) → SumJoined z end j → Arches z.dt last (joined_value j)
joined_arches z end last j J =
    lesser_arches z.dt last (element_value j.first) (λ t. min_ext (part_value j.join t) (part_value j.second t)) (element_arches z end last j.first J.first)
    (lesser_arches z.dt last (part_value j.join) (part_value j.second) (part_arches z end last j.join J.join) (part_arches z end last j.second J.second))
