-- What is made of two curves in a call within both limits: its pieces have room, and it repeats from the time on from which the slower curve is nowhere above.
use Rattle.std.specs.Prelude.{◌≡◌, ℕ, ◌*◌, pos, List, ◌⊎◌}
use Rattle.std.proofs.Common.{arith, sym, ap, ap₂, ◌∙◌, refl, subst, inl, inr}
use Rattle.rational.specs.Rational.{ℚ, ◌+ℚ◌, ◌-ℚ◌, ◌≤ℚ◌, ◌<ℚ◌, int}
use Rattle.rational.specs.Grid.{Whole, Within}
use Rattle.rational.specs.Extended.{Ext, ◌≤ₑ◌, ◌<ₑ◌, ◌+ₑ◌}
use Rattle.rational.specs.declared.Extended.TheVariants.{Fin, Inf}
use Rattle.rational.proofs.Grid.{whole_int, whole_sub, within_sub, within_nonneg, within_weaken}
use Rattle.rational.proofs.Linear.{with1, with3}
use Rattle.rational.proofs.Laws.{le_refl, le_trans, le_of_lt}
use Rattle.rational.proofs.Integers.{nat_nonneg, int_mul}
use Rattle.upp_curve.specs.declared.affine_segment.line.Piece.{Piece}
use Rattle.upp_curve.specs.affine_segment.Reading.{read}
use Rattle.upp_curve.specs.Curve.{SpecCurve, repeated, value_at}
use Rattle.min_plus.specs.Pointwise.{excess}
use Rattle.upp_normal.specs.Normalising.{HasValues}
use Rattle.upp_curve.specs.Unrolled.{unroll}
use Rattle.upp_curve.specs.Steady.{rate, rise_over}
use Rattle.upp_limits.specs.Periods.{periods_after}
use Rattle.upp_limits.specs.Limits.{Sizes}
use Rattle.upp_limits.specs.Sized.{grid_of, times_largest}
use Rattle.upp_curve.proofs.Steady.{steady_rule}
use Rattle.upp_normal.proofs.Below.{unroll_reads}
use Rattle.curve_call.specs.Operands.{IsMadeOf}
use Rattle.curve_call.proofs.TailGrids.{TailOf, made_on_grids}
use Rattle.curve_call.specs.declared.frame.Frame.{Frame}
use Rattle.curve_call.specs.Answering.{IsAnswerWindow}
use Rattle.curve_call.proofs.Answering.{answer_relation, answer_with_tail}
use Rattle.curve_call.specs.Ever.{IsSlowerBelowFrom, RepeatsBy}
use Rattle.curve_call.proofs.RateRises.{rate_rise, rate_none}
use Rattle.curve_call.proofs.EverAfter.{ever_after}
use Rattle.plain_operators.specs.declared.pointwise.lattice.Lattice.{Lattice}
use Rattle.plain_operators.specs.declared.pointwise.lattice.Lattice.TheVariants.{Lower, Upper, Excess}
use Rattle.plain_operators.specs.pointwise.Lattice.{made_of, rises_of, FiniteFor, RisesBy, IsTailRise}
use Rattle.plain_operators.specs.pointwise.LatticeCall.{LatticeCall, IsLatticeFrame}
use Rattle.curve_call.proofs.TailMoves.{rates_compared, not_both, not_same, lower_first, lower_second, lower_both, upper_first, upper_second, upper_both, excess_below, excess_both, excess_above}
use Rattle.plain_operators.proofs.pointwise.LatticeCalls.{operands, from_is, from_late, from_whole, left_rise, right_rise}
use Rattle.upp_normal.proofs.AnswerRoom.{more_largest}

-- ---- the rise stands
pub record RiseHasRoom (z : Sizes) (y : ℚ) : Type 0 where
  pub whole : Whole (grid_of z) y
  pub within : Within (times_largest 8 z) y

by_cases : (z : Sizes) (P : Type 0) (a b rise : ℚ) → RisesBy P a b rise → P ⊎ ¬ P → RiseHasRoom z a → RiseHasRoom z b → RiseHasRoom z rise
by_cases z P a b rise R (inl h) A B = subst (RiseHasRoom z) (sym (R.so h)) A
by_cases z P a b rise R (inr h) A B = subst (RiseHasRoom z) (sym (R.else h)) B

zero_room : (z : Sizes) → RiseHasRoom z (int (pos 0))
zero_room z = record {
  whole = whole_int (grid_of z) (pos 0);
  within = within_nonneg (times_largest 8 z) (int (pos 0)) (le_refl (int (pos 0))) (subst (λ y. int (pos 0) ≤ℚ y) (sym (int_mul (pos 8) (pos z.largest))) (nat_nonneg (8 * z.largest)));
}

pub slower_or_not : (x y : Ext) → (x <ₑ y) ⊎ ¬ (x <ₑ y)
slower_or_not x y = elim (rates_compared x y) [
  | inl l ↦ inl l
  | inr (inl e) ↦ inr (not_same x y e)
  | inr (inr l) ↦ inr (not_both y x l)
]

pub three_apart : (z : Sizes) → times_largest 3 z +ℚ times_largest 3 z ≤ℚ times_largest 8 z
three_apart z = let V = int (pos z.largest) in let some = nat_nonneg z.largest in with1 V (λ c. omega (arith, c.le, c.lt, c.same))

rise_room : (of : Lattice) (f g : SpecCurve) (s p e : ℚ) (k : ℕ) (z : Sizes) (rise : ℚ) → LatticeCall f g s p e k z → IsTailRise of f g (rise_over f p) (rise_over g p) rise → RiseHasRoom z rise
rise_room of f g s p e k z rise L R =
    let a = left_rise f g s p e k z L in
    let b = right_rise f g s p e k z L in
    let A : RiseHasRoom z (rise_over f p) = record { whole = a.whole; within = within_weaken (times_largest 3 z) (times_largest 8 z) (rise_over f p) (more_largest z 3 8 (omega arith)) a.within } in
    let B : RiseHasRoom z (rise_over g p) = record { whole = b.whole; within = within_weaken (times_largest 3 z) (times_largest 8 z) (rise_over g p) (more_largest z 3 8 (omega arith)) b.within } in
    let C : RiseHasRoom z (rise_over f p -ℚ rise_over g p) = record {
      whole = whole_sub (grid_of z) (rise_over f p) (rise_over g p) a.whole b.whole;
      within = within_weaken (times_largest 3 z +ℚ times_largest 3 z) (times_largest 8 z) (rise_over f p -ℚ rise_over g p) (three_apart z) (within_sub (times_largest 3 z) (times_largest 3 z) (rise_over f p) (rise_over g p) a.within b.within);
    } in
    by_kind of A B C R
  where
    by_kind : (of : Lattice) → RiseHasRoom z (rise_over f p) → RiseHasRoom z (rise_over g p) → RiseHasRoom z (rise_over f p -ℚ rise_over g p) → IsTailRise of f g (rise_over f p) (rise_over g p) rise → RiseHasRoom z rise
    by_kind Lower A B C R = by_cases z (rate g <ₑ rate f) (rise_over g p) (rise_over f p) rise R (slower_or_not (rate g) (rate f)) B A
    by_kind Upper A B C R = by_cases z (rate f <ₑ rate g) (rise_over g p) (rise_over f p) rise R (slower_or_not (rate f) (rate g)) B A
    by_kind Excess A B C R = by_cases z (rate g <ₑ rate f) (rise_over f p -ℚ rise_over g p) (int (pos 0)) rise R (slower_or_not (rate g) (rate f)) C (zero_room z)

-- ---- the answer
pub back : (e p from : ℚ) → from ≡ e -ℚ p → from +ℚ p ≡ e
back e p from h = with3 e p from (λ c. omega (arith, c.le, c.lt, c.same))

pub lattice_answer : (of : Lattice) (f g : SpecCurve) (r : Frame) (ls rs ps : List Piece) (from rise : ℚ) → IsLatticeFrame f g r → ls ≡ unroll f r.end → rs ≡ unroll g r.end
    → IsMadeOf (made_of of) (rises_of of) ls rs r.end ps → from ≡ r.end -ℚ r.period → IsTailRise of f g (rise_over f r.period) (rise_over g r.period) rise
    → IsAnswerWindow ps from r.period rise r.times r.values
lattice_answer of f g r ls rs ps from rise F el er M ef R =
    let L = F.call in
    let z = F.sizes in
    let k = F.number in
    let A = operands f g r.start r.period r.end k z ls rs L el er in
    let room = rise_room of f g r.start r.period r.end k z rise L R in
    let whole : Whole z.dt from = subst (Whole z.dt) (sym ef) (from_whole f g r.start r.period r.end k z L) in
    let nonneg : int (pos 0) ≤ℚ from = subst (λ y. int (pos 0) ≤ℚ y) (sym ef) (le_trans L.nonneg (from_late f g r.start r.period r.end k z L)) in
    let tail : TailOf z r.end from r.period rise = record { nonneg = nonneg; some = L.above; ends = back r.end r.period from ef; time = whole; whole = L.period_whole; value = room.whole } in
    answer_with_tail z r.end from r.period rise r.times r.values ps L.limited F.times F.values M.starts M.early (M.room z A) tail room.within
    (made_on_grids z (made_of of) (rises_of of) ls rs ps r.end from r.period rise A M tail)

-- ---- its values
-- curves of one rate rise by as much
pub same_rises : (f g : SpecCurve) (d : ℚ) → rate f ≡ rate g → rise_over f d ≡ rise_over g d
same_rises f g d e = by (rate f) refl
  where
    by : (x : Ext) → rate f ≡ x → rise_over f d ≡ rise_over g d
    by Inf h = sym (rate_none f d h) ∙ rate_none g d (sym e ∙ h)
    by (Fin q) h = sym (rate_rise f d q h) ∙ rate_rise g d q (sym e ∙ h)

-- what is made rises so from t on
record BothMove (f g : SpecCurve) (t d : ℚ) : Type 0 where
  left : value_at f (t +ℚ d) ≡ value_at f t +ₑ Fin (rise_over f d)
  right : value_at g (t +ℚ d) ≡ value_at g t +ₑ Fin (rise_over g d)
  first : rate f <ₑ rate g → (value_at f t ≤ₑ value_at g t) × (value_at f (t +ℚ d) ≤ₑ value_at g (t +ℚ d))
  second : rate g <ₑ rate f → (value_at g t ≤ₑ value_at f t) × (value_at g (t +ℚ d) ≤ₑ value_at f (t +ℚ d))

abbrev Moves : Lattice → SpecCurve → SpecCurve → ℚ → ℚ → ℚ → Type 0
Moves of f g t d rise = made_of of (value_at f t) (value_at g t) +ₑ Fin rise ≡ made_of of (value_at f (t +ℚ d)) (value_at g (t +ℚ d))

right_same : (f g : SpecCurve) (t d : ℚ) → rate f ≡ rate g → BothMove f g t d → value_at g (t +ℚ d) ≡ value_at g t +ₑ Fin (rise_over f d)
right_same f g t d e B = B.right ∙ ap (λ a. value_at g t +ₑ Fin a) (sym (same_rises f g d e))

excess_finite : (f g : SpecCurve) (t d q : ℚ) → value_at f t ≡ Fin q → BothMove f g t d → rate g <ₑ rate f → Moves Excess f g t d (rise_over f d -ℚ rise_over g d)
excess_finite f g t d q e B l =
    let o = B.second l in
    let a = rise_over f d in
    let b = rise_over g d in
    subst (λ v. excess v (value_at g t) +ₑ Fin (a -ℚ b) ≡ excess (value_at f (t +ℚ d)) (value_at g (t +ℚ d))) (sym e)
    (excess_above q (value_at g t) (value_at f (t +ℚ d)) (value_at g (t +ℚ d)) a b (subst (λ v. value_at f (t +ℚ d) ≡ v +ₑ Fin a) e B.left) B.right (subst (λ v. value_at g t ≤ₑ v) e o.0) o.1)

moves : (of : Lattice) (f g : SpecCurve) (t d rise : ℚ) → int (pos 0) ≤ℚ t → FiniteFor of (value_at f) → BothMove f g t d → IsTailRise of f g (rise_over f d) (rise_over g d) rise → Moves of f g t d rise
moves of f g t d rise some finite B R = by_kind of finite R (rates_compared (rate f) (rate g))
  where
    x : Ext
    x = value_at f t

    y : Ext
    y = value_at g t

    v : Ext
    v = value_at f (t +ℚ d)

    w : Ext
    w = value_at g (t +ℚ d)

    a : ℚ
    a = rise_over f d

    b : ℚ
    b = rise_over g d

    by_kind : (of : Lattice) → FiniteFor of (value_at f) → IsTailRise of f g (rise_over f d) (rise_over g d) rise → (rate f <ₑ rate g) ⊎ ((rate f ≡ rate g) ⊎ (rate g <ₑ rate f)) → Moves of f g t d rise
    by_kind Lower fin R (inl l) = subst (Moves Lower f g t d) (sym (R.else (not_both (rate f) (rate g) l))) (lower_first (value_at f t) (value_at g t) _ _ (rise_over f d) B.left (B.first l).0 (B.first l).1)
    by_kind Lower fin R (inr (inl e)) =
        subst (Moves Lower f g t d) (sym (R.else (not_same (rate g) (rate f) (sym e)))) (lower_both (value_at f t) (value_at g t) _ _ (rise_over f d) B.left (right_same f g t d e B))
    by_kind Lower fin R (inr (inr l)) = subst (Moves Lower f g t d) (sym (R.so l)) (lower_second (value_at f t) (value_at g t) _ _ (rise_over g d) B.right (B.second l).0 (B.second l).1)
    by_kind Upper fin R (inl l) = subst (Moves Upper f g t d) (sym (R.so l)) (upper_second (value_at f t) (value_at g t) _ _ (rise_over g d) B.right (B.first l).0 (B.first l).1)
    by_kind Upper fin R (inr (inl e)) =
        subst (Moves Upper f g t d) (sym (R.else (not_same (rate f) (rate g) e))) (upper_both (value_at f t) (value_at g t) _ _ (rise_over f d) B.left (right_same f g t d e B))
    by_kind Upper fin R (inr (inr l)) = subst (Moves Upper f g t d) (sym (R.else (not_both (rate g) (rate f) l))) (upper_first (value_at f t) (value_at g t) _ _ (rise_over f d) B.left (B.second l).0 (B.second l).1)
    by_kind Excess fin R (inl l) = subst (Moves Excess f g t d) (sym (R.else (not_both (rate f) (rate g) l))) (excess_below (value_at f t) (value_at g t) _ _ (B.first l).0 (B.first l).1)
    by_kind Excess fin R (inr (inl e)) =
        subst (Moves Excess f g t d) (sym (R.else (not_same (rate g) (rate f) (sym e)))) (excess_both (value_at f t) (value_at g t) _ _ (rise_over f d) B.left (right_same f g t d e B))
    by_kind Excess fin R (inr (inr l)) = let (q, h) = fin t some in subst (Moves Excess f g t d) (sym (R.so l)) (excess_finite f g t d q h B l)

both_move : (f g : SpecCurve) (s p e from t : ℚ) (k : ℕ) (z : Sizes) → LatticeCall f g s p e k z → IsSlowerBelowFrom f g from → s ≤ℚ from → from ≤ℚ t → BothMove f g t p
both_move f g s p e from t k z L S late h =
    let above = L.above in
    let after : from ≤ℚ t +ℚ p = with3 from t p (λ c. omega (arith, c.le, c.lt, c.same)) in
    let low = le_trans late h in
    record {
      left = (steady_rule f p L.first.normal.raw L.left_periods (le_of_lt above)).rule t (le_trans L.left_steady low);
      right = (steady_rule g p L.second.normal.raw L.right_periods (le_of_lt above)).rule t (le_trans L.right_steady low);
      first = λ l. (S.first l t h, S.first l (t +ℚ p) after);
      second = λ l. (S.second l t h, S.second l (t +ℚ p) after);
    }

pub lattice_values : (of : Lattice) (f g : SpecCurve) (r : Frame) (ls rs ps : List Piece) (from rise : ℚ) (c : SpecCurve) → IsLatticeFrame f g r → FiniteFor of (value_at f) → ls ≡ unroll f r.end
    → rs ≡ unroll g r.end → IsMadeOf (made_of of) (rises_of of) ls rs r.end ps → from ≡ r.end -ℚ r.period → IsTailRise of f g (rise_over f r.period) (rise_over g r.period) rise
    → HasValues c (repeated (read ps) from r.period rise) → (t : ℚ) → int (pos 0) ≤ℚ t → value_at c t ≡ made_of of (value_at f t) (value_at g t)
lattice_values of f g r ls rs ps from rise c F finite el er M ef R same =
    let L = F.call in
    let z = F.sizes in
    let k = F.number in
    let from_at : from ≡ periods_after r.start k r.period = ef ∙ from_is f g r.start r.period r.end k z L in
    let late : r.start ≤ℚ from = subst (λ y. r.start ≤ℚ y) (sym ef) (from_late f g r.start r.period r.end k z L) in
    let ends = back r.end r.period from ef in
    let left : RepeatsBy r.start r.period f = record { curve = L.first; steady_by = L.left_steady; periods = L.left_periods } in
    let right : RepeatsBy r.start r.period g = record { curve = L.second; steady_by = L.right_steady; periods = L.right_periods } in
    let ever = subst (IsSlowerBelowFrom f g) (sym from_at) (ever_after f g r.start r.period k L.above left right F.enough) in
    answer_relation (λ t v. v ≡ made_of of (value_at f t) (value_at g t)) c (read ps) from r.period rise same (le_trans L.nonneg late) L.above
    (λ t some early.
    let before : t <ℚ r.end = subst (λ y. t <ℚ y) ends early in
    M.reads t some before
    ∙ ap₂ (made_of of) (ap (λ us. read us t) el ∙ unroll_reads f r.end t L.first.normal some before) (ap (λ us. read us t) er ∙ unroll_reads g r.end t L.second.normal some before))
    (λ t v h e.
    ap (λ u. u +ₑ Fin rise) e ∙ moves of f g t r.period rise (le_trans L.nonneg (le_trans late h)) finite (both_move f g r.start r.period r.end from t k z L ever late h) R)
