-- What the calls on a point answer.
use Rattle.std.specs.Prelude.{◌≡◌, ◌≤◌, ◌^◌, List, [], ◌∷◌, None}
use Rattle.std.proofs.Common.{arith, ap, ◌∙◌, subst}
use Rattle.rational.specs.Rational.{ℚ, ◌≤ℚ◌, ◌<ℚ◌}
use Rattle.rational.specs.declared.Extended.TheVariants.{Fin}
use Rattle.rational.proofs.Laws.{le_of_lt, le_refl, antisym}
use Rattle.upp_curve.specs.declared.affine_segment.line.Piece.{Piece}
use Rattle.upp_curve.specs.declared.affine_segment.element.Element.TheVariants.{Point}
use Rattle.upp_curve.specs.declared.curve.Tail.TheVariants.{Periodic, Infinite}
use Rattle.upp_curve.specs.Curve.{SpecCurve, value_at}
use Rattle.upp_curve.specs.Curves.{IsCurve}
use Rattle.min_plus.specs.Functions.{zero_q}
use Rattle.upp_limits.specs.Limits.{own_tally}
use Rattle.subadd_closure.proofs.ElementSums.{closure_of_point}
use Rattle.subadd_closure.specs.ElementCurves.{point_closure, point_at_zero}
use Rattle.subadd_closure.specs.ElementAnswers.{IsElementClosure}
use Rattle.subadd_closure.proofs.PointCurves.{point_values, point_normal, zero_values, zero_normal}
use Rattle.upp_limits.proofs.FewCopies.{periodic_few}
use Rattle.upp_curve.specs.affine_segment.Reading.{nothing_at}

abbrev pub point_piece : ℚ → ℚ → Piece
point_piece x v = record { x = x; at = Fin v; line = None }

pub later_is : (z x v : ℚ) (ps : List Piece) → z ≡ zero_q → ps ≡ nothing_at z ∷ point_piece x v ∷ []
    → (let c : SpecCurve = record { pieces = ps; tail = Periodic x x v } in c ≡ point_closure x v)
later_is z x v ps e f =
    let first = λ (y : List Piece). let c : SpecCurve = record { pieces = y; tail = Periodic x x v } in c in
    ap first (f ∙ ap (λ y. nothing_at y ∷ point_piece x v ∷ []) e)

pub later_few : (x v : ℚ) → zero_q <ℚ x → own_tally (point_closure x v) ≤ 2 ^ 20
later_few x v some =
    let h = periodic_few (nothing_at zero_q ∷ point_piece x v ∷ []) x x v some (point_normal x v some).raw.starts in
    omega (arith, h)

pub zero_is : (z v : ℚ) (ps : List Piece) → z ≡ zero_q → ps ≡ point_piece z v ∷ []
    → (let c : SpecCurve = record { pieces = ps; tail = Infinite z } in c ≡ point_at_zero v)
zero_is z v ps e f =
    let first = λ (y : List Piece). let c : SpecCurve = record { pieces = y; tail = Infinite z } in c in
    let second = λ (y : ℚ). let c : SpecCurve = record { pieces = point_piece y v ∷ []; tail = Infinite y } in c in
    ap first f ∙ ap second e

pub zero_curve : (v : ℚ) → IsCurve (point_at_zero v)
zero_curve v = record { normal = zero_normal v; readable = (tt, tt, tt) }

pub ready_point : (x v : ℚ) → zero_q <ℚ x → IsElementClosure (Point x v) (point_closure x v)
ready_point x v some = record {
  normal = point_normal x v some;
  closes = λ t h. closure_of_point x v t (value_at (point_closure x v) t) (le_of_lt some) (point_values x v some t h);
}

pub ready_zero : (x v : ℚ) → zero_q ≤ℚ x → x ≤ℚ zero_q → zero_q ≤ℚ v → IsElementClosure (Point x v) (point_at_zero v)
ready_zero x v low high some =
    subst (λ z. IsElementClosure (Point z v) (point_at_zero v)) (antisym (low, high))
    (let r : IsElementClosure (Point zero_q v) (point_at_zero v) = record {
      normal = zero_normal v;
      closes = λ t h. closure_of_point zero_q v t (value_at (point_at_zero v) t) (le_refl zero_q) (zero_values v some t h);
    } in r)
