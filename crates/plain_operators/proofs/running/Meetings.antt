-- What the meeting of a line that rises with a level line gives.
use Rattle.std.specs.Prelude.{◌≡◌, ◌↔◌, pos, Option, Some, None, Result, Ok, Err, IfOk, IfErr, IfSome}
use Rattle.std.proofs.Common.{ap, ◌∙◌, subst}
use Rattle.rational.specs.Rational.{ℚ, ◌<ℚ◌, int}
use Rattle.rational.proofs.Laws.{lt_irrefl}
use Rattle.fraction128.specs.declared.fault.Wide.{Wide}
use Rattle.upp_curve.specs.declared.affine_segment.line.Line.{Line}
use Rattle.upp_curve.specs.affine_segment.Values.{line_at}
use Rattle.upp_curve.specs.affine_segment.Steps.{IsWideCross}
use Rattle.plain_operators.specs.running.Scans.{flat, MeetingFits}
use Rattle.plain_operators.proofs.running.Levels.{flat_at}

pub meets : (v : ℚ) (l m : Line) (t : ℚ) (r : Result (Option ℚ) Wide) → m ≡ flat v → r ≡ Ok (Some t)
    → IfOk r (λ found. IfSome found (λ u. line_at l u ≡ line_at m u)) → line_at l t ≡ v
meets v l m t r e is h =
    let same : line_at l t ≡ line_at m t = subst (λ z. IfOk z (λ found. IfSome found (λ u. line_at l u ≡ line_at m u))) is h in
    same ∙ ap (λ z. line_at z t) e ∙ flat_at v t

pub never_parallel : (v : ℚ) (l m : Line) (r : Result (Option ℚ) Wide) → m ≡ flat v → int (pos 0) <ℚ l.slope → r ≡ Ok None → ((r ≡ Ok None) ↔ (l.slope ≡ m.slope)) → ⊥
never_parallel v l m r e rises is h =
    let same : l.slope ≡ int (pos 0) = h.0 is ∙ ap (λ z. z.slope) e in
    lt_irrefl (int (pos 0)) (subst (λ z. int (pos 0) <ℚ z) same rises)

pub never_wide : (v : ℚ) (l m : Line) (r : Result (Option ℚ) Wide) (w : Wide) → m ≡ flat v → MeetingFits v l → r ≡ Err w → IfErr r (IsWideCross l m) → ⊥
never_wide v l m r w e fits is h = fits w (subst (λ z. IsWideCross l z w) e (subst (λ z. IfErr z (IsWideCross l m)) is h))
