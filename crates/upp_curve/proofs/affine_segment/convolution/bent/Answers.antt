use Rattle.std.proofs.Common.{◌≡◌, refl, sym, subst, inl, inr, ◌∙◌, Some}
use Rattle.std.proofs.lemmas.Result.{err_from_is_err_and}
use Rattle.rational.specs.Rational.{ℚ}
use Rattle.rational.specs.Extended.{Ext, ◌<ₑ◌}
use Rattle.rational.specs.declared.Extended.TheVariants.{Fin, Inf}
use Rattle.upp_curve.specs.declared.affine_segment.element.Element.TheVariants.{Point, Open}
use Rattle.upp_curve.specs.declared.affine_segment.element.Joined.{Joined}
use Rattle.upp_curve.specs.affine_segment.Segments.{open_of}
use Rattle.upp_curve.specs.affine_segment.Corners.{segment_of}
use Rattle.upp_curve.specs.affine_segment.Elements.{IsConvolved}
use Rattle.upp_curve.proofs.affine_segment.Convolved.{endless_convolved, bent_convolved}
use Rattle.upp_curve.specs.affine_segment.MadeParts.{alone_part, BentParts}
use Rattle.upp_curve.proofs.affine_segment.Made.{one_part_made, two_parts_made}
use Rattle.upp_curve.proofs.affine_segment.convolution.bent.Goals as goal

pub returns-in_err-start-clause-wide : goal.returns-in_err-start-clause-wide
returns-in_err-start-clause-wide c =
    let p = err_from_is_err_and c.from_residual.result c.from_residual.ensures.1 in
    rw (p.1, p.2) (inl c.in_err-start.ensures.wide)

pub returns-in_err-turn-clause-wide : goal.returns-in_err-turn-clause-wide
returns-in_err-turn-clause-wide c =
    let p = err_from_is_err_and c.from_residual-in_err-turn.result c.from_residual-in_err-turn.ensures.1 in
    rw (p.1, p.2, c.in-Fin.is) (inr (inl c.in_err-turn.ensures.wide))

-- no end is infinity
endless : (to : Ext) → ((e : ℚ) → to ≡ Fin e → ⊥) → to ≡ Inf
endless Inf h = refl
endless (Fin e) h = absurd (h e refl)

pub returns-in_default-clause-convolved : goal.returns-in_default-clause-convolved
returns-in_default-clause-convolved c =
    let low = segment_of c.args.low.now in
    let high = segment_of c.args.high.now in
    let start = c.in_ok-start.start in
    let corner = c.in_ok-start.ensures.corner in
    rw c.alone.ensures
    (subst (λ z. IsConvolved (Open low.from z low.line) (open_of high) (alone_part (Open start.at Inf start.line))) (sym (endless low.to c.in_default.not-Fin))
    (endless_convolved low.from low.line high.from high.to high.line start.line start.at c.requires.right c.requires.slopes
    corner.at record { slope = corner.line.slope; value = corner.line.value ∙ corner.v }))

pub returns-clause-convolved : goal.returns-clause-convolved
returns-clause-convolved c =
    let low = segment_of c.args.low.now in
    let high = segment_of c.args.high.now in
    let start = c.in_ok-start.start in
    let corner = c.in_ok-start.ensures.corner in
    let turn = c.in_ok-turn.turn in
    let next = c.in_ok-turn.ensures.corner in
    let left = subst (λ z. Fin low.from <ₑ z) c.in-Fin.is c.requires.left in
    rw c.in-Fin.is
    (bent_convolved low.from c.in-Fin.end low.line high.from high.to high.line start.line turn.line start.at turn.at turn.v c.in_ok-to.to left c.requires.right c.requires.slopes
    corner.at next.at next.v c.in_ok-to.ensures.sum record { slope = corner.line.slope; value = corner.line.value ∙ corner.v } next.line)

pub returns-in_default-clause-parts : goal.returns-in_default-clause-parts
returns-in_default-clause-parts c =
    let low = segment_of c.args.low.now in
    let high = segment_of c.args.high.now in
    subst (λ z. BentParts low z high c.alone.result) (sym (endless low.to c.in_default.not-Fin))
    (one_part_made low high c.in_ok-start.start Inf Inf c.alone.result c.in_ok-start.ensures.corner refl c.alone.ensures)

pub returns-clause-parts : goal.returns-clause-parts
returns-clause-parts c =
    let low = segment_of c.args.low.now in
    let high = segment_of c.args.high.now in
    let start = c.in_ok-start.start in
    let turn = c.in_ok-turn.turn in
    let made : Joined = record {
      first = Open start.at (Fin turn.at) start.line;
      join = Some (Point turn.at turn.v);
      second = Some (Open turn.at c.in_ok-to.to turn.line);
    } in
    subst (λ z. BentParts low z high made) (sym c.in-Fin.is)
    (two_parts_made low c.in-Fin.end high start turn c.in_ok-to.to c.in_ok-start.ensures.corner c.in_ok-turn.ensures.corner c.in_ok-to.ensures.sum)
