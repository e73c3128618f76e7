use Rattle.std.proofs.Common.{true≢false, ◌∙◌, sym}
use Rattle.upp_curve.proofs.affine_segment.Meeting.{apart, lines_meet}
use Rattle.upp_curve.proofs.affine_segment.line.cross.Goals as goal

pub div-requires : goal.div-requires
div-requires c =
    apart c.args.a.now.slope c.args.b.now.slope c.in_ok-closing.closing (λ e. true≢false (sym (c.eq.ensures.same.1 e) ∙ c.if-eq.false)) c.in_ok-closing.ensures.value

pub returns-clause-meet : goal.returns-clause-meet
returns-clause-meet c =
    lines_meet c.args.a.now c.args.b.now c.in_ok-apart.apart c.in_ok-closing.closing c.in_ok-t.t (λ e. true≢false (sym (c.eq.ensures.same.1 e) ∙ c.if-eq.false))
    c.in_ok-apart.ensures.value c.in_ok-closing.ensures.value c.in_ok-t.ensures.value
