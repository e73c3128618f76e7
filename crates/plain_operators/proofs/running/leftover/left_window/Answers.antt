use Rattle.std.proofs.Common.{◌≡◌, sym, ap, ◌∙◌, subst}
use Rattle.upp_curve.specs.affine_segment.Pieces.{StartsAtZero}
use Rattle.upp_normal.specs.Operand.{OperandPieces}
use Rattle.curve_call.proofs.OperandWindows.{cuts_fit}
use Rattle.curve_call.specs.Stretches.{EachBoth}
use Rattle.curve_call.specs.Pointwise.{mapped}
use Rattle.upp_normal.proofs.NormaliseForm.{ok_map}
use Rattle.plain_operators.specs.running.Parts.{left_piece, StretchLeftFits}
use Rattle.plain_operators.specs.running.LeftCall.{IsLeftWindow}
use Rattle.plain_operators.proofs.running.LeftAnswers.{times_of, left_to, left_operand, right_operand, window_made}
use Rattle.plain_operators.proofs.running.LeftCalls.{theta_before}
use Rattle.plain_operators.proofs.running.LeftStands.{lefts_fit}
use Rattle.plain_operators.proofs.running.MovedStands.{pieces_move}
use Rattle.plain_operators.proofs.running.leftover.left_window.Goals as goal

pub unrolled-requires : goal.unrolled-requires
unrolled-requires c = (left_to c.args.beta.now c.args.cross.now c.args.theta c.args.frame.now c.requires).0

pub moved_cross-requires : goal.moved_cross-requires
moved_cross-requires c =
    let F = c.requires in
    let r = c.args.frame.now in
    record {
      operand = (left_to c.args.beta.now c.args.cross.now c.args.theta r F).1;
      moves = pieces_move F.sizes r.end c.args.theta c.args.cross.now F.call.second F.call.limited F.call.right F.call.theta_whole F.call.theta_low
          (theta_before c.args.theta r.start r.period r.end F.number (times_of c.args.beta.now c.args.cross.now c.args.theta r F));
    }

pub overlay-requires-clause-left : goal.overlay-requires-clause-left
overlay-requires-clause-left c =
    let F = c.requires in
    let r = c.args.frame.now in
    subst StartsAtZero (sym (c.deref.ensures.value ∙ c.in_ok-left.ensures)) (left_operand c.args.beta.now c.args.cross.now c.args.theta r F).starts

pub overlay-requires-clause-right : goal.overlay-requires-clause-right
overlay-requires-clause-right c =
    let F = c.requires in
    let r = c.args.frame.now in
    subst StartsAtZero (sym (c.deref-2.ensures.value ∙ c.in_ok-moved.ensures))
    (right_operand c.args.beta.now c.args.cross.now c.args.theta r F).starts

pub overlay-requires-clause-fits : goal.overlay-requires-clause-fits
overlay-requires-clause-fits c =
    let F = c.requires in
    let r = c.args.frame.now in
    let left = left_operand c.args.beta.now c.args.cross.now c.args.theta r F in
    let right = right_operand c.args.beta.now c.args.cross.now c.args.theta r F in
    cuts_fit F.sizes r.end c.deref.result.now c.deref-2.result.now F.call.limited (subst (OperandPieces F.sizes r.end) (sym (c.deref.ensures.value ∙ c.in_ok-left.ensures)) left)
    (subst (OperandPieces F.sizes r.end) (sym (c.deref-2.ensures.value ∙ c.in_ok-moved.ensures)) right)

pub left_pieces-requires : goal.left_pieces-requires
left_pieces-requires c =
    let F = c.requires in
    let r = c.args.frame.now in
    let left = left_operand c.args.beta.now c.args.cross.now c.args.theta r F in
    let right = right_operand c.args.beta.now c.args.cross.now c.args.theta r F in
    subst (EachBoth StretchLeftFits) (sym c.deref-3.ensures.value)
    (lefts_fit F.sizes r.end c.deref.result.now c.deref-2.result.now c.in_ok-stretches.stretches.items F.call.limited
    (subst (OperandPieces F.sizes r.end) (sym (c.deref.ensures.value ∙ c.in_ok-left.ensures)) left)
    (subst (OperandPieces F.sizes r.end) (sym (c.deref-2.ensures.value ∙ c.in_ok-moved.ensures)) right)
    c.in_ok-stretches.ensures)

pub returns : goal.returns
returns c =
    let r = c.args.frame.now in
    let bs = c.in_ok-stretches.stretches.items in
    ok_map c.left_pieces.result (λ v. v.items ≡ mapped left_piece c.deref-3.result.now) (λ v. IsLeftWindow c.args.beta.now c.args.cross.now c.args.theta r.end v.items)
    (λ v e.
    window_made c.args.beta.now c.args.cross.now c.args.theta r.end c.deref.result.now c.deref-2.result.now v.items bs (c.deref.ensures.value ∙ c.in_ok-left.ensures)
    (c.deref-2.ensures.value ∙ c.in_ok-moved.ensures) c.in_ok-stretches.ensures (e ∙ ap (mapped left_piece) c.deref-3.ensures.value))
    c.left_pieces.ensures
