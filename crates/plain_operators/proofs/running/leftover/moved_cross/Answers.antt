use Rattle.std.proofs.Common.{◌≡◌, sym, ap, ◌∙◌, subst}
use Rattle.upp_curve.specs.affine_segment.Pieces.{Each}
use Rattle.upp_curve.specs.Unrolled.{unroll}
use Rattle.upp_normal.proofs.NormaliseForm.{ok_map}
use Rattle.plain_operators.specs.running.Moved.{moved_right, PieceMoves}
use Rattle.plain_operators.proofs.running.leftover.moved_cross.Goals as goal

pub unrolled-requires : goal.unrolled-requires
unrolled-requires c = c.requires.operand

pub moved_right-requires : goal.moved_right-requires
moved_right-requires c = subst (Each (PieceMoves c.args.theta)) (sym (c.deref.ensures.value ∙ c.in_ok-right.ensures)) c.requires.moves

pub returns : goal.returns
returns c =
    ok_map c.moved_right.result (λ v. v.items ≡ moved_right c.args.theta c.args.end c.deref.result.now) (λ v. v.items ≡ moved_right c.args.theta c.args.end (unroll c.args.cross.now c.args.end))
    (λ v e. e ∙ ap (moved_right c.args.theta c.args.end) (c.deref.ensures.value ∙ c.in_ok-right.ensures)) c.moved_right.ensures
