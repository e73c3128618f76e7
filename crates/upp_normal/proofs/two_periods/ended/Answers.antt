use Rattle.std.proofs.Common.{◌++◌, ◌∙◌, List, [], ◌∷◌, None, ap, ap₂}
use Rattle.rational.specs.Extended.{Ext}
use Rattle.upp_curve.specs.declared.affine_segment.line.Piece.{Piece}
use Rattle.upp_curve.specs.affine_segment.Reading.{read}
use Rattle.upp_normal.proofs.NormaliseShape.{taken_is}
use Rattle.upp_normal.proofs.two_periods.ended.Goals as goal

pub returns : goal.returns
returns c =
    let ps = c.args.pieces.items in
    let done = taken_is c.args.rank ps c.deref-2.result.now c.truncate.new.self.items c.count_before-before.result c.truncate.ensures.items c.count_before-before.ensures c.deref-2.ensures.value in
    c.in_ok-push.ensures.items ∙ ap₂ (λ (zs : List Piece) (v : Ext). zs ++ record { x = c.args.rank; at = v; line = None } ∷ []) done
    (c.read-at.ensures ∙ ap (λ zs. read zs c.args.rank) c.deref.ensures.value)
