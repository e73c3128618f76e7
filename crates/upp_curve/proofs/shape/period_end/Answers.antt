use Rattle.std.proofs.Common.{ap, sym, subst, ◌∙◌}
use Rattle.rational.specs.Extended.{◌+ₑ◌}
use Rattle.rational.specs.declared.Extended.TheVariants.{Fin}
use Rattle.upp_curve.specs.Readable.{SumFitsAt}
use Rattle.upp_curve.proofs.RisingCurves.{read_at_start}
use Rattle.upp_curve.proofs.shape.period_end.Goals as goal

pub raised-requires : goal.raised-requires
raised-requires c =
    subst (λ v. SumFitsAt v c.args.rise) (sym (read_at_start c.args.pieces.now c.piece_at-first.result c.args.rank c.requires.starts c.requires.start c.piece_at-first.ensures)) c.requires.next

pub returns-clause-at : goal.returns-clause-at
returns-clause-at c =
    c.raised.ensures ∙ ap (λ v. v +ₑ Fin c.args.rise) (read_at_start c.args.pieces.now c.piece_at-first.result c.args.rank c.requires.starts c.requires.start c.piece_at-first.ensures)
