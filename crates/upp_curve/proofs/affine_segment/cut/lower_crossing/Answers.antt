use Rattle.std.proofs.Common.{true≢false, ◌∙◌, sym}
use Rattle.rational.proofs.Compared.{is_less, not_less}
use Rattle.upp_curve.proofs.affine_segment.Lower.{crossing_cut, uncrossed_cut, crossed_cut}
use Rattle.upp_curve.proofs.affine_segment.cut.lower_crossing.Goals as goal

pub returns-then-is_before : goal.returns-then-is_before
returns-then-is_before c =
    crossing_cut c.args.steep c.args.shallow c.args.x c.args.from c.args.to c.requires.steep c.requires.apart c.requires.meet
    (is_less c.cmp.result c.cmp.ensures.ranks c.in-Less.is) (c.is_before.ensures.0 c.if-is_before.true)

pub returns-else-is_before : goal.returns-else-is_before
returns-else-is_before c =
    rw c.uncut.ensures (uncrossed_cut c.args.steep c.args.shallow c.args.x c.args.from c.args.to c.requires.steep c.requires.meet (λ l. true≢false (sym (c.is_before.ensures.1 l) ∙ c.if-is_before.false)))

pub returns-in_default : goal.returns-in_default
returns-in_default c =
    rw c.uncut-in_default.ensures (crossed_cut c.args.steep c.args.shallow c.args.x c.args.from c.args.to c.requires.steep c.requires.meet (not_less c.cmp.result c.cmp.ensures.ranks c.in_default.not-Less))
