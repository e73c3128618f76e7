use Rattle.std.proofs.Common.{◌∙◌, sym}
use Rattle.rational.proofs.Comparison.{cmp_greater, cmp_not_greater}
use Rattle.upp_normal.proofs.NormaliseRank.{in_last, late_not_in}
use Rattle.upp_normal.proofs.lowest_rank.repeats_in.Goals as goal

pub returns-in-Greater : goal.returns-in-Greater
returns-in-Greater c =
    late_not_in c.args.p.now c.args.last.now c.later-moved.result c.args.period c.args.rise c.later-moved.ensures
    (cmp_greater c.args.last.now.x c.later-moved.result.x (sym c.cmp.ensures.is ∙ c.in-Greater.is))

pub returns-then-same_ext : goal.returns-then-same_ext
returns-then-same_ext c =
    in_last c.args.p.now c.args.last.now c.later-moved.result c.args.period c.args.rise c.piece_value-reached.result c.later-moved.ensures
    (cmp_not_greater c.args.last.now.x c.later-moved.result.x (λ k. c.in_default.not-Greater (c.cmp.ensures.is ∙ k)))
    (c.same_lines.ensures.0 c.if-not-same_lines.false) c.piece_value-reached.ensures (c.same_ext.ensures.0 c.if-same_ext.true)
