use Rattle.rational.proofs.Laws.{le_lt_trans}
use Rattle.rational.proofs.Compared.{least_by_test}
use Rattle.curve_deviation.proofs.parts.part_at.Goals as goal

pub late_part-requires-clause-late : goal.late_part-requires-clause-late
late_part-requires-clause-late c =
    let w = c.requires in
    c.kept_until-kept.ensures.until.over (le_lt_trans (least_by_test c.args.t c.kept_until-kept.result c.if-is_less.ensures.less) w.2.before)
