use Rattle.rational.proofs.Laws.{not_zero}
use Rattle.flow_watch.proofs.step_lines.PlacedPairs.{is_fill}
use Rattle.flow_watch.proofs.step_lines.places.fill_of.Goals as goal

pub div-requires : goal.div-requires
div-requires c = not_zero c.args.height c.requires.height

pub returns : goal.returns
returns c = is_fill c.args.height c.in-Ok.ratio c.whole_part-steps.result c.in-Ok-sub.over c.args.amount c.requires.height c.requires.some c.in-Ok.ensures.value c.whole_part-steps.ensures c.in-Ok-sub.ensures.value
