use Rattle.rational.proofs.Laws.{not_zero}
use Rattle.rational.proofs.Compared.{is_greater, not_greater}
use Rattle.plain_operators.proofs.running.Covers.{no_cover, cover_is}
use Rattle.plain_operators.proofs.running.periods.cover.Goals as goal

pub div-requires : goal.div-requires
div-requires c = not_zero c.args.rise c.requires.rises

pub returns-in-Ok-div : goal.returns-in-Ok-div
returns-in-Ok-div c =
    cover_is c.args.early c.args.once c.args.rise c.in-Ok.gap c.in-Ok-div.number c.size_up.result c.requires.rises
    (is_greater c.cmp.result c.cmp.ensures.ranks c.in-Greater.is) c.in-Ok.ensures.value
    c.in-Ok-div.ensures.value c.size_up.ensures

pub returns-in_default : goal.returns-in_default
returns-in_default c = no_cover c.args.early c.args.once c.args.rise (not_greater c.cmp.result c.cmp.ensures.ranks c.in_default.not-Greater)
