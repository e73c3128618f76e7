use Rattle.std.proofs.Common.{refl}
use Rattle.flow_watch.proofs.StairPaces.{not_none, rises_with}
use Rattle.flow_watch.proofs.stairs.stair_of.Goals as goal

pub div-requires : goal.div-requires
div-requires c = not_none _ _ c.zero-2.ensures (c.if-not-is_less-2.ensures.less.0 refl)

pub returns : goal.returns
returns c =
    rises_with c.args.rise c.in-Ok.rate c.args.period c.args.rise c.one.result refl c.one.ensures c.in-Ok.ensures.value
    (not_none _ _ c.zero-2.ensures (c.if-not-is_less-2.ensures.less.0 refl))
