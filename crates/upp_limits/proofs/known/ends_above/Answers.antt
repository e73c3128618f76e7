use Rattle.rational.proofs.Compared.{iff_trans}
use Rattle.upp_limits.proofs.LevelCurves.{levels_above}
use Rattle.upp_limits.proofs.known.ends_above.Goals as goal

pub returns : goal.returns
returns c =
    let rf = c.is_rising.ensures.0 c.if-not-is_rising.false in
    let rg = c.is_rising-2.ensures.0 c.if-not-is_rising-2.false in
    let ef = c.is_level.ensures.0 c.if-not-is_level.false in
    let eg = c.is_level-2.ensures.0 c.if-not-is_level-2.false in
    let kept = c.is_level_above.ensures.kept in
    iff_trans c.is_level_above.ensures.above (levels_above c.args.f.now c.args.g.now kept.0 kept.1 rf rg ef eg)
