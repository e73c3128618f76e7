use Rattle.std.proofs.Common.{arith, ap}
use Rattle.arrival_stairs.specs.Stairs.{bundle_level}
use Rattle.arrival_stairs.proofs.Starts.{level_small}
use Rattle.arrival_stairs.proofs.stairs.levels_of.Goals as goal

pub level_of-requires-clause-small : goal.level_of-requires-clause-small
level_of-requires-clause-small c =
    let h = level_small c.args.bundles.now c.loop-bundle.bundle-index c.bundle-item.result c.loop-bundle-test.true c.requires in
    let e = ap (bundle_level 0) c.bundle-item.is in
    omega (arith, h, e)
