use Rattle.std.proofs.Common.{sym, subst, List, All}
use Rattle.arrival_stairs.specs.Stairs.{IsStair}
use Rattle.arrival_stairs.specs.declared.stairs.Stair.{Stair}
use Rattle.arrival_stairs.proofs.Risen.{one_more_stair}
use Rattle.arrival_stairs.proofs.jumps.bundle_jumps.Goals as goal

pub loop-stair-preserved : goal.loop-stair-preserved
loop-stair-preserved c =
    let all = subst (λ (xs : List Stair). All IsStair xs) (sym c.deref-stair-items.ensures.value) c.requires.stairs in
    one_more_stair c.deref-stair-items.result.now c.loop-stair.stair-index c.args.end c.args.jumps.now.items c.loop-stair.jumps.items c.stair_jumps.new.jumps.items
    c.loop-stair-test.true all c.loop-stair.invariant c.in_ok-stair_jumps.ensures
