use Rattle.std.proofs.Common.{◌+◌, Option, List, subst, sym, refl, arith}
use Rattle.arrival_stairs.specs.declared.stairs.Stair.{Stair}
use Rattle.tree_bounds.specs.Onward.{BeginStairs}
use Rattle.tree_bounds.specs.Solved.{AreAllStairs}
use Rattle.tree_bounds.proofs.Onwards.{begin_more, range_more, no_range, if_range}
use Rattle.tree_bounds.proofs.onward.first_stairs.Goals as goal

pub loop-spot-init : goal.loop-spot-init
loop-spot-init c =
    let P : List (Option Stair) → Type 0 = λ ls. BeginStairs c.args.network.now c.args.spots.now 0 ls in
    record {
      begin = subst P (sym c.in_ok-stairs.ensures.items) record { count = refl; begins = λ k h. absurd (omega (arith, h)) };
      range = subst (λ (ls : List (Option Stair)). AreAllStairs ls) (sym c.in_ok-stairs.ensures.items) no_range;
    }

pub first_stair_at-requires-clause-link : goal.first_stair_at-requires-clause-link
first_stair_at-requires-clause-link c = (c.requires.spots.each c.loop-spot.spot-index c.loop-spot-test.true).link

pub loop-spot-preserved : goal.loop-spot-preserved
loop-spot-preserved c =
    let P : List (Option Stair) → Type 0 = λ ls. BeginStairs c.args.network.now c.args.spots.now (c.loop-spot.spot-index + 1) ls in
    record {
      begin = subst P (sym c.in_ok-push.ensures.items)
          (begin_more c.args.network.now c.args.spots.now c.loop-spot.spot-index c.loop-spot.stairs.items c.first_stair_at.result c.first_stair_at.ensures.own c.loop-spot.invariant.begin);
      range = subst (λ (ls : List (Option Stair)). AreAllStairs ls) (sym c.in_ok-push.ensures.items)
          (range_more c.loop-spot.stairs.items c.first_stair_at.result (if_range c.first_stair_at.result c.first_stair_at.ensures.range) c.loop-spot.invariant.range);
    }
