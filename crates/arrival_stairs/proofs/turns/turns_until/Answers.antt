use Rattle.std.proofs.Common.{rules, ◌≡◌, ◌*◌, arith, ap, sym, subst, ◌∙◌}
use Rattle.std.specs.Prelude.{IfSome}
use Rattle.std.specs.Ordering.{is_lt, nat_cmp}
use Rattle.std.proofs.lemmas.Fn.{always_returns_same}
use Rattle.arrival_lines.proofs.InOrder.{answer_is}
use Rattle.arrival_stairs.specs.Stairs.{bundle_level}
use Rattle.arrival_stairs.specs.Turns.{IsSmallLine, bundles_height, burst_until, rate_until}
use Rattle.arrival_stairs.specs.declared.stairs.Bundle.{Bundle}
use Rattle.arrival_stairs.specs.declared.turns.Turn.{Turn}
use Rattle.std.specs.List.{sum_by}
use Rattle.arrival_stairs.proofs.Highest.{level_small, pace_small}
use Rattle.arrival_stairs.proofs.Joint.{all_bundles, in_turn, no_turns, one_more_bundle, turn_order, turn_sooner}
use Rattle.arrival_heights.proofs.Orders.{apart}
use Rattle.arrival_stairs.proofs.Turned.{moved_turns}
use Rattle.arrival_stairs.proofs.turns.turns_until.Goals as goal

pub loop-bundle-init : goal.loop-bundle-init
loop-bundle-init c = no_turns c.args.bundles.now c.args.end c.new-turns.result.items c.new-turns.ensures.items

pub bundle_turns-requires-clause-level : goal.bundle_turns-requires-clause-level
bundle_turns-requires-clause-level c =
    let h = level_small c.args.end c.args.bundles.now c.loop-bundle.bundle-index c.bundle-item.result c.loop-bundle-test.true c.requires.bundles c.requires.few in
    let e = ap (bundle_level c.args.end) c.bundle-item.is in
    omega (arith, h, e)

pub bundle_turns-requires-clause-pace : goal.bundle_turns-requires-clause-pace
bundle_turns-requires-clause-pace c =
    subst (λ (b : Bundle). IfSome b.pace IsSmallLine) (sym c.bundle-item.is)
    (pace_small c.args.end c.args.bundles.now c.loop-bundle.bundle-index c.bundle-item.result c.loop-bundle-test.true c.requires.bundles c.requires.few)

pub loop-bundle-preserved : goal.loop-bundle-preserved
loop-bundle-preserved c =
    one_more_bundle c.args.bundles.now c.loop-bundle.bundle-index c.args.end c.bundle-item.result c.bundle-item.result c.loop-bundle.turns.items c.bundle_turns.new.turns.items
    c.loop-bundle-test.true c.bundle-item.is c.in_ok-bundle_turns.ensures c.loop-bundle.invariant

pub returns-clause-are : goal.returns-clause-are
returns-clause-are c =
    let bundles = c.args.bundles.now in
    moved_turns (bundles_height bundles) (sum_by (burst_until c.args.end) bundles) (sum_by (rate_until c.args.end) bundles) c.args.end c.loop-bundle.turns.items c.sort_by.new.self.items
    c.in_ok-sort_by.ensures.permutation (all_bundles bundles c.loop-bundle.bundle-index c.args.end c.loop-bundle.turns.items c.loop-bundle-test.false c.loop-bundle.invariant)

pub returns-clause-order : goal.returns-clause-order
returns-clause-order c =
    let bundles = c.args.bundles.now in
    let are = moved_turns (bundles_height bundles) (sum_by (burst_until c.args.end) bundles) (sum_by (rate_until c.args.end) bundles) c.args.end c.loop-bundle.turns.items
    c.sort_by.new.self.items c.in_ok-sort_by.ensures.permutation
    (all_bundles bundles c.loop-bundle.bundle-index c.args.end c.loop-bundle.turns.items c.loop-bundle-test.false c.loop-bundle.invariant) in
    in_turn c.sort_by.new.self.items c.args.end are.each
    (c.in_ok-sort_by.ensures.sorted turn_sooner turn_order (always_returns_same _ (λ a r. is_lt r ≡ turn_sooner a.0.now a.1.0.now) _ (λ a r f k. let x : Turn = a.0.now in let y : Turn = a.1.0.now in let e : r ≡ nat_cmp (x.at.over * apart y.at) (y.at.over * apart x.at) = search rules in (ap is_lt e ∙ answer_is (x.at.over * apart y.at) (y.at.over * apart x.at), search rules))))
