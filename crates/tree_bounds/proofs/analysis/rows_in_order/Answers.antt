use Rattle.std.proofs.Common.{◌≡◌, ◌+◌, ℕ, Option, List, length, get_or, sym, ◌∙◌, ap, subst, arith}
use Rattle.std.proofs.lemmas.List.{length-map, map-set}
use Rattle.arrival_stairs.specs.declared.stairs.Stair.{Stair}
use Rattle.arrival_lines.specs.declared.grid.Queue.{Queue}
use Rattle.tree_network.specs.declared.spots.Spot.{Spot}
use Rattle.tree_network.specs.Spots.{AreSpots, spots_of}
use Rattle.tree_network.specs.Lists.{those, is_from, lists_of, AreBySource}
use Rattle.tree_network.specs.Networks.{port_at, queues_of}
use Rattle.tree_bounds.specs.Bunches.{AreRowsOf}
use Rattle.tree_bounds.specs.Equations.{comes_to}
use Rattle.tree_network.proofs.InRange.{in_range}
use Rattle.tree_bounds.specs.Onward.{BeginStairs, CanBePassedOn, ArePassedOn, stair_in}
use Rattle.tree_bounds.specs.Solved.{AreAllStairs, AreDone}
use Rattle.tree_bounds.specs.Tables.{items_of}
use Rattle.tree_bounds.proofs.Done.{none_done, one_done, all_done, can_pass, port_in_order}
use Rattle.tree_bounds.proofs.Bunched.{arriving_length}
use Rattle.tree_bounds.proofs.analysis.rows_in_order.Goals as goal

pub first_stairs-requires-clause-spots : goal.first_stairs-requires-clause-spots
first_stairs-requires-clause-spots c =
    let P : List Spot → Type 0 = λ xs. AreSpots c.args.network.now xs in
    subst P (sym (c.deref.ensures.value ∙ c.requires.plan.spots)) (in_range c.args.network.now c.requires.network)

pub loop-port-init : goal.loop-port-init
loop-port-init c =
    let net = c.args.network.now in
    let count = length-map c.in_ok-rows.rows.items (λ v. v.items) in
    let P : List Spot → Type 0 = λ xs. BeginStairs net xs (length xs) c.in_ok-stairs.stairs.items in
    none_done net c.args.plan.now.order.items (items_of c.in_ok-rows.rows.items) c.in_ok-stairs.stairs.items
    (omega (arith, count, c.in_ok-rows.ensures, c.len.ensures)) (subst P (c.deref.ensures.value ∙ c.requires.plan.spots) c.in_ok-stairs.ensures.begin) c.in_ok-stairs.ensures.range

pub rows_at-requires-clause-stairs : goal.rows_at-requires-clause-stairs
rows_at-requires-clause-stairs c =
    let d = c.loop-port.invariant in
    let known = ap length c.as_slice-known.ensures.value in
    let spots = ap length c.requires.plan.spots in
    omega (arith, known, spots, d.stairs_each)

pub rows_at-requires-clause-range : goal.rows_at-requires-clause-range
rows_at-requires-clause-range c =
    subst (λ (ls : List (Option Stair)). AreAllStairs ls) (sym c.as_slice-known.ensures.value) c.loop-port.invariant.in_range

pub rows_at-requires-clause-port : goal.rows_at-requires-clause-port
rows_at-requires-clause-port c =
    port_in_order c.args.network.now c.args.plan.now.order.items c.deref-port-items.result.now c.loop-port.port-index c.requires.plan.order c.deref-port-items.ensures.value c.loop-port-test.true

pub hand_on-requires-clause-inside : goal.hand_on-requires-clause-inside
hand_on-requires-clause-inside c =
    let lt = port_in_order c.args.network.now c.args.plan.now.order.items c.deref-port-items.result.now c.loop-port.port-index c.requires.plan.order c.deref-port-items.ensures.value c.loop-port-test.true in
    let count = length-map c.args.plan.now.sources.items (λ v. v.items) in
    omega (arith, lt, count, c.requires.plan.sources.count)

pub hand_on-requires-clause-sources : goal.hand_on-requires-clause-sources
hand_on-requires-clause-sources c =
    let plan = c.args.plan.now in
    let count = length-map plan.sources.items (λ v. v.items) in
    let S : List Spot → Type 0 = λ s. AreBySource s (length c.args.network.now.ports.items + 1) (lists_of plan.sources.items) in
    let N : ℕ → Type 0 = λ n. AreBySource plan.spots.items n (lists_of plan.sources.items) in
    subst N (sym c.requires.plan.sources.count ∙ count) (subst S (sym c.requires.plan.spots) c.requires.plan.sources)

pub hand_on-requires-clause-can : goal.hand_on-requires-clause-can
hand_on-requires-clause-can c =
    let net = c.args.network.now in
    let order = c.args.plan.now.order.items in
    let o = c.requires.plan.order in
    let d = c.loop-port.invariant in
    let same = c.deref-port-items.ensures.value in
    let k = c.loop-port.port-index in
    let inside = ap length same in
    let p = get_or c.deref-port-items.result.now k 0 in
    let is = ap (λ (l : List ℕ). get_or l k 0) same in
    let rows = c.in_ok-found.ensures in
    let queues = ap length c.as_slice-these.ensures.value ∙ rows.count
    ∙ arriving_length net (spots_of net) (λ n. stair_in c.as_slice-known.result.now n) p (queues_of (port_at net p).discipline) in
    let S : List Spot → Type 0 = λ s. CanBePassedOn s (those (is_from s (p + 1)) (length s)) (length c.as_slice-these.result.now) (length c.loop-port.stairs.items) in
    subst S (sym c.requires.plan.spots)
    (can_pass net order k p (length c.as_slice-these.result.now) (length c.loop-port.stairs.items) (in_range net c.requires.network) o
    (omega (arith, c.loop-port-test.true, inside, o.count)) is queues d.stairs_each)

pub loop-port-preserved : goal.loop-port-preserved
loop-port-preserved c =
    let net = c.args.network.now in
    let order = c.args.plan.now.order.items in
    let o = c.requires.plan.order in
    let same = c.deref-port-items.ensures.value in
    let k = c.loop-port.port-index in
    let inside = ap length same in
    let p = get_or c.deref-port-items.result.now k 0 in
    let is = ap (λ (l : List ℕ). get_or l k 0) same in
    let found = c.in_ok-found.found in
    let old = c.loop-port.stairs.items in
    let new = c.hand_on.new.stairs.items in
    let A : List (Option Stair) → Type 0 = λ ls. AreRowsOf (port_at net p) (comes_to net (λ n. stair_in ls n) p) found.items in
    let rows = subst A c.as_slice-known.ensures.value c.in_ok-found.ensures in
    let T : List Spot → Type 0 = λ s. ArePassedOn s (those (is_from s (p + 1)) (length s)) c.as_slice-these.result.now (length (those (is_from s (p + 1)) (length s))) old new in
    let F : List (Option Queue) → Type 0 = λ r. ArePassedOn (spots_of net) (those (is_from (spots_of net) (p + 1)) (length (spots_of net))) r
    (length (those (is_from (spots_of net) (p + 1)) (length (spots_of net)))) old new in
    let passed = subst F c.as_slice-these.ensures.value (subst T c.requires.plan.spots c.hand_on.ensures) in
    let D : List (List (Option Queue)) → Type 0 = λ rs. AreDone net order (k + 1) rs new in
    subst D (sym (map-set (λ v. v.items) c.loop-port.rows.items p found))
    (one_done net order k p (items_of c.loop-port.rows.items) old new found.items (in_range net c.requires.network) o (omega (arith, c.loop-port-test.true, inside, o.count)) is rows passed
    c.loop-port.invariant)

pub returns : goal.returns
returns c =
    let net = c.args.network.now in
    let order = c.args.plan.now.order.items in
    let o = c.requires.plan.order in
    let all : c.loop-port.port-index ≡ length net.ports.items = omega (arith, c.loop-port.auto.port-index-end, c.loop-port-test.false, o.count) in
    let P : ℕ → Type 0 = λ k. AreDone net order k (items_of c.loop-port.rows.items) c.loop-port.stairs.items in
    all_done net order (items_of c.loop-port.rows.items) c.loop-port.stairs.items (in_range net c.requires.network) o (subst P all c.loop-port.invariant)
