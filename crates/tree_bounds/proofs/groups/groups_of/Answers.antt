use Rattle.std.proofs.Common.{ℕ, ◌+◌, Option, List, length, get_or, subst, sym, ◌∙◌, ap, arith}
use Rattle.std.proofs.lemmas.List.{take_all, get_or_default, length-map}
use Rattle.arrival_stairs.specs.declared.stairs.Stair.{Stair}
use Rattle.tree_network.specs.Spots.{no_spot, spot_at}
use Rattle.tree_network.specs.declared.spots.Spot.{Spot}
use Rattle.tree_bounds.specs.Grouping.{IsOfOne, group_of_spot, with_group, grouped}
use Rattle.tree_bounds.specs.Lines.{line_of}
use Rattle.tree_bounds.specs.Onward.{stair_in}
use Rattle.tree_bounds.specs.Solved.{AreAllStairs}
use Rattle.tree_bounds.specs.declared.groups.Group.{Group}
use Rattle.tree_bounds.proofs.Gathered.{own_spot, own_stair}
use Rattle.tree_bounds.proofs.Grouped.{Grouping, no_spot_yet, spot_more, fits_all}
use Rattle.tree_bounds.proofs.groups.groups_of.Goals as goal

pub loop-place-init : goal.loop-place-init
loop-place-init c =
    let P : List Group → Type 0 = λ gs. Grouping c.args.spots.now (λ n. line_of (stair_in c.args.stairs.now n)) c.args.numbers.now 0 gs in
    subst P (sym c.in_ok-groups.ensures.items) (no_spot_yet c.args.spots.now (λ n. line_of (stair_in c.args.stairs.now n)) c.args.numbers.now)

pub line_by-line-requires-clause-stairs : goal.line_by-line-requires-clause-stairs
line_by-line-requires-clause-stairs c = subst AreAllStairs (sym c.deref.ensures.value) c.in_ok-own.ensures.range

pub line_by-line-requires-clause-inside : goal.line_by-line-requires-clause-inside
line_by-line-requires-clause-inside c =
    let same = ap length (c.deref.ensures.value ∙ c.in_ok-own.ensures.same) in
    let n = length-map c.args.numbers.now (λ (n : ℕ). stair_in c.args.stairs.now n) in
    omega (arith, same, n, c.loop-place-test.true)

pub index-requires : goal.index-requires
index-requires c =
    let same = ap length c.in_ok-near.ensures in
    let n = length-map c.args.numbers.now (λ (n : ℕ). spot_at c.args.spots.now n) in
    omega (arith, same, n, c.loop-place-test.true)

pub add_group-requires : goal.add_group-requires
add_group-requires c =
    fits_all c.loop-place.place c.loop-place.groups.items c.group_of_one.result (omega (arith, c.loop-place-test.true)) c.group_of_one.ensures.small c.loop-place.invariant.most

pub loop-place-preserved : goal.loop-place-preserved
loop-place-preserved c =
    let spots = c.args.spots.now in
    let stairs = c.args.stairs.now in
    let line = λ (n : ℕ). line_of (stair_in stairs n) in
    let numbers = c.args.numbers.now in
    let j = c.loop-place.place in
    let P : List Group → Type 0 = λ gs. Grouping spots line numbers (j + 1) gs in
    let own = ap (λ (l : List (Option Stair)). line_of (stair_in l j)) c.deref.ensures.value ∙ ap line_of (own_stair stairs numbers c.in_ok-own.own.items j c.in_ok-own.ensures.same c.loop-place-test.true) in
    let near = c.in_ok-near.near.items in
    let same = ap length c.in_ok-near.ensures in
    let n = length-map numbers (λ (n : ℕ). spot_at spots n) in
    let spot = c.index.ensures ∙ get_or_default near j c.index.result.now no_spot (omega (arith, same, n, c.loop-place-test.true))
    ∙ own_spot spots numbers near j c.in_ok-near.ensures c.loop-place-test.true in
    let one = c.group_of_one.ensures.one ∙ ap (λ (s : Spot). group_of_spot s c.line_by-line.result) spot
    ∙ ap (group_of_spot (spot_at spots (get_or numbers j 0))) (c.line_by-line.ensures ∙ own) in
    subst P (sym (c.in_ok-add_group.ensures ∙ ap (with_group c.loop-place.groups.items) one))
    (spot_more spots line numbers j c.loop-place.groups.items c.loop-place-test.true (subst IsOfOne one c.group_of_one.ensures.small) c.loop-place.invariant)

pub returns : goal.returns
returns c =
    c.loop-place.invariant.is ∙ ap (grouped c.args.spots.now (λ n. line_of (stair_in c.args.stairs.now n))) (take_all c.loop-place.place c.args.numbers.now (omega (arith, c.loop-place-test.false)))
