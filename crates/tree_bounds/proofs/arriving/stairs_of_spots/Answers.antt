use Rattle.std.proofs.Common.{◌++◌, ◌<◌, ℕ, None, List, length, get_or, ◌∙◌, ap}
use Rattle.std.proofs.lemmas.List.{take_all, get_or_default}
use Rattle.arrival_stairs.specs.declared.stairs.Stair.{Stair}
use Rattle.tree_bounds.specs.Bunches.{stair_list, stairs_among}
use Rattle.tree_bounds.specs.Onward.{stair_in}
use Rattle.tree_bounds.proofs.Coming.{none_among, one_among}
use Rattle.tree_bounds.proofs.arriving.stairs_of_spots.Goals as goal

pub loop-n-init : goal.loop-n-init
loop-n-init c = c.in_ok-found.ensures.items ∙ none_among (λ n. stair_in c.args.stairs.now n) c.args.numbers.now

pub loop-n-preserved : goal.loop-n-preserved
loop-n-preserved c =
    let numbers = c.args.numbers.now in
    let stairs = c.args.stairs.now in
    let j = c.loop-n.n-index in
    let n = get_or numbers j 0 in
    let inside : n < length stairs = c.requires j 0 c.loop-n-test.true in
    one_among (λ m. stair_in stairs m) numbers j 0 c.loop-n.found.items _ c.loop-n-test.true c.loop-n.invariant
    (c.in_ok-keep.ensures ∙ ap (λ (l : List Stair). c.loop-n.found.items ++ l) (ap stair_list (get_or_default stairs n _ None inside)))

pub returns : goal.returns
returns c = c.loop-n.invariant ∙ ap (λ (l : List ℕ). stairs_among (λ n. stair_in c.args.stairs.now n) l) (take_all c.loop-n.n-index c.args.numbers.now c.loop-n-test.false)
