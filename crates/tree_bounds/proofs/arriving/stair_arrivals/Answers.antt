use Rattle.arrival_stairs.specs.Views.{bunches}
use Rattle.tree_network.specs.Spots.{spots_of}
use Rattle.tree_bounds.specs.Onward.{stair_in}
use Rattle.tree_bounds.proofs.Coming.{none_arrives, some_arrive}
use Rattle.tree_bounds.proofs.arriving.stair_arrivals.Goals as goal

pub returns-in-None : goal.returns-in-None
returns-in-None c = λ s q are.
    let net = c.args.network.now in
    none_arrives net (spots_of net) (λ n. stair_in c.args.stairs.now n) s q c.args.groups.now c.args.lines.now c.requires.lines c.in-None.is

pub returns-in_ok-all-in-Some : goal.returns-in_ok-all-in-Some
returns-in_ok-all-in-Some c = λ s q are.
    let net = c.args.network.now in
    some_arrive net (spots_of net) (λ n. stair_in c.args.stairs.now n) s q c.args.groups.now c.args.lines.now c.in-Some._parts (bunches c.in_ok-all-in-Some.all.items)
    c.requires.lines c.in-Some.is (c.in_ok-all-in-Some.ensures s q are)
