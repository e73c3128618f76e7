use Rattle.std.proofs.Common.{ℕ, None, List, map, get_or, ap, subst, sym, ◌∙◌}
use Rattle.std.proofs.lemmas.List.{take_all, get_or_default}
use Rattle.tree_bounds.specs.Onward.{stair_in}
use Rattle.tree_bounds.specs.Solved.{AreAllStairs}
use Rattle.tree_bounds.proofs.Gathered.{gathered, one_gathered}
use Rattle.tree_bounds.proofs.groups.stairs_at.Goals as goal

pub loop-n-preserved : goal.loop-n-preserved
loop-n-preserved c =
    let stairs = c.args.stairs.now in
    let j = c.loop-n.n-index in
    one_gathered (λ (n : ℕ). stair_in stairs n) c.args.numbers.now j c.loop-n.found.items _ _ c.loop-n-test.true c.loop-n.invariant c.in_ok-push.ensures.items
    (get_or_default stairs (get_or c.args.numbers.now j 0) _ None (c.requires.inside j 0 c.loop-n-test.true))

pub returns-clause-same : goal.returns-clause-same
returns-clause-same c = c.loop-n.invariant ∙ ap (λ (l : List ℕ). map (λ n. stair_in c.args.stairs.now n) l) (take_all c.loop-n.n-index c.args.numbers.now c.loop-n-test.false)

pub returns-clause-range : goal.returns-clause-range
returns-clause-range c =
    let all = c.loop-n.invariant ∙ ap (λ (l : List ℕ). map (λ n. stair_in c.args.stairs.now n) l) (take_all c.loop-n.n-index c.args.numbers.now c.loop-n-test.false) in
    subst AreAllStairs (sym all) (gathered c.args.stairs.now c.args.numbers.now c.requires.range)
