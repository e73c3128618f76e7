use Rattle.std.proofs.Common.{ℕ, List, map, get_or, ap, ◌∙◌}
use Rattle.std.proofs.lemmas.List.{take_all, get_or_default}
use Rattle.tree_network.specs.Spots.{no_spot, spot_at}
use Rattle.tree_bounds.proofs.Gathered.{one_gathered}
use Rattle.tree_bounds.proofs.groups.spots_at.Goals as goal

pub loop-n-preserved : goal.loop-n-preserved
loop-n-preserved c =
    let spots = c.args.spots.now in
    let j = c.loop-n.n-index in
    one_gathered (λ (n : ℕ). spot_at spots n) c.args.numbers.now j c.loop-n.found.items _ _ c.loop-n-test.true c.loop-n.invariant c.in_ok-push.ensures.items
    (get_or_default spots (get_or c.args.numbers.now j 0) _ no_spot (c.requires j 0 c.loop-n-test.true))

pub returns : goal.returns
returns c = c.loop-n.invariant ∙ ap (λ (l : List ℕ). map (λ n. spot_at c.args.spots.now n) l) (take_all c.loop-n.n-index c.args.numbers.now c.loop-n-test.false)
