use Rattle.std.proofs.Common.{◌++◌, ◌∷◌, [], ℕ, List, ◌∙◌, sym, ap}
use Rattle.std.proofs.lemmas.List.{map_more, take_all}
use Rattle.tree_network.specs.Lists.{ports_in}
use Rattle.tree_network.specs.Spots.{no_spot, spot_at}
use Rattle.tree_network.specs.declared.spots.Spot.{Spot}
use Rattle.tree_network.proofs.lists.ports_of.Goals as goal

pub loop-spot-preserved : goal.loop-spot-preserved
loop-spot-preserved c =
    let spots = c.args.spots.now in
    let k = c.loop-spot.spot-index in
    c.in_ok-push.ensures.items ∙ ap (λ (l : List ℕ). l ++ (spot_at spots k).port ∷ []) c.loop-spot.invariant
    ∙ sym (map_more (λ (s : Spot). s.port) spots k no_spot c.loop-spot-test.true)

pub returns : goal.returns
returns c = c.loop-spot.invariant ∙ ap ports_in (take_all c.loop-spot.spot-index c.args.spots.now c.loop-spot-test.false)
