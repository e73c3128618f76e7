use Rattle.std.proofs.Common.{◌+◌, ℕ, List, length, sym, ◌∙◌, subst}
use Rattle.tree_network.specs.declared.spots.Spot.{Spot}
use Rattle.tree_network.specs.Lists.{those, is_from}
use Rattle.tree_network.proofs.ListSets.{list_of}
use Rattle.tree_bounds.specs.Onward.{CanBePassedOn, ArePassedOn}
use Rattle.tree_bounds.proofs.analysis.hand_on.Goals as goal

pub pass_on-requires : goal.pass_on-requires
pass_on-requires c =
    let plan = c.args.plan.now in
    let spots = plan.spots.items in
    let k = c.args.port + 1 in
    let numbers = c.deref-2.ensures.value ∙ sym (list_of plan.sources.items k c.index.result.now c.requires.inside c.index.ensures) ∙ c.requires.sources.each k c.requires.inside in
    let S : List Spot → Type 0 = λ s. CanBePassedOn s (those (is_from spots k) (length spots)) (length c.args.rows.now) (length c.args.stairs.now.items) in
    let N : List ℕ → Type 0 = λ ns. CanBePassedOn c.deref.result.now ns (length c.args.rows.now) (length c.args.stairs.now.items) in
    subst N (sym numbers) (subst S (sym c.deref.ensures.value) c.requires.can)

pub returns : goal.returns
returns c =
    let plan = c.args.plan.now in
    let spots = plan.spots.items in
    let k = c.args.port + 1 in
    let numbers = c.deref-2.ensures.value ∙ sym (list_of plan.sources.items k c.index.result.now c.requires.inside c.index.ensures) ∙ c.requires.sources.each k c.requires.inside in
    let N : List ℕ → Type 0 = λ ns. ArePassedOn c.deref.result.now ns c.args.rows.now (length ns) c.args.stairs.now.items c.pass_on.new.stairs.items in
    let S : List Spot → Type 0 = λ s. ArePassedOn s (those (is_from spots k) (length spots)) c.args.rows.now (length (those (is_from spots k) (length spots)))
    c.args.stairs.now.items c.pass_on.new.stairs.items in
    subst S c.deref.ensures.value (subst N numbers c.pass_on.ensures)
