use Rattle.std.proofs.Common.{◌+◌, ◌∷◌, [], ℕ, false, map, get_or, sym, ◌∙◌, ap, refl}
use Rattle.std.proofs.lemmas.List.{take_all, map-append}
use Rattle.std.proofs.lemmas.List.Sums.{sum_by_more}
use Rattle.arrival_stairs.specs.Views.{bunch_of, bunches}
use Rattle.tree_network.specs.Spots.{spots_of}
use Rattle.tree_bounds.specs.Bunches.{bunch_of_group}
use Rattle.tree_bounds.specs.Onward.{stair_in}
use Rattle.tree_bounds.specs.declared.groups.Group.{Group}
use Rattle.tree_bounds.proofs.Coming.{bunches_more, run_bunch}
use Rattle.tree_bounds.proofs.arriving.bundles.Goals as goal

abbrev no_group : Group
no_group = record { source = 0; burst = 0; rate = 0; longest = 0; known = false; count = 0 }

pub loop-group-init : goal.loop-group-init
loop-group-init c = record { first = refl; bundles = λ s q are. ap bunches c.in_ok-all.ensures.items }

pub loop-group-preserved : goal.loop-group-preserved
loop-group-preserved c =
    let net = c.args.network.now in
    let stair = λ (n : ℕ). stair_in c.args.stairs.now n in
    let groups = c.args.groups.now in
    let i = c.loop-group.group-index in
    record {
      first = ap (λ (n : ℕ). n + (get_or groups i no_group).count) c.loop-group.invariant.first
          ∙ sym (sum_by_more (λ (g : Group). g.count) groups i no_group c.loop-group-test.true);
      bundles = λ s q are.
          bunches_more (bunch_of_group net (spots_of net) stair s q) groups i no_group (bunches c.loop-group.all.items) _ (bunch_of c.in_ok-bundle.field-0) c.loop-group-test.true
          (ap bunches c.in_ok-push.ensures.items ∙ map-append bunch_of c.loop-group.all.items (c.in_ok-bundle.field-0 ∷ [])) (c.loop-group.invariant.bundles s q are)
          (c.in_ok-bundle.ensures ∙ run_bunch net stair s q groups c.args.numbers.now i no_group c.loop-group.first c.loop-group-test.true c.loop-group.invariant.first are);
    }

pub returns : goal.returns
returns c = λ s q are.
    let net = c.args.network.now in
    c.loop-group.invariant.bundles s q are
    ∙ ap (map (bunch_of_group net (spots_of net) (λ n. stair_in c.args.stairs.now n) s q)) (take_all c.loop-group.group-index c.args.groups.now c.loop-group-test.false)
