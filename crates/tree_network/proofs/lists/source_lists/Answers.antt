use Rattle.std.specs.Prelude.{IfOk}
use Rattle.std.proofs.Common.{◌≡◌, [], replicate, length, ap, subst, ◌∙◌}
use Rattle.tree_network.specs.Lists.{lists_of}
use Rattle.tree_network.proofs.lists.source_lists.Goals as goal

pub returns : goal.returns
returns c =
    subst (λ n. IfOk c.empty_lists.result (λ v. lists_of v.items ≡ replicate n [])) (ap length c.deref.ensures.value ∙ c.in_ok-counts.ensures) c.empty_lists.ensures
