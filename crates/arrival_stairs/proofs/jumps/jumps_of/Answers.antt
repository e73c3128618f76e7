use Rattle.std.proofs.Common.{rules}
use Rattle.std.proofs.lemmas.List.Sorted.{IsNonDecreasingBy-from_sort_by_key}
use Rattle.arrival_stairs.specs.declared.jumps.Jump.{Jump}
use Rattle.arrival_stairs.proofs.Risen.{all_of_bundle, in_order}
use Rattle.arrival_stairs.proofs.jumps.jumps_of.Goals as goal

pub returns-clause-all : goal.returns-clause-all
returns-clause-all c =
    in_order c.args.bundle.now c.args.end _ c.sort_by_key.new.self.items c.in_ok-sort_by_key.ensures.permutation
    (all_of_bundle c.args.bundle.now c.args.end c.new-jumps.result.items c.bundle_jumps.new.jumps.items c.requires.stairs c.new-jumps.ensures.items c.in_ok-bundle_jumps.ensures)

pub returns-clause-order : goal.returns-clause-order
returns-clause-order c = IsNonDecreasingBy-from_sort_by_key (λ (j : Jump). j.time) _ c.in_ok-sort_by_key.ensures.sorted (λ a r q k. search rules)
