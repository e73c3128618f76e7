use Rattle.std.proofs.Common.{rules, arith}
use Rattle.std.proofs.lemmas.List.Sorted.{IsNonDecreasingBy-from_sort_by_key}
use Rattle.packet_windows.specs.declared.windows.Window.{Window}
use Rattle.packet_windows.proofs.Loops.{lengthen}
use Rattle.packet_windows.proofs.steps.put_in_order.Goals as goal

pub returns-clause-ordered : goal.returns-clause-ordered
returns-clause-ordered c =
    let ws = c.sort_by_key.new.self.items in
    lengthen ws 0 (IsNonDecreasingBy-from_sort_by_key (λ (w : Window). w.length) ws c.in_ok-sort_by_key.ensures.sorted (λ a r q k. search rules)) (λ w vs e. omega arith)
