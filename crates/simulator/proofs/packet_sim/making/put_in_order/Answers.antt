use Rattle.std.specs.Prelude.{◌≡◌}
use Rattle.std.proofs.Common.{rules}
use Rattle.std.proofs.lemmas.List.Sorted.{answers_always}
use Rattle.sim_servers.specs.declared.opening.Span.{Span}
use Rattle.simulator.proofs.packet_sim.SortedStalls.{by_starts}
use Rattle.simulator.proofs.packet_sim.making.put_in_order.Goals as goal

pub returns-clause-sorted : goal.returns-clause-sorted
returns-clause-sorted c =
    by_starts c.sort_unstable_by_key.new.self.items
    (c.sort_unstable_by_key.ensures.sorted (λ (a : Span). a.start) (answers_always _ (λ a r. r ≡ a.0.now.start) _ (λ f a r g k. search rules)))
