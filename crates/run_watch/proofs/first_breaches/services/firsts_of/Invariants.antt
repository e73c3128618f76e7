use Rattle.std.proofs.Common.{◌≡◌, ℕ, ◌<◌, length, get_or}
use Rattle.net_cells.specs.Numbered.{server_of_hop}
use Rattle.run_watch.proofs.first_breaches.services.firsts_of.Given as goal

abbrev pub invariant-loop-number : goal.invariant-loop-number
invariant-loop-number l = (length l.firsts.items ≡ l.number) × ((i : ℕ) → i < l.number → get_or l.firsts.items i 0 ≡ server_of_hop l.net i 0)
