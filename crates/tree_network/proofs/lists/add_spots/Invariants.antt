use Rattle.std.proofs.Common.{◌≡◌, ◌<◌, ◌++◌, ◌==◌, ℕ, filter, length, take}
use Rattle.tree_network.specs.Lists.{lists_of, list_at, number_at}
use Rattle.tree_network.proofs.lists.add_spots.Given as goal

abbrev pub invariant-loop-n : goal.invariant-loop-n
invariant-loop-n l = record {
  count : length l.lists.items ≡ length l.initial.lists.items;
  added : (s : ℕ) → s < length l.initial.lists.items → list_at (lists_of l.lists.items) s
      ≡ list_at (lists_of l.initial.lists.items) s ++ filter (λ n. number_at l.spot_ports n == s) (take l.n-index l.numbers);
}
