use Rattle.std.proofs.Common.{◌≡◌, ◌<◌, ◌+◌, ℕ, get_or, length, replicate}
use Rattle.queue_sched.proofs.index_links.links.Links.new.Given as goal

abbrev pub invariant-loop-end : goal.invariant-loop-end
invariant-loop-end l =
    (length l.next.items ≡ l.fn.lists + l.fn.nodes) × (length l.prev.items ≡ l.fn.lists + l.fn.nodes)
    × (l.owners.items ≡ replicate l.fn.nodes l.fn.lists)
    × ((k : ℕ) → k < l.end → (get_or l.next.items k 0 ≡ k) × (get_or l.prev.items k 0 ≡ k))
