use Rattle.std.proofs.Common.{◌≡◌, ℕ, ◌<◌}
use Rattle.net_cells.specs.Numbered.{link, server_of_hop}
use Rattle.cell_rules.proofs.reads.same_links.Given as goal

abbrev pub invariant-loop-hop : goal.invariant-loop-hop
invariant-loop-hop l = (k : ℕ) → k < l.hop → link l.old (server_of_hop l.old l.flow k) ≡ link l.new (server_of_hop l.new l.flow k)
