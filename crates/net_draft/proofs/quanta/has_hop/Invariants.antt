use Rattle.std.proofs.Common.{◌≡◌, drop}
use Rattle.std.specs.List.{list_any}
use Rattle.net_draft.specs.Drafts.{is_hop_to}
use Rattle.net_draft.proofs.quanta.has_hop.Given as goal

abbrev pub invariant-loop-hop : goal.invariant-loop-hop
invariant-loop-hop l = list_any (is_hop_to l.server l.queue) (drop l.hop-index l.hops) ≡ list_any (is_hop_to l.server l.queue) l.hops
