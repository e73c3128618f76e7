use Rattle.std.specs.Prelude.{nat_eq}
use Rattle.std.proofs.Common.{◌≡◌, drop}
use Rattle.std.specs.List.{list_any}
use Rattle.net_draft.proofs.hops.passes_server.Given as goal

abbrev pub invariant-loop-hop : goal.invariant-loop-hop
invariant-loop-hop l = list_any (λ h. nat_eq h.server l.server) (drop l.hop-index l.hops) ≡ list_any (λ h. nat_eq h.server l.server) l.hops
