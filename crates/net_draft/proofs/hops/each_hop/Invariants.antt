use Rattle.std.specs.Prelude.{◌≢◌, AllPairs, All}
use Rattle.std.proofs.Common.{◌≡◌, [], map, length}
use Rattle.toml.specs.View.{view}
use Rattle.net_draft.specs.Tables.{each, hop_at}
use Rattle.net_draft.specs.Texts.{IsHopOf}
use Rattle.net_draft.specs.ListViews.{list_texts}
use Rattle.net_draft.proofs.Each.{left}
use Rattle.net_draft.proofs.hops.each_hop.Given as goal

abbrev pub invariant-loop-entry : goal.invariant-loop-entry
invariant-loop-entry l = record {
  value : each (hop_at (list_texts l.servers)) l.place l.hops.items (left l.entries l.entry-index) ≡ each (hop_at (list_texts l.servers)) l.place [] (map view l.entries);
  count : length l.hops.items ≡ l.entry-index;
  range : All (IsHopOf (list_texts l.servers)) l.hops.items;
  once : AllPairs (λ a b. a.server ≢ b.server) l.hops.items;
}
