use Rattle.std.specs.Prelude.{codes, ◌≢◌, AllPairs, All}
use Rattle.std.proofs.Common.{◌≡◌, [], map, length}
use Rattle.toml.specs.View.{view}
use Rattle.net_draft.specs.NameTexts.{texts}
use Rattle.net_draft.specs.Tables.{each, server_text_at, server_names}
use Rattle.net_draft.specs.Kept.{IsServerDraft}
use Rattle.net_draft.specs.Views.{server_text}
use Rattle.net_draft.proofs.Each.{left}
use Rattle.net_draft.proofs.servers.servers_of.Given as goal

abbrev pub invariant-loop-entry : goal.invariant-loop-entry
invariant-loop-entry l = record {
  value : each server_text_at (codes "server") (map server_text l.servers.items) (left l.entries l.entry-index) ≡ each server_text_at (codes "server") [] (map view l.entries);
  count : length l.servers.items ≡ l.entry-index;
  kept : All IsServerDraft l.servers.items;
  named : texts l.names ≡ server_names (map server_text l.servers.items);
  names : AllPairs (λ s t. s.name ≢ t.name) (map server_text l.servers.items);
}
