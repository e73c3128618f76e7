use Rattle.std.specs.Prelude.{codes, ◌≢◌, AllPairs, All}
use Rattle.std.proofs.Common.{◌≡◌, [], map, length}
use Rattle.toml.specs.View.{view}
use Rattle.net_draft.specs.Tables.{each, flow_at, flow_names}
use Rattle.net_draft.specs.Kept.{IsFlowDraft}
use Rattle.net_draft.specs.ListViews.{list_texts}
use Rattle.net_draft.specs.NameTexts.{texts}
use Rattle.net_draft.specs.Views.{flow_text}
use Rattle.net_draft.proofs.Each.{left}
use Rattle.net_draft.proofs.flows.flows_of.Given as goal

abbrev pub invariant-loop-entry : goal.invariant-loop-entry
invariant-loop-entry l = record {
  value : each (flow_at (list_texts l.servers)) (codes "flow") (map flow_text l.flows.items) (left l.entries l.entry-index)
      ≡ each (flow_at (list_texts l.servers)) (codes "flow") [] (map view l.entries);
  count : length l.flows.items ≡ l.entry-index;
  named : texts l.names ≡ flow_names (map flow_text l.flows.items);
  names : AllPairs (λ f g. f.name ≢ g.name) (map flow_text l.flows.items);
  kept : All (IsFlowDraft (list_texts l.servers)) l.flows.items;
}
