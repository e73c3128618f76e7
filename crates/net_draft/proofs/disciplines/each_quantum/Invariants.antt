use Rattle.std.proofs.Common.{◌≡◌, [], map, length, All}
use Rattle.toml.specs.View.{view}
use Rattle.net_model.specs.Accepted.{IsLength}
use Rattle.net_draft.specs.Tables.{each, quantum_at}
use Rattle.net_draft.proofs.Each.{left}
use Rattle.net_draft.proofs.disciplines.each_quantum.Given as goal

abbrev pub invariant-loop-entry : goal.invariant-loop-entry
invariant-loop-entry l = record {
  value : each (λ before. quantum_at) l.place l.quanta.items (left l.entries l.entry-index) ≡ each (λ before. quantum_at) l.place [] (map view l.entries);
  count : length l.quanta.items ≡ l.entry-index;
  range : All IsLength l.quanta.items;
}
