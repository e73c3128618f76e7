use Rattle.std.proofs.Common.{◌≡◌, map, length, drop}
use Rattle.document_tables.specs.Growing.{HasOwnPorts}
use Rattle.document_tables.specs.Paths.{path_from, path_ports}
use Rattle.document_tables.specs.Ports.{ports_view}
use Rattle.document_tables.proofs.paths.path_ports.Given as goal

abbrev pub invariant-loop-place : goal.invariant-loop-place
invariant-loop-place l = record {
  value : path_ports (ports_view l.table) l.priority l.frame (map (λ word. word.now) l.words)
      ≡ path_from (ports_view l.table) l.priority l.frame l.path.items (drop l.place (map (λ word. word.now) l.words));
  own : HasOwnPorts l.path.items;
  all : length l.path.items ≡ l.place;
}
