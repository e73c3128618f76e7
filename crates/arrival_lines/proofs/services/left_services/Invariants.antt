use Rattle.std.proofs.Common.{◌≡◌, All, filter_map, take}
use Rattle.arrival_lines.specs.Services.{IsLeftOfOne, left_of}
use Rattle.arrival_lines.proofs.services.left_services.Given as goal

abbrev pub invariant-loop-line : goal.invariant-loop-line
invariant-loop-line l = record {
  each : l.services.items ≡ filter_map (left_of l.service l.packet) (take l.line-index l.lines);
  below : All (IsLeftOfOne l.service l.lines l.packet) l.services.items;
}
