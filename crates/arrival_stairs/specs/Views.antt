-- Bundles as they are seen: their stairs and their paces. Own choice.
use Rattle.std.specs.Prelude.{List, map, Option}
use Rattle.arrival_lines.specs.declared.grid.Line.{Line}
use Rattle.arrival_stairs.specs.declared.stairs.Bundle.{Bundle}
use Rattle.arrival_stairs.specs.declared.stairs.Stair.{Stair}

pub record Bunch : Type 0 where
  pub stairs : List Stair
  pub pace : Option Line

abbrev pub bunch_of : Bundle → Bunch
bunch_of b = record { stairs = b.stairs.items; pace = b.pace }

abbrev pub bunches : List Bundle → List Bunch
bunches = map bunch_of
