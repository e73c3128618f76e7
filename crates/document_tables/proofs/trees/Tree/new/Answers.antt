use Rattle.std.proofs.Common.{◌∙◌}
use Rattle.document_tables.proofs.StopSteps.{no_stops, no_tree}
use Rattle.document_tables.proofs.trees.Tree.new.Goals as goal

pub returns : goal.returns
returns c = record { kept = no_tree c.new.result c.new.ensures; stops = c.new.ensures ∙ no_stops }
