use Rattle.cell_eval.specs.Parts.{AreMade}
use Rattle.cell_eval.proofs.parts.parts_made.Given as goal

abbrev pub invariant-loop-part : goal.invariant-loop-part
invariant-loop-part g l = AreMade (g.T.Table.at l.inputs.table.now) l.inputs.net.now l.place.0 l.place.1 l.part l.parts.items l.fn.steps l.steps
