use Rattle.tree_bounds.specs.Lines.{line_of}
use Rattle.tree_bounds.specs.Onward.{stair_in}
use Rattle.tree_bounds.proofs.Grouped.{Grouping}
use Rattle.tree_bounds.proofs.groups.groups_of.Given as goal

abbrev pub invariant-loop-place : goal.invariant-loop-place
invariant-loop-place l = Grouping l.spots (λ n. line_of (stair_in l.stairs n)) l.numbers l.place l.groups.items
