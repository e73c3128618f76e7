use Rattle.tree_bounds.specs.Coming.{IsComing}
use Rattle.tree_bounds.specs.Onward.{stair_in}
use Rattle.tree_bounds.proofs.arriving.all_arrivals.Given as goal

abbrev pub invariant-loop-q : goal.invariant-loop-q
invariant-loop-q l = IsComing l.network (λ n. stair_in l.stairs n) l.port l.q l.lines.items l.all_stairs.items
