use Rattle.upp_normal.proofs.NormaliseMerge.{JoinsInPlace}
use Rattle.upp_normal.proofs.merging.merged.Given as goal

abbrev pub invariant-loop-next : goal.invariant-loop-next
invariant-loop-next l = JoinsInPlace l.initial.kept.items l.kept.items l.last l.next
