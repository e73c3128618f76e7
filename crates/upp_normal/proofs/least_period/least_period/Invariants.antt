use Rattle.std.proofs.Common.{◌+◌, ◌-◌}
use Rattle.upp_normal.proofs.NormaliseLeast.{Searching}
use Rattle.upp_normal.proofs.least_period.least_period.Given as goal

abbrev pub invariant-loop-parts : goal.invariant-loop-parts
invariant-loop-parts l = Searching l.times l.values l.initial.found l.found l.parts l.rest

abbrev pub decreases-loop-parts : goal.decreases-loop-parts
decreases-loop-parts l = l.rest + 1 - l.parts
