use Rattle.std.proofs.Common.{length}
use Rattle.outside.proofs.KnownBytesLemmas.{HasWritten}
use Rattle.outside.proofs.std_sink.write_whole.Given as goal

abbrev pub invariant-loop-rest : goal.invariant-loop-rest
invariant-loop-rest g l = HasWritten (g.W.Write.contents l.initial.to) (g.W.Write.contents l.to) l.bytes l.rest

abbrev pub decreases-loop-rest : goal.decreases-loop-rest
decreases-loop-rest g l = length l.rest
