use Rattle.outside.proofs.KnownBytesLemmas.{has_written-range, appends_front-more, appends_front-has_written}
use Rattle.outside.proofs.std_sink.write_whole.Goals as goal

pub returns-in-Ok-eq0-clause-front : goal.returns-in-Ok-eq0-clause-front
returns-in-Ok-eq0-clause-front g c =
    appends_front-more _ _ _ _ _ c.in-Ok-eq0.field-0 c.loop-rest.invariant c.in-Ok-eq0.ensures.bytes

pub loop-rest-preserved : goal.loop-rest-preserved
loop-rest-preserved g c = has_written-range _ _ _ _ _ c.in-Ok.count c.loop-rest.invariant c.in-Ok.ensures.bytes

pub returns-in-Err-clause-front : goal.returns-in-Err-clause-front
returns-in-Err-clause-front g c = appends_front-has_written _ _ _ _ _ c.loop-rest.invariant c.in-Err.ensures.bytes
