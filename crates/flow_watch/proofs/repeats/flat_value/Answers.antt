use Rattle.std.proofs.Common.{◌∙◌, refl}
use Rattle.flow_watch.proofs.Buckets.{has_least}
use Rattle.flow_watch.proofs.repeats.flat_value.Goals as goal

pub returns-then-eq : goal.returns-then-eq
returns-then-eq c = has_least c.args.piece.now c.in-Some.bucket.burst c.in-Some.bucket.rate c.in-Some.ensures (c.if-eq.ensures.same.0 refl ∙ c.zero.ensures)
