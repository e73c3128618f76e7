use Rattle.std.proofs.Common.{pos}
use Rattle.rational.specs.Rational.{int}
use Rattle.upp_curve.proofs.ReadableKinds.{bucket_curve}
use Rattle.net_model.proofs.plain.bucket_of.Goals as goal

pub from_normal-requires : goal.from_normal-requires
from_normal-requires c =
    rw (c.in_ok-push.ensures.items, c.in_ok-pieces.ensures.items, c.zero.ensures, c.zero-2.ensures, c.from-value.ensures, c.from.ensures)
    (bucket_curve (int (pos c.args.burst)) (int (pos c.args.rate)) c.requires)
