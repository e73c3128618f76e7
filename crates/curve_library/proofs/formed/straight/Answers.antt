use Rattle.min_plus.specs.Functions.{zero_q}
use Rattle.upp_curve.proofs.ByTail.{bucket_normal}
use Rattle.curve_library.proofs.formed.straight.Goals as goal

pub of_normal-requires : goal.of_normal-requires
of_normal-requires c = rw (c.piece.ensures, c.zero-zero.ensures) (bucket_normal zero_q c.args.rate)
