use Rattle.std.proofs.Common.{subst, ◌<◌, ◌^◌}
use Rattle.std.specs.Prelude.{nat_abs}
use Rattle.rational.specs.Ratio.{IsSmall}
use Rattle.upp_curve.proofs.ReadableKinds.{bucket_curve}
use Rattle.curve_library.proofs.buckets.any_bucket.Goals as goal

pub from_normal-requires : goal.from_normal-requires
from_normal-requires c =
    let small : IsSmall c.args.burst = record {
      top = subst (λ n. nat_abs n < 2 ^ 127) c.numerator.ensures.value c.numerator.ensures.size;
      bottom = subst (λ n. n < 2 ^ 127) c.denominator.ensures.value c.denominator.ensures.size;
    } in
    rw (c.in-Ok.ensures.items, c.piece.ensures, c.zero.ensures, c.zero-in-Ok.ensures) (bucket_curve c.args.burst c.args.rate small)
