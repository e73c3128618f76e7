use Rattle.std.proofs.Common.{sym}
use Rattle.std.proofs.lemmas.Bool.{true≢false}
use Rattle.upp_curve.proofs.KindForms.{late_normal}
use Rattle.curve_library.proofs.LateParts.{late_wide}
use Rattle.curve_library.proofs.latencies.after_latency.Goals as goal

pub of_normal-requires : goal.of_normal-requires
of_normal-requires c = rw (c.flat.ensures, c.piece.ensures, c.zero-zero.ensures, c.negated.ensures, c.in-Ok.ensures.value) (late_normal c.args.rate c.args.latency c.requires.rate c.requires.latency)

pub returns-in-Err : goal.returns-in-Err
returns-in-Err c = late_wide c.args.rate c.args.latency c.requires.rate c.requires.latency (λ h. true≢false (sym (c.in-Err.ensures.fits.1 h)))
