use Rattle.std.proofs.Common.{subst, sym, ◌≤◌, ◌^◌}
use Rattle.std.proofs.lemmas.Bool.{true≢false}
use Rattle.std.specs.Option.{MatchOption}
use Rattle.upp_curve.specs.Curve.{SpecCurve}
use Rattle.upp_limits.specs.Limits.{no_numbers, time_alone, curve_numbers, gauge_of}
use Rattle.upp_limits.specs.OwnWindow.{AreNumbers}
use Rattle.upp_limits.specs.ClosedForm.{closed_numbers}
use Rattle.upp_limits.proofs.SameSizes.{same_sizes, equals_curve}
use Rattle.upp_limits.proofs.OwnGauge.{unknown_large}
use Rattle.upp_limits.proofs.own_window.numbers_with.Goals as goal

pub returns-in-Some : goal.returns-in-Some
returns-in-Some c =
    let end = c.args.end in
    let k : SpecCurve = record { pieces = c.args.of.now.pieces.now; tail = c.args.of.now.tail.now } in
    subst (λ z. MatchOption c.numbers_of.result (2 ^ 128 ≤ gauge_of z) (AreNumbers end z)) (same_sizes end (closed_numbers end k) (curve_numbers end k) (equals_curve end k))
    (c.numbers_of.ensures (closed_numbers end k) (c.in-Some.ensures.value (time_alone end) (c.with_time.ensures no_numbers c.nothing.ensures)))

pub returns-in-None : goal.returns-in-None
returns-in-None c =
    let k : SpecCurve = record { pieces = c.args.of.now.pieces.now; tail = c.args.of.now.tail.now } in
    unknown_large c.args.end k c.requires.listed.starts c.requires.period (λ h. true≢false (sym (c.in-None.ensures.fits h)))
