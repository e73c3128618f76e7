use Rattle.std.proofs.Common.{subst, sym, ◌∙◌, ◌≤◌, ◌^◌}
use Rattle.std.proofs.lemmas.Bool.{true≢false}
use Rattle.std.specs.Option.{MatchOption}
use Rattle.upp_curve.specs.Curve.{SpecCurve}
use Rattle.upp_limits.specs.Limits.{gauge_of, sizes_of, curve_numbers, own_sizes}
use Rattle.upp_limits.specs.OwnWindow.{AreNumbers}
use Rattle.upp_limits.proofs.OwnGauge.{end_place, no_end_large}
use Rattle.upp_limits.proofs.own_window.own_numbers.Goals as goal

pub returns-in-Some : goal.returns-in-Some
unfolding own_sizes
returns-in-Some c =
    let k : SpecCurve = record { pieces = c.args.pieces.now; tail = c.args.tail.now } in
    let e = c.in-Some.ensures.value ∙ end_place c.args.pieces.now c.args.tail.now c.index-pieces-pieces.result c.requires c.index-pieces-pieces.is in
    subst (λ x. MatchOption c.numbers_with.result (2 ^ 128 ≤ gauge_of (sizes_of x (curve_numbers x k))) (AreNumbers x (sizes_of x (curve_numbers x k)))) e c.numbers_with.ensures

pub returns-in-None : goal.returns-in-None
returns-in-None c =
    no_end_large c.args.pieces.now c.args.tail.now c.index-pieces-pieces.result c.requires c.index-pieces-pieces.is (λ h. true≢false (sym (c.in-None.ensures.fits h)))
