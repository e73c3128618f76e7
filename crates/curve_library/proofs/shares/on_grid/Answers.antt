use Rattle.std.proofs.Common.{sym, subst, ap₂}
use Rattle.std.proofs.lemmas.Bool.{true≢false}
use Rattle.rational.specs.Rational.{ℚ, ◌/ℚ◌}
use Rattle.rational.specs.Ratio.{IsSmall}
use Rattle.rational.proofs.Quotients.{quotient_small}
use Rattle.curve_library.proofs.SharesAre.{grid_some, div_times}
use Rattle.curve_library.proofs.shares.on_grid.Goals as goal

pub div-requires : goal.div-requires
div-requires c = grid_some c.whole-2.result c.args.grid c.whole-2.ensures c.requires.some

pub returns-in-Ok : goal.returns-in-Ok
returns-in-Ok c = div_times c.whole.result c.whole-2.result c.in-Ok.x c.args.n c.args.grid c.requires.some c.in-Ok.ensures.value c.whole.ensures c.whole-2.ensures

pub returns-in-Err : goal.returns-in-Err
returns-in-Err c =
    let small = subst IsSmall (sym (ap₂ (λ (a b : ℚ). a /ℚ b) c.whole.ensures c.whole-2.ensures)) (quotient_small c.args.n c.args.grid c.requires.some c.requires.top c.requires.bottom) in
    absurd (true≢false (sym (c.in-Err.ensures.fits.1 small)))
