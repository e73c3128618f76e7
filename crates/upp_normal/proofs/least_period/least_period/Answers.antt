use Rattle.std.proofs.Common.{arith, sym, refl, subst, ◌<◌, ◌≤◌, length}
use native.Mathlib.Nat.{dvd_trans, dvd_of_mod-eq-zero}
use Rattle.upp_normal.specs.Normalising.{cycle_values}
use Rattle.upp_normal.proofs.NormaliseLeast.{first_inside, turn_is, search_begins, search_goes_on, search_divides, search_ends}
use Rattle.upp_normal.proofs.least_period.least_period.Goals as goal

pub turn_of-rest-requires : goal.turn_of-rest-requires
turn_of-rest-requires c =
    let a = c.args.cycle in
    let i : a.first ≤ length a.pieces.items = first_inside a (cycle_values a) c.requires.turning in
    subst (λ zs. a.first ≤ length zs) (sym c.deref.ensures.value) i

pub loop-parts-init : goal.loop-parts-init
loop-parts-init c =
    let a = c.args.cycle in
    let seen = c.turn_of-rest.result.now in
    search_begins c.args.times c.args.values a seen (length seen) c.requires.grids c.requires.fits c.requires.turning (turn_is a (cycle_values a) c.deref.result.now seen c.requires.turning c.deref.ensures.value c.turn_of-rest.ensures) refl

pub loop-parts-preserved-then-rest-parts-ne0 : goal.loop-parts-preserved-then-rest-parts-ne0
loop-parts-preserved-then-rest-parts-ne0 c =
    let l = c.loop-parts in
    search_goes_on c.args.times c.args.values c.args.cycle l.found l.parts l.rest l.invariant c.if-rest-parts-ne0.true

pub divided-found-requires-clause-share : goal.divided-found-requires-clause-share
divided-found-requires-clause-share c =
    let l = c.loop-parts in
    dvd_trans l.parts (dvd_of_mod-eq-zero l.parts c.if-rest-parts-ne0.false) l.invariant.share

pub divided-found-requires-clause-grids : goal.divided-found-requires-clause-grids
divided-found-requires-clause-grids c = c.loop-parts.invariant.grids

pub loop-parts-preserved : goal.loop-parts-preserved
loop-parts-preserved c =
    let l = c.loop-parts in
    search_divides c.args.times c.args.values c.args.cycle l.found c.divided-found.result l.parts l.rest l.invariant c.if-rest-parts-ne0.false c.divided-found.ensures

pub returns : goal.returns
returns c =
    let l = c.loop-parts in
    let far : l.rest < l.parts = omega (arith, c.loop-parts-test.false) in
    search_ends c.args.times c.args.values c.args.cycle l.found l.parts l.rest l.invariant far

pub divided-found-requires-clause-fits : goal.divided-found-requires-clause-fits
divided-found-requires-clause-fits c = c.loop-parts.invariant.fits
