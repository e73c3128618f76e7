use Rattle.std.proofs.Common.{arith, sym, refl, subst, ◌∙◌, ◌/◌, ◌<◌, ◌≤◌, length, true≢false}
use Rattle.upp_normal.specs.Normalising.{GoesOn, cycle_values}
use Rattle.upp_normal.proofs.NormaliseLeast.{stays, no_share_of_time, no_share_of_value, no_copies_left, is_cut, first_inside, turn_is, turn_share, turn_fits}
use Rattle.upp_normal.proofs.least_period.divided.Goals as goal

pub returns-in_default : goal.returns-in_default
returns-in_default c =
    let a = c.args.cycle in
    let some : 0 < c.args.parts = omega arith in
    stays a c.args.parts c.requires.turning (no_share_of_time a c.args.parts c.args.times c.args.values c.requires.turning c.requires.grids some c.in_default.ensures)

pub returns-in_default-share : goal.returns-in_default-share
returns-in_default-share c =
    let a = c.args.cycle in
    let some : 0 < c.args.parts = omega arith in
    stays a c.args.parts c.requires.turning (no_share_of_value a c.args.parts c.args.times c.args.values c.requires.turning c.requires.grids some c.in_default-share.ensures)

pub turn_of-turn-requires : goal.turn_of-turn-requires
turn_of-turn-requires c =
    let a = c.args.cycle in
    let i : a.first ≤ length a.pieces.items = first_inside a (cycle_values a) c.requires.turning in
    subst (λ zs. a.first ≤ length zs) (sym c.deref.ensures.value) i

pub returns-then-not-goes_on : goal.returns-then-not-goes_on
returns-then-not-goes_on c =
    let a = c.args.cycle in let parts = c.args.parts in let seen = c.turn_of-turn.result.now in
    let k = length seen / parts in let by = c.in-Some.by in let rise = c.in-Some-share.rise in
    let some : 0 < parts = omega arith in
    let turn = turn_is a (cycle_values a) c.deref.result.now seen c.requires.turning c.deref.ensures.value c.turn_of-turn.ensures in
    let len = turn_share a seen (length seen) k parts turn refl refl c.requires.share in
    stays a parts c.requires.turning (no_copies_left a parts k by rise c.requires.turning some len c.in-Some.ensures.0 c.in-Some-share.ensures.0
    (λ G. true≢false (sym (c.goes_on.ensures.1 (subst (λ zs. GoesOn zs k by rise) (sym turn) G)) ∙ c.if-not-goes_on.true)))

pub returns : goal.returns
returns c =
    let a = c.args.cycle in let parts = c.args.parts in let seen = c.turn_of-turn.result.now in
    let k = length seen / parts in let by = c.in-Some.by in let rise = c.in-Some-share.rise in
    let turn = turn_is a (cycle_values a) c.deref.result.now seen c.requires.turning c.deref.ensures.value c.turn_of-turn.ensures in
    let len = turn_share a seen (length seen) k parts turn refl refl c.requires.share in
    let G = subst (λ zs. GoesOn zs k by rise) turn (c.goes_on.ensures.0 c.if-not-goes_on.false) in
    is_cut a record { pieces = c.truncate.new.self; first = a.first; rank = a.rank; period = by; rise = rise } parts k c.requires.turning c.requires.parts len G
    c.truncate.ensures.items refl refl c.in-Some.ensures.0 c.in-Some-share.ensures.0

pub goes_on-requires : goal.goes_on-requires
goes_on-requires c =
    let a = c.args.cycle in
    let some : 0 < c.args.parts = omega arith in
    let turn = turn_is a (cycle_values a) c.deref.result.now c.turn_of-turn.result.now c.requires.turning c.deref.ensures.value c.turn_of-turn.ensures in
    turn_fits c.args.times c.args.values c.args.parts a c.turn_of-turn.result.now c.in-Some.by c.in-Some-share.rise c.requires.fits some turn c.in-Some.ensures c.in-Some-share.ensures
