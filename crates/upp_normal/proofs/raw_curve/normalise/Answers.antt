use Rattle.upp_normal.proofs.LimitTests.{within_found}
use Rattle.upp_normal.proofs.raw_curve.normalise.Goals as goal

pub normalise_on-requires-clause-some_times : goal.normalise_on-requires-clause-some_times
normalise_on-requires-clause-some_times c =
    let raw = c.args.raw in
    let own = c.in_ok-own in
    (within_found raw.pieces.items c.deref.result.now raw.tail own.own c.requires c.deref.ensures.value own.ensures.numbers own.ensures.within).some_times

pub normalise_on-requires-clause-some_values : goal.normalise_on-requires-clause-some_values
normalise_on-requires-clause-some_values c =
    let raw = c.args.raw in
    let own = c.in_ok-own in
    (within_found raw.pieces.items c.deref.result.now raw.tail own.own c.requires c.deref.ensures.value own.ensures.numbers own.ensures.within).some_values

pub normalise_on-requires-clause-times : goal.normalise_on-requires-clause-times
normalise_on-requires-clause-times c =
    let raw = c.args.raw in
    let own = c.in_ok-own in
    (within_found raw.pieces.items c.deref.result.now raw.tail own.own c.requires c.deref.ensures.value own.ensures.numbers own.ensures.within).times_fit

pub normalise_on-requires-clause-values : goal.normalise_on-requires-clause-values
normalise_on-requires-clause-values c =
    let raw = c.args.raw in
    let own = c.in_ok-own in
    (within_found raw.pieces.items c.deref.result.now raw.tail own.own c.requires c.deref.ensures.value own.ensures.numbers own.ensures.within).values_fit

pub normalise_on-requires-clause-grids : goal.normalise_on-requires-clause-grids
normalise_on-requires-clause-grids c =
    let raw = c.args.raw in
    let own = c.in_ok-own in
    (within_found raw.pieces.items c.deref.result.now raw.tail own.own c.requires c.deref.ensures.value own.ensures.numbers own.ensures.within).grids

pub normalise_on-requires-clause-room : goal.normalise_on-requires-clause-room
normalise_on-requires-clause-room c =
    let raw = c.args.raw in
    let own = c.in_ok-own in
    (within_found raw.pieces.items c.deref.result.now raw.tail own.own c.requires c.deref.ensures.value own.ensures.numbers own.ensures.within).room
