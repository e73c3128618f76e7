use Rattle.std.proofs.Common.{◌*◌, ap, arith, length, ◌∙◌}
use Rattle.fraction128.specs.wide_sums.Words.{number}
use Rattle.fraction128.proofs.wide_sums.words.times_both_plus.Goals as goal

pub times_plus-requires-clause-room : goal.times_plus-requires-clause-room
times_plus-requires-clause-room c =
    let first = ap length c.deref.ensures.0 in
    let room = c.times_plus-first.ensures.room in
    omega (arith, first, room)

pub returns-clause-value : goal.returns-clause-value
returns-clause-value c =
    let first = ap (λ n. n * c.args.other) (ap number c.deref.ensures.0 ∙ c.times_plus-first.ensures.value) in
    let all = c.times_plus.ensures.value in
    omega (arith, first, all)

pub returns-clause-room : goal.returns-clause-room
returns-clause-room c =
    let first = ap length c.deref.ensures.0 in
    let room = c.times_plus-first.ensures.room in
    let all = c.times_plus.ensures.room in
    omega (arith, first, room, all)
